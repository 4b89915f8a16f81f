-- Laws of lists of seven and of eight, and of a modifier, by what stands in them.
--
--   seven, eight   a list of seven, or of eight, by its entries
--   seven-of       the same, where the entries are made of others
--   modifier-of    a modifier, by its parts
use Rattle.std.specs.Prelude.{◌≡◌, List, [], ◌∷◌, map, length, slice_index_or, refl}
use Rattle.std.proofs.Common.{◌∙◌, ap, arith}
use Rattle.codec.specs.declared.operation.Parameter.{Parameter}
use Rattle.codec.specs.declared.operation.Behaviour.{Behaviour}
use Rattle.engine.specs.declared.stream.Modifier.{Modifier}

module _ {A : Type 0} (z : A) where
  -- a list of seven, by its entries
  pub seven : (l : List A) → length l ≡ 7 → slice_index_or l 0 z ∷ slice_index_or l 1 z ∷ slice_index_or l 2 z ∷ slice_index_or l 3 z ∷ slice_index_or l 4 z ∷ slice_index_or l 5 z ∷ slice_index_or l 6 z ∷ [] ≡ l
  seven [] h = absurd (omega arith)
  seven (a ∷ []) h = absurd (omega arith)
  seven (a ∷ b ∷ []) h = absurd (omega arith)
  seven (a ∷ b ∷ c ∷ []) h = absurd (omega arith)
  seven (a ∷ b ∷ c ∷ d ∷ []) h = absurd (omega arith)
  seven (a ∷ b ∷ c ∷ d ∷ e ∷ []) h = absurd (omega arith)
  seven (a ∷ b ∷ c ∷ d ∷ e ∷ f ∷ []) h = absurd (omega arith)
  seven (a ∷ b ∷ c ∷ d ∷ e ∷ f ∷ g ∷ []) h = refl
  seven (a ∷ b ∷ c ∷ d ∷ e ∷ f ∷ g ∷ i ∷ l) h = absurd (omega arith)

  -- a list of eight, by its entries
  pub eight : (l : List A) → length l ≡ 8 → slice_index_or l 0 z ∷ slice_index_or l 1 z ∷ slice_index_or l 2 z ∷ slice_index_or l 3 z ∷ slice_index_or l 4 z ∷ slice_index_or l 5 z ∷ slice_index_or l 6 z ∷ slice_index_or l 7 z ∷ [] ≡ l
  eight [] h = absurd (omega arith)
  eight (a ∷ l) h = ap (λ t. a ∷ t) (seven l (omega arith))

  -- a list of seven, by entries that are made of others
  pub seven-of : {B : Type 0} (f : B → A) (l : List A) → length l ≡ 7 → (a b c d e g h : B) → f a ≡ slice_index_or l 0 z → f b ≡ slice_index_or l 1 z → f c ≡ slice_index_or l 2 z
      → f d ≡ slice_index_or l 3 z → f e ≡ slice_index_or l 4 z → f g ≡ slice_index_or l 5 z → f h ≡ slice_index_or l 6 z → map f (a ∷ b ∷ c ∷ d ∷ e ∷ g ∷ h ∷ []) ≡ l
  seven-of f l n a b c d e g h p q r s t u v = (λ i. p i ∷ q i ∷ r i ∷ s i ∷ t i ∷ u i ∷ v i ∷ []) ∙ seven l n

-- a modifier, by what it changes and how
pub modifier-of : (m : Modifier) {q : Parameter} {b : Behaviour} → q ≡ m.parameter → b ≡ m.behaviour
    → record { owner = m.owner; target = m.target; parameter = q; behaviour = b; displacement = m.displacement } ≡ m
modifier-of m e f = λ i. record { owner = m.owner; target = m.target; parameter = e i; behaviour = f i; displacement = m.displacement }
