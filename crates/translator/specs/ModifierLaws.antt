-- The modifiers of a nest's sheet do what its terms say.
--
--   amount_of               what a term adds, or what it subtracts
--   total-gain             what the modifiers do to a loop is what its terms for the loops outside it do
--   modifiers-count        there is one for each nonzero term
--   modifiers-kept         the shape holds them all
--   modifiers-each         what holds of the modifier of every term holds of each of them
use Prim.Native.Nat.{ℕ, zero, suc, ◌+◌, ◌-◌, ◌*◌, ◌≤◌, ◌<◌}
use Rattle.std.specs.Prelude.{◌≡◌, Bool, cond, length, replicate, ℤ, pos, negsuc, nat_abs}
use Rattle.std.proofs.Math.Path.{refl, sym, ap}
use Rattle.std.proofs.Common.{◌∙◌, mul_comm, length-append, drop-drop, get_or-drop, eqb-true, eq-eqb, ne_eqb}
use mathlib.Core.List.{List, [], ◌∷◌, ◌++◌}
use Rattle.std.proofs.Math.Bool.{true, false}
use native.Mathlib.Omega.{arith}
use Rattle.std.proofs.Math.Decide.{dec_lt}
use Rattle.std.proofs.Math.ListN.{get_or, drop}
use Rattle.std.proofs.Math.Seq.{take-append_seam}
use Rattle.std.proofs.Math.Dec.{eqb}
use Rattle.codec.specs.declared.operation.Parameter.TheVariants.{Size}
use Rattle.codec.specs.declared.operation.Behaviour.{Behaviour}
use Rattle.codec.specs.declared.operation.Behaviour.TheVariants.{Add, Subtract}
use Rattle.engine.specs.Loops
use Rattle.engine.specs.Rules.{same_behaviour}
use Rattle.engine.specs.Gains.{gain_of, gain, gain_of-on, gain-empty, gain-more, gain-append}
use Rattle.engine.specs.Registers.{no_modifier}
use Rattle.engine.specs.declared.stream.Modifier.{Modifier}
use Rattle.translator.specs.Fields.{term_of}
use Rattle.translator.specs.NestRules.{nonzero, nonzero_for, nonzero_from, nonzero_of, adding, subtracting, total}
use Rattle.translator.specs.NestSheets.{behaviour_of, modifier_of, modifiers_at, modifiers_from, modifiers_of, shape_of}
use Rattle.translator.specs.declared.nest.Nest.{Nest}

-- what a term adds, or what it subtracts
abbrev pub amount_of : Behaviour → ℤ → ℕ
amount_of Add z = adding z
amount_of Subtract z = subtracting z

-- ---- what they do to a loop

module _ (m : Nest) (b : Behaviour) (d : ℕ) (outer : List ℕ) where
  -- what the term of loop t for loop o does to loop d
  abbrev does : ℕ → ℕ → ℕ
  does o t = cond (eqb t d) (amount_of b (term_of m t o) * get_or outer (o - suc d) 0) 0

  -- a displacement times k, of a modifier of one behaviour, is the amount of its term times k
  behaved : (c : Behaviour) (z : ℤ) (k : ℕ) → cond (same_behaviour (behaviour_of z) c) (k * nat_abs z) 0 ≡ amount_of c z * k
  behaved Add (pos n) k = mul_comm k n
  behaved Add (negsuc n) k = omega arith
  behaved Subtract (pos n) k = omega arith
  behaved Subtract (negsuc n) k = mul_comm k (suc n)

  -- the modifier of a term does what the term does
  modifier-does : (o t : ℕ) → gain_of Size b d outer (modifier_of m o t) ≡ does o t
  modifier-does o t =
      gain_of-on Size b d outer (modifier_of m o t) refl
      ∙ ap (λ k. cond (eqb t d) k 0) (behaved b (term_of m t o) (get_or outer (o - suc d) 0))

  -- a term of 0 does nothing
  none-does : (c : Behaviour) (z : ℤ) (k : ℕ) (t : Bool) → nat_abs z ≡ 0 → cond t (amount_of c z * k) 0 ≡ 0
  none-does c z k false e = refl
  none-does Add (pos n) k true e = ap (λ i. i * k) e ∙ omega arith
  none-does Subtract (pos n) k true e = omega arith
  none-does c (negsuc n) k true e = absurd (omega arith)

  -- one target more
  at-step : (o t n : ℕ) → gain Size b d outer (modifiers_at m o t (suc n)) ≡ does o t + gain Size b d outer (modifiers_at m o (suc t) n)
  unfolding modifiers_at
  at-step o t n = go (eqb (nat_abs (term_of m t o)) 0) refl
    where
      go : (z : Bool) → eqb (nat_abs (term_of m t o)) 0 ≡ z
          → gain Size b d outer (cond z (modifiers_at m o (suc t) n) (modifier_of m o t ∷ modifiers_at m o (suc t) n))
          ≡ does o t + gain Size b d outer (modifiers_at m o (suc t) n)
      go true e =
          omega (arith, none-does b (term_of m t o) (get_or outer (o - suc d) 0) (eqb t d) (eqb-true (nat_abs (term_of m t o)) 0 e))
      go false e =
          gain-more Size b d outer (modifier_of m o t) (modifiers_at m o (suc t) n)
          ∙ ap (λ k. k + gain Size b d outer (modifiers_at m o (suc t) n)) (modifier-does o t)

  -- those that loop o owns: nothing to a loop that is not among their targets
  at_others : (o t n : ℕ) → ((k : ℕ) → t ≤ k → k < t + n → k ≡ d → ⊥) → gain Size b d outer (modifiers_at m o t n) ≡ 0
  unfolding modifiers_at
  at_others o t zero h = gain-empty Size b d outer
  at_others o t (suc n) h =
      at-step o t n ∙ rw (ne_eqb t d (h t (omega arith) (omega arith)), at_others o (suc t) n (λ k p q. h k (omega arith) (omega arith)))

  -- to one that is: what its term says
  at_target : (o t n : ℕ) → t ≤ d → d < t + n → gain Size b d outer (modifiers_at m o t n) ≡ amount_of b (term_of m d o) * get_or outer (o - suc d) 0
  at_target o t zero h k = absurd (omega arith)
  at_target o t (suc n) h k = at-step o t n ∙ go (dec_lt t d) (at_target o (suc t) n)
    where
      go : Dec (t < d) → (suc t ≤ d → d < suc t + n → gain Size b d outer (modifiers_at m o (suc t) n) ≡ amount_of b (term_of m d o) * get_or outer (o - suc d) 0)
          → does o t + gain Size b d outer (modifiers_at m o (suc t) n) ≡ amount_of b (term_of m d o) * get_or outer (o - suc d) 0
      go (yes q) ih = rw (ne_eqb t d (λ e. omega arith), ih q (omega arith)) (omega arith)
      go (no q) ih =
          let e : t ≡ d = omega arith in
          let same : amount_of b (term_of m t o) * get_or outer (o - suc d) 0 ≡ amount_of b (term_of m d o) * get_or outer (o - suc d) 0 =
          ap (λ k. amount_of b (term_of m k o) * get_or outer (o - suc d) 0) e in
          rw (eq-eqb t d e, at_others o (suc t) n (λ k p q r. omega arith)) (omega arith)

  -- those of the loops from o on, outside loop d
  from-outside : (ks : List ℕ) (o : ℕ) → d < o → drop (o - suc d) outer ≡ ks
      → gain Size b d outer (modifiers_from m o (length ks)) ≡ total (amount_of b) m d o ks
  unfolding modifiers_from total
  from-outside [] o h e = gain-empty Size b d outer
  from-outside (k ∷ ks) o h e =
      let i : o - suc d + 1 ≡ suc o - suc d = omega arith in
      let j : o - suc d ≡ o - suc d + 0 = omega arith in
      let now : get_or outer (o - suc d) 0 ≡ k = ap (λ j. get_or outer j 0) j ∙ sym (get_or-drop (o - suc d) outer 0 0) ∙ ap (λ l. get_or l 0 0) e in
      let rest : drop (suc o - suc d) outer ≡ ks = ap (λ j. drop j outer) (sym i) ∙ sym (drop-drop 1 (o - suc d) outer) ∙ ap (drop 1) e in
      gain-append Size b d outer (modifiers_at m o 0 o) (modifiers_from m (suc o) (length ks))
      ∙ rw (at_target o 0 o (omega arith) (omega arith), now, from-outside ks (suc o) (omega arith) rest)

  -- those of loop d and of the loops inside it do nothing
  from-inside : (g o n k : ℕ) → o + g ≡ suc d → n ≡ g + k → gain Size b d outer (modifiers_from m o n) ≡ gain Size b d outer (modifiers_from m (suc d) k)
  unfolding modifiers_from
  from-inside zero o n k e f =
      let x : o ≡ suc d = omega arith in
      let y : n ≡ k = omega arith in
      rw (x, y)
  from-inside (suc g) o zero k e f = absurd (omega arith)
  from-inside (suc g) o (suc n) k e f =
      gain-append Size b d outer (modifiers_at m o 0 o) (modifiers_from m (suc o) n)
      ∙ rw (at_others o 0 o (λ k p q r. omega arith), from-inside g (suc o) n k (omega arith) (omega arith)) (omega arith)

-- what the modifiers do to a loop is what its terms do
pub total-gain : (m : Nest) (b : Behaviour) (d : ℕ) (outer : List ℕ) → suc d + length outer ≡ m.loops
    → gain Size b d outer (modifiers_of m) ≡ total (amount_of b) m d (suc d) outer
total-gain m b d outer e =
    let z : suc d - suc d ≡ 0 = omega arith in
    from-inside m b d outer (suc d) 0 m.loops (length outer) (omega arith) (omega arith)
    ∙ from-outside m b d outer outer (suc d) (omega arith) (ap (λ k. drop k outer) z)

-- ---- how many, and which

-- those that loop o owns
at_count : (m : Nest) (o t n : ℕ) → length (modifiers_at m o t n) ≡ nonzero_for m o t n
unfolding modifiers_at nonzero_for
at_count m o t zero = refl
at_count m o t (suc n) = go (term_of m t o) (at_count m o (suc t) n)
  where
    go : (z : ℤ) → length (modifiers_at m o (suc t) n) ≡ nonzero_for m o (suc t) n
        → length (cond (eqb (nat_abs z) 0) (modifiers_at m o (suc t) n) (modifier_of m o t ∷ modifiers_at m o (suc t) n)) ≡ nonzero z + nonzero_for m o (suc t) n
    go (pos zero) e = omega arith
    go (pos (suc k)) e = rw (ne_eqb (suc k) 0 (λ q. omega arith)) (omega arith)
    go (negsuc k) e = rw (ne_eqb (suc k) 0 (λ q. omega arith)) (omega arith)

-- those of n loops from o on
from-count : (m : Nest) (o n : ℕ) → length (modifiers_from m o n) ≡ nonzero_from m o n
unfolding modifiers_from nonzero_from
from-count m o zero = refl
from-count m o (suc n) =
    length-append (modifiers_at m o 0 o) (modifiers_from m (suc o) n) ∙ rw (at_count m o 0 o, from-count m (suc o) n)

-- one for each nonzero term
pub modifiers-count : (m : Nest) → length (modifiers_of m) ≡ nonzero_of m
modifiers-count m = from-count m 0 m.loops

-- a shape holds them all
pub modifiers-kept : (m : Nest) → Loops.modifiers_of (shape_of m) ≡ modifiers_of m
modifiers-kept m = take-append_seam (modifiers_of m) (replicate (8 - length (modifiers_of m)) no_modifier)

module _ (P : Modifier → Type 0) where
  -- it holds of each modifier of a list
  Each : List Modifier → Type 0
  Each [] = Unit {0}
  Each (q ∷ qs) = P q × Each qs

  -- of two lists joined
  each_append : (xs ys : List Modifier) → Each xs → Each ys → Each (xs ++ ys)
  unfolding Each
  each_append [] ys h k = k
  each_append (x ∷ xs) ys h k = (h.0, each_append xs ys h.1 k)

  -- of the member at a place
  each_at : (qs : List Modifier) → Each qs → (k : ℕ) → k < length qs → P (get_or qs k no_modifier)
  unfolding Each
  each_at [] h k l = absurd (omega arith)
  each_at (q ∷ qs) h zero l = h.0
  each_at (q ∷ qs) h (suc k) l = each_at qs h.1 k (omega arith)

  -- of those that loop o owns
  at_each : (m : Nest) (o t n : ℕ) → ((k : ℕ) → k < t + n → P (modifier_of m o k)) → Each (modifiers_at m o t n)
  unfolding Each modifiers_at
  at_each m o t zero h = tt
  at_each m o t (suc n) h = go (eqb (nat_abs (term_of m t o)) 0) (at_each m o (suc t) n (λ k l. h k (omega arith)))
    where
      go : (z : Bool) → Each (modifiers_at m o (suc t) n) → Each (cond z (modifiers_at m o (suc t) n) (modifier_of m o t ∷ modifiers_at m o (suc t) n))
      go true e = e
      go false e = (h t (omega arith), e)

  -- of those of n loops from o on
  from_each : (m : Nest) (o n : ℕ) → ((t k : ℕ) → t < k → k < o + n → P (modifier_of m k t)) → Each (modifiers_from m o n)
  unfolding Each modifiers_from
  from_each m o zero h = tt
  from_each m o (suc n) h =
      each_append (modifiers_at m o 0 o) (modifiers_from m (suc o) n)
      (at_each m o 0 o (λ k l. h k o (omega arith) (omega arith)))
      (from_each m (suc o) n (λ t k p q. h t k p (omega arith)))

  -- what holds of the modifier of every term holds of each
  pub modifiers-each : (m : Nest) → ((t o : ℕ) → t < o → o < m.loops → P (modifier_of m o t))
      → (k : ℕ) → k < length (modifiers_of m) → P (get_or (modifiers_of m) k no_modifier)
  modifiers-each m h = each_at (modifiers_of m) (from_each m 0 m.loops (λ t o p q. h t o p (omega arith)))
