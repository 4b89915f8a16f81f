-- The sizes that a search remembers: of each dimension from d outwards none, written 0, or the one that it has at the indices outside it.
use Rattle.std.proofs.Common.{◌≡◌, ℕ, suc, ◌<◌, ◌≤◌, List, length, get_or, drop, set, replicate, sym, ap, ◌∙◌, subst, arith, get_or-set_other, get_or-set_same, drop-set-lt}
use native.Mathlib.Decide.{ℕ_discrete}
use Rattle.engine.specs.WalkLaws.{get_d-zeros}

abbrev pub Remembered : (ℕ → List ℕ → ℕ) → ℕ → List ℕ → List ℕ → Type 0
Remembered size d sizes v = (e : ℕ) → d ≤ e → 1 ≤ get_or sizes e 0 → get_or sizes e 0 ≡ size e (drop (suc e) v)

module _ (size : ℕ → List ℕ → ℕ) where
  -- none so far
  pub none_yet : (d n : ℕ) (v : List ℕ) → Remembered size d (replicate n 0) v
  none_yet d n v e p q = absurd (omega (arith, get_d-zeros n e))

  -- an index changes no size of its own dimension, nor of one outside it
  pub still : (c d : ℕ) (sizes v : List ℕ) (i x : ℕ) → c ≤ d → i ≤ d → Remembered size c sizes v → Remembered size d sizes (set v i x)
  still c d sizes v i x h l r e p q = r e (omega arith) q ∙ ap (size e) (sym (drop-set-lt (suc e) v i x (omega arith)))

  -- one more is put by
  pub put-by : (c d : ℕ) (sizes v : List ℕ) (x : ℕ) → c ≤ suc d → d < length sizes → x ≡ size d (drop (suc d) v) → Remembered size c sizes v → Remembered size d (set sizes d x) v
  put-by c d sizes v x h l y r e p q = go (ℕ_discrete e d)
    where
      go : Dec (e ≡ d) → get_or (set sizes d x) e 0 ≡ size e (drop (suc e) v)
      go (yes z) = subst (λ j. get_or (set sizes d x) j 0 ≡ size j (drop (suc j) v)) (sym z) (get_or-set_same sizes d x 0 l ∙ y)
      go (no z) =
          let o : get_or (set sizes d x) e 0 ≡ get_or sizes e 0 = get_or-set_other sizes d e x 0 z in
          o ∙ r e (omega arith) (omega arith)
