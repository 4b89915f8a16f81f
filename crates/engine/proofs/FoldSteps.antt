-- Lanes taken one by one: a row from its next lane on.
--
--   lanes_next, lanes-last       the next lane, and none once all are taken
--   foldl-more, foldl-last   what is left to take
--   first_more, first_found, first-nowhere   what is left to search
--   whole_row                    a row from its first lane on
use Rattle.std.proofs.Common.{◌≡◌, ℕ, suc, ◌+◌, ◌-◌, ◌*◌, ◌<◌, List, [], ◌∷◌, sym, ap, ◌∙◌, suc-mul, add-one, arith, eq-eqb, ne_eqb}
use mathlib.Core.List.{foldl}
use Rattle.engine.specs.Memory.{value_at, lanes_from}
use Rattle.engine.specs.Lanes.{first_at}

module _ (bytes : List ℕ) (w : ℕ) where
  -- lane k of n is the next
  pub lanes_next : (k n : ℕ) → k < n → lanes_from bytes w (k * w) (n - k) ≡ value_at bytes (k * w) w ∷ lanes_from bytes w ((k + 1) * w) (n - (k + 1))
  unfolding lanes_from
  lanes_next k n h =
      let e : n - k ≡ suc (n - (k + 1)) = omega arith in
      let f : k * w + w ≡ (k + 1) * w = sym (ap (λ i. i * w) (add-one k) ∙ suc-mul k w) in
      ap (lanes_from bytes w (k * w)) e ∙ ap (λ i. value_at bytes (k * w) w ∷ lanes_from bytes w i (n - (k + 1))) f

  -- once all are taken, none is
  pub lanes-last : (k n : ℕ) → k ≡ n → lanes_from bytes w (k * w) (n - k) ≡ []
  unfolding lanes_from
  lanes-last k n e = let f : n - k ≡ 0 = omega arith in ap (lanes_from bytes w (k * w)) f

  -- from the first lane on
  pub whole_row : (n : ℕ) → lanes_from bytes w (0 * w) (n - 0) ≡ lanes_from bytes w 0 n
  whole_row n =
      let e : 0 * w ≡ 0 = omega arith in
      let f : n - 0 ≡ n = omega arith in
      λ i. lanes_from bytes w (e i) (f i)

  -- one lane taken
  pub foldl-more : (f : ℕ → ℕ → ℕ) (k n left right : ℕ) → k < n → right ≡ f left (value_at bytes (k * w) w)
      → foldl f left (lanes_from bytes w (k * w) (n - k)) ≡ foldl f right (lanes_from bytes w ((k + 1) * w) (n - (k + 1)))
  foldl-more f k n left right h e =
      ap (foldl f left) (lanes_next k n h) ∙ ap (λ a. foldl f a (lanes_from bytes w ((k + 1) * w) (n - (k + 1)))) (sym e)

  -- none is left
  pub foldl-last : (f : ℕ → ℕ → ℕ) (k n left : ℕ) → k ≡ n → foldl f left (lanes_from bytes w (k * w) (n - k)) ≡ left
  foldl-last f k n left e = ap (foldl f left) (lanes-last k n e)

  -- one lane passed over
  pub first_more : (x k n : ℕ) → k < n → (value_at bytes (k * w) w ≡ x → ⊥)
      → k + first_at x (lanes_from bytes w (k * w) (n - k)) ≡ (k + 1) + first_at x (lanes_from bytes w ((k + 1) * w) (n - (k + 1)))
  unfolding first_at
  first_more x k n h e =
      let l = lanes_from bytes w ((k + 1) * w) (n - (k + 1)) in
      let q : first_at x (value_at bytes (k * w) w ∷ l) ≡ suc (first_at x l) = rw (ne_eqb (value_at bytes (k * w) w) x e) in
      omega (arith, ap (first_at x) (lanes_next k n h), q)

  -- the lane is found
  pub first_found : (x k n : ℕ) → k < n → value_at bytes (k * w) w ≡ x → k + first_at x (lanes_from bytes w (k * w) (n - k)) ≡ k
  unfolding first_at
  first_found x k n h e =
      let l = lanes_from bytes w ((k + 1) * w) (n - (k + 1)) in
      let q : first_at x (value_at bytes (k * w) w ∷ l) ≡ 0 = rw (eq-eqb (value_at bytes (k * w) w) x e) in
      omega (arith, ap (first_at x) (lanes_next k n h), q)

  -- it is nowhere
  pub first-nowhere : (x k n : ℕ) → k ≡ n → k + first_at x (lanes_from bytes w (k * w) (n - k)) ≡ k
  unfolding first_at
  first-nowhere x k n e =
      let p : first_at x (lanes_from bytes w (k * w) (n - k)) ≡ 0 = ap (first_at x) (lanes-last k n e) in
      omega (arith, p)
