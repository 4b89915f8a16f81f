-- The last indices that a walk from the outermost dimension inward keeps in an array are those by the highs.
use Rattle.std.proofs.Common.{◌≡◌, ℕ, zero, suc, ◌+◌, ◌-◌, ◌*◌, ◌<◌, ◌≤◌, max, Bool, true, false, cond, not, ◌||◌, eqb, ltb, leb, List, ◌∷◌, length, get_or, drop, set, replicate, sym, refl, ap, ◌∙◌, subst, mul_comm, arith, length-set, get_or-drop, drop-cons, get_or-set_other, get_or-set_same, drop-set-lt, le-ltb, lt-ltb, eqb-true, leb-false, leb-true}
use lib.IntN.{sub_ℕ}
use lib.Signed.{non_neg}
use borrow.Author.Tests.{eqb-false}
use Rattle.codec.specs.declared.operation.Parameter.TheVariants.{Size}
use Rattle.codec.specs.declared.operation.Behaviour.TheVariants.{Add, Subtract}
use Rattle.engine.specs.Loops.{modifiers_of}
use Rattle.engine.specs.Rules.{last_index, high_at, low_at, highs, low_or_high_from, low_or_high, product, highs_of}
use Rattle.engine.specs.Gains.{gain-same, high-nat, low-nat, sub-less, sub-pos}
use Rattle.engine.specs.BoundLaws.{lasts_from, lasts-next, passed-from, passed}
use Rattle.engine.specs.CountLaws.{product-next, outer-most}
use Rattle.engine.specs.AddressLaws.{Small}
use Rattle.engine.specs.declared.stream.Shape.{Shape}

-- a difference is not negative exactly if nothing larger is taken
pub nonneg-leb : (n size : ℕ) → leb n size ≡ non_neg (sub_ℕ size n)
nonneg-leb n size = go (leb n size) refl
  where
    go : (t : Bool) → leb n size ≡ t → leb n size ≡ non_neg (sub_ℕ size n)
    go true e = let h : n ≤ size = leb-true n size e in e ∙ sym (ap non_neg (sub-pos size n h))
    go false e = let h : size < n = leb-false n size e in e ∙ sym (ap non_neg (sub-less size n h))

-- the array has the last indices of the dimensions from d on
abbrev pub Kept : Shape → ℕ → List ℕ → Type 0
Kept s d lasts = (k : ℕ) → get_or (drop d lasts) k 0 ≡ get_or (lasts_from s d) k 0

zeros : (n k : ℕ) → ◌≡◌ {A = ℕ} (get_or (replicate n 0) k 0) 0
zeros zero k = refl
zeros (suc n) zero = refl
zeros (suc n) (suc k) = zeros n k

small-start : Small (replicate 7 0)
small-start k = omega (arith, zeros 7 k)

-- the last indices from the outermost dimension on: none
no_lasts : (s : Shape) (k : ℕ) → get_or (lasts_from s s.dims) k 0 ≡ 0
unfolding highs
no_lasts s k = let z : s.dims - s.dims ≡ 0 = omega arith in rw z

kept-start : (s : Shape) → Kept s s.dims (replicate 7 0)
kept-start s k = get_or-drop s.dims (replicate 7 0) k 0 ∙ zeros 7 (s.dims + k) ∙ sym (no_lasts s k)

module _ (s : Shape) (d : ℕ) (lasts : List ℕ) (kept : Kept s (suc d) lasts) where
  high-kept : high_at s d (drop (suc d) lasts) ≡ high_at s d (lasts_from s (suc d))
  high-kept =
      omega (arith, high-nat s d (drop (suc d) lasts), high-nat s d (lasts_from s (suc d)), gain-same Size Add d (drop (suc d) lasts) (lasts_from s (suc d)) (modifiers_of s) kept)

  low-kept : low_at s d (drop (suc d) lasts) ≡ low_at s d (lasts_from s (suc d))
  low-kept =
      low-nat s d (drop (suc d) lasts)
      ∙ ap (sub_ℕ (get_or s.sizes d 0)) (gain-same Size Subtract d (drop (suc d) lasts) (lasts_from s (suc d)) (modifiers_of s) kept)
      ∙ sym (low-nat s d (lasts_from s (suc d)))

  kept_next : d < s.dims → d < length lasts → Kept s d (set lasts d (last_index (high_at s d (drop (suc d) lasts))))
  kept_next h l = go
    where
      high : ℕ
      high = high_at s d (drop (suc d) lasts)

      next : List ℕ
      next = set lasts d (last_index high)

      is : drop d next ≡ last_index high ∷ drop (suc d) lasts
      is =
          drop-cons next d 0 (rw length-set l)
          ∙ ap (λ x. x ∷ drop (suc d) next) (get_or-set_same lasts d (last_index high) 0 l)
          ∙ ap (λ x. last_index high ∷ x) (drop-set-lt (suc d) lasts d (last_index high) (omega arith))

      each : (k : ℕ) → get_or (last_index high ∷ drop (suc d) lasts) k 0 ≡ get_or (last_index (high_at s d (lasts_from s (suc d))) ∷ lasts_from s (suc d)) k 0
      each zero = ap last_index high-kept
      each (suc k) = kept k

      go : Kept s d next
      go k = ap (λ x. get_or x k 0) is ∙ each k ∙ ap (λ x. get_or x k 0) (sym (lasts-next s d h))

-- a small index put at a place
small-next : (lasts : List ℕ) (d x : ℕ) → d < length lasts → Small lasts → x ≤ 4096 → Small (set lasts d x)
small-next lasts d x l h p k = go (eqb k d) refl
  where
    go : (t : Bool) → eqb k d ≡ t → get_or (set lasts d x) k 0 ≤ 4096
    go true e = subst (λ j. get_or (set lasts d x) j 0 ≤ 4096) (sym (eqb-true k d e)) (omega (arith, get_or-set_same lasts d x 0 l))
    go false e = omega (arith, get_or-set_other lasts d k x 0 (eqb-false k d e), h k)

-- the walk before dimension d - 1
pub record Walked (s : Shape) (d : ℕ) (lasts : List ℕ) : Type 0 where
  pub within : d ≤ s.dims
  pub room : length lasts ≡ 7
  pub small : Small lasts
  pub kept : Kept s d lasts

pub walked_start : (s : Shape) → Walked s s.dims (replicate 7 0)
walked_start s = record { within = omega arith; room = refl; small = small-start; kept = kept-start s }

-- the indices outside dimension d - 1
walked-kept : (s : Shape) (d : ℕ) (lasts : List ℕ) → Walked s d lasts → 0 < d → Kept s (suc (d - 1)) lasts
walked-kept s d lasts w h = let z : d ≡ suc (d - 1) = omega arith in subst (λ e. Kept s e lasts) z w.kept

pub walked_next : (s : Shape) → s.dims ≤ 7 → (d : ℕ) (lasts : List ℕ) → Walked s d lasts → 0 < d → (high : ℕ)
    → high ≡ high_at s (d - 1) (drop (suc (d - 1)) lasts) → high ≤ 4096 → Walked s (d - 1) (set lasts (d - 1) (last_index high))
walked_next s m d lasts w h high e p =
    let k : Kept s (suc (d - 1)) lasts = walked-kept s d lasts w h in
    let r : length lasts ≡ 7 = w.room in
    let b : d ≤ s.dims = w.within in
    let last : Kept s (d - 1) (set lasts (d - 1) (last_index (high_at s (d - 1) (drop (suc (d - 1)) lasts)))) =
    kept_next s (d - 1) lasts k (omega arith) (omega arith) in
    record {
      within = omega arith;
      room = length-set lasts (d - 1) (last_index high) ∙ r;
      small = small-next lasts (d - 1) (last_index high) (omega arith) w.small (omega arith);
      kept = subst (λ x. Kept s (d - 1) (set lasts (d - 1) (last_index x))) (sym e) last;
    }

-- ---- leaving early

pub none-outside : (s : Shape) → low_or_high_from s s.dims (s.dims - s.dims) ≡ false
unfolding low_or_high_from
none-outside s = let z : s.dims - s.dims ≡ 0 = omega arith in rw z

from_next : (s : Shape) (d : ℕ) → d < s.dims
    → low_or_high_from s d (s.dims - d)
    ≡ (not (non_neg (low_at s d (lasts_from s (suc d)))) || ltb 4096 (high_at s d (lasts_from s (suc d))) || low_or_high_from s (suc d) (s.dims - suc d))
unfolding low_or_high_from
from_next s d h = let z : s.dims - d ≡ suc (s.dims - suc d) = omega arith in ap (low_or_high_from s d) z

-- what is refused from a dimension on is refused
refused-from : (s : Shape) (d : ℕ) → d ≤ s.dims → low_or_high_from s d (s.dims - d) ≡ true → low_or_high s ≡ true
refused-from s d h e = go (low_or_high s) refl
  where
    go : (t : Bool) → low_or_high s ≡ t → low_or_high s ≡ true
    go true p = p
    go false p =
        let w : ◌≡◌ {A = Bool} true false = sym e ∙ passed-from s p d h in
        let z : ◌≡◌ {A = ℕ} 1 0 = ap (λ t. cond t 1 0) w in
        absurd (omega arith)

module _ (s : Shape) (d : ℕ) (lasts : List ℕ) (kept : Kept s (suc d) lasts) (h : d < s.dims) where
  low-refused : non_neg (low_at s d (drop (suc d) lasts)) ≡ false → low_or_high s ≡ true
  low-refused e =
      let l : non_neg (low_at s d (lasts_from s (suc d))) ≡ false = sym (ap non_neg (low-kept s d lasts kept)) ∙ e in
      refused-from s d (omega arith) (from_next s d h ∙ rw l)

  high-refused : non_neg (low_at s d (drop (suc d) lasts)) ≡ true → 4096 < high_at s d (drop (suc d) lasts) → low_or_high s ≡ true
  high-refused e m =
      let l : non_neg (low_at s d (lasts_from s (suc d))) ≡ true = sym (ap non_neg (low-kept s d lasts kept)) ∙ e in
      let g : ltb 4096 (high_at s d (lasts_from s (suc d))) ≡ true = lt-ltb 4096 (high_at s d (lasts_from s (suc d))) (omega (arith, high-kept s d lasts kept)) in
      refused-from s d (omega arith) (from_next s d h ∙ rw (l, g))

  both_hold : non_neg (low_at s d (drop (suc d) lasts)) ≡ true → high_at s d (drop (suc d) lasts) ≤ 4096
      → low_or_high_from s (suc d) (s.dims - suc d) ≡ false → low_or_high_from s d (s.dims - d) ≡ false
  both_hold e m r =
      let l : non_neg (low_at s d (lasts_from s (suc d))) ≡ true = sym (ap non_neg (low-kept s d lasts kept)) ∙ e in
      let g : ltb 4096 (high_at s d (lasts_from s (suc d))) ≡ false = le-ltb 4096 (high_at s d (lasts_from s (suc d))) (omega (arith, high-kept s d lasts kept)) in
      from_next s d h ∙ rw (l, g, r)

  -- the product over one dimension more
  product-kept : (n : ℕ) → n ≡ product (highs s (suc d) (s.dims - suc d)) → n * max 1 (high_at s d (drop (suc d) lasts)) ≡ product (highs s d (s.dims - d))
  product-kept n e =
      ap (λ x. x * max 1 (high_at s d (drop (suc d) lasts))) e
      ∙ ap (λ x. product (highs s (suc d) (s.dims - suc d)) * max 1 x) (high-kept s d lasts kept)
      ∙ mul_comm (product (highs s (suc d) (s.dims - suc d))) (max 1 (high_at s d (lasts_from s (suc d))))
      ∙ sym (product-next s d h)

-- the same, of a turn of the walk
module _ (s : Shape) (d : ℕ) (lasts : List ℕ) (w : Walked s d lasts) (some : 0 < d) where
  inside : d - 1 < s.dims
  inside = omega (arith, w.within)

  pub walk-low : non_neg (low_at s (d - 1) (drop (suc (d - 1)) lasts)) ≡ false → low_or_high s ≡ true
  walk-low e = low-refused s (d - 1) lasts (walked-kept s d lasts w some) inside e

  pub walk-high : non_neg (low_at s (d - 1) (drop (suc (d - 1)) lasts)) ≡ true → 4096 < high_at s (d - 1) (drop (suc (d - 1)) lasts) → low_or_high s ≡ true
  walk-high e m = high-refused s (d - 1) lasts (walked-kept s d lasts w some) inside e m

  pub walk-on : non_neg (low_at s (d - 1) (drop (suc (d - 1)) lasts)) ≡ true → high_at s (d - 1) (drop (suc (d - 1)) lasts) ≤ 4096
      → low_or_high_from s d (s.dims - d) ≡ false → low_or_high_from s (d - 1) (s.dims - (d - 1)) ≡ false
  walk-on e m r =
      let z : d ≡ suc (d - 1) = omega arith in
      both_hold s (d - 1) lasts (walked-kept s d lasts w some) inside e m (subst (λ k. low_or_high_from s k (s.dims - k) ≡ false) z r)

  pub walk-product : (n : ℕ) → n ≡ product (highs s d (s.dims - d)) → n * max 1 (high_at s (d - 1) (drop (suc (d - 1)) lasts)) ≡ product (highs s (d - 1) (s.dims - (d - 1)))
  walk-product n e =
      let z : d ≡ suc (d - 1) = omega arith in
      product-kept s (d - 1) lasts (walked-kept s d lasts w some) inside n (subst (λ k. n ≡ product (highs s k (s.dims - k))) z e)

  -- no high is above 4,096 where the rules on low and high hold
  pub walk-most : low_or_high s ≡ false → high_at s (d - 1) (drop (suc (d - 1)) lasts) ≤ 4096
  walk-most e = omega (arith, high-kept s (d - 1) lasts (walked-kept s d lasts w some), (passed s e (d - 1) inside).high)

pub product-start : (s : Shape) → ◌≡◌ {A = ℕ} 1 (product (highs s s.dims (s.dims - s.dims)))
unfolding highs product
product-start s = let z : s.dims - s.dims ≡ 0 = omega arith in rw z

-- a product over the dimensions from d on that is too large makes the product over all too large
pub product-refused : (s : Shape) (d : ℕ) → d ≤ s.dims → 1048576 < product (highs s d (s.dims - d)) → ltb 1048576 (product (highs_of s)) ≡ true
product-refused s d h m = lt-ltb 1048576 (product (highs_of s)) (omega (arith, outer-most s d h))
