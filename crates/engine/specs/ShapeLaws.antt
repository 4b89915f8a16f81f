-- What the checks of a shape say.
--
--   some_at, some-none, some_out   a test of some member of a list, by places
--   first-at, first-none, first_out   the same of the first members
--   fits-ranged                    a shape that passes the first three checks is ranged
--   many-refused                   a shape of more than eight modifiers is refused with 6
--   ranged-fits                    a ranged shape passes all but the rules on low, high and product
--   shape-passes, shape-passed     a ranged shape of some dimensions is refused exactly by those rules
use Rattle.std.specs.Prelude.{◌≡◌, ℕ, zero, suc, ◌<◌, ◌≤◌, Bool, true, false, cond, ◌||◌, List, [], ◌∷◌, length, get_or, take, nat_le, nat_lt, slice_index, slice_index_or, Ok, Err}
use Rattle.std.proofs.Math.Path.{refl}
use Rattle.std.proofs.Common.{sym, ◌∙◌, ap, arith, length-take-le, get_or-take, ltb-true, ltb-false, leb-false, lt-ltb, le-ltb, ne_eqb}
use Rattle.std.proofs.Math.ListN.{get_or-eq_default}
use Rattle.std.proofs.lemmas.Bool.{lt-leb}
use Rattle.codec.specs.TestLaws.{or-false, or-second}
use Rattle.codec.specs.declared.refusal.Refusal.{Refusal}
use Rattle.codec.specs.declared.refusal.Refusal.TheVariants.{TooMany, LowHigh, Product}
use Rattle.std.specs.List.{list_any}
use Rattle.engine.specs.Loops.{modifiers_of}
use Rattle.engine.specs.Rules.{low_or_high, highs_of, product}
use Rattle.engine.specs.Checks.{first_of, Why}
use Rattle.engine.specs.Good.{RangedModifier, Ranged}
use Rattle.engine.specs.Registers.{no_modifier}
use Rattle.engine.specs.ShapeCheck.{too_large, far_moved, misplaced_in, check_shape}
use Rattle.engine.specs.declared.stream.Modifier.{Modifier}
use Rattle.engine.specs.declared.stream.Shape.{Shape}

module _ {A : Type 0} (p : A → Bool) (z : A) where
  -- a member of which the test holds
  pub some_at : (l : List A) (k : ℕ) → k < length l → p (slice_index_or l k z) ≡ true → list_any p l ≡ true
  some_at [] k h e = absurd (omega arith)
  some_at (x ∷ l) zero h e = rw e
  some_at (x ∷ l) (suc k) h e = or-second (p x) (list_any p l) (some_at l k (omega arith) e)

  -- none
  pub some-none : (l : List A) → ((k : ℕ) → k < length l → p (slice_index_or l k z) ≡ false) → list_any p l ≡ false
  some-none [] h = refl
  some-none (x ∷ l) h = rw (h 0 (omega arith)) (some-none l (λ k q. h (suc k) (omega arith)))

  -- each fails it
  pub some_out : (l : List A) → list_any p l ≡ false → (k : ℕ) → k < length l → p (slice_index_or l k z) ≡ false
  some_out l e k h = go (p (slice_index_or l k z)) refl
    where
      go : (t : Bool) → p (slice_index_or l k z) ≡ t → p (slice_index_or l k z) ≡ false
      go true q =
          let w : ◌≡◌ {A = Bool} true false = sym (some_at l k h q) ∙ e in
          let n : ◌≡◌ {A = ℕ} 1 0 = ap (λ t. cond t 1 0) w in
          absurd (omega arith)
      go false q = q

  -- one of the first n of which the test holds
  pub first-at : (l : List A) (n k : ℕ) → n ≤ length l → k < n → p (slice_index_or l k z) ≡ true → list_any p (take n l) ≡ true
  first-at l n k m h e = some_at (take n l) k (omega (arith, length-take-le n l m)) (ap p (get_or-take n l k z h) ∙ e)

  -- of the first n the test holds of none
  pub first-none : (l : List A) (n : ℕ) → n ≤ length l → ((k : ℕ) → k < n → p (slice_index_or l k z) ≡ false) → list_any p (take n l) ≡ false
  first-none l n m h = some-none (take n l) (λ k q. let r : k < n = omega (arith, length-take-le n l m) in ap p (get_or-take n l k z r) ∙ h k r)

  -- each of the first n fails it
  pub first_out : (l : List A) (n : ℕ) → n ≤ length l → list_any p (take n l) ≡ false → (k : ℕ) → k < n → p (slice_index_or l k z) ≡ false
  first_out l n m e k h = sym (ap p (get_or-take n l k z h)) ∙ some_out (take n l) e k (omega (arith, length-take-le n l m))

-- a shape that passes the first three checks is ranged
pub fits-ranged : (s : Shape) → length s.sizes ≡ 7 → length s.modifiers ≡ 8 → s.dims ≤ 7 → s.mods ≤ 8 → list_any too_large s.sizes ≡ false
    → list_any far_moved (modifiers_of s) ≡ false → list_any (misplaced_in s.dims) (modifiers_of s) ≡ false → Ranged s
fits-ranged s sizes modifiers dims mods small near placed =
    record { dims = dims; mods = mods; sizes = sizes; modifiers = modifiers; size = size; modifier = modifier }
  where
    size : (d : ℕ) → slice_index s.sizes d ≤ 4096
    size d = go (nat_lt d (length s.sizes)) refl
      where
        go : (t : Bool) → nat_lt d (length s.sizes) ≡ t → slice_index s.sizes d ≤ 4096
        go true e = ltb-false 4096 (slice_index s.sizes d) (some_out too_large 0 s.sizes small d (ltb-true d (length s.sizes) e))
        go false e = omega (arith, get_or-eq_default s.sizes 0 (ltb-false d (length s.sizes) e))

    modifier : (k : ℕ) → k < s.mods → RangedModifier s.dims (slice_index_or s.modifiers k no_modifier)
    modifier k h =
        let m : Modifier = get_or s.modifiers k no_modifier in
        let n : s.mods ≤ length s.modifiers = omega arith in
        let f : far_moved m ≡ false = first_out far_moved no_modifier s.modifiers s.mods n near k h in
        let p : misplaced_in s.dims m ≡ false = first_out (misplaced_in s.dims) no_modifier s.modifiers s.mods n placed k h in
        record {
          below = leb-false m.owner m.target (or-false (nat_le m.owner m.target) (nat_le s.dims m.owner) p).0;
          owned = leb-false s.dims m.owner (or-false (nat_le m.owner m.target) (nat_le s.dims m.owner) p).1;
          displaced = ltb-false 1048576 m.displacement f;
        }

-- a shape of more than eight modifiers is refused with 6, whatever else
pub many-refused : (s : Shape) → 8 < s.mods → check_shape s ≡ Err TooMany
unfolding check_shape first_of
many-refused s h = rw (or-second (nat_lt 7 s.dims) (nat_lt 8 s.mods) (lt-ltb 8 s.mods h))

-- a ranged shape of some dimensions is refused only by the rules on low, high and product
pub ranged-fits : (s : Shape) → Ranged s → 1 ≤ s.dims
    → check_shape s ≡ cond (low_or_high s) (Err LowHigh) (cond (nat_lt 1048576 (product (highs_of s))) (Err Product) (Ok tt))
unfolding check_shape first_of
ranged-fits s r h =
    let m : s.mods ≤ length s.modifiers = omega (arith, r.mods, r.modifiers) in
    let sizes : list_any too_large s.sizes ≡ false = some-none too_large 0 s.sizes (λ k q. le-ltb 4096 (slice_index s.sizes k) (r.size k)) in
    let far : list_any far_moved (modifiers_of s) ≡ false =
    first-none far_moved no_modifier s.modifiers s.mods m (λ k q. le-ltb 1048576 (get_or s.modifiers k no_modifier).displacement (r.modifier k q).displaced) in
    let place : list_any (misplaced_in s.dims) (modifiers_of s) ≡ false =
    first-none (misplaced_in s.dims) no_modifier s.modifiers s.mods m
    (λ k q.
    let w : Modifier = get_or s.modifiers k no_modifier in
    ap (λ b. b || nat_le s.dims w.owner) (lt-leb w.owner w.target (r.modifier k q).below) ∙ lt-leb s.dims w.owner (r.modifier k q).owned) in
    rw (le-ltb 7 s.dims r.dims, le-ltb 8 s.mods r.mods, sizes, far, ne_eqb s.dims 0 (λ e. omega arith), place)

-- it is not refused if both rules hold
pub shape-passes : (s : Shape) → Ranged s → 1 ≤ s.dims → low_or_high s ≡ false → product (highs_of s) ≤ 1048576 → check_shape s ≡ Ok tt
shape-passes s r h l p = ranged-fits s r h ∙ rw (l, le-ltb 1048576 (product (highs_of s)) p)

-- where neither of two checks refuses, neither applies
both : (a b : Bool) (x y : Refusal) → let none : Why = Ok tt in cond a (Err x) (cond b (Err y) none) ≡ none → (a ≡ false) × (b ≡ false)
both true b x y e = absurd (let n : ◌≡◌ {A = ℕ} 0 1 = cc in omega arith)
both false true x y e = absurd (let n : ◌≡◌ {A = ℕ} 0 1 = cc in omega arith)
both false false x y e = (refl, refl)

-- and only then
pub shape-passed : (s : Shape) → Ranged s → 1 ≤ s.dims → check_shape s ≡ Ok tt → (low_or_high s ≡ false) × (product (highs_of s) ≤ 1048576)
shape-passed s r h e =
    let w = both (low_or_high s) (nat_lt 1048576 (product (highs_of s))) LowHigh Product (sym (ranged-fits s r h) ∙ e) in
    (w.0, ltb-false 1048576 (product (highs_of s)) w.1)
