-- The rules on a shape's descriptors bound its loops.
--
--   lasts_from, Under          the last indices by the highs from dimension d on; outer indices that pass none of them
--   size-high, index-last     no size passes its high; an index below the size is at most the last one by its high
--   InBounds, passed            what a shape passes that neither low nor high refuses
--   SizeBounded, bounded          low ≤ size ≤ high ≤ 4,096, and the exact size is not negative
--   highs-none, highs-more, rule-none, rule-more   the highs and the rule of 8, dimension by dimension
--   highs-next, lasts-next, under_more, under-zero   one dimension more
--   span-part                 what stands in a joined list stands in a part of it
--   loops-under               no index of the loops passes the last one by its high
--   element-under, at_under   nor does any index of an element
--   under-small               so it is below 4,096
use Rattle.std.specs.Prelude.{◌≡◌, ℕ, zero, suc, ◌+◌, ◌-◌, ◌<◌, ◌≤◌, Bool, true, false, cond, not, ◌||◌, List, [], ◌∷◌, map, length, get_or, pos, ◌+ℤ◌, nat_lt, slice_index, slice_index_or, refl}
use Rattle.std.proofs.Common.{sym, ◌∙◌, ap, subst, ⊎_elim, arith, add-suc, ltb-true, ltb-false}
use mathlib.Core.List.Memᴰ
use mathlib.Core.List.{Memᴰ}
use Rattle.std.proofs.Math.ListN.{get_or-eq_default}
use Rattle.std.proofs.Math.IntN.{sub_ℕ}
use Rattle.std.specs.Int.Signed.{non_neg}
use Rattle.std.proofs.lemmas.Bool.{not-false}
use Rattle.codec.specs.TestLaws.{or-false}
use Rattle.codec.specs.declared.operation.Parameter.TheVariants.{Size}
use Rattle.codec.specs.declared.operation.Behaviour.TheVariants.{Add, Subtract}
use Rattle.engine.specs.Loops.{modifiers_of, added, natural, size_at, span, loops, elements}
use Rattle.engine.specs.Rules.{last_index, high_at, low_at, highs, low_or_high_from, low_or_high}
use Rattle.engine.specs.Gains.{gain, size-nat, size_exact, high-nat, low-nat, gain-mono, sub-pos}
use Rattle.engine.specs.declared.stream.Shape.{Shape}

-- the last indices by their highs, of dimensions d, d + 1, ..
abbrev pub lasts_from : Shape → ℕ → List ℕ
lasts_from s d = map last_index (highs s d (s.dims - d))

-- indices of dimensions d, d + 1, .. none of which passes the last one by its high
abbrev pub Under : Shape → ℕ → List ℕ → Type 0
Under s d outer = (k : ℕ) → slice_index outer k ≤ slice_index (lasts_from s d) k

-- no size passes its high
pub size-high : (s : Shape) (d : ℕ) (outer lasts : List ℕ) → ((k : ℕ) → slice_index outer k ≤ slice_index lasts k) → size_at s d outer ≤ high_at s d lasts
size-high s d outer lasts h = omega (arith, size-nat s d outer, high-nat s d lasts, gain-mono Size Add d outer lasts (modifiers_of s) h)

-- an index below the size is at most the last one by its high
pub index-last : (i n high : ℕ) → i < n → n ≤ high → i ≤ last_index high
index-last i n high p q = omega arith

-- ---- what a shape passes that neither low nor high refuses

-- low is not negative and high not above 4,096
pub record InBounds (s : Shape) (d : ℕ) : Type 0 where
  pub low : non_neg (low_at s d (lasts_from s (suc d))) ≡ true
  pub high : high_at s d (lasts_from s (suc d)) ≤ 4096

-- of a dimension and those outside it
here-passed : (s : Shape) (d n : ℕ) → low_or_high_from s d (suc n) ≡ false
    → (non_neg (low_at s d (map last_index (highs s (suc d) n))) ≡ true) × (high_at s d (map last_index (highs s (suc d) n)) ≤ 4096)
    × (low_or_high_from s (suc d) n ≡ false)
unfolding low_or_high_from
here-passed s d n h =
    let low : Bool = non_neg (low_at s d (map last_index (highs s (suc d) n))) in
    let high : ℕ = high_at s d (map last_index (highs s (suc d) n)) in
    let both : (not low || nat_lt 4096 high) ≡ false = (or-false (not low || nat_lt 4096 high) (low_or_high_from s (suc d) n) h).0 in (
      not-false low (or-false (not low) (nat_lt 4096 high) both).0,
      ltb-false 4096 high (or-false (not low) (nat_lt 4096 high) both).1,
      (or-false (not low || nat_lt 4096 high) (low_or_high_from s (suc d) n) h).1,
    )

-- nor is any dimension from d on refused
pub passed-from : (s : Shape) → low_or_high s ≡ false → (d : ℕ) → d ≤ s.dims → low_or_high_from s d (s.dims - d) ≡ false
passed-from s h zero q = let z : s.dims - 0 ≡ s.dims = omega arith in ap (low_or_high_from s 0) z ∙ h
passed-from s h (suc d) q =
    let z : s.dims - d ≡ suc (s.dims - suc d) = omega arith in
    (here-passed s d (s.dims - suc d) (sym (ap (low_or_high_from s d) z) ∙ passed-from s h d (omega arith))).2

-- each dimension of a shape that neither low nor high refuses
pub passed : (s : Shape) → low_or_high s ≡ false → (d : ℕ) → d < s.dims → InBounds s d
passed s h d q =
    let z : s.dims - d ≡ suc (s.dims - suc d) = omega arith in
    let w = here-passed s d (s.dims - suc d) (sym (ap (low_or_high_from s d) z) ∙ passed-from s h d (omega arith)) in
    record { low = w.0; high = w.1 }

-- ---- sizes

-- if a - b is not negative, b is at most a
sub-nonneg : (a b : ℕ) → non_neg (sub_ℕ a b) ≡ true → b ≤ a
sub-nonneg a b e = go (nat_lt a b) refl
  where
    go : (t : Bool) → nat_lt a b ≡ t → b ≤ a
    go true p = absurd (let z : ◌≡◌ {A = ℕ} 0 1 = ap (λ t. cond t 1 0) (rw p at e) in omega arith)
    go false p = ltb-false a b p

-- at outer indices that pass no last one: the exact size is not negative, and low ≤ size ≤ high ≤ 4,096
pub record SizeBounded (s : Shape) (d : ℕ) (outer : List ℕ) : Type 0 where
  pub exact : pos (slice_index s.sizes d) +ℤ added Size d outer (modifiers_of s) ≡ pos (size_at s d outer)
  pub low : natural (low_at s d (lasts_from s (suc d))) ≤ size_at s d outer
  pub high : size_at s d outer ≤ high_at s d (lasts_from s (suc d))
  pub most : high_at s d (lasts_from s (suc d)) ≤ 4096

-- so it is in each dimension of a shape that neither low nor high refuses
pub bounded : (s : Shape) → low_or_high s ≡ false → (d : ℕ) → d < s.dims → (outer : List ℕ) → Under s (suc d) outer → SizeBounded s d outer
bounded s h d q outer u =
    let p : InBounds s d = passed s h d q in
    let lasts : List ℕ = lasts_from s (suc d) in
    let size : ℕ = get_or s.sizes d 0 in
    let up : ℕ = gain Size Add d outer (modifiers_of s) in
    let down : ℕ = gain Size Subtract d outer (modifiers_of s) in
    let far : ℕ = gain Size Subtract d lasts (modifiers_of s) in
    let fits : far ≤ size = sub-nonneg size far (sym (ap non_neg (low-nat s d lasts)) ∙ p.low) in
    let less : down ≤ far = gain-mono Size Subtract d outer lasts (modifiers_of s) u in
    let same : size + up - down ≡ size_at s d outer = sym (size-nat s d outer) in
    let low : natural (low_at s d lasts) ≡ size - far = ap natural (low-nat s d lasts ∙ sub-pos size far fits) in
    record {
      exact = size_exact s d outer (modifiers_of s) ∙ sub-pos (size + up) down (omega arith) ∙ ap pos same;
      low = omega (arith, low, same);
      high = size-high s d outer lasts u;
      most = p.high;
    }

-- ---- indices

-- the highs of no dimension
pub highs-none : (s : Shape) (d : ℕ) → highs s d 0 ≡ []
unfolding highs
highs-none s d = refl

-- of one more
pub highs-more : (s : Shape) (d n : ℕ) → highs s d (suc n) ≡ high_at s d (map last_index (highs s (suc d) n)) ∷ highs s (suc d) n
unfolding highs
highs-more s d n = refl

-- the rule of 8 on no dimension
pub rule-none : (s : Shape) (d : ℕ) → low_or_high_from s d 0 ≡ false
unfolding low_or_high_from
rule-none s d = refl

-- on one more
pub rule-more : (s : Shape) (d n : ℕ)
    → low_or_high_from s d (suc n)
    ≡ (not (non_neg (low_at s d (map last_index (highs s (suc d) n)))) || nat_lt 4096 (high_at s d (map last_index (highs s (suc d) n))) || low_or_high_from s (suc d) n)
unfolding low_or_high_from
rule-more s d n = refl

-- the high of dimension d, and those of the dimensions outside it
pub highs-next : (s : Shape) (d : ℕ) → d < s.dims → highs s d (s.dims - d) ≡ high_at s d (lasts_from s (suc d)) ∷ highs s (suc d) (s.dims - suc d)
unfolding highs
highs-next s d h = let e : s.dims - d ≡ suc (s.dims - suc d) = omega arith in ap (highs s d) e

-- the last index of dimension d, and those of the dimensions outside it
pub lasts-next : (s : Shape) (d : ℕ) → d < s.dims → lasts_from s d ≡ last_index (high_at s d (lasts_from s (suc d))) ∷ lasts_from s (suc d)
lasts-next s d h = ap (map last_index) (highs-next s d h)

-- one index more in front, at most the one on the other side: still none is larger than on the other side
cons-le : (i j : ℕ) (xs ys : List ℕ) → i ≤ j → ((k : ℕ) → slice_index xs k ≤ slice_index ys k) → (k : ℕ) → slice_index (i ∷ xs) k ≤ slice_index (j ∷ ys) k
cons-le i j xs ys p h zero = p
cons-le i j xs ys p h (suc k) = h k

-- one index more, below its size
pub under_more : (s : Shape) (d : ℕ) → d < s.dims → (outer : List ℕ) → Under s (suc d) outer → (i : ℕ) → i < size_at s d outer → Under s d (i ∷ outer)
under_more s d q outer u i p =
    let high : ℕ = high_at s d (lasts_from s (suc d)) in
    let last : i ≤ last_index high = index-last i (size_at s d outer) high p (size-high s d outer (lasts_from s (suc d)) u) in
    λ k. subst (λ l. slice_index (i ∷ outer) k ≤ slice_index l k) (sym (lasts-next s d q)) (cons-le i (last_index high) outer (lasts_from s (suc d)) last u k)

-- index 0
pub under-zero : (s : Shape) (d : ℕ) → d < s.dims → (outer : List ℕ) → Under s (suc d) outer → Under s d (0 ∷ outer)
under-zero s d q outer u =
    let high : ℕ = high_at s d (lasts_from s (suc d)) in
    λ k. subst (λ l. slice_index (0 ∷ outer) k ≤ slice_index l k) (sym (lasts-next s d q)) (cons-le 0 (last_index high) outer (lasts_from s (suc d)) (omega arith) u k)

-- what stands in a joined list stands in a part of it
pub span-part : {A : Type 0} (f : ℕ → List A) (k n : ℕ) (v : A) (P : Type 0) → ((i : ℕ) → i < k + n → Memᴰ v (f i) → P) → Memᴰ v (span f k n) → P
unfolding span
span-part f k zero v P h m = absurd (Memᴰ.not-nil m)
span-part f k (suc n) v P h m =
    ⊎_elim (λ a. h k (omega arith) a) (λ b. span-part f (suc k) n v P (λ i q. h i (omega arith)) b) (Memᴰ.append_cases (f k) m)

-- no index of the loops passes the last one by its high
pub loops-under : (s : Shape) (d n : ℕ) (outer : List ℕ) → d + n ≤ s.dims → Under s (d + n) outer → (v : List ℕ) → Memᴰ v (loops (size_at s) d n outer) → Under s d v
unfolding loops
loops-under s d zero outer h u v m =
    let z : d + 0 ≡ d = omega arith in
    let e : v ≡ outer = Memᴰ.eq_of_singleton m in
    subst (λ w. Under s d w) (sym e) (subst (λ k. Under s k outer) z u)
loops-under s d (suc n) outer h u v m =
    let w : Under s (suc (d + n)) outer = subst (λ k. Under s k outer) (add-suc d n) u in
    span-part (λ k. loops (size_at s) d n (k ∷ outer)) 0 (size_at s (d + n) outer) v (Under s d v)
    (λ i q a. loops-under s d n (i ∷ outer) (omega arith) (under_more s (d + n) (omega arith) outer w i (omega arith)) v a) m

-- nor does any of an element
pub element-under : (s : Shape) (v : List ℕ) → Memᴰ v (elements s) → Under s 0 v
unfolding elements
element-under s v m = loops-under s 0 s.dims [] (omega arith) (λ k. omega arith) v m

-- what stands at a place of a list is in it
pub get_d_part : {A : Type 0} (l : List A) (k : ℕ) (z : A) → k < length l → Memᴰ (slice_index_or l k z) l
get_d_part [] k z h = absurd (omega arith)
get_d_part (x ∷ l) zero z h = Memᴰ.head refl
get_d_part (x ∷ l) (suc k) z h = Memᴰ.tail (get_d_part l k z (omega arith))

-- nor any of the element at a place; past the end there is none
pub at_under : (s : Shape) (k : ℕ) → Under s 0 (slice_index_or (elements s) k [])
at_under s k = go (nat_lt k (length (elements s))) refl
  where
    go : (t : Bool) → nat_lt k (length (elements s)) ≡ t → Under s 0 (slice_index_or (elements s) k [])
    go true p = element-under s (slice_index_or (elements s) k []) (get_d_part (elements s) k [] (ltb-true k (length (elements s)) p))
    go false p = subst (λ v. Under s 0 v) (sym (get_or-eq_default (elements s) [] (ltb-false k (length (elements s)) p))) (λ j. omega arith)

-- the last indices by the highs of dimensions that 8 does not refuse are below 4,096
lasts-small : (s : Shape) (n d : ℕ) → low_or_high_from s d n ≡ false → (k : ℕ) → slice_index (map last_index (highs s d n)) k ≤ 4095
unfolding highs
lasts-small s zero d h k = omega arith
lasts-small s (suc n) d h zero = omega (arith, (here-passed s d n h).1)
lasts-small s (suc n) d h (suc k) = lasts-small s n (suc d) (here-passed s d n h).2 k

-- indices that pass no last one are below 4,096
pub under-small : (s : Shape) → low_or_high s ≡ false → (d : ℕ) → d ≤ s.dims → (v : List ℕ) → Under s d v → (k : ℕ) → slice_index v k ≤ 4095
under-small s h d q v u k = omega (arith, u k, lasts-small s (s.dims - d) d (passed-from s h d q) k)
