-- The product rule bounds the loops.
--
--   iterations          the iterations that loops begin, at all levels
--   few, few-stops      there are at most as many elements, and stops, as the product over the highs
--   iterations-few      at most that many iterations begin in each dimension
use Rattle.std.specs.Prelude.{◌≡◌, ℕ, zero, suc, ◌+◌, ◌-◌, ◌*◌, ◌/◌, ◌<◌, ◌≤◌, max, List, [], ◌∷◌, map, length, slice_index_or, refl, Option, Some, None}
use Rattle.std.proofs.Common.{sym, ◌∙◌, ap, subst, arith, mul-le-mul_right, le-div_iff_mul-le, mul_comm, one-mul, suc-mul, zero-mul, add-mul, mul_assoc, mul-one, zero-add, length-append}
use Rattle.std.proofs.Math.Nat.{mul-div-le}
use Rattle.engine.specs.Configure.{Covers}
use Rattle.engine.specs.Loops.{size_at, join, span, loops, elements}
use Rattle.engine.specs.Chunks.{pass_stops, stops_in, stops}
use Rattle.engine.specs.Rules.{last_index, high_at, highs, highs_of, product}
use Rattle.engine.specs.Members.{Each}
use Rattle.engine.specs.StopLaws.{PassView, full, none, pass-view}
use Rattle.engine.specs.Walk.{sum}
use Rattle.engine.specs.BoundLaws.{Under, lasts_from, size-high, highs-next, under_more, loops-under, get_d_part}
use Rattle.engine.specs.declared.stream.Shape.{Shape}

-- the iterations that the loops of n dimensions from d on begin, at all levels
unfoldable pub iterations : (ℕ → List ℕ → ℕ) → ℕ → ℕ → List ℕ → ℕ
iterations size d zero outer = 0
iterations size d (suc n) outer = sum (λ k. 1 + iterations size d n (k ∷ outer)) 0 (size (d + n) outer)

-- the length of parts in a row is the sum of their lengths
length-span : {A : Type 0} (f : ℕ → List A) (k n : ℕ) → length (span f k n) ≡ sum (λ i. length (f i)) k n
unfolding span sum
length-span f k zero = refl
length-span f k (suc n) = omega (arith, length-append (f k) (span f (suc k) n), length-span f (suc k) n)

-- a sum of n terms, each of which times c is at most b
sum-most : (f : ℕ → ℕ) (k n c b : ℕ) → ((i : ℕ) → i < k + n → f i * c ≤ b) → sum f k n * c ≤ n * b
unfolding sum
sum-most f k zero c b h = omega (arith, zero-mul c, zero-mul b)
sum-most f k (suc n) c b h =
    omega (arith, add-mul (f k) (sum f (suc k) n) c, suc-mul n b, h k (omega arith), sum-most f (suc k) n c b (λ i q. h i (omega arith)))

-- the product over one dimension more
pub product-next : (s : Shape) (d : ℕ) → d < s.dims
    → product (highs s d (s.dims - d)) ≡ max 1 (high_at s d (lasts_from s (suc d))) * product (highs s (suc d) (s.dims - suc d))
unfolding product
product-next s d h = ap product (highs-next s d h)

-- the product over no dimension is 1
no-highs : (s : Shape) (d : ℕ) → product (highs s d 0) ≡ 1
unfolding product highs
no-highs s d = refl

-- the last two of three factors may change places
turn : (l m q : ℕ) → l * (m * q) ≡ l * q * m
turn l m q = ap (λ y. l * y) (mul_comm m q) ∙ sym (mul_assoc l q m)

-- one dimension more: if what each index counts, times the product over the dimensions from n on, is at most `all`, so is the sum,
-- times the product over the dimensions outside n
one_more : (s : Shape) (n all : ℕ) (outer : List ℕ) (f : ℕ → ℕ) → n < s.dims → Under s (suc n) outer
    → ((i : ℕ) → i < size_at s n outer → f i * product (highs s n (s.dims - n)) ≤ all)
    → sum f 0 (size_at s n outer) * product (highs s (suc n) (s.dims - suc n)) ≤ all
one_more s n all outer f h u each =
    let m : ℕ = max 1 (high_at s n (lasts_from s (suc n))) in
    let q : ℕ = product (highs s (suc n) (s.dims - suc n)) in
    let size : ℕ = size_at s n outer in
    let le : size ≤ high_at s n (lasts_from s (suc n)) = size-high s n outer (lasts_from s (suc n)) u in
    let part : (i : ℕ) → i < 0 + size → f i * q ≤ all / m = λ i p.
    let r : f i * (m * q) ≤ all = subst (λ y. f i * y ≤ all) (product-next s n h) (each i (omega arith)) in
    (le-div_iff_mul-le {k = m} (omega arith)).1 (subst (λ y. y ≤ all) (turn (f i) m q) r) in
    let most : sum f 0 size * q ≤ size * (all / m) = sum-most f 0 size q (all / m) part in
    let up : size * (all / m) ≤ m * (all / m) = mul-le-mul_right (all / m) (omega arith) in
    omega (arith, mul-div-le all m)

-- the loops of n dimensions from b on, times the product over the dimensions outside these, are at most the product from b on
count-loops : (s : Shape) (b n : ℕ) (outer : List ℕ) → b + n ≤ s.dims → Under s (b + n) outer
    → length (loops (size_at s) b n outer) * product (highs s (b + n) (s.dims - (b + n))) ≤ product (highs s b (s.dims - b))
unfolding loops
count-loops s b zero outer h u =
    let z : b + 0 ≡ b = omega arith in omega (arith, one-mul (product (highs s (b + 0) (s.dims - (b + 0)))), ap (λ y. product (highs s y (s.dims - y))) z)
count-loops s b (suc n) outer h u =
    let z : b + suc n ≡ suc (b + n) = omega arith in
    let f : ℕ → ℕ = λ i. length (loops (size_at s) b n (i ∷ outer)) in
    let all : ℕ = product (highs s b (s.dims - b)) in
    let w : Under s (suc (b + n)) outer = subst (λ k. Under s k outer) z u in
    let same : length (span (λ k. loops (size_at s) b n (k ∷ outer)) 0 (size_at s (b + n) outer)) ≡ sum f 0 (size_at s (b + n) outer) =
    length-span (λ k. loops (size_at s) b n (k ∷ outer)) 0 (size_at s (b + n) outer) in
    let most : sum f 0 (size_at s (b + n) outer) * product (highs s (suc (b + n)) (s.dims - suc (b + n))) ≤ all =
    one_more s (b + n) all outer f (omega arith) w (λ i p. count-loops s b n (i ∷ outer) (omega arith) (under_more s (b + n) (omega arith) outer w i p)) in
    subst (λ k. length (span (λ k. loops (size_at s) b n (k ∷ outer)) 0 (size_at s (b + n) outer)) * product (highs s k (s.dims - k)) ≤ all) (sym z)
    (subst (λ y. y * product (highs s (suc (b + n)) (s.dims - suc (b + n))) ≤ all) (sym same) most)

-- the loops from b on are at most the product from b on
loops-few : (s : Shape) (b : ℕ) → b ≤ s.dims → length (loops (size_at s) b (s.dims - b) []) ≤ product (highs s b (s.dims - b))
loops-few s b h =
    let z : b + (s.dims - b) ≡ s.dims = omega arith in
    let o : s.dims - s.dims ≡ 0 = omega arith in
    let n : ℕ = length (loops (size_at s) b (s.dims - b) []) in
    let k : n * product (highs s s.dims (s.dims - s.dims)) ≤ product (highs s b (s.dims - b)) =
    subst (λ y. n * product (highs s y (s.dims - y)) ≤ product (highs s b (s.dims - b))) z (count-loops s b (s.dims - b) [] (omega arith) (λ k. omega arith)) in
    let e : n * product (highs s s.dims (s.dims - s.dims)) ≡ n = ap (λ y. n * product (highs s s.dims y)) o ∙ ap (λ y. n * y) (no-highs s s.dims) ∙ mul-one n in
    omega arith

-- the product rule bounds the number of elements
pub few : (s : Shape) → length (elements s) ≤ product (highs_of s)
unfolding elements
few s = let z : s.dims - 0 ≡ s.dims = omega arith in subst (λ n. length (loops (size_at s) 0 n []) ≤ product (highs s 0 n)) z (loops-few s 0 (omega arith))

-- the product over the dimensions outside is at most the product over all
pub outer-most : (s : Shape) (n : ℕ) → n ≤ s.dims → product (highs s n (s.dims - n)) ≤ product (highs_of s)
outer-most s zero h = let z : s.dims - 0 ≡ s.dims = omega arith in omega (arith, ap (λ y. product (highs s 0 y)) z)
outer-most s (suc n) h =
    let m : ℕ = max 1 (high_at s n (lasts_from s (suc n))) in
    let q : ℕ = product (highs s (suc n) (s.dims - suc n)) in
    let up : 1 * q ≤ m * q = mul-le-mul_right q (omega arith) in
    omega (arith, outer-most s n (omega arith), product-next s n h, one-mul q)

-- the stops of one pass of dimension c, times the product over the dimensions outside, are at most the product over all
count-pass : (s : Shape) (c : ℕ) (outer : List ℕ) → c ≤ s.dims → Under s c outer
    → length (pass_stops (size_at s) c outer) * product (highs s c (s.dims - c)) ≤ product (highs_of s)
count-pass s c outer h u = go (pass-view (size_at s) c outer)
  where
    q : ℕ
    q = product (highs s c (s.dims - c))

    go : PassView (size_at s) c outer → length (pass_stops (size_at s) c outer) * q ≤ product (highs_of s)
    go (full m e) =
        let z : s.dims - 0 ≡ s.dims = omega arith in
        subst (λ l. length l * q ≤ product (highs_of s)) (sym e) (subst (λ n. length (loops (size_at s) 0 c outer) * q ≤ product (highs s 0 n)) z (subst (λ k. length (loops (size_at s) 0 c outer) * product (highs s k (s.dims - k)) ≤ product (highs s 0 (s.dims - 0))) (zero-add c) (count-loops s 0 c outer (omega arith) (subst (λ k. Under s k outer) (sym (zero-add c)) u))))
    go (none m e) = subst (λ l. length l * q ≤ product (highs_of s)) (sym e) (omega (arith, one-mul q, outer-most s c h))

-- lists each of which has at most b members
join-most : {A K : Type 0} (z : K) (f : K → List A) (os : List K) (b : ℕ) → Each z (λ o. length (f o) ≤ b) os → length (join (map f os)) ≤ length os * b
unfolding join
join-most z f [] b h = omega (arith, zero-mul b)
join-most z f (o ∷ os) b h =
    omega (arith, length-append (f o) (join (map f os)), suc-mul (length os) b, h 0 (omega arith), join-most z f os b (λ k p. h (suc k) (omega arith)))

-- the product over some dimensions is not 0
some-product : (s : Shape) (d n : ℕ) → 1 ≤ product (highs s d n)
unfolding product highs
some-product s d zero = omega arith
some-product s d (suc n) =
    let m : ℕ = max 1 (high_at s d (map last_index (highs s (suc d) n))) in
    let q : ℕ = product (highs s (suc d) n) in
    omega (arith, mul-le-mul_right {m = 1} {n = m} q (omega arith), one-mul q, some-product s (suc d) n)

-- the product rule bounds the number of stops
pub few-stops : (s : Shape) → Covers s.dims s.coupling → length (stops s) ≤ product (highs_of s)
unfolding stops_in elements
few-stops s h = go s.coupling h
  where
    go : (k : Option ℕ) → Covers s.dims k → length (stops_in (size_at s) s.dims k) ≤ product (highs_of s)
    go None c = few s
    go (Some c) p =
        let q : ℕ = product (highs s c (s.dims - c)) in
        let os : List (List ℕ) = loops (size_at s) c (s.dims - c) [] in
        let e : c + (s.dims - c) ≡ s.dims = omega arith in
        let some : 1 ≤ q = some-product s c (s.dims - c) in
        let each : Each [] (λ o. length (pass_stops (size_at s) c o) ≤ product (highs_of s) / q) os = λ j l.
        (le-div_iff_mul-le {k = q} some).1
        (count-pass s c (slice_index_or os j []) p (loops-under s c (s.dims - c) [] (omega arith) (λ k. omega arith) (slice_index_or os j []) (get_d_part os j [] l))) in
        let up : length os * (product (highs_of s) / q) ≤ q * (product (highs_of s) / q) = mul-le-mul_right (product (highs_of s) / q) (loops-few s c p) in
        omega (arith, join-most [] (pass_stops (size_at s) c) os (product (highs_of s) / q) each, mul-div-le (product (highs_of s)) q)

-- the iterations of the first n dimensions, times the product over the others, are at most n times the product over all
count-iterations : (s : Shape) (n : ℕ) (outer : List ℕ) → n ≤ s.dims → Under s n outer
    → iterations (size_at s) 0 n outer * product (highs s n (s.dims - n)) ≤ n * product (highs_of s)
unfolding iterations
count-iterations s zero outer h u = omega (arith, zero-mul (product (highs s 0 (s.dims - 0))), zero-mul (product (highs_of s)))
count-iterations s (suc n) outer h u =
    let z : 0 + n ≡ n = omega arith in
    let f : ℕ → ℕ = λ i. 1 + iterations (size_at s) 0 n (i ∷ outer) in
    let q : ℕ = product (highs s (suc n) (s.dims - suc n)) in
    let p : ℕ = product (highs s n (s.dims - n)) in
    let all : ℕ = product (highs_of s) in
    let each : (i : ℕ) → i < size_at s n outer → f i * p ≤ suc n * all = λ i r.
    omega (arith, count-iterations s n (i ∷ outer) (omega arith) (under_more s n h outer u i r), outer-most s n (omega arith), add-mul 1 (iterations (size_at s) 0 n (i ∷ outer)) p, one-mul p, suc-mul n all) in
    subst (λ k. sum f 0 (size_at s k outer) * q ≤ suc n * all) (sym z) (one_more s n (suc n * all) outer f h u each)

-- at most that many iterations begin in each dimension
pub iterations-few : (s : Shape) → iterations (size_at s) 0 s.dims [] ≤ s.dims * product (highs_of s)
iterations-few s =
    let z : s.dims - s.dims ≡ 0 = omega arith in
    let n : ℕ = iterations (size_at s) 0 s.dims [] in
    let k : n * product (highs s s.dims (s.dims - s.dims)) ≤ s.dims * product (highs_of s) = count-iterations s s.dims [] (omega arith) (λ k. omega arith) in
    let e : n * product (highs s s.dims (s.dims - s.dims)) ≡ n = ap (λ y. n * product (highs s s.dims y)) z ∙ ap (λ y. n * y) (no-highs s s.dims) ∙ mul-one n in
    omega arith
