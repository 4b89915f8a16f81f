-- What modifiers add and what they take, as natural numbers.
--
--   gain_of, gain           what one modifier, and what all of them, move a parameter by, of those that add or of those that subtract
--   gain_of-on, gain-empty, gain-more, gain-append   of one modifier; of none, of one more, of two parts
--   added-gain             what modifiers add in all is what adding ones add less what subtracting ones take
--   size-nat               the size of a dimension: size + added - taken, cut off at 0
--   size_exact             the same in exact integers
--   high-nat, low-nat      high and low alike
--   gain-mono, gain-same   larger indices move by more, the same indices by the same
use Rattle.std.specs.Prelude.{◌≡◌, ℕ, zero, suc, ◌+◌, ◌-◌, ◌*◌, ◌<◌, ◌≤◌, Bool, true, false, cond, ◌&&◌, List, [], ◌∷◌, ◌++◌, pos, negsuc, ◌+ℤ◌, neg_ℤ, ◌==◌, nat_lt, slice_index, slice_index_or, refl}
use Rattle.std.proofs.Common.{sym, ◌∙◌, ap, arith, mul-le-mul_right, ltb-true, ltb-false, lt-ltb, le-ltb}
use Rattle.std.proofs.Math.IntN.{sub_ℕ, +ℤ_idl}
use Rattle.codec.specs.declared.operation.Parameter.{Parameter}
use Rattle.codec.specs.declared.operation.Parameter.TheVariants.{Size}
use Rattle.codec.specs.declared.operation.Behaviour.{Behaviour}
use Rattle.codec.specs.declared.operation.Behaviour.TheVariants.{Add, Subtract}
use Rattle.engine.specs.Loops.{same_parameter, signed, owner_index, modifiers_of, share, added, natural, size_at}
use Rattle.engine.specs.Rules.{same_behaviour, only, high_at, low_at}
use Rattle.engine.specs.declared.stream.Modifier.{Modifier}
use Rattle.engine.specs.declared.stream.Shape.{Shape}

-- what one modifier moves parameter q of dimension d by, if it is one of behaviour b
unfoldable pub gain_of : Parameter → Behaviour → ℕ → List ℕ → Modifier → ℕ
gain_of q b d outer m =
    cond (same_parameter m.parameter q && m.target == d) (cond (same_behaviour m.behaviour b) (owner_index m d outer * m.displacement) 0) 0

-- what all of them of behaviour b do
unfoldable pub gain : Parameter → Behaviour → ℕ → List ℕ → List Modifier → ℕ
gain q b d outer [] = 0
gain q b d outer (m ∷ ms) = gain_of q b d outer m + gain q b d outer ms

-- ---- what modifiers do, one by one

-- one that moves the parameter
pub gain_of-on : (q : Parameter) (b : Behaviour) (d : ℕ) (outer : List ℕ) (m : Modifier) → same_parameter m.parameter q ≡ true
    → gain_of q b d outer m ≡ cond (m.target == d) (cond (same_behaviour m.behaviour b) (owner_index m d outer * m.displacement) 0) 0
unfolding gain_of
gain_of-on q b d outer m e = rw e

-- none
pub gain-empty : (q : Parameter) (b : Behaviour) (d : ℕ) (outer : List ℕ) → gain q b d outer [] ≡ 0
unfolding gain
gain-empty q b d outer = refl

-- one, then others
pub gain-more : (q : Parameter) (b : Behaviour) (d : ℕ) (outer : List ℕ) (m : Modifier) (ms : List Modifier)
    → gain q b d outer (m ∷ ms) ≡ gain_of q b d outer m + gain q b d outer ms
unfolding gain
gain-more q b d outer m ms = refl

-- in two parts
pub gain-append : (q : Parameter) (b : Behaviour) (d : ℕ) (outer : List ℕ) (xs ys : List Modifier)
    → gain q b d outer (xs ++ ys) ≡ gain q b d outer xs + gain q b d outer ys
unfolding gain
gain-append q b d outer [] ys = omega arith
gain-append q b d outer (x ∷ xs) ys = omega (arith, gain-append q b d outer xs ys)

-- ---- differences of natural numbers

-- a difference that is negative
pub sub-less : (a b : ℕ) → a < b → sub_ℕ a b ≡ negsuc (b - suc a)
sub-less a b h = rw (lt-ltb a b h)

-- a difference that is not negative
pub sub-pos : (a b : ℕ) → b ≤ a → sub_ℕ a b ≡ pos (a - b)
sub-pos a b h = rw (le-ltb a b h)

-- a - b is c - d if a + d is c + b
sub_same : (a b c d : ℕ) → a + d ≡ c + b → sub_ℕ a b ≡ sub_ℕ c d
sub_same a b c d e = go (nat_lt a b) refl
  where
    go : (t : Bool) → nat_lt a b ≡ t → sub_ℕ a b ≡ sub_ℕ c d
    go true p =
        let q : a < b = ltb-true a b p in
        let z : b - suc a ≡ d - suc c = omega arith in
        sub-less a b q ∙ ap negsuc z ∙ sym (sub-less c d (omega arith))
    go false p =
        let q : b ≤ a = ltb-false a b p in
        let z : a - b ≡ c - d = omega arith in
        sub-pos a b q ∙ ap pos z ∙ sym (sub-pos c d (omega arith))

-- x + (u - v) is (x + u) - v, in exact integers
pos-sub : (x u v : ℕ) → pos x +ℤ sub_ℕ u v ≡ sub_ℕ (x + u) v
pos-sub x u v = go (nat_lt u v) refl
  where
    go : (t : Bool) → nat_lt u v ≡ t → pos x +ℤ sub_ℕ u v ≡ sub_ℕ (x + u) v
    go true p = let q : u < v = ltb-true u v p in ap (λ y. pos x +ℤ y) (sub-less u v q) ∙ sub_same x (suc (v - suc u)) (x + u) v (omega arith)
    go false p =
        let q : v ≤ u = ltb-false u v p in
        let z : x + (u - v) ≡ x + u - v = omega arith in
        ap (λ y. pos x +ℤ y) (sub-pos u v q) ∙ ap pos z ∙ sym (sub-pos (x + u) v (omega arith))

-- -x + (u - v) is u - (x + v), in exact integers
neg-sub : (x u v : ℕ) → neg_ℤ (pos x) +ℤ sub_ℕ u v ≡ sub_ℕ u (x + v)
neg-sub zero u v = +ℤ_idl (sub_ℕ u v) ∙ sub_same u v u (0 + v) (omega arith)
neg-sub (suc y) u v = go (nat_lt u v) refl
  where
    go : (t : Bool) → nat_lt u v ≡ t → negsuc y +ℤ sub_ℕ u v ≡ sub_ℕ u (suc y + v)
    go true p =
        let q : u < v = ltb-true u v p in
        let z : suc (y + (v - suc u)) ≡ suc y + v - suc u = omega arith in
        ap (λ w. negsuc y +ℤ w) (sub-less u v q) ∙ ap negsuc z ∙ sym (sub-less u (suc y + v) (omega arith))
    go false p = let q : v ≤ u = ltb-false u v p in ap (λ w. negsuc y +ℤ w) (sub-pos u v q) ∙ sub_same (u - v) (suc y) u (suc y + v) (omega arith)

-- an exact difference, cut off at 0, is the difference of natural numbers
natural-sub : (a b : ℕ) → natural (sub_ℕ a b) ≡ a - b
natural-sub a b = go (nat_lt a b) refl
  where
    go : (t : Bool) → nat_lt a b ≡ t → natural (sub_ℕ a b) ≡ a - b
    go true p = let q : a < b = ltb-true a b p in ap natural (sub-less a b q) ∙ omega arith
    go false p = ap natural (sub-pos a b (ltb-false a b p))

-- ---- gains

-- what modifiers add in all is what adding ones add less what subtracting ones take
pub added-gain : (q : Parameter) (d : ℕ) (outer : List ℕ) (ms : List Modifier) → added q d outer ms ≡ sub_ℕ (gain q Add d outer ms) (gain q Subtract d outer ms)
unfolding added gain gain_of
added-gain q d outer [] = refl
added-gain q d outer (m ∷ ms) = ap (λ y. share q d outer m +ℤ y) (added-gain q d outer ms) ∙ go (same_parameter m.parameter q && m.target == d) m.behaviour
  where
    k : ℕ
    k = owner_index m d outer * m.displacement

    u : ℕ
    u = gain q Add d outer ms

    v : ℕ
    v = gain q Subtract d outer ms

    go : (h : Bool) (b : Behaviour) → cond h (signed b k) (pos 0) +ℤ sub_ℕ u v
        ≡ sub_ℕ (cond h (cond (same_behaviour b Add) k 0) 0 + u) (cond h (cond (same_behaviour b Subtract) k 0) 0 + v)
    go true Subtract = neg-sub k u v ∙ sub_same u (k + v) (0 + u) (k + v) (omega arith)
    go true Add = pos-sub k u v ∙ sub_same (k + u) v (k + u) (0 + v) (omega arith)
    go false b = pos-sub 0 u v ∙ sub_same (0 + u) v (0 + u) (0 + v) (omega arith)

-- the exact size is a difference of natural numbers
pub size_exact : (s : Shape) (d : ℕ) (outer : List ℕ) (ms : List Modifier)
    → pos (slice_index s.sizes d) +ℤ added Size d outer ms ≡ sub_ℕ (slice_index s.sizes d + gain Size Add d outer ms) (gain Size Subtract d outer ms)
size_exact s d outer ms =
    ap (λ y. pos (slice_index s.sizes d) +ℤ y) (added-gain Size d outer ms) ∙ pos-sub (slice_index s.sizes d) (gain Size Add d outer ms) (gain Size Subtract d outer ms)

-- the size in natural numbers
pub size-nat : (s : Shape) (d : ℕ) (outer : List ℕ)
    → size_at s d outer ≡ slice_index s.sizes d + gain Size Add d outer (modifiers_of s) - gain Size Subtract d outer (modifiers_of s)
unfolding size_at
size-nat s d outer =
    ap natural (size_exact s d outer (modifiers_of s)) ∙ natural-sub (slice_index s.sizes d + gain Size Add d outer (modifiers_of s)) (gain Size Subtract d outer (modifiers_of s))

-- a modifier of the other behaviour has no gain
pub gain_of-off : (q : Parameter) (b : Behaviour) (d : ℕ) (outer : List ℕ) (m : Modifier) → same_behaviour m.behaviour b ≡ false → gain_of q b d outer m ≡ 0
unfolding gain_of
gain_of-off q b d outer m e =
    ap (λ t. cond (same_parameter m.parameter q && m.target == d) (cond t (owner_index m d outer * m.displacement) 0) 0) e
    ∙ go (same_parameter m.parameter q && m.target == d)
  where
    go : (h : Bool) → ◌≡◌ {A = ℕ} (cond h 0 0) 0
    go true = refl
    go false = refl

-- the modifiers of one behaviour have the whole gain of that behaviour
gain-only : (q : Parameter) (b : Behaviour) (d : ℕ) (outer : List ℕ) (ms : List Modifier) → gain q b d outer (only b ms) ≡ gain q b d outer ms
unfolding gain only
gain-only q b d outer [] = refl
gain-only q b d outer (m ∷ ms) = go (same_behaviour m.behaviour b) refl (gain-only q b d outer ms)
  where
    go : (t : Bool) → same_behaviour m.behaviour b ≡ t → gain q b d outer (only b ms) ≡ gain q b d outer ms
        → gain q b d outer (cond t (m ∷ only b ms) (only b ms)) ≡ gain_of q b d outer m + gain q b d outer ms
    go true e ih = ap (λ y. gain_of q b d outer m + y) ih
    go false e ih = ih ∙ omega (arith, gain_of-off q b d outer m e)

-- what has one behaviour has not the other
apart : (a b c : Behaviour) → same_behaviour b c ≡ false → same_behaviour a b ≡ true → same_behaviour a c ≡ false
apart Add Add c h e = h
apart Subtract Subtract c h e = h
apart Add Subtract c h e = absurd (let z : ◌≡◌ {A = Bool} false true = e in let w : ◌≡◌ {A = ℕ} 0 1 = ap (λ t. cond t 1 0) z in omega arith)
apart Subtract Add c h e = absurd (let z : ◌≡◌ {A = Bool} false true = e in let w : ◌≡◌ {A = ℕ} 0 1 = ap (λ t. cond t 1 0) z in omega arith)

-- and nothing of the other
gain-none : (q : Parameter) (b c : Behaviour) (d : ℕ) (outer : List ℕ) (ms : List Modifier) → same_behaviour b c ≡ false → gain q c d outer (only b ms) ≡ 0
unfolding gain only
gain-none q b c d outer [] n = refl
gain-none q b c d outer (m ∷ ms) n = go (same_behaviour m.behaviour b) refl (gain-none q b c d outer ms n)
  where
    go : (t : Bool) → same_behaviour m.behaviour b ≡ t → gain q c d outer (only b ms) ≡ 0 → gain q c d outer (cond t (m ∷ only b ms) (only b ms)) ≡ 0
    go true e ih = omega (arith, gain_of-off q c d outer m (apart m.behaviour b c n e))
    go false e ih = ih

-- high in natural numbers
pub high-nat : (s : Shape) (d : ℕ) (lasts : List ℕ) → high_at s d lasts ≡ slice_index s.sizes d + gain Size Add d lasts (modifiers_of s)
high-nat s d lasts =
    let u : ℕ = gain Size Add d lasts (only Add (modifiers_of s)) in
    let v : ℕ = gain Size Subtract d lasts (only Add (modifiers_of s)) in
    let z : slice_index_or s.sizes d 0 + u - v ≡ slice_index s.sizes d + gain Size Add d lasts (modifiers_of s) =
    omega (arith, gain-only Size Add d lasts (modifiers_of s), gain-none Size Add Subtract d lasts (modifiers_of s) refl) in
    ap natural (size_exact s d lasts (only Add (modifiers_of s))) ∙ natural-sub (slice_index s.sizes d + u) v ∙ z

-- low is a difference of natural numbers
pub low-nat : (s : Shape) (d : ℕ) (lasts : List ℕ) → low_at s d lasts ≡ sub_ℕ (slice_index s.sizes d) (gain Size Subtract d lasts (modifiers_of s))
low-nat s d lasts =
    let u : ℕ = gain Size Add d lasts (only Subtract (modifiers_of s)) in
    let v : ℕ = gain Size Subtract d lasts (only Subtract (modifiers_of s)) in
    size_exact s d lasts (only Subtract (modifiers_of s))
    ∙ sub_same (slice_index s.sizes d + u) v (slice_index s.sizes d) (gain Size Subtract d lasts (modifiers_of s))
    (omega (arith, gain-only Size Subtract d lasts (modifiers_of s), gain-none Size Subtract Add d lasts (modifiers_of s) refl))

-- of two amounts that both count or both do not, the larger counts for at least as much
cond-mono : (h : Bool) (x y : ℕ) → x ≤ y → cond h x 0 ≤ cond h y 0
cond-mono true x y e = e
cond-mono false x y e = omega arith

-- larger indices move by more
pub gain-mono : (q : Parameter) (b : Behaviour) (d : ℕ) (e f : List ℕ) (ms : List Modifier)
    → ((k : ℕ) → slice_index e k ≤ slice_index f k) → gain q b d e ms ≤ gain q b d f ms
unfolding gain gain_of
gain-mono q b d e f [] h = omega arith
gain-mono q b d e f (m ∷ ms) h =
    omega (arith, cond-mono (same_parameter m.parameter q && m.target == d) _ _ (cond-mono (same_behaviour m.behaviour b) _ _ (mul-le-mul_right m.displacement (h (m.owner - suc d)))), gain-mono q b d e f ms h)

-- the same indices move by the same
pub gain-same : (q : Parameter) (b : Behaviour) (d : ℕ) (e f : List ℕ) (ms : List Modifier)
    → ((k : ℕ) → slice_index e k ≡ slice_index f k) → gain q b d e ms ≡ gain q b d f ms
gain-same q b d e f ms h = omega (arith, gain-mono q b d e f ms (λ k. omega (arith, h k)), gain-mono q b d f e ms (λ k. omega (arith, h k)))
