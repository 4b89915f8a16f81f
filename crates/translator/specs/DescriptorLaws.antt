-- A nest's own counts, visits and places are those of the descriptors that its sheet gives.
--
--   couples                    the coupled loop is one of the dimensions
--   count-size                 a loop's count is its dimension's size
--   visits-elements            the visits are the elements
--   stops_same, chunk-same, held_same   the same stops, in the same chunks, of the same visits
--   other_none, place-address  offsets and strides are as given; where an element lies
use Rattle.std.specs.Prelude.{ℕ, zero, suc, ◌+◌, ◌-◌, ◌*◌, ◌≤◌, ◌<◌, ◌≡◌, refl, false, cond, ◌&&◌, length, get_or, drop, eqb, ℤ, pos, negsuc, neg_ℤ, ◌+ℤ◌, ◌-ℤ◌, ◌*ℤ◌}
use Rattle.std.proofs.Common.{sym, ◌∙◌, ap, ap₂, arith, le-ltb}
use mathlib.Core.List.{List, [], ◌∷◌}
use Rattle.std.proofs.lemmas.List.{get_or-replicate}
use Rattle.std.proofs.Math.IntN.{sub_ℕ, +ℤ_assoc, +ℤ_comm, +ℤ_idl, +ℤ_idr, neg_ℤ-+ℤ}
use Rattle.codec.specs.declared.operation.Parameter.{Parameter}
use Rattle.codec.specs.declared.operation.Parameter.TheVariants.{Size, Offset, Stride}
use Rattle.codec.specs.declared.operation.Behaviour.TheVariants.{Add, Subtract}
use Rattle.engine.specs.Loops.{reach, owner_index, added, natural, size_at, join, elements}
use Rattle.engine.specs.Loops
use Rattle.engine.specs.Gains.{gain, sub-pos, added-gain}
use Rattle.engine.specs.Registers.{no_modifier}
use Rattle.engine.specs.SameLoops.{loops-same, groups-same, among_same}
use Rattle.engine.specs.Chunks.{stops, held_in, groups, chunk, chunk_of}
use Rattle.engine.specs.ChunkLaws.{groups-join}
use Rattle.engine.specs.StopLaws.{stop-length, chunk-each}
use Rattle.engine.specs.Addresses.{no_bytes, no_elements, in_bytes, address_up_to, address}
use Rattle.engine.specs.Configure.{uncovered, Covers}
use Rattle.engine.specs.declared.stream.Modifier.{Modifier}
use Rattle.engine.specs.declared.stream.Shape.{Shape}
use Rattle.translator.specs.Fields.{term_of}
use Rattle.translator.specs.Nests.{terms_at, count_at, visits, width_of, place_up_to, place_of, coupling_of, nest_stops, nest_groups, chunk_at, visits_among}
use Rattle.translator.specs.NestSheets.{modifiers_of, shape_of, pattern_for}
use Rattle.translator.specs.NestRules.{adding, subtracting, total}
use Rattle.translator.specs.ModifierLaws.{total-gain, modifiers-kept, modifiers-each}
use Rattle.translator.specs.declared.nest.Access.{Access}
use Rattle.translator.specs.declared.nest.Nest.{Nest}

-- the coupled loop is one of the dimensions
pub couples : (s : Shape) (c : ℕ) → c ≤ s.dims → uncovered s (coupling_of c) ≡ false
couples s zero h = refl
couples s (suc c) h = le-ltb s.dims (suc c) h

-- ---- counts

-- the difference of two numbers
sub_is : (u v : ℕ) → sub_ℕ u v ≡ pos u -ℤ pos v
sub_is u zero = let e : u - 0 ≡ u + 0 = omega arith in sub-pos u 0 (omega arith) ∙ ap pos e
sub_is u (suc v) = refl

-- one term more, in a sum of terms as what is added less what is subtracted
term-more : (z : ℤ) (k u v : ℕ) → z *ℤ pos k +ℤ (pos u -ℤ pos v) ≡ pos (adding z * k + u) -ℤ pos (subtracting z * k + v)
term-more (pos n) k u v =
    let e : v ≡ 0 * k + v = omega arith in
    sym (+ℤ_assoc (pos (n * k)) (pos u) (neg_ℤ (pos v))) ∙ ap (λ j. pos (n * k + u) -ℤ pos j) e
term-more (negsuc n) k u v =
    let x : ℕ = suc n * k in
    let e : u ≡ 0 * k + u = omega arith in
    let f : v + x ≡ x + v = omega arith in
    +ℤ_comm (neg_ℤ (pos x)) (pos u -ℤ pos v)
    ∙ +ℤ_assoc (pos u) (neg_ℤ (pos v)) (neg_ℤ (pos x))
    ∙ ap (λ y. pos u +ℤ y) (sym (neg_ℤ-+ℤ (pos v) (pos x)))
    ∙ (λ i. pos (e i) -ℤ pos (f i))

-- all terms of a loop
terms-total : (m : Nest) (t o : ℕ) (outer : List ℕ) → terms_at m t o outer ≡ pos (total adding m t o outer) -ℤ pos (total subtracting m t o outer)
unfolding terms_at total
terms-total m t o [] = refl
terms-total m t o (k ∷ outer) =
    ap (λ y. term_of m t o *ℤ pos k +ℤ y) (terms-total m t (suc o) outer)
    ∙ term-more (term_of m t o) k (total adding m t (suc o) outer) (total subtracting m t (suc o) outer)

-- a loop's count is its dimension's size
pub count-size : (m : Nest) (d : ℕ) (outer : List ℕ) → suc d + length outer ≡ m.loops → size_at (shape_of m) d outer ≡ count_at m d outer
unfolding size_at count_at
count-size m d outer e =
    ap (λ y. natural (pos (get_or m.counts d 0) +ℤ y))
    (ap (added Size d outer) (modifiers-kept m)
    ∙ added-gain Size d outer (modifiers_of m)
    ∙ sub_is (gain Size Add d outer (modifiers_of m)) (gain Size Subtract d outer (modifiers_of m))
    ∙ (λ i. pos (total-gain m Add d outer e i) -ℤ pos (total-gain m Subtract d outer e i))
    ∙ sym (terms-total m d (suc d) outer))

-- ---- visits

module _ (m : Nest) where
  -- counts and sizes
  sizes : (d : ℕ) (outer : List ℕ) → suc d + length outer ≡ m.loops → size_at (shape_of m) d outer ≡ count_at m d outer
  sizes d outer e = count-size m d outer e

  -- the visits are the elements
  pub visits-elements : elements (shape_of m) ≡ visits m
  unfolding visits elements
  visits-elements = loops-same (size_at (shape_of m)) (count_at m) m.loops sizes 0 m.loops [] (omega arith)

  module _ (c : Covers m.loops (coupling_of m.coupled)) where
    -- the groups that no chunk crosses are the same
    groups-are : groups (size_at (shape_of m)) m.loops (coupling_of m.coupled) ≡ nest_groups m
    groups-are = groups-same (size_at (shape_of m)) (count_at m) m.loops sizes (coupling_of m.coupled) c

    -- the stops are the same
    pub stops_same : stops (shape_of m) ≡ nest_stops m
    stops_same =
        sym (groups-join (size_at (shape_of m)) m.loops (coupling_of m.coupled))
        ∙ ap join groups-are
        ∙ groups-join (count_at m) m.loops (coupling_of m.coupled)

    -- in the same chunks
    pub chunk-same : (lanes n : ℕ) → chunk (shape_of m) lanes n ≡ chunk_at m lanes n
    chunk-same lanes n = ap (λ gs. chunk_of gs lanes n) groups-are

    -- of which the same are elements, and visits
    pub held_same : (lanes n : ℕ) → held_in (shape_of m) (chunk (shape_of m) lanes n) ≡ visits_among m (chunk_at m lanes n)
    held_same lanes n =
        among_same (size_at (shape_of m)) (count_at m) m.loops sizes (chunk (shape_of m) lanes n)
        (chunk-each (shape_of m) lanes n (λ v. length v ≡ m.loops) (stop-length (shape_of m) c))
        ∙ ap (visits_among m) (chunk-same lanes n)

-- ---- places

-- modifiers of sizes add nothing to another parameter
size-only : (q : Parameter) → Loops.same_parameter Size q ≡ false → (d : ℕ) (outer : List ℕ) (ms : List Modifier)
    → ((k : ℕ) → k < length ms → (get_or ms k no_modifier).parameter ≡ Size) → added q d outer ms ≡ pos 0
unfolding added
size-only q n d outer [] h = refl
size-only q n d outer (x ∷ ms) h =
    ap₂ ◌+ℤ◌
    (ap (λ b. cond (b && eqb x.target d) (reach x (owner_index x d outer)) (pos 0)) (ap (λ p. Loops.same_parameter p q) (h 0 (omega arith)) ∙ n))
    (size-only q n d outer ms (λ k l. h (suc k) (omega arith)))

-- those of a nest
pub other_none : (m : Nest) (q : Parameter) → Loops.same_parameter Size q ≡ false → (d : ℕ) (outer : List ℕ) → added q d outer (Loops.modifiers_of (shape_of m)) ≡ pos 0
other_none m q n d outer =
    ap (added q d outer) (modifiers-kept m) ∙ size-only q n d outer (modifiers_of m) (modifiers-each (λ x. x.parameter ≡ Size) m (λ t o h k. refl))

-- of the first n loops
place-up-to : (m : Nest) (a : Access) (v : List ℕ) (n : ℕ) → n ≤ 7 → address_up_to (pattern_for m a) (width_of m) v n ≡ place_up_to m a v n
unfolding address_up_to place_up_to
place-up-to m a v zero h = refl
place-up-to m a v (suc d) h =
    let stride : ℤ = (get_or a.strides d no_elements).0 in
    ap₂ ◌+ℤ◌ (place-up-to m a v d (omega arith))
    (ap₂ ◌+ℤ◌
    (ap₂ ◌+ℤ◌ (ap (λ b. b.0) (get_or-replicate 7 d no_bytes no_bytes h)) (other_none m Offset refl d (drop (suc d) v)))
    (ap (λ y. in_bytes y (get_or v d 0) (width_of m)) (ap (λ y. stride +ℤ y) (other_none m Stride refl d (drop (suc d) v)) ∙ +ℤ_idr stride))
    ∙ +ℤ_idl (in_bytes stride (get_or v d 0) (width_of m)))

-- where an element lies is its address
pub place-address : (m : Nest) (a : Access) (v : List ℕ) → m.loops ≤ 7 → address (pattern_for m a) (width_of m) v ≡ place_of m a v
place-address m a v h = place-up-to m a v m.loops h
