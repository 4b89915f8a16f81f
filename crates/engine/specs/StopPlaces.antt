-- The place of a stop, as its seven indices have it.
--
--   stop-take, stop-told      a stop's own indices; whether it is an element, told by them
--   size-held, size-some, size-nothing   the innermost size of its place: that of its pass, or 0 if it is no element
--   inner_below               the innermost index of an element is below the innermost size
--   row_next                  where its row has another element, it is the next stop
use Rattle.std.specs.Prelude.{◌≡◌, ℕ, zero, suc, ◌+◌, ◌-◌, ◌<◌, ◌≤◌, Bool, true, false, cond, not, List, [], ◌∷◌, ◌++◌, map, length, get_or, take, drop, replicate, ◌==◌, nat_lt, slice_index, slice_index_or, slice_set, Option, Some, None}
use Rattle.std.proofs.Math.Path.{refl, ap}
use Rattle.std.proofs.Common.{sym, ◌∙◌, subst, arith, add-one, length-set, drop-set-lt, get_or-set_same, lt-ltb, eq-eqb, ne_eqb}
use Rattle.std.proofs.Math.Seq.{take-append_seam}
use Rattle.std.proofs.lemmas.Bool.{not-false}
use Rattle.codec.specs.TestLaws.{never, both, and_both}
use Rattle.engine.specs.Loops.{size_at, join, elements}
use Rattle.engine.specs.Chunks.{stops, pass_stops, is_element, nothing_at}
use Rattle.engine.specs.Registers.{index_of}
use Rattle.engine.specs.Good.{Accepted}
use Rattle.engine.specs.Places.{place_at}
use Rattle.engine.specs.StopLaws.{stop-length, stops-uncoupled, element-below}
use Rattle.engine.specs.Walk.{todo, after, bare, passes_after}
use Rattle.engine.specs.WalkLaws.{at-found, index-pad}
use Rattle.engine.specs.IndexLaws.{roomy, walk-next, index-get_d, index-length, size-index}
use Rattle.engine.specs.StopWalk.{passing, stops-after, nothing-bare, covers}
use Rattle.engine.specs.declared.stream.Shape.{Shape}
use Rattle.engine.specs.declared.stream.Pattern.{Pattern}

-- a Boolean that is not false is true
untrue : (b : Bool) → not b ≡ true → b ≡ false
untrue true e = never e
untrue false e = refl

module _ (s : Shape) (y : Accepted s) (k : ℕ) (q : k < length (stops s)) where
  -- how many indices the stop has
  long : length (slice_index_or (stops s) k []) ≡ s.dims
  long = stop-length s (covers s y) k q

  -- its own indices, of the seven
  pub stop-take : take s.dims (index_of (slice_index_or (stops s) k [])) ≡ slice_index_or (stops s) k []
  stop-take =
      let v : List ℕ = get_or (stops s) k [] in
      ap (take s.dims) (index-pad v s.dims long y.ranged.dims)
      ∙ ap (λ n. take n (v ++ replicate (7 - s.dims) 0)) (sym long)
      ∙ take-append_seam v (replicate (7 - s.dims) 0)

  -- whether it is an element
  pub stop-told : is_element (size_at s) 0 (take s.dims (index_of (slice_index_or (stops s) k []))) ≡ not (nothing_at s k)
  unfolding nothing_at
  stop-told = ap (is_element (size_at s) 0) stop-take ∙ twice (is_element (size_at s) 0 (slice_index_or (stops s) k []))
    where
      twice : (b : Bool) → b ≡ not (not b)
      twice true = refl
      twice false = refl

  -- the innermost index of an element is below the innermost size
  pub inner_below : nothing_at s k ≡ false → slice_index (index_of (slice_index_or (stops s) k [])) 0 < size_at s 0 (drop 1 (index_of (slice_index_or (stops s) k [])))
  unfolding nothing_at
  inner_below t =
      let v : List ℕ = get_or (stops s) k [] in
      let b = element-below (size_at s) 0 v (not-false (is_element (size_at s) 0 v) t) 0 (omega (arith, long, y.some)) in
      omega (arith, b, index-get_d v s.dims 0 long y.ranged.dims, size-index s v s.dims 0 long y.ranged.dims y.some)

-- the innermost size of a place at which an element stands
pub size-held : (p : Pattern) (width : ℕ) (v : List ℕ) → is_element (size_at p.shape) 0 (take p.shape.dims v) ≡ true
    → (place_at p width v).size ≡ size_at p.shape 0 (drop 1 v)
size-held p width v e = rw e

-- where it is not 0 an element stands there
pub size-some : (p : Pattern) (width : ℕ) (v : List ℕ) → 1 ≤ (place_at p width v).size → is_element (size_at p.shape) 0 (take p.shape.dims v) ≡ true
size-some p width v h = go (is_element (size_at p.shape) 0 (take p.shape.dims v)) refl
  where
    go : (b : Bool) → is_element (size_at p.shape) 0 (take p.shape.dims v) ≡ b → b ≡ true
    go true e = refl
    go false e = absurd (let z : (place_at p width v).size ≡ 0 = rw e in omega arith)

-- it is 0 exactly at a coupled pass that holds no element
pub size-nothing : (p : Pattern) (width : ℕ) → Accepted p.shape → (k : ℕ) → k < length (stops p.shape)
    → ((place_at p width (index_of (slice_index_or (stops p.shape) k []))).size == 0) ≡ nothing_at p.shape k
size-nothing p width y k q = go (nothing_at p.shape k) refl
  where
    v : List ℕ
    v = index_of (slice_index_or (stops p.shape) k [])

    go : (b : Bool) → nothing_at p.shape k ≡ b → ((place_at p width v).size == 0) ≡ b
    go true t =
        let e : is_element (size_at p.shape) 0 (take p.shape.dims v) ≡ false = stop-told p.shape y k q ∙ ap not t in
        let z : (place_at p width v).size ≡ 0 = rw e in
        eq-eqb (place_at p width v).size 0 z
    go false t =
        let e : is_element (size_at p.shape) 0 (take p.shape.dims v) ≡ true = stop-told p.shape y k q ∙ ap not t in
        let z = size-held p width v e in
        ne_eqb (place_at p width v).size 0 (λ w. omega (arith, inner_below p.shape y k q t))

-- ---- along a row

-- an index vector with its innermost index one further
abbrev pub further : List ℕ → List ℕ
further v = slice_set v 0 (slice_index v 0 + 1)

-- it is an element if it was one, and the innermost size allows it
pub further-held : (size : ℕ → List ℕ → ℕ) (n : ℕ) (v : List ℕ) → 1 ≤ n → is_element size 0 (take n v) ≡ true → slice_index v 0 + 1 < size 0 (drop 1 (take n v))
    → is_element size 0 (take n (further v)) ≡ true
unfolding is_element
further-held size zero v h e m = absurd (omega arith)
further-held size (suc n) [] h e m = e
further-held size (suc n) (i ∷ v) h e m =
    and_both (nat_lt (i + 1) (size 0 (take n v))) (is_element size 1 (take n v)) (lt-ltb (i + 1) (size 0 (take n v)) m)
    (both (nat_lt i (size 0 (take n v))) (is_element size 1 (take n v)) e).1

module _ (s : Shape) (y : Accepted s) (k : ℕ) (q : k < length (stops s)) (v : List ℕ) (e : v ≡ index_of (slice_index_or (stops s) k []))
    (t : nothing_at s k ≡ false) (m : get_or v 0 0 + 1 < size_at s 0 (drop 1 v)) where
  -- there are seven
  seven : length v ≡ 7
  seven = ap length e ∙ index-length (slice_index_or (stops s) k [])

  -- the search of any dimensions from the innermost on finds it
  found : (n : ℕ) → after (size_at s) 0 n v ≡ further v ∷ after (size_at s) 0 n (further v)
  found n =
      let u : List ℕ = further v in
      let a : get_or u 0 0 ≡ slice_index v 0 + 1 = get_or-set_same v 0 (slice_index v 0 + 1) 0 (omega (arith, seven)) in
      let b : drop 1 u ≡ drop 1 v = drop-set-lt 1 v 0 (slice_index v 0 + 1) (omega arith) in
      (λ i. todo (size_at s) 0 (n - 1) 0 (sym (a ∙ add-one (slice_index v 0)) i) (sym b i))
      ∙ at-found (size_at s) 0 n u (omega (arith, seven, length-set v 0 (slice_index v 0 + 1))) (omega (arith, a, ap (size_at s 0) b))

  -- what comes after the stop begins with it
  begins : (c : Option ℕ) → s.coupling ≡ c → (l : List (List ℕ)) × (map index_of (drop (suc k) (stops s)) ≡ further v ∷ l)
  begins None f =
      let u : stops s ≡ elements s = stops-uncoupled s f in (
        after (size_at s) 0 s.dims (further v),
        ap (λ l. map index_of (drop (suc k) l)) u
            ∙ sym (walk-next s (roomy s y) k (subst (λ l. k < length l) u q))
            ∙ ap (after (size_at s) 0 s.dims) (ap (λ l. index_of (slice_index_or l k [])) (sym u) ∙ sym e)
            ∙ found s.dims,
      )
  begins (Some c) f =
      let p = passing s y c f in
      let b : bare (size_at s) c (drop c v) ≡ false = ap (λ w. bare (size_at s) c (drop c w)) e ∙ sym (nothing-bare s c p k q) ∙ t in
      let ws : List (List ℕ) = join (map (pass_stops (size_at s) c) (passes_after (size_at s) c s.dims (drop c v))) in (
        after (size_at s) 0 c (further v) ++ ws,
        stops-after s c p k q v e
            ∙ ap (λ w. cond w [] (after (size_at s) 0 c v) ++ ws) b
            ∙ ap (λ l. l ++ ws) (found c),
      )

  -- what stands behind a list's first k
  head_at : (l : List (List ℕ)) (n : ℕ) (w : List ℕ) (r : List (List ℕ)) → map index_of (drop n l) ≡ w ∷ r → (n < length l) × (index_of (slice_index_or l n []) ≡ w)
  head_at [] zero w r f = absurd (let z : ◌≡◌ {A = ℕ} 0 1 = cc in omega arith)
  head_at [] (suc n) w r f = absurd (let z : ◌≡◌ {A = ℕ} 0 1 = cc in omega arith)
  head_at (x ∷ l) zero w r f = (omega arith, ap (λ z. get_or z 0 []) f)
  head_at (x ∷ l) (suc n) w r f = let g = head_at l n w r f in (omega (arith, g.0), g.1)

  -- the next stop
  next : (suc k < length (stops s)) × (index_of (slice_index_or (stops s) (suc k) []) ≡ further v)
  next = let b = begins s.coupling refl in head_at (stops s) (suc k) (further v) b.0 b.1

  -- where the row of a stop has another element, it is the next stop, and an element
  pub row_next : (suc k < length (stops s)) × (further v ≡ index_of (slice_index_or (stops s) (suc k) [])) × (is_element (size_at s) 0 (take s.dims (further v)) ≡ true)
      × (nothing_at s (suc k) ≡ false)
  row_next =
      let n = next in
      let w : List ℕ = get_or (stops s) k [] in
      let l = long s y k q in
      let i : is_element (size_at s) 0 (take s.dims v) ≡ true = ap (λ u. is_element (size_at s) 0 (take s.dims u)) e ∙ stop-told s y k q ∙ ap not t in
      let d : drop 1 (take s.dims v) ≡ drop 1 w = ap (λ u. drop 1 (take s.dims u)) e ∙ ap (drop 1) (stop-take s y k q) in
      let z : size_at s 0 (drop 1 v) ≡ size_at s 0 (drop 1 (take s.dims v)) =
      ap (λ u. size_at s 0 (drop 1 u)) e ∙ size-index s w s.dims 0 l y.ranged.dims y.some ∙ ap (size_at s 0) (sym d) in
      let h : is_element (size_at s) 0 (take s.dims (further v)) ≡ true = further-held (size_at s) s.dims v y.some i (omega (arith, z)) in
      (n.0, sym n.1, h, untrue (nothing_at s (suc k)) (sym (stop-told s y (suc k) n.0) ∙ ap (λ u. is_element (size_at s) 0 (take s.dims u)) n.1 ∙ h))
