-- Where a stream stops: at each of its elements, and once in each coupled pass that holds none.
--
--   PassView, pass-view       a pass has elements, and stops at these, or has none, and stops once
--   pass-some, pass-drop, pass-length   it stops; the outer indices of a stop; how many indices it has
--   element-all, element-below   a stop is an element exactly if each index is below its size
--   among-append, among-join, among-all, among-some   the elements among stops
--   among-pass, among-passes  those of a pass, of all passes
--   stops-uncoupled, stops-elements   uncoupled, the stops are the elements; the elements among the stops are the elements
--   each-join                 every member of lists joined
--   stop-length, stop-even    a stop has an index for each dimension
--   under-zeros, stop-under   no index of a stop passes the last one by its high
--   OneKind, left-kind, groups-kind   groups of elements only, or of one stop that is none
--   chunk-kind, chunk-held    a chunk has only elements, or none
--   chunk-each                what holds of every stop holds of every stop of a chunk
--   held-front                the first elements of a chunk are those of the chunk of fewer lanes
--   chunk-full, chunk-none, next-held   at an element, and where there is none; one stop further
use Rattle.std.specs.Prelude.{◌≡◌, ℕ, zero, suc, ◌+◌, ◌-◌, ◌<◌, ◌≤◌, min, Bool, true, false, cond, not, List, [], ◌∷◌, ◌++◌, map, length, get_or, take, drop, replicate, nat_lt, slice_index, slice_index_or, Option, Some, None}
use Rattle.std.proofs.Math.Path.{refl, ap}
use Rattle.std.proofs.Common.{sym, ◌∙◌, ap₂, subst, add-zero, zero-add, length-append, length-take, length-drop, drop-drop, get_or-drop, get_or-take, take-take, take_all, lt-ltb, le-ltb, ltb-true, ltb-false}
use native.Mathlib.Omega.{arith}
use Rattle.std.proofs.Math.Decide.{dec_lt}
use Rattle.std.proofs.lemmas.List.{length-replicate, length-map}
use Rattle.std.proofs.Math.ListN.{get_or-append, get_or-eq_default}
use Rattle.std.proofs.Math.Seq.{drop-append-add, take-nil}
use Rattle.std.proofs.lemmas.Bool.{not-false, not-true}
use Rattle.codec.specs.TestLaws.{never, both, and_both}
use Rattle.engine.specs.Configure.{Covers}
use Rattle.engine.specs.Loops.{size_at, join, loops, elements}
use Rattle.engine.specs.Chunks.{passes, or_one, pass_stops, stops_in, stops, is_element, elements_among, held_in, nothing_at, with_elements, grouped, groups, left_after, next_group, chunk_of, stream_groups, chunk}
use Rattle.engine.specs.Members.{Each, each-one, each_append, get_d_past, get_d_map}
use Rattle.engine.specs.LoopLaws.{Within, loops-within, loops-found, loops-length, loops-drop}
use Rattle.engine.specs.ChunkLaws.{passes-join, groups-join, chunk-length, take-of-chunk, chunk-stops}
use Rattle.engine.specs.GroupLaws.{left_in_group}
use Rattle.engine.specs.BoundLaws.{Under, under-zero, loops-under, get_d_part, at_under}
use Rattle.engine.specs.declared.stream.Shape.{Shape}

-- ---- a pass

-- a pass has elements, and the stops are these; or it has none, and there is one stop, at index 0 of its dimensions
pub data PassView (size : ℕ → List ℕ → ℕ) (c : ℕ) (outer : List ℕ) : Type 0 where
  full : 1 ≤ length (loops size 0 c outer) → pass_stops size c outer ≡ loops size 0 c outer → PassView size c outer
  none : loops size 0 c outer ≡ [] → pass_stops size c outer ≡ (replicate c 0 ++ outer) ∷ [] → PassView size c outer

-- it is one or the other
pub pass-view : (size : ℕ → List ℕ → ℕ) (c : ℕ) (outer : List ℕ) → PassView size c outer
unfolding pass_stops
pass-view size c outer = go (loops size 0 c outer) refl
  where
    go : (l : List (List ℕ)) → loops size 0 c outer ≡ l → PassView size c outer
    go [] e = none e (ap (or_one (replicate c 0 ++ outer)) e)
    go (v ∷ l) e = full (subst (λ y. 1 ≤ length y) (sym e) (omega arith)) (ap (or_one (replicate c 0 ++ outer)) e ∙ sym e)

module _ (size : ℕ → List ℕ → ℕ) (c : ℕ) where
  -- zeros in front of the outer indices: they are the outer ones still
  zeros-drop : (outer : List ℕ) → drop c (replicate c 0 ++ outer) ≡ outer
  zeros-drop outer =
      let e : length (replicate {A = ℕ} c 0) + 0 ≡ c = omega (arith, length-replicate {A = ℕ} c 0) in
      ap (λ k. drop k (replicate c 0 ++ outer)) (sym e) ∙ drop-append-add (replicate c 0) outer 0

  -- how many there are
  zeros-length : (outer : List ℕ) → length (replicate {A = ℕ} c 0 ++ outer) ≡ c + length outer
  zeros-length outer = omega (arith, length-append (replicate {A = ℕ} c 0) outer, length-replicate {A = ℕ} c 0)

  -- a stream stops in every pass
  pub pass-some : (outer : List ℕ) → 1 ≤ length (pass_stops size c outer)
  pass-some outer = go (pass-view size c outer)
    where
      go : PassView size c outer → 1 ≤ length (pass_stops size c outer)
      go (full h e) = subst (λ l. 1 ≤ length l) (sym e) h
      go (none h e) = subst (λ l. 1 ≤ length l) (sym e) (omega arith)

  -- what holds of every element of a pass, and of its one stop if it has none, holds of every stop
  pub pass-each : (P : List ℕ → Type 0) (outer : List ℕ) → Each [] P (loops size 0 c outer) → P (replicate c 0 ++ outer) → Each [] P (pass_stops size c outer)
  pass-each P outer h p = go (pass-view size c outer)
    where
      go : PassView size c outer → Each [] P (pass_stops size c outer)
      go (full m e) = subst (Each [] P) (sym e) h
      go (none m e) = subst (Each [] P) (sym e) (each-one [] P (replicate c 0 ++ outer) p)

  -- the outer indices of a stop
  pub pass-drop : (outer : List ℕ) → Each [] (λ v. drop c v ≡ outer) (pass_stops size c outer)
  pass-drop outer = pass-each (λ v. drop c v ≡ outer) outer (loops-drop size 0 c outer) (zeros-drop outer)

  -- how many indices a stop has
  pub pass-length : (outer : List ℕ) → Each [] (λ v. length v ≡ c + length outer) (pass_stops size c outer)
  pass-length outer = pass-each (λ v. length v ≡ c + length outer) outer (loops-length size 0 c outer) (zeros-length outer)

-- ---- which stops are elements

-- each index, from dimension d on, is below its size
abbrev pub Below : (ℕ → List ℕ → ℕ) → ℕ → List ℕ → Type 0
Below size d v = (k : ℕ) → k < length v → slice_index v k < size (d + k) (drop (suc k) v)

-- one place further
next_place : (d k : ℕ) → d + suc k ≡ suc d + k
next_place d k = omega arith

-- then it is an element
pub element-all : (size : ℕ → List ℕ → ℕ) (d : ℕ) (v : List ℕ) → Below size d v → is_element size d v ≡ true
unfolding is_element
element-all size d [] h = refl
element-all size d (i ∷ outer) h =
    and_both (nat_lt i (size d outer)) (is_element size (suc d) outer)
    (lt-ltb i (size d outer) (subst (λ e. i < size e outer) (add-zero d) (h 0 (omega arith))))
    (element-all size (suc d) outer (λ k p. subst (λ e. slice_index outer k < size e (drop (suc k) outer)) (next_place d k) (h (suc k) (omega arith))))

-- and of an element it is so
pub element-below : (size : ℕ → List ℕ → ℕ) (d : ℕ) (v : List ℕ) → is_element size d v ≡ true → Below size d v
unfolding is_element
element-below size d [] e k h = absurd (omega arith)
element-below size d (i ∷ outer) e zero h =
    subst (λ j. i < size j outer) (sym (add-zero d)) (ltb-true i (size d outer) (both (nat_lt i (size d outer)) (is_element size (suc d) outer) e).0)
element-below size d (i ∷ outer) e (suc k) h =
    subst (λ j. slice_index outer k < size j (drop (suc k) outer)) (sym (next_place d k))
    (element-below size (suc d) outer (both (nat_lt i (size d outer)) (is_element size (suc d) outer) e).1 k (omega arith))

-- the front of a list all of whose members are so
each_take : {A : Type 0} (z : A) (P : A → Type 0) (n : ℕ) (l : List A) → Each z P l → Each z P (take n l)
each_take z P n l f j q =
    let m : length (take n l) ≡ min n (length l) = length-take n l in
    subst P (sym (get_or-take n l j z (omega arith))) (f j (omega arith))

module _ (size : ℕ → List ℕ → ℕ) where
  -- those among two lists
  pub among-append : (us vs : List (List ℕ)) → elements_among size (us ++ vs) ≡ elements_among size us ++ elements_among size vs
  unfolding elements_among
  among-append [] vs = refl
  among-append (u ∷ us) vs = go (is_element size 0 u) (among-append us vs)
    where
      go : (b : Bool) → elements_among size (us ++ vs) ≡ elements_among size us ++ elements_among size vs
          → cond b (u ∷ elements_among size (us ++ vs)) (elements_among size (us ++ vs))
          ≡ cond b (u ∷ elements_among size us) (elements_among size us) ++ elements_among size vs
      go true r = ap (λ l. u ∷ l) r
      go false r = r

  -- among lists joined
  pub among-join : (gs : List (List (List ℕ))) → elements_among size (join gs) ≡ join (map (elements_among size) gs)
  unfolding join elements_among
  among-join [] = refl
  among-join (g ∷ gs) = among-append g (join gs) ∙ ap (λ l. elements_among size g ++ l) (among-join gs)

  -- where all are elements, all
  pub among-all : (vs : List (List ℕ)) → Each [] (λ v. is_element size 0 v ≡ true) vs → elements_among size vs ≡ vs
  unfolding elements_among
  among-all [] h = refl
  among-all (v ∷ vs) h = rw (h 0 (omega arith)) (ap (λ l. v ∷ l) (among-all vs (λ k p. h (suc k) (omega arith))))

  -- not more than there are
  pub among-length : (vs : List (List ℕ)) → length (elements_among size vs) ≤ length vs
  unfolding elements_among
  among-length [] = omega arith
  among-length (v ∷ vs) = go (is_element size 0 v) (among-length vs)
    where
      go : (b : Bool) → length (elements_among size vs) ≤ length vs → length (cond b (v ∷ elements_among size vs) (elements_among size vs)) ≤ suc (length vs)
      go true r = omega arith
      go false r = omega arith

  -- where they are all, all are elements
  all_among : (vs : List (List ℕ)) → elements_among size vs ≡ vs → Each [] (λ v. is_element size 0 v ≡ true) vs
  unfolding elements_among
  all_among [] e = λ k p. absurd (omega arith)
  all_among (v ∷ vs) e = go (is_element size 0 v) refl e (all_among vs) (among-length vs)
    where
      tail : (b : Bool) → b ≡ true → Each [] (λ v. is_element size 0 v ≡ true) vs → is_element size 0 v ≡ b → Each [] (λ v. is_element size 0 v ≡ true) (v ∷ vs)
      tail b t r i zero p = i ∙ t
      tail b t r i (suc k) p = r k (omega arith)

      go : (b : Bool) → is_element size 0 v ≡ b → cond b (v ∷ elements_among size vs) (elements_among size vs) ≡ v ∷ vs
          → (elements_among size vs ≡ vs → Each [] (λ v. is_element size 0 v ≡ true) vs) → length (elements_among size vs) ≤ length vs
          → Each [] (λ v. is_element size 0 v ≡ true) (v ∷ vs)
      go true i f r l = tail true refl (r (ap (drop 1) f)) i
      go false i f r l = absurd (omega (arith, ap length f))

  -- of a list in which all are elements, its front
  pub among-front : (vs : List (List ℕ)) (n : ℕ) → elements_among size vs ≡ vs → elements_among size (take n vs) ≡ take n vs
  unfolding elements_among
  among-front vs n e = among-all (take n vs) (each_take [] (λ v. is_element size 0 v ≡ true) n vs (all_among vs e))

  -- one that is none
  pub among_none : (v : List ℕ) → is_element size 0 v ≡ false → elements_among size (v ∷ []) ≡ []
  unfolding elements_among
  among_none v e = rw e

  -- every element of the loops is one
  pub loops-elements : (D : ℕ) → Each [] (λ v. is_element size 0 v ≡ true) (loops size 0 D [])
  loops-elements D j h =
      let w = loops-within size 0 D [] j h in
      element-all size 0 _ (λ k p. w.below k (omega (arith, w.long)))

  -- indices that the loops of the dimensions from c on reach
  abbrev pub Reached : ℕ → List ℕ → Type 0
  Reached c outer = Below size c outer

  -- the loops outside reach them
  pub outer-reached : (c m : ℕ) → Each [] (Reached c) (loops size c m [])
  outer-reached c m j h = let w = loops-within size c m [] j h in λ k p. w.below k (omega (arith, w.long))

  -- indices of c dimensions below their sizes, inside such outer ones
  inner_below : (c : ℕ) (outer v : List ℕ) → Reached c outer → Within size 0 c outer v → Below size 0 v
  inner_below c outer v r w k h = go (dec_lt k c)
    where
      go : Dec (k < c) → slice_index v k < size (0 + k) (drop (suc k) v)
      go (yes p) = w.below k p
      go (no p) =
          let e : c + (k - c) ≡ k = omega arith in
          let f : c + suc (k - c) ≡ suc k = omega arith in
          let a : get_or outer (k - c) 0 ≡ get_or v k 0 = ap (λ l. slice_index l (k - c)) (sym w.outside) ∙ get_or-drop c v (k - c) 0 ∙ ap (λ j. slice_index v j) e in
          let b : drop (suc (k - c)) outer ≡ drop (suc k) v = ap (drop (suc (k - c))) (sym w.outside) ∙ drop-drop (suc (k - c)) c v ∙ ap (λ j. drop j v) f in
          subst (λ x. x < size (0 + k) (drop (suc k) v)) a
          (subst (λ l. slice_index outer (k - c) < size (0 + k) l) b
          (subst (λ j. slice_index outer (k - c) < size j (drop (suc (k - c)) outer)) (e ∙ sym (zero-add k)) (r (k - c) (omega (arith, w.long)))))

  -- the elements of a pass that the loops reach are elements
  pub pass-elements : (c : ℕ) (outer : List ℕ) → Reached c outer → Each [] (λ v. is_element size 0 v ≡ true) (loops size 0 c outer)
  pass-elements c outer r j h = element-all size 0 _ (inner_below c outer _ r (loops-within size 0 c outer j h))

  -- the one stop of a pass that holds none is no element
  pub pass-nothing : (c : ℕ) (outer : List ℕ) → loops size 0 c outer ≡ [] → is_element size 0 (replicate c 0 ++ outer) ≡ false
  pass-nothing c outer e = go (is_element size 0 v) refl
    where
      v : List ℕ
      v = replicate c 0 ++ outer

      inside : is_element size 0 v ≡ true → Within size 0 c outer v
      inside t = record {
        long = zeros-length size c outer;
        outside = zeros-drop size c outer;
        below = λ k h. element-below size 0 v t k (omega (arith, zeros-length size c outer));
      }

      go : (b : Bool) → is_element size 0 v ≡ b → b ≡ false
      go false t = refl
      go true t = let (j, h, m) = loops-found size 0 c outer v (inside t) in absurd (omega (arith, ap length e))

  -- the elements among the stops of a pass are its elements
  pub among-pass : (c : ℕ) (outer : List ℕ) → Reached c outer → elements_among size (pass_stops size c outer) ≡ loops size 0 c outer
  among-pass c outer r = go (pass-view size c outer)
    where
      go : PassView size c outer → elements_among size (pass_stops size c outer) ≡ loops size 0 c outer
      go (full h e) = ap (elements_among size) e ∙ among-all (loops size 0 c outer) (pass-elements c outer r)
      go (none h e) = ap (elements_among size) e ∙ among_none (replicate c 0 ++ outer) (pass-nothing c outer h) ∙ sym h

  -- pass by pass
  pub among-passes : (c : ℕ) (os : List (List ℕ)) → Each [] (Reached c) os → map (elements_among size) (map (pass_stops size c) os) ≡ map (loops size 0 c) os
  among-passes c [] h = refl
  among-passes c (o ∷ os) h = ap₂ ◌∷◌ (among-pass c o (h 0 (omega arith))) (among-passes c os (λ k p. h (suc k) (omega arith)))

-- uncoupled, the stops are the elements
pub stops-uncoupled : (s : Shape) → s.coupling ≡ None → stops s ≡ elements s
unfolding stops_in elements
stops-uncoupled s e = ap (stops_in (size_at s) s.dims) e

-- the elements among the stops are the elements, in order
pub stops_in-elements : (size : ℕ → List ℕ → ℕ) (D : ℕ) (k : Option ℕ) → Covers D k → elements_among size (stops_in size D k) ≡ loops size 0 D []
unfolding stops_in passes
stops_in-elements size D None h = among-all size (loops size 0 D []) (loops-elements size D)
stops_in-elements size D (Some c) h =
    among-join size (map (pass_stops size c) (loops size c (D - c) []))
    ∙ ap join (among-passes size c (loops size c (D - c) []) (outer-reached size c (D - c)))
    ∙ passes-join size c D h

-- those of a stream
pub stops-elements : (s : Shape) → Covers s.dims s.coupling → held_in s (stops s) ≡ elements s
unfolding elements
stops-elements s h = stops_in-elements (size_at s) s.dims s.coupling h

-- ---- every stop

-- every member of lists joined
pub each-join : {A K : Type 0} (a : A) (b : K) (f : K → List A) (P : A → Type 0) (os : List K) → Each b (λ o. Each a P (f o)) os → Each a P (join (map f os))
unfolding join
each-join a b f P [] h = λ j p. absurd (omega arith)
each-join a b f P (o ∷ os) h = each_append a P (f o) (join (map f os)) (h 0 (omega arith)) (each-join a b f P os (λ k p. h (suc k) (omega arith)))

-- a stop has an index for each dimension
pub stops_in-length : (size : ℕ → List ℕ → ℕ) (D : ℕ) (k : Option ℕ) → Covers D k → Each [] (λ v. length v ≡ D) (stops_in size D k)
unfolding stops_in
stops_in-length size D None h = λ j p. loops-length size 0 D [] j p ∙ add-zero D
stops_in-length size D (Some c) h =
    each-join [] [] (pass_stops size c) (λ v. length v ≡ D) (loops size c (D - c) [])
    (λ j p i q. omega (arith, pass-length size c (slice_index_or (loops size c (D - c) []) j []) i q, loops-length size c (D - c) [] j p))

-- one of a stream
pub stop-length : (s : Shape) → Covers s.dims s.coupling → Each [] (λ v. length v ≡ s.dims) (stops s)
stop-length s h = stops_in-length (size_at s) s.dims s.coupling h

-- stops are equally long
pub stop-even : (s : Shape) → Covers s.dims s.coupling → (j k : ℕ) → j < length (stops s) → k < length (stops s)
    → length (slice_index_or (stops s) j []) ≡ length (slice_index_or (stops s) k [])
stop-even s h j k p q = stop-length s h j p ∙ sym (stop-length s h k q)

-- zeros in front pass no last index
pub under-zeros : (s : Shape) (d c : ℕ) (outer : List ℕ) → d + c ≤ s.dims → Under s (d + c) outer → Under s d (replicate c 0 ++ outer)
under-zeros s d zero outer h u = subst (λ e. Under s e outer) (add-zero d) u
under-zeros s d (suc c) outer h u =
    under-zero s d (omega arith) (replicate c 0 ++ outer) (under-zeros s (suc d) c outer (omega arith) (subst (λ e. Under s e outer) (next_place d c) u))

-- no index of a stop passes the last one by its high
pub each-under : (s : Shape) (k : Option ℕ) → Covers s.dims k → Each [] (Under s 0) (stops_in (size_at s) s.dims k)
unfolding stops_in elements
each-under s None h = λ j p. at_under s j
each-under s (Some c) h =
    each-join [] [] (pass_stops (size_at s) c) (Under s 0) (loops (size_at s) c (s.dims - c) [])
    (λ j p.
    let o : List ℕ = get_or (loops (size_at s) c (s.dims - c) []) j [] in
    let e : c + (s.dims - c) ≡ s.dims = omega arith in
    let u : Under s c o = loops-under s c (s.dims - c) [] (omega arith) (λ k. omega arith) o (get_d_part (loops (size_at s) c (s.dims - c) []) j [] p) in
    pass-each (size_at s) c (Under s 0) o (λ i q. loops-under s 0 c o (omega arith) (subst (λ n. Under s n o) (sym (zero-add c)) u) _ (get_d_part (loops (size_at s) 0 c o) i [] q))
    (under-zeros s 0 c o (omega arith) (subst (λ n. Under s n o) (sym (zero-add c)) u)))

-- nor of one at a place; past the end there is none
pub stop-under : (s : Shape) → Covers s.dims s.coupling → (k : ℕ) → Under s 0 (slice_index_or (stops s) k [])
stop-under s h k = go (nat_lt k (length (stops s))) refl
  where
    go : (t : Bool) → nat_lt k (length (stops s)) ≡ t → Under s 0 (slice_index_or (stops s) k [])
    go true p = each-under s s.coupling h k (ltb-true k (length (stops s)) p)
    go false p = subst (λ v. Under s 0 v) (sym (get_or-eq_default (stops s) [] (ltb-false k (length (stops s)) p))) (λ j. omega arith)

-- ---- chunks

-- a group all of whose stops are elements, or of one stop that is none
pub data OneKind {A : Type 0} (z : A) (is : A → Bool) (g : List A) : Type 0 where
  all : Each z (λ x. is x ≡ true) g → OneKind z is g
  one : (x : A) → g ≡ x ∷ [] → is x ≡ false → OneKind z is g

-- what is left of a list all of whose members are so
each-drop : {A : Type 0} (z : A) (P : A → Type 0) (n : ℕ) (l : List A) → Each z P l → Each z P (drop n l)
each-drop z P n l h j p = subst P (sym (get_or-drop n l j z)) (h (n + j) (omega (arith, length-drop n l)))

-- of groups of one kind each: what is left of the group that position n stands in has only elements, if one stands there, or is the one
-- stop that is none
pub left-kind : {A : Type 0} (z : A) (is : A → Bool) (gs : List (List A)) → Each [] (OneKind z is) gs → (n : ℕ) → n < length (join gs)
    → (is (slice_index_or (join gs) n z) ≡ true → Each z (λ x. is x ≡ true) (next_group (left_after n gs)))
    × (is (slice_index_or (join gs) n z) ≡ false → next_group (left_after n gs) ≡ slice_index_or (join gs) n z ∷ [])
unfolding join left_after
left-kind z is [] k n h = absurd (omega arith)
left-kind z is (g ∷ gs) k n h = go (dec_lt n (length g)) (k 0 (omega arith)) (left-kind z is gs (λ j p. k (suc j) (omega arith)) (n - length g))
  where
    here : n < length g → slice_index_or (g ++ join gs) n z ≡ slice_index_or g n z
    here p = get_or-append g (join gs) z n p

    go : Dec (n < length g) → OneKind z is g
        → (n - length g < length (join gs)
        → (is (slice_index_or (join gs) (n - length g) z) ≡ true → Each z (λ x. is x ≡ true) (next_group (left_after (n - length g) gs)))
        × (is (slice_index_or (join gs) (n - length g) z) ≡ false → next_group (left_after (n - length g) gs) ≡ slice_index_or (join gs) (n - length g) z ∷ []))
        → (is (slice_index_or (g ++ join gs) n z) ≡ true → Each z (λ x. is x ≡ true) (next_group (left_after n (g ∷ gs))))
        × (is (slice_index_or (g ++ join gs) n z) ≡ false → next_group (left_after n (g ∷ gs)) ≡ slice_index_or (g ++ join gs) n z ∷ [])
    go (yes p) (all e) r =
        rw (here p, lt-ltb n (length g) p) (λ t. each-drop z (λ x. is x ≡ true) n g e, λ t. never (sym t ∙ e n p))
    go (yes p) (one x e f) r =
        let o : n ≡ 0 = omega (arith, ap length e) in
        let w : get_or g n z ≡ x = ap (λ j. get_or g j z) o ∙ ap (λ l. get_or l 0 z) e in
        let d : drop n g ≡ x ∷ [] = ap (λ j. drop j g) o ∙ e in
        rw (here p, lt-ltb n (length g) p) (λ t. never (sym f ∙ ap is (sym w) ∙ t), λ t. d ∙ ap (λ y. y ∷ []) (sym w))
    go (no p) q r =
        let m = r (omega (arith, length-append g (join gs))) in
        rw (get_d_past z g (join gs) n (omega arith), le-ltb n (length g) (omega arith)) m

-- the groups of a stream are of one kind each
pub groups-kind : (size : ℕ → List ℕ → ℕ) (D : ℕ) (k : Option ℕ) → Each [] (OneKind [] (is_element size 0)) (grouped size D k)
groups-kind size D None = each-one [] (OneKind [] (is_element size 0)) (loops size 0 D []) (all (loops-elements size D))
groups-kind size D (Some c) = λ j h.
    let os : List (List ℕ) = loops size c (D - c) [] in
    let p : j < length os = omega (arith, length-map os (pass_stops size c)) in
    subst (OneKind [] (is_element size 0)) (sym (get_d_map (pass_stops size c) os j [] [] p)) (go (slice_index_or os j []) (outer-reached size c (D - c) j p) (pass-view size c (slice_index_or os j [])))
  where
    go : (o : List ℕ) → Reached size c o → PassView size c o → OneKind [] (is_element size 0) (pass_stops size c o)
    go o r (full m e) = all (subst (Each [] (λ v. is_element size 0 v ≡ true)) (sym e) (pass-elements size c o r))
    go o r (none m e) = one (replicate c 0 ++ o) e (pass-nothing size c o m)

-- groups that are not empty are so too
with-kind : {A : Type 0} (z : A) (is : A → Bool) (gs : List (List A)) → Each [] (OneKind z is) gs → Each [] (OneKind z is) (with_elements gs)
unfolding with_elements
with-kind z is [] h = h
with-kind z is ([] ∷ gs) h = with-kind z is gs (λ j p. h (suc j) (omega arith))
with-kind z is ((x ∷ g) ∷ gs) h = both-kinds (h 0 (omega arith)) (with-kind z is gs (λ j p. h (suc j) (omega arith)))
  where
    both-kinds : OneKind z is (x ∷ g) → Each [] (OneKind z is) (with_elements gs) → Each [] (OneKind z is) ((x ∷ g) ∷ with_elements gs)
    both-kinds k r zero p = k
    both-kinds k r (suc j) p = r j (omega arith)

-- the next chunk of a stream: at an element all its stops are elements; else it is the one stop there
pub chunk-kind : (s : Shape) (lanes n : ℕ) → 1 ≤ lanes → n < length (stops s)
    → (nothing_at s n ≡ false → Each [] (λ v. is_element (size_at s) 0 v ≡ true) (chunk s lanes n))
    × (nothing_at s n ≡ true → chunk s lanes n ≡ slice_index_or (stops s) n [] ∷ [])
unfolding nothing_at chunk_of groups
chunk-kind s lanes n p h =
    let is : List ℕ → Bool = is_element (size_at s) 0 in
    let e : join (stream_groups s) ≡ stops s = groups-join (size_at s) s.dims s.coupling in
    let k = left-kind [] is (stream_groups s) (with-kind [] is (grouped (size_at s) s.dims s.coupling) (groups-kind (size_at s) s.dims s.coupling)) n (subst (λ l. n < length l) (sym e) h) in
    let g : List (List ℕ) = next_group (left_after n (stream_groups s)) in (
      λ t. each_take [] (λ v. is v ≡ true) lanes g (k.0 (ap (λ l. is (slice_index_or l n [])) e ∙ not-false (is (slice_index_or (stops s) n [])) t)),
      λ t.
          ap (take lanes) (k.1 (ap (λ l. is (slice_index_or l n [])) e ∙ not-true (is (slice_index_or (stops s) n [])) t))
          ∙ take_all lanes (slice_index_or (join (stream_groups s)) n [] ∷ []) p
          ∙ ap (λ l. slice_index_or l n [] ∷ []) e,
    )

-- so its elements are all its stops, at an element; else there is none
pub chunk-held : (s : Shape) (lanes n : ℕ) → 1 ≤ lanes → n < length (stops s)
    → (nothing_at s n ≡ false → held_in s (chunk s lanes n) ≡ chunk s lanes n) × (nothing_at s n ≡ true → held_in s (chunk s lanes n) ≡ [])
unfolding nothing_at
chunk-held s lanes n p h =
    let k = chunk-kind s lanes n p h in (
      λ t. among-all (size_at s) (chunk s lanes n) (k.0 t),
      λ t. ap (held_in s) (k.1 t) ∙ among_none (size_at s) (slice_index_or (stops s) n []) (not-true (is_element (size_at s) 0 (slice_index_or (stops s) n [])) t),
    )

-- what holds of every stop of a stream holds of every stop of a chunk
pub chunk-each : (s : Shape) (lanes n : ℕ) (P : List ℕ → Type 0) → Each [] P (stops s) → Each [] P (chunk s lanes n)
chunk-each s lanes n P h =
    subst (Each [] P) (sym (chunk-stops s lanes n)) (each_take [] P (length (chunk s lanes n)) (drop n (stops s)) (each-drop [] P n (stops s) h))

-- what is left of the group that a position stands in is of one kind
left_one : {A : Type 0} (z : A) (is : A → Bool) (gs : List (List A)) → Each [] (OneKind z is) gs → (n : ℕ) → OneKind z is (next_group (left_after n gs))
unfolding left_after
left_one z is [] k n = all (λ j p. absurd (omega arith))
left_one z is (g ∷ gs) k n = go (dec_lt n (length g)) (k 0 (omega arith)) (left_one z is gs (λ j p. k (suc j) (omega arith)) (n - length g))
  where
    go : Dec (n < length g) → OneKind z is g → OneKind z is (next_group (left_after (n - length g) gs)) → OneKind z is (next_group (left_after n (g ∷ gs)))
    go (yes p) (all e) r = rw (lt-ltb n (length g) p) (all (each-drop z (λ x. is x ≡ true) n g e))
    go (yes p) (one x e f) r =
        let o : n ≡ 0 = omega (arith, ap length e) in
        rw (lt-ltb n (length g) p) (one x (ap (λ j. drop j g) o ∙ e) f)
    go (no p) q r = rw (le-ltb n (length g) (omega arith)) r

-- of such a group: the first n of its elements are those among its first n stops
front-held : (size : ℕ → List ℕ → ℕ) (g : List (List ℕ)) (lanes n : ℕ) → OneKind [] (is_element size 0) g → n ≤ lanes
    → take n (elements_among size (take lanes g)) ≡ elements_among size (take n g)
unfolding elements_among
front-held size g lanes n (all e) h =
    ap (take n) (among-all size (take lanes g) (each_take [] (λ v. is_element size 0 v ≡ true) lanes g e))
    ∙ take-take n lanes g h
    ∙ sym (among-all size (take n g) (each_take [] (λ v. is_element size 0 v ≡ true) n g e))
front-held size g lanes n (one x e f) h = ap (take n) (nothing lanes) ∙ take-nil n ∙ sym (nothing n)
  where
    nothing : (k : ℕ) → elements_among size (take k g) ≡ []
    nothing zero = refl
    nothing (suc k) = ap (λ l. elements_among size (take (suc k) l)) e ∙ ap (elements_among size) (take_all (suc k) (x ∷ []) (omega arith)) ∙ among_none size x f

-- the first n elements of a chunk are those of the chunk of n lanes
pub held-front : (s : Shape) (lanes n k : ℕ) → n ≤ lanes → take n (held_in s (chunk s lanes k)) ≡ held_in s (chunk s n k)
unfolding chunk_of groups
held-front s lanes n k h =
    front-held (size_at s) (next_group (left_after k (stream_groups s))) lanes n
    (left_one [] (is_element (size_at s) 0) (stream_groups s)
    (with-kind [] (is_element (size_at s) 0) (grouped (size_at s) s.dims s.coupling) (groups-kind (size_at s) s.dims s.coupling)) k)
    h

-- at an element the elements of a chunk are its stops, however many lanes there are
pub chunk-full : (s : Shape) (lanes n : ℕ) → n < length (stops s) → nothing_at s n ≡ false → held_in s (chunk s lanes n) ≡ chunk s lanes n
chunk-full s lanes n h t =
    sym (held-front s (suc lanes) lanes n (omega arith))
    ∙ ap (take lanes) ((chunk-held s (suc lanes) n (omega arith) h).0 t)
    ∙ take-of-chunk (stream_groups s) (suc lanes) n lanes (omega arith)

-- at a coupled pass that holds none they are none
pub chunk-none : (s : Shape) (lanes n : ℕ) → n < length (stops s) → nothing_at s n ≡ true → held_in s (chunk s lanes n) ≡ []
chunk-none s lanes n h t =
    sym (held-front s (suc lanes) lanes n (omega arith)) ∙ ap (take lanes) ((chunk-held s (suc lanes) n (omega arith) h).1 t) ∙ take-nil lanes

-- where more than one stop is left of a group, and an element stands there, the next one is an element
pub next-held : (s : Shape) (n : ℕ) → n < length (stops s) → nothing_at s n ≡ false → 1 < left_in_group (stream_groups s) n → nothing_at s (suc n) ≡ false
unfolding nothing_at
next-held s n h t l =
    let c : List (List ℕ) = chunk s 2 n in
    let two : length c ≡ 2 = omega (arith, chunk-length (stream_groups s) 2 n) in
    let e : get_or c 1 [] ≡ get_or (stops s) (suc n) [] =
    ap (λ v. get_or v 1 []) (chunk-stops s 2 n) ∙ get_or-take (length c) (drop n (stops s)) 1 [] (omega arith) ∙ get_or-drop n (stops s) 1 [] ∙ ap (λ k. get_or (stops s) k []) (omega arith) in
    ap (λ v. not (is_element (size_at s) 0 v)) (sym e) ∙ ap not ((chunk-kind s 2 n (omega arith) h).0 t 1 (omega arith))
