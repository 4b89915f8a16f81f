-- The walk over a stream's stops: a stop is kept as seven indices, zeros behind, and from any of them the search finds the next.
--
--   Part, part                   a place of lists joined: in which list it is, and where in it
--   pass-start                   where all elements of a pass are to come
--   passes-next                  where the passes after one are to come
--   Passing, passing             a stream coupled to dimension c, and that an accepted one is
--   stops-start, passes-start, one-pass   where all stops are to come
--   AtPass, at-pass              a stop by its pass
--   stops-after                  what comes after a stop: the others of its pass, then the later passes
--   nothing-bare                 a stop is no element exactly if its pass holds none
--   nothing-uncoupled            uncoupled, every stop is an element
--   index-stop, index-within, here-under, here-small   a stop's seven indices are under the highs, and so below 4,096
use Rattle.std.specs.Prelude.{◌≡◌, ℕ, suc, ◌+◌, ◌-◌, ◌<◌, ◌≤◌, Bool, true, false, cond, not, List, [], ◌∷◌, ◌++◌, map, length, get_or, drop, replicate, nat_le, slice_index, slice_index_or, slice_set, Some, None}
use Rattle.std.proofs.Math.Path.{refl, sym, ap, ap₂, subst}
use Rattle.std.proofs.Common.{◌∙◌, length-append, drop_at, lt-ltb, le-ltb, leb-true}
use mathlib.Core.List.{map-append, append_assoc}
use native.Mathlib.Omega.{arith}
use Rattle.std.proofs.Math.Decide.{dec_lt}
use Rattle.std.proofs.Math.ListN.{length-replicate, length-map, get_or-append}
use Rattle.std.proofs.lemmas.List.{drop-append-le}
use Rattle.std.proofs.Math.Seq.{drop-append-add}
use Rattle.codec.specs.TestLaws.{both}
use Rattle.codec.specs.Headers.{coupling_in_range}
use Rattle.engine.specs.Loops.{size_at, join, loops, elements}
use Rattle.engine.specs.Chunks.{or_one, pass_stops, stops_in, stops, is_element, nothing_at}
use Rattle.engine.specs.Configure.{Covers}
use Rattle.engine.specs.ChunkLaws.{covered}
use Rattle.engine.specs.Members.{get_d_past, get_d_map}
use Rattle.engine.specs.Registers.{index_of}
use Rattle.engine.specs.Good.{Accepted}
use Rattle.engine.specs.BoundLaws.{Under, under-small}
use Rattle.engine.specs.Walk.{at, after, is_none, bare, passes_after, Stop}
use Rattle.engine.specs.WalkLaws.{From, member, start, at_after, drop-replicate, loops-padded, get_d-zeros, size-pad, index-pad}
use Rattle.engine.specs.IndexLaws.{map_same, drop-map, tail_of, index-get_d}
use Rattle.engine.specs.StopLaws.{PassView, full, none, pass-view, pass-drop, Reached, outer-reached, pass-elements, pass-nothing, loops-elements, stops-uncoupled, stop-length, stop-under}
use Rattle.engine.specs.declared.stream.Shape.{Shape}

-- ---- lists joined

-- a place of lists joined: in which list it is, where in it, and what comes after it
pub record Part {A B : Type 0} (f : A → List B) (l : List A) (a : A) (b : B) (k : ℕ) : Type 0 where
  pub list : ℕ
  pub place : ℕ
  pub among : list < length l
  pub inside : place < length (f (slice_index_or l list a))
  pub here : get_or (join (map f l)) k b ≡ slice_index_or (f (slice_index_or l list a)) place b
  pub later : drop (suc k) (join (map f l)) ≡ drop (suc place) (f (slice_index_or l list a)) ++ join (map f (drop (suc list) l))

pub part : {A B : Type 0} (f : A → List B) (l : List A) (a : A) (b : B) (k : ℕ) → k < length (join (map f l)) → Part f l a b k
unfolding join
part f [] a b k h = absurd (omega arith)
part f (x ∷ l) a b k h = go (dec_lt k (length (f x))) (part f l a b (k - length (f x)))
  where
    go : Dec (k < length (f x)) → (k - length (f x) < length (join (map f l)) → Part f l a b (k - length (f x))) → Part f (x ∷ l) a b k
    go (yes q) ih = record {
      list = 0;
      place = k;
      among = omega arith;
      inside = q;
      here = get_or-append (f x) (join (map f l)) b k q;
      later = drop-append-le (suc k) (f x) (join (map f l)) q;
    }
    go (no q) ih =
        let p = ih (omega (arith, length-append (f x) (join (map f l)))) in
        let e : suc k ≡ length (f x) + suc (k - length (f x)) = omega arith in
        record {
          list = suc p.list;
          place = p.place;
          among = omega (arith, p.among);
          inside = p.inside;
          here = get_d_past b (f x) (join (map f l)) k (omega arith) ∙ p.here;
          later = ap (λ j. drop j (f x ++ join (map f l))) e ∙ drop-append-add (f x) (join (map f l)) (suc (k - length (f x))) ∙ p.later;
        }

-- ---- zeros behind

-- the images of a list, or of x alone if it is empty
map-or-one : {A B : Type 0} (f : A → B) (x : A) (l : List A) → map f (or_one x l) ≡ or_one (f x) (map f l)
map-or-one f x [] = refl
map-or-one f x (y ∷ l) = refl

-- a list has nothing in it if the images have not
none-map : {A B : Type 0} (f : A → B) (l : List A) → is_none (map f l) ≡ is_none l
none-map f [] = refl
none-map f (x ∷ l) = refl

module _ (size : ℕ → List ℕ → ℕ) (z : List ℕ) (h : (d : ℕ) (outer : List ℕ) → size d (outer ++ z) ≡ size d outer) (c : ℕ) where
  -- they change no stop of a pass
  pass-padded : (o : List ℕ) → map (λ v. v ++ z) (pass_stops size c o) ≡ pass_stops size c (o ++ z)
  unfolding pass_stops
  pass-padded o =
      map-or-one (λ v. v ++ z) (replicate c 0 ++ o) (loops size 0 c o)
      ∙ ap₂ or_one (append_assoc (replicate c 0) o z) (loops-padded size z h 0 c o)

  -- nor whether it has elements
  bare-padded : (o : List ℕ) → bare size c (o ++ z) ≡ bare size c o
  bare-padded o = ap is_none (sym (loops-padded size z h 0 c o)) ∙ none-map (λ v. v ++ z) (loops size 0 c o)

  -- pass by pass
  passes-padded : (os : List (List ℕ)) → map (λ v. v ++ z) (join (map (pass_stops size c) os)) ≡ join (map (pass_stops size c) (map (λ v. v ++ z) os))
  unfolding join
  passes-padded [] = refl
  passes-padded (o ∷ os) =
      map-append (λ v. v ++ z) (pass_stops size c o) (join (map (pass_stops size c) os)) ∙ ap₂ ◌++◌ (pass-padded o) (passes-padded os)

-- ---- a pass

-- a list with something in it
some_in : {A : Type 0} (l : List A) → 1 ≤ length l → is_none l ≡ false
some_in [] h = absurd (omega arith)
some_in (x ∷ l) h = refl

module _ (size : ℕ → List ℕ → ℕ) (c : ℕ) (outer : List ℕ) where
  -- what comes after a stop in its pass: where it has elements, what the walk finds; else nothing
  pass-after : 1 ≤ c → c ≤ 7 → length outer ≡ 7 - c → (i : ℕ) → i < length (pass_stops size c outer)
      → drop (suc i) (pass_stops size c outer) ≡ cond (bare size c outer) [] (after size 0 c (slice_index_or (pass_stops size c outer) i []))
  pass-after p q l i h = go (pass-view size c outer)
    where
      vs : List (List ℕ)
      vs = pass_stops size c outer

      go : PassView size c outer → drop (suc i) vs ≡ cond (bare size c outer) [] (after size 0 c (slice_index_or vs i []))
      go (full m e) =
          let o : c - 0 ≡ c = omega arith in
          let g : vs ≡ loops size 0 (c - 0) outer = e ∙ ap (λ n. loops size 0 n outer) (sym o) in
          let f : From size 0 c vs i = subst (λ y. From size 0 c y i) (sym g) (member size 0 c outer p q l i (subst (λ y. i < length y) g h)) in
          rw (some_in (loops size 0 c outer) m) (tail_of i vs _ _ f.from)
      go (none m e) =
          let o : i ≡ 0 = omega (arith, ap length e) in
          rw m (ap (λ j. drop (suc j) vs) o ∙ ap (drop 1) e)

  -- where its outermost dimension is about to run index 0, all its elements are to come
  pub pass-start : 1 ≤ c → (v : List ℕ) → v ≡ replicate c 0 ++ outer → loops size 0 c outer ≡ at size 0 c (c - 1) v
  pass-start p v e =
      let o : c ≡ c - 0 = omega arith in
      let l : length (replicate {A = ℕ} c 0) ≡ c = length-replicate {A = ℕ} c 0 in
      let z : get_or v (c - 1) 0 ≡ 0 = ap (λ u. slice_index u (c - 1)) e ∙ get_or-append (replicate c 0) outer 0 (c - 1) (omega arith) ∙ get_d-zeros c (c - 1) in
      ap₂ (loops size 0) o (sym (ap (drop c) e ∙ drop_at (replicate c 0) outer c l)) ∙ start size 0 c v p z

  -- a stop of a pass that the loops reach is an element exactly if the pass has elements
  pass-told : Reached size c outer → (i : ℕ) → i < length (pass_stops size c outer) → not (is_element size 0 (slice_index_or (pass_stops size c outer) i [])) ≡ bare size c outer
  pass-told r i h = go (pass-view size c outer)
    where
      go : PassView size c outer → not (is_element size 0 (slice_index_or (pass_stops size c outer) i [])) ≡ bare size c outer
      go (full m e) =
          rw (some_in (loops size 0 c outer) m)
          (ap (λ l. not (is_element size 0 (slice_index_or l i []))) e ∙ ap not (pass-elements size c outer r i (subst (λ l. i < length l) e h)))
      go (none m e) =
          let o : i ≡ 0 = omega (arith, ap length e) in
          rw m (ap (λ j. not (is_element size 0 (slice_index_or (pass_stops size c outer) j []))) o ∙ ap (λ l. not (is_element size 0 (slice_index_or l 0 []))) e ∙ ap not (pass-nothing size c outer m))

-- ---- the passes of a stream

-- the passes after one are to come where the dimension outside is about to run its next index
pub passes-next : (size : ℕ → List ℕ → ℕ) (c n : ℕ) (v : List ℕ) → c < n → c < length v → passes_after size c n (drop c v) ≡ at size c n c (slice_set v c (slice_index v c + 1))
passes-next size c n v p h = rw (lt-ltb c n p) (sym (at_after size c n v h))

-- a stream coupled to dimension c, one of its dimensions, counted from 1
pub record Passing (s : Shape) (c : ℕ) : Type 0 where
  pub coupled : s.coupling ≡ Some c
  pub some : 1 ≤ c
  pub within : c ≤ s.dims
  pub most : s.dims ≤ 7

-- an accepted one is
pub passing : (s : Shape) → Accepted s → (c : ℕ) → s.coupling ≡ Some c → Passing s c
passing s a c e = record {
  coupled = e;
  some = leb-true 1 c (both (nat_le 1 c) (nat_le c 7) (subst (λ k. coupling_in_range k ≡ true) e a.coupled)).0;
  within = covered s (Some c) (subst (λ k. Rattle.engine.specs.Configure.uncovered s k ≡ false) e a.covered);
  most = a.ranged.dims;
}

-- the seven indices of every stop
seven : (s : Shape) → Covers s.dims s.coupling → s.dims ≤ 7 → map (λ v. v ++ replicate (7 - s.dims) 0) (stops s) ≡ map index_of (stops s)
seven s c h =
    map_same (λ v. v ++ replicate (7 - s.dims) 0) index_of (stops s) []
    (λ k q. sym (index-pad (slice_index_or (stops s) k []) s.dims (stop-length s c k q) h))

-- a stop by its pass: the outer indices of the pass, where in it the stop is, and what comes after it
pub record AtPass (s : Shape) (c k : ℕ) : Type 0 where
  pub outer : List ℕ
  pub place : ℕ
  pub reached : Reached (size_at s) c outer
  pub inside : place < length (pass_stops (size_at s) c outer)
  pub stop : get_or (stops s) k [] ≡ slice_index_or (pass_stops (size_at s) c outer) place []
  pub index : index_of (slice_index_or (stops s) k []) ≡ slice_index_or (pass_stops (size_at s) c (outer ++ replicate (7 - s.dims) 0)) place []
  pub behind : drop c (index_of (slice_index_or (stops s) k [])) ≡ outer ++ replicate (7 - s.dims) 0
  pub long : length (outer ++ replicate (7 - s.dims) 0) ≡ 7 - c
  pub later : map index_of (drop (suc k) (stops s))
      ≡ drop (suc place) (pass_stops (size_at s) c (outer ++ replicate (7 - s.dims) 0))
      ++ join (map (pass_stops (size_at s) c) (passes_after (size_at s) c s.dims (outer ++ replicate (7 - s.dims) 0)))

module _ (s : Shape) (c : ℕ) (p : Passing s c) where
  size : ℕ → List ℕ → ℕ
  size = size_at s

  -- the zeros behind
  zeros : List ℕ
  zeros = replicate (7 - s.dims) 0

  -- the outer indices of the passes
  outers : List (List ℕ)
  outers = loops size c (s.dims - c) []

  cover : Covers s.dims s.coupling
  cover = subst (Covers s.dims) (sym p.coupled) p.within

  joined : stops s ≡ join (map (pass_stops size c) outers)
  unfolding stops_in size outers
  joined = ap (stops_in size s.dims) p.coupled

  outers-padded : map (λ v. v ++ zeros) outers ≡ loops size c (s.dims - c) zeros
  unfolding size zeros outers
  outers-padded = loops-padded size zeros (size-pad s (7 - s.dims)) c (s.dims - c) []

  -- all stops are to come where all passes are
  pub stops-start : map index_of (stops s) ≡ join (map (pass_stops (size_at s) c) (loops (size_at s) c (s.dims - c) (replicate (7 - s.dims) 0)))
  unfolding size zeros outers
  stops-start =
      sym (seven s cover p.most)
      ∙ ap (map (λ v. v ++ zeros)) joined
      ∙ passes-padded size zeros (size-pad s (7 - s.dims)) c outers
      ∙ ap (λ l. join (map (pass_stops size c) l)) outers-padded

  -- these are to come where the outermost dimension is about to run index 0
  pub passes-start : c < s.dims → loops (size_at s) c (s.dims - c) (replicate (7 - s.dims) 0) ≡ at (size_at s) c s.dims (s.dims - 1) (replicate 7 0)
  passes-start h =
      ap (loops (size_at s) c (s.dims - c)) (sym (drop-replicate 0 s.dims 7))
      ∙ start (size_at s) c s.dims (replicate 7 0) h (get_d-zeros 7 (s.dims - 1))

  -- coupled to the outermost dimension a stream has one pass
  pub one-pass : s.dims ≤ c → loops (size_at s) c (s.dims - c) (replicate (7 - s.dims) 0) ≡ drop c (replicate 7 0) ∷ []
  unfolding loops
  one-pass h =
      let e : s.dims - c ≡ 0 = omega arith in
      let f : s.dims ≡ c = omega (arith, p.within) in
      ap (λ n. loops (size_at s) c n (replicate (7 - s.dims) 0)) e ∙ ap (λ n. replicate (7 - n) 0 ∷ []) f ∙ ap (λ l. l ∷ []) (sym (drop-replicate 0 c 7))

  -- a pass and those after it
  pass-from : (j : ℕ) → j < length outers
      → (length (slice_index_or outers j [] ++ zeros) ≡ 7 - c) × (map (λ v. v ++ zeros) (drop (suc j) outers) ≡ passes_after size c s.dims (slice_index_or outers j [] ++ zeros))
  unfolding size zeros outers loops
  pass-from j h = go (dec_lt c s.dims)
    where
      go : Dec (c < s.dims)
          → (length (slice_index_or outers j [] ++ zeros) ≡ 7 - c) × (map (λ v. v ++ zeros) (drop (suc j) outers) ≡ passes_after size c s.dims (slice_index_or outers j [] ++ zeros))
      go (yes q) =
          let vs : List (List ℕ) = map (λ v. v ++ zeros) outers in
          let m : length vs ≡ length outers = length-map outers (λ v. v ++ zeros) in
          let f : From size c s.dims vs j =
          subst (λ l. From size c s.dims l j) (sym outers-padded) (member size c s.dims zeros q p.most (length-replicate (7 - s.dims) 0) j (omega (arith, ap length outers-padded))) in
          let g : get_or vs j [] ≡ slice_index_or outers j [] ++ zeros = get_d_map (λ v. v ++ zeros) outers j [] [] h in (
            sym (ap length g) ∙ f.long,
            rw (lt-ltb c s.dims q) (sym (drop-map (λ v. v ++ zeros) (suc j) outers) ∙ tail_of j vs _ _ f.from ∙ ap (after size c s.dims) g),
          )
      go (no q) =
          let e : s.dims - c ≡ 0 = omega arith in
          let f : s.dims ≡ c = omega (arith, p.within) in
          let o : outers ≡ [] ∷ [] = ap (λ n. loops size c n []) e in
          let i : j ≡ 0 = omega (arith, ap length o) in
          let g : get_or outers j [] ≡ [] = ap (λ n. get_or outers n []) i ∙ ap (λ l. get_or l 0 []) o in (
            ap (λ v. length (v ++ zeros)) g ∙ length-replicate (7 - s.dims) 0 ∙ ap (λ n. 7 - n) f,
            rw (le-ltb c s.dims (omega arith)) (ap (λ n. map (λ v. v ++ zeros) (drop (suc n) outers)) i ∙ ap (λ l. map (λ v. v ++ zeros) (drop 1 l)) o),
          )

  -- every stop is in a pass
  pub at-pass : (k : ℕ) → k < length (stops s) → AtPass s c k
  unfolding size zeros outers
  at-pass k h =
      let pt = part (pass_stops size c) outers [] [] k (subst (λ l. k < length l) joined h) in
      let o : List ℕ = get_or outers pt.list [] in
      let f = pass-from pt.list pt.among in
      let v : List ℕ = get_or (stops s) k [] in
      let st : v ≡ get_or (pass_stops size c o) pt.place [] = ap (λ l. get_or l k []) joined ∙ pt.here in
      let pp = pass-padded size zeros (size-pad s (7 - s.dims)) c o in
      let ix : index_of v ≡ get_or (pass_stops size c (o ++ zeros)) pt.place [] =
      index-pad v s.dims (stop-length s cover k h) p.most
      ∙ ap (λ u. u ++ zeros) st
      ∙ sym (get_d_map (λ u. u ++ zeros) (pass_stops size c o) pt.place [] [] pt.inside)
      ∙ ap (λ l. get_or l pt.place []) pp in
      let in7 : pt.place < length (pass_stops size c (o ++ zeros)) = omega (arith, pt.inside, ap length pp, length-map (pass_stops size c o) (λ u. u ++ zeros)) in
      record {
        outer = o;
        place = pt.place;
        reached = outer-reached size c (s.dims - c) pt.list pt.among;
        inside = pt.inside;
        stop = st;
        index = ix;
        behind = ap (drop c) ix ∙ pass-drop size c (o ++ zeros) pt.place in7;
        long = f.0;
        later =
            sym (drop-map index_of (suc k) (stops s))
            ∙ ap (drop (suc k)) (sym (seven s cover p.most))
            ∙ drop-map (λ u. u ++ zeros) (suc k) (stops s)
            ∙ ap (λ l. map (λ u. u ++ zeros) (drop (suc k) l)) joined
            ∙ ap (map (λ u. u ++ zeros)) pt.later
            ∙ map-append (λ u. u ++ zeros) (drop (suc pt.place) (pass_stops size c o)) (join (map (pass_stops size c) (drop (suc pt.list) outers)))
            ∙ ap₂ ◌++◌ (sym (drop-map (λ u. u ++ zeros) (suc pt.place) (pass_stops size c o)) ∙ ap (drop (suc pt.place)) pp)
            (passes-padded size zeros (size-pad s (7 - s.dims)) c (drop (suc pt.list) outers) ∙ ap (λ l. join (map (pass_stops size c) l)) f.1);
      }

  -- what comes after a stop: the others of its pass, then the later passes
  pub stops-after : (k : ℕ) → k < length (stops s) → (v : List ℕ) → v ≡ index_of (slice_index_or (stops s) k [])
      → map index_of (drop (suc k) (stops s))
      ≡ cond (bare (size_at s) c (drop c v)) [] (after (size_at s) 0 c v) ++ join (map (pass_stops (size_at s) c) (passes_after (size_at s) c s.dims (drop c v)))
  stops-after k h v e =
      let a = at-pass k h in
      let o : List ℕ = a.outer ++ replicate (7 - s.dims) 0 in
      let b : drop c v ≡ o = ap (drop c) e ∙ a.behind in
      let i : a.place < length (pass_stops (size_at s) c o) =
      omega (arith, a.inside, ap length (pass-padded (size_at s) (replicate (7 - s.dims) 0) (size-pad s (7 - s.dims)) c a.outer), length-map (pass_stops (size_at s) c a.outer) (λ u. u ++ replicate (7 - s.dims) 0)) in
      a.later
      ∙ ap (λ l. l ++ join (map (pass_stops (size_at s) c) (passes_after (size_at s) c s.dims o)))
      (pass-after (size_at s) c o p.some (omega (arith, p.within, p.most)) a.long a.place i ∙ ap (λ u. cond (bare (size_at s) c o) [] (after (size_at s) 0 c u)) (sym a.index ∙ sym e))
      ∙ ap (λ u. cond (bare (size_at s) c u) [] (after (size_at s) 0 c v) ++ join (map (pass_stops (size_at s) c) (passes_after (size_at s) c s.dims u))) (sym b)

  -- a stop is no element exactly if its pass holds none
  pub nothing-bare : (k : ℕ) → k < length (stops s) → nothing_at s k ≡ bare (size_at s) c (drop c (index_of (slice_index_or (stops s) k [])))
  unfolding nothing_at
  nothing-bare k h =
      let a = at-pass k h in
      ap (λ v. not (is_element (size_at s) 0 v)) a.stop
      ∙ pass-told (size_at s) c a.outer a.reached a.place a.inside
      ∙ sym (bare-padded (size_at s) (replicate (7 - s.dims) 0) (size-pad s (7 - s.dims)) c a.outer)
      ∙ ap (bare (size_at s) c) (sym a.behind)

-- uncoupled, every stop is an element
pub nothing-uncoupled : (s : Shape) → s.coupling ≡ None → (k : ℕ) → k < length (stops s) → nothing_at s k ≡ false
unfolding nothing_at elements
nothing-uncoupled s e k h =
    let u : stops s ≡ elements s = stops-uncoupled s e in
    ap (λ l. not (is_element (size_at s) 0 (slice_index_or l k []))) u ∙ ap not (loops-elements (size_at s) s.dims k (subst (λ l. k < length l) u h))

-- ---- the indices of a stop

-- the coupling of an accepted shape is one of its dimensions
pub covers : (s : Shape) → Accepted s → Covers s.dims s.coupling
covers s a = covered s s.coupling a.covered

-- a stop's indices, among the seven
pub index-stop : (s : Shape) → Accepted s → (k j : ℕ) → k < length (stops s) → slice_index (index_of (slice_index_or (stops s) k [])) j ≡ slice_index (slice_index_or (stops s) k []) j
index-stop s a k j h = index-get_d (slice_index_or (stops s) k []) s.dims j (stop-length s (covers s a) k h) a.ranged.dims

-- they are under the highs
pub index-within : (s : Shape) → Accepted s → (k : ℕ) → k < length (stops s) → Under s 0 (index_of (slice_index_or (stops s) k []))
index-within s a k h j = omega (arith, index-stop s a k j h, stop-under s (covers s a) k j)

-- what is a stop's index is under the highs
pub here-under : (s : Shape) → Accepted s → (v : List ℕ) (empty : Bool) → Stop s v empty → Under s 0 v
here-under s a v empty t = subst (Under s 0) (sym t.here) (index-within s a t.position t.below)

-- and so below 4,096
pub here-small : (s : Shape) → Accepted s → (v : List ℕ) (empty : Bool) → Stop s v empty → (k : ℕ) → slice_index v k ≤ 4095
here-small s a v empty t = under-small s a.bounded 0 (omega arith) v (here-under s a v empty t)
