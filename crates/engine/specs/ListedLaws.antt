-- Chunk after chunk, a stream gives its passes, each cut by the lanes.
--
--   cut_short, cut-long       a pass no longer than the lanes is one piece; of a longer one the lanes are cut off, and the rest is cut
--   cut-join, cut-some        the pieces joined are the pass; there is one at least
--   left-none, left-start, left-add   what is left of groups: after all, after none, after some and then some more
--   listed_next, listed-end   the next chunk is the next of the list; the list ends with the groups
--   listed-whole              passes no longer than the lanes are the list themselves
--   rows_in, held-listed       the elements of the chunks are those of the passes, each cut
--   stream-listed, listed-coupled, listed-uncoupled   the chunks of a stream
--   listed-chunks             there are such chunks
use Rattle.std.specs.Prelude.{◌≡◌, ℕ, zero, suc, ◌+◌, ◌-◌, ◌/◌, ◌<◌, ◌≤◌, min, true, List, [], ◌∷◌, ◌++◌, map, length, take, drop, replicate, Option, Some, None}
use Rattle.std.proofs.Math.Path.{refl, sym, ap, ap₂, subst}
use Rattle.std.proofs.Common.{◌∙◌, drop-drop, get_or-take, get_or-drop}
use mathlib.Core.List.{append-nil, map-append}
use native.Mathlib.Omega.{arith}
use Rattle.std.proofs.Math.Nat.{div-eq_of_lt, div-eq-sub-div}
use Rattle.std.proofs.Math.Decide.{dec_lt}
use Rattle.std.proofs.Math.ListN.{length-append, length-take, length-drop, take-append-drop}
use Rattle.std.proofs.Math.Seq.{take_all, take-nil, length-take-le}
use borrow.Author.Tests.{lt-ltb, le-ltb}
use Rattle.engine.specs.Loops.{size_at, join, loops, elements}
use Rattle.engine.specs.Members.{Each, each-one}
use Rattle.engine.specs.Chunks.{passes, pass_stops, stops, is_element, elements_among, held_in, with_elements, groups, left_after, next_group, chunk_of, stream_groups, chunk}
use Rattle.engine.specs.GroupLaws.{join-next}
use Rattle.engine.specs.ChunkLaws.{groups-join, chunk-most, chunk-some}
use Rattle.engine.specs.StopLaws.{PassView, full, none, pass-view, among-all, among_none, loops-elements, Reached, outer-reached, pass-elements, pass-nothing}
use Rattle.engine.specs.BorderLaws.{AllSome, groups-some, groups-coupled}
use Rattle.engine.specs.InStep.{StreamChunks}
use Rattle.engine.specs.Listed.{pieces, cut_pass, listed}
use Rattle.engine.specs.declared.stream.Shape.{Shape}

-- ---- a pass

module _ {A : Type 0} (lanes : ℕ) (some : 1 ≤ lanes) where
  -- a pass no longer than the lanes is one piece, empty if it is
  pub cut_short : (g : List A) → length g ≤ lanes → cut_pass lanes g ≡ g ∷ []
  unfolding cut_pass pieces
  cut_short g h =
      let e : (length g - 1) / lanes ≡ 0 = div-eq_of_lt (omega arith) in
      ap (λ n. pieces lanes (suc n) g) e ∙ ap (λ l. l ∷ []) (take_all lanes g h)

  -- of a longer one the lanes are cut off, and the rest is cut
  pub cut-long : (g : List A) → lanes < length g → cut_pass lanes g ≡ take lanes g ∷ cut_pass lanes (drop lanes g)
  unfolding cut_pass pieces
  cut-long g h =
      let d : (length g - 1) / lanes ≡ (length g - 1 - lanes) / lanes + 1 = div-eq-sub-div {m = lanes} {n = length g - 1} (omega arith) (omega arith) in
      let k : length g - 1 - lanes ≡ length (drop lanes g) - 1 = omega (arith, length-drop lanes g) in
      let e : (length g - 1) / lanes ≡ suc ((length (drop lanes g) - 1) / lanes) = d ∙ ap (λ n. n / lanes + 1) k ∙ omega arith in
      ap (λ n. pieces lanes (suc n) g) e

  -- there is one piece at least
  pub cut-some : (g : List A) → 1 ≤ length (cut_pass lanes g)
  unfolding cut_pass pieces
  cut-some g = omega arith

  -- the pieces joined are the pass
  pub cut-join : (g : List A) → join (cut_pass lanes g) ≡ g
  unfolding join
  cut-join g = go (length g) g (omega arith)
    where
      step : (h : List A) → join (cut_pass lanes (drop lanes h)) ≡ drop lanes h → lanes < length h → join (cut_pass lanes h) ≡ h
      step h r l =
          ap join (cut-long h l) ∙ ap (λ y. take lanes h ++ y) r ∙ take-append-drop lanes h

      by : (h : List A) → (lanes < length h → join (cut_pass lanes (drop lanes h)) ≡ drop lanes h) → Dec (lanes < length h) → join (cut_pass lanes h) ≡ h
      by h r (yes l) = step h (r l) l
      by h r (no l) = ap join (cut_short h (omega arith)) ∙ append-nil h

      go : (n : ℕ) (h : List A) → length h ≤ n → join (cut_pass lanes h) ≡ h
      go zero h l = by h (λ p. absurd (omega arith)) (dec_lt lanes (length h))
      go (suc n) h l = by h (λ p. go n (drop lanes h) (omega (arith, length-drop lanes h))) (dec_lt lanes (length h))

-- ---- what is left

module _ {A : Type 0} where
  -- after all nothing is left
  pub left-none : (gs : List (List A)) (n : ℕ) → length (join gs) ≤ n → left_after n gs ≡ []
  unfolding left_after join
  left-none [] n h = refl
  left-none (g ∷ gs) n h =
      rw (le-ltb n (length g) (omega (arith, length-append g (join gs)))) (left-none gs (n - length g) (omega (arith, length-append g (join gs))))

  -- after none all are
  pub left-start : (gs : List (List A)) → AllSome gs → left_after 0 gs ≡ gs
  unfolding left_after
  left-start [] h = refl
  left-start (g ∷ gs) h = rw (lt-ltb 0 (length g) (h 0 (omega arith)))

  -- after some and then some more
  pub left-add : (gs : List (List A)) (n m : ℕ) → left_after (n + m) gs ≡ left_after m (left_after n gs)
  unfolding left_after
  left-add [] n m = refl
  left-add (g ∷ gs) n m = go (left-add gs (n - length g) m) (dec_lt n (length g)) (dec_lt (n + m) (length g))
    where
      go : left_after (n - length g + m) gs ≡ left_after m (left_after (n - length g) gs) → Dec (n < length g) → Dec (n + m < length g)
          → left_after (n + m) (g ∷ gs) ≡ left_after m (left_after n (g ∷ gs))
      go r (yes p) (yes q) =
          rw (lt-ltb (n + m) (length g) q, lt-ltb n (length g) p, lt-ltb m (length (drop n g)) (omega (arith, length-drop n g))) (ap (λ l. l ∷ gs) (sym (drop-drop m n g)))
      go r (yes p) (no q) =
          let e : n + m - length g ≡ m - length (drop n g) = omega (arith, length-drop n g) in
          rw (le-ltb (n + m) (length g) (omega arith), lt-ltb n (length g) p, le-ltb m (length (drop n g)) (omega (arith, length-drop n g))) (ap (λ k. left_after k gs) e)
      go r (no p) (yes q) = absurd (omega arith)
      go r (no p) (no q) =
          let e : n + m - length g ≡ n - length g + m = omega arith in
          rw (le-ltb (n + m) (length g) (omega arith), le-ltb n (length g) (omega arith)) (ap (λ k. left_after k gs) e ∙ r)

  -- no group that is left is empty
  pub left-all : (gs : List (List A)) (n : ℕ) → AllSome gs → AllSome (left_after n gs)
  unfolding left_after
  left-all [] n h = h
  left-all (g ∷ gs) n h = go (left-all gs (n - length g) (λ j p. h (suc j) (omega arith))) (dec_lt n (length g))
    where
      first : n < length g → AllSome (drop n g ∷ gs)
      first p zero q = omega (arith, length-drop n g)
      first p (suc j) q = h (suc j) (omega arith)

      go : AllSome (left_after (n - length g) gs) → Dec (n < length g) → AllSome (left_after n (g ∷ gs))
      go r (yes p) = rw (lt-ltb n (length g) p) (first p)
      go r (no p) = rw (le-ltb n (length g) (omega arith)) r

-- ---- chunk after chunk

module _ {A : Type 0} (lanes : ℕ) (some : 1 ≤ lanes) where
  -- one pass, then others
  listed-pass : (g : List A) (gs : List (List A)) → listed lanes (g ∷ gs) ≡ cut_pass lanes g ++ listed lanes gs
  unfolding listed
  listed-pass g gs = join-next (cut_pass lanes g) (map (cut_pass lanes) gs)

  -- the first piece of groups, and what is left after it
  first_piece : (gs : List (List A)) → AllSome gs → 1 ≤ length gs
      → listed lanes gs ≡ take lanes (next_group gs) ∷ listed lanes (left_after (length (take lanes (next_group gs))) gs)
  unfolding left_after
  first_piece [] h p = absurd (omega arith)
  first_piece (g ∷ gs) h p = go (dec_lt lanes (length g))
    where
      go : Dec (lanes < length g) → listed lanes (g ∷ gs) ≡ take lanes g ∷ listed lanes (left_after (length (take lanes g)) (g ∷ gs))
      go (yes l) =
          let e : length (take lanes g) ≡ lanes = length-take-le lanes g (omega arith) in
          listed-pass g gs
          ∙ ap (λ y. y ++ listed lanes gs) (cut-long lanes some g l)
          ∙ ap (λ y. take lanes g ∷ y) (sym (listed-pass (drop lanes g) gs))
          ∙ ap (λ y. take lanes g ∷ listed lanes y) (sym (rw (e, lt-ltb lanes (length g) l)))
      go (no l) =
          let e : take lanes g ≡ g = take_all lanes g (omega arith) in
          let z : length g - length g ≡ 0 = omega arith in
          listed-pass g gs
          ∙ ap (λ y. y ++ listed lanes gs) (cut_short lanes some g (omega arith))
          ∙ ap (λ y. g ∷ listed lanes y) (sym (rw (le-ltb (length g) (length g) (omega arith), z) (left-start gs (λ j q. h (suc j) (omega arith)))))
          ∙ ap (λ y. y ∷ listed lanes (left_after (length y) (g ∷ gs))) (sym e)

  -- some group is left while not all have been taken
  left-more : (gs : List (List A)) (n : ℕ) → 1 ≤ length (chunk_of gs lanes n) → 1 ≤ length (left_after n gs)
  unfolding chunk_of
  left-more gs n h = go (left_after n gs) h
    where
      go : (hs : List (List A)) → 1 ≤ length (take lanes (next_group hs)) → 1 ≤ length hs
      go [] p = absurd (omega (arith, ap length (take-nil {A = A} lanes)))
      go (g ∷ hs) p = omega arith

  -- the next chunk is the next of the list
  pub listed_next : (gs : List (List A)) (n : ℕ) → AllSome gs → 1 ≤ length (chunk_of gs lanes n)
      → listed lanes (left_after n gs) ≡ chunk_of gs lanes n ∷ listed lanes (left_after (n + length (chunk_of gs lanes n)) gs)
  unfolding chunk_of
  listed_next gs n h p =
      first_piece (left_after n gs) (left-all gs n h) (left-more gs n p)
      ∙ ap (λ y. chunk_of gs lanes n ∷ listed lanes y) (sym (left-add gs n (length (chunk_of gs lanes n))))

  -- the list ends with the groups
  pub listed-end : (gs : List (List A)) (n : ℕ) → AllSome gs → (listed lanes (left_after n gs) ≡ []) → length (join gs) ≤ n
  listed-end gs n h e = go (dec_lt n (length (join gs)))
    where
      go : Dec (n < length (join gs)) → length (join gs) ≤ n
      go (yes p) =
          absurd (let z : ◌≡◌ {A = ℕ} 0 1 = omega (arith, ap length (sym e ∙ listed_next gs n h (chunk-some gs lanes n some p))) in omega arith)
      go (no p) = omega arith

-- passes no longer than the lanes are the list themselves: chunk n is pass n
pub listed-whole : {A : Type 0} (lanes : ℕ) (gs : List (List A)) → 1 ≤ lanes → Each [] (λ g. length g ≤ lanes) gs → listed lanes gs ≡ gs
unfolding listed join
listed-whole lanes [] p h = refl
listed-whole lanes (g ∷ gs) p h =
    ap₂ ◌++◌ (cut_short lanes p g (h 0 (omega arith))) (listed-whole lanes gs p (λ j q. h (suc j) (omega arith)))

-- ---- the elements of the chunks

-- what a stream's chunks are cut from: uncoupled, its elements, if it has any; coupled, the passes of that dimension
unfoldable pub rows_in : (ℕ → List ℕ → ℕ) → ℕ → Option ℕ → List (List (List ℕ))
rows_in size D None = with_elements (loops size 0 D [] ∷ [])
rows_in size D (Some c) = passes size c D

module _ (size : ℕ → List ℕ → ℕ) (lanes : ℕ) (some : 1 ≤ lanes) where
  -- pieces of elements are elements
  held-pieces : (n : ℕ) (g : List (List ℕ)) → Each [] (λ v. is_element size 0 v ≡ true) g → map (elements_among size) (pieces lanes n g) ≡ pieces lanes n g
  unfolding pieces
  held-pieces zero g h = refl
  held-pieces (suc n) g h = ap₂ ◌∷◌ (among-all size (take lanes g) front) (held-pieces n (drop lanes g) behind)
    where
      front : Each [] (λ v. is_element size 0 v ≡ true) (take lanes g)
      front j q =
          let m : length (take lanes g) ≡ min lanes (length g) = length-take lanes g in
          subst (λ v. is_element size 0 v ≡ true) (sym (get_or-take lanes g j [] (omega arith))) (h j (omega arith))

      behind : Each [] (λ v. is_element size 0 v ≡ true) (drop lanes g)
      behind j q = subst (λ v. is_element size 0 v ≡ true) (sym (get_or-drop lanes g j [])) (h (lanes + j) (omega (arith, length-drop lanes g)))

  -- so a pass of elements is cut
  held_all : (g : List (List ℕ)) → Each [] (λ v. is_element size 0 v ≡ true) g → map (elements_among size) (cut_pass lanes g) ≡ cut_pass lanes g
  unfolding cut_pass
  held_all g h = held-pieces (suc ((length g - 1) / lanes)) g h

  -- and one that holds none gives one chunk with none
  held-pass : (c : ℕ) (outer : List ℕ) → Reached size c outer → map (elements_among size) (cut_pass lanes (pass_stops size c outer)) ≡ cut_pass lanes (loops size 0 c outer)
  held-pass c outer r = go (pass-view size c outer)
    where
      v : List ℕ
      v = replicate c 0 ++ outer

      go : PassView size c outer → map (elements_among size) (cut_pass lanes (pass_stops size c outer)) ≡ cut_pass lanes (loops size 0 c outer)
      go (full h e) = ap (λ g. map (elements_among size) (cut_pass lanes g)) e ∙ held_all (loops size 0 c outer) (pass-elements size c outer r)
      go (none h e) =
          ap (λ g. map (elements_among size) (cut_pass lanes g)) e
          ∙ ap (map (elements_among size)) (cut_short lanes some (v ∷ []) (omega arith))
          ∙ ap (λ l. l ∷ []) (among_none size v (pass-nothing size c outer h))
          ∙ sym (ap (cut_pass lanes) h ∙ cut_short lanes some [] (omega arith))

  -- pass by pass
  held-passes : (c : ℕ) (os : List (List ℕ)) → Each [] (Reached size c) os
      → map (elements_among size) (listed lanes (map (pass_stops size c) os)) ≡ listed lanes (map (loops size 0 c) os)
  unfolding listed join
  held-passes c [] h = refl
  held-passes c (o ∷ os) h =
      map-append (elements_among size) (cut_pass lanes (pass_stops size c o)) (listed lanes (map (pass_stops size c) os))
      ∙ ap₂ ◌++◌ (held-pass c o (h 0 (omega arith))) (held-passes c os (λ j p. h (suc j) (omega arith)))

  -- groups of elements
  held-groups : (gs : List (List (List ℕ))) → Each [] (Each [] (λ v. is_element size 0 v ≡ true)) gs → map (elements_among size) (listed lanes gs) ≡ listed lanes gs
  unfolding listed join
  held-groups [] h = refl
  held-groups (g ∷ gs) h =
      map-append (elements_among size) (cut_pass lanes g) (listed lanes gs) ∙ ap₂ ◌++◌ (held_all g (h 0 (omega arith))) (held-groups gs (λ j p. h (suc j) (omega arith)))

  -- the elements of the chunks are those of the passes, each cut
  pub held-listed : (D : ℕ) (k : Option ℕ) → map (elements_among size) (listed lanes (groups size D k)) ≡ listed lanes (rows_in size D k)
  unfolding groups rows_in passes with_elements
  held-listed D None = held-groups (with_elements (loops size 0 D [] ∷ [])) (only (loops size 0 D []) (loops-elements size D))
    where
      only : (g : List (List ℕ)) → Each [] (λ v. is_element size 0 v ≡ true) g → Each [] (Each [] (λ v. is_element size 0 v ≡ true)) (with_elements (g ∷ []))
      only [] h = λ j p. absurd (omega arith)
      only (v ∷ g) h = each-one [] (Each [] (λ u. is_element size 0 u ≡ true)) (v ∷ g) h
  held-listed D (Some c) =
      ap (λ gs. map (elements_among size) (listed lanes gs)) (groups-coupled size D c) ∙ held-passes c (loops size c (D - c) []) (outer-reached size c (D - c))

-- ---- a stream

module _ (s : Shape) (lanes : ℕ) (some : 1 ≤ lanes) where
  -- the chunks from a stop on are what is left, cut by the lanes
  from-stop : (n : ℕ) (cs : List (List (List ℕ))) → StreamChunks s lanes n cs → cs ≡ listed lanes (left_after n (stream_groups s))
  unfolding StreamChunks listed join
  from-stop n [] e =
      sym (ap (listed lanes) (left-none (stream_groups s) n (omega (arith, ap length (groups-join (size_at s) s.dims s.coupling)))))
  from-stop n (vs ∷ cs) (e, p, r) =
      ap₂ ◌∷◌ e (from-stop (n + length vs) cs r ∙ ap (λ l. listed lanes (left_after (n + length l) (stream_groups s))) e)
      ∙ sym (listed_next lanes some (stream_groups s) n (groups-some (size_at s) s.dims s.coupling) (subst (λ l. 1 ≤ length l) e p))

  -- the chunks of a stream, from its first stop to its end, with only elements kept
  pub stream-listed : (cs : List (List (List ℕ))) → StreamChunks s lanes 0 cs → map (held_in s) cs ≡ listed lanes (rows_in (size_at s) s.dims s.coupling)
  stream-listed cs h =
      ap (map (held_in s)) (from-stop 0 cs h ∙ ap (listed lanes) (left-start (stream_groups s) (groups-some (size_at s) s.dims s.coupling)))
      ∙ held-listed (size_at s) lanes some s.dims s.coupling

  -- 02, 3/14: "A pass of the coupled dimension that the outer loops reach and that holds no element must give one chunk with no valid lanes":
  -- they are the passes of the coupled dimension in order, each cut by the lanes
  pub listed-coupled : (c : ℕ) → s.coupling ≡ Some c → (cs : List (List (List ℕ))) → StreamChunks s lanes 0 cs
      → map (held_in s) cs ≡ listed lanes (passes (size_at s) c s.dims)
  unfolding rows_in
  listed-coupled c e cs h = stream-listed cs h ∙ ap (λ k. listed lanes (rows_in (size_at s) s.dims k)) e

  -- uncoupled, they are the elements cut by the lanes; there is no chunk if there is no element
  pub listed-uncoupled : s.coupling ≡ None → (cs : List (List (List ℕ))) → StreamChunks s lanes 0 cs
      → map (held_in s) cs ≡ listed lanes (with_elements (elements s ∷ []))
  unfolding rows_in elements
  listed-uncoupled e cs h = stream-listed cs h ∙ ap (λ k. listed lanes (rows_in (size_at s) s.dims k)) e

  -- there are such chunks
  pub listed-chunks : StreamChunks s lanes 0 (listed lanes (stream_groups s))
  unfolding StreamChunks listed join
  listed-chunks =
      subst (λ gs. StreamChunks s lanes 0 (listed lanes gs)) (left-start (stream_groups s) some-stop) (go (length (stops s)) 0 (omega arith) (omega arith))
    where
      some-stop : AllSome (stream_groups s)
      some-stop = groups-some (size_at s) s.dims s.coupling

      all : length (join (stream_groups s)) ≡ length (stops s)
      all = ap length (groups-join (size_at s) s.dims s.coupling)

      done : (n : ℕ) → n ≡ length (stops s) → StreamChunks s lanes n (listed lanes (left_after n (stream_groups s)))
      done n e = subst (λ gs. StreamChunks s lanes n (listed lanes gs)) (sym (left-none (stream_groups s) n (omega (arith, all)))) e

      next : (n : ℕ) → n < length (stops s) → 1 ≤ length (chunk s lanes n)
      next n h = chunk-some (stream_groups s) lanes n some (omega (arith, all))

      by : (n : ℕ) → n ≤ length (stops s)
          → (n < length (stops s) → StreamChunks s lanes (n + length (chunk s lanes n)) (listed lanes (left_after (n + length (chunk s lanes n)) (stream_groups s))))
          → Dec (n < length (stops s)) → StreamChunks s lanes n (listed lanes (left_after n (stream_groups s)))
      by n h r (yes q) = subst (StreamChunks s lanes n) (sym (listed_next lanes some (stream_groups s) n some-stop (next n q))) (refl, next n q, r q)
      by n h r (no q) = done n (omega arith)

      go : (left n : ℕ) → n ≤ length (stops s) → length (stops s) ≤ n + left → StreamChunks s lanes n (listed lanes (left_after n (stream_groups s)))
      go zero n h p = done n (omega arith)
      go (suc left) n h p =
          by n h
          (λ q. go left (n + length (chunk s lanes n)) (omega (arith, chunk-most (stream_groups s) lanes n, all)) (omega (arith, next n q)))
          (dec_lt n (length (stops s)))
