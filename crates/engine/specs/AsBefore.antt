-- Where 01 and 02, 3/14 meet: what a stream was before the request.
--
--   grouped_before            01's groups: all elements, or the passes of the coupled dimension
--   groups-before            of every stream: its groups, the elements alone, without those that have none, are 01's
--   Full, AsBefore, full-as-before   a stream without an empty coupled pass, and every uncoupled one, is what it was
use Rattle.std.specs.Prelude.{◌≡◌, ℕ, suc, ◌+◌, ◌-◌, ◌/◌, ◌<◌, ◌≤◌, true, false, cond, not, List, [], ◌∷◌, map, length, ◌==◌, nat_le, slice_index_or, refl, Option, Some, None}
use Rattle.std.proofs.Common.{sym, ◌∙◌, ap, ap₂, subst, arith}
use Rattle.std.proofs.Math.Decide.{dec_lt}
use Rattle.std.proofs.Math.ListN.{get_or-eq_default}
use Rattle.engine.specs.Configure.{Covers}
use Rattle.engine.specs.Loops.{size_at, join, loops, elements}
use Rattle.engine.specs.Chunks.{passes, pass_stops, stops_in, stops, is_element, elements_among, held_in, nothing_at, with_elements, grouped, groups, chunk_of, stream_groups, chunk, differ, height}
use Rattle.engine.specs.Registers.{shape_of, next_stops, next_chunk, state_after, moved_to, moved_by}
use Rattle.engine.specs.Members.{Each}
use Rattle.engine.specs.ChunkLaws.{passes-join}
use Rattle.engine.specs.StopLaws.{PassView, full, none, pass-view, among-all, among-passes, outer-reached, loops-elements, chunk-each}
use Rattle.engine.specs.declared.stream.Shape.{Shape}
use Rattle.engine.specs.declared.register.State.TheVariants.{Open, Finished}
use Rattle.engine.specs.declared.register.Register.{Register}

-- 01: "as many as there are lanes, fewer at the end of the stream or, if coupled, at the end of the current pass of that dimension": what no
-- chunk crosses, by the elements alone
abbrev pub grouped_before : (ℕ → List ℕ → ℕ) → ℕ → Option ℕ → List (List (List ℕ))
grouped_before size D None = loops size 0 D [] ∷ []
grouped_before size D (Some c) = passes size c D

-- the elements of each group
among-grouped : (size : ℕ → List ℕ → ℕ) (D : ℕ) (k : Option ℕ) → map (elements_among size) (grouped size D k) ≡ grouped_before size D k
unfolding passes
among-grouped size D None = ap (λ l. l ∷ []) (among-all size (loops size 0 D []) (loops-elements size D))
among-grouped size D (Some c) = among-passes size c (loops size c (D - c) []) (outer-reached size c (D - c))

-- those of groups that are not empty, where they are not empty
with-map : (f : List (List ℕ) → List (List ℕ)) (gs : List (List (List ℕ))) → f [] ≡ [] → with_elements (map f (with_elements gs)) ≡ with_elements (map f gs)
unfolding with_elements
with-map f [] e = refl
with-map f ([] ∷ gs) e = with-map f gs e ∙ sym (ap (λ g. with_elements (g ∷ map f gs)) e)
with-map f ((x ∷ g) ∷ gs) e = go (f (x ∷ g)) (with-map f gs e)
  where
    go : (h : List (List ℕ)) → with_elements (map f (with_elements gs)) ≡ with_elements (map f gs)
        → with_elements (h ∷ map f (with_elements gs)) ≡ with_elements (h ∷ map f gs)
    go [] r = r
    go (y ∷ h) r = ap (λ l. (y ∷ h) ∷ l) r

-- 01's "Passes with no element give no chunk": of every stream, what no chunk crosses, its elements alone and without what has none, is 01's
pub groups-before : (s : Shape) → with_elements (map (held_in s) (stream_groups s)) ≡ with_elements (grouped_before (size_at s) s.dims s.coupling)
unfolding groups elements_among
groups-before s =
    with-map (held_in s) (grouped (size_at s) s.dims s.coupling) refl
    ∙ ap with_elements (among-grouped (size_at s) s.dims s.coupling)

-- every coupled pass that the outer loops reach has an element; an uncoupled stream has no such pass
abbrev pub FullBy : (ℕ → List ℕ → ℕ) → ℕ → Option ℕ → Type 0
FullBy size D None = Unit {0}
FullBy size D (Some c) = Each [] (λ o. 1 ≤ length (loops size 0 c o)) (loops size c (D - c) [])

-- of a stream
abbrev pub Full : Shape → Type 0
Full s = FullBy (size_at s) s.dims s.coupling

-- it is what it was: it stops at its elements alone, in 01's groups, and all that a chunk goes past are lanes
pub record AsBefore (s : Shape) : Type 0 where
  pub stops-are : stops s ≡ elements s
  pub groups-are : stream_groups s ≡ with_elements (grouped_before (size_at s) s.dims s.coupling)
  pub held : (lanes n : ℕ) → held_in s (chunk s lanes n) ≡ chunk s lanes n
  pub never-nothing : (n : ℕ) → nothing_at s n ≡ false
  -- 01's flags and state, after n elements
  pub flags : (n : ℕ)
      → height s n
      ≡ cond (nat_le (length (elements s)) n) (suc s.dims) (cond (n == 0) 0 (differ (slice_index_or (elements s) (n - 1) []) (slice_index_or (elements s) n [])))
  pub state : (n : ℕ) → state_after s n ≡ cond (nat_le (length (elements s)) n) Finished Open
  -- 01's next chunk, by the elements
  pub next : (vl : ℕ) (r : Register) → shape_of r ≡ s
      → next_chunk vl r ≡ chunk_of (with_elements (grouped_before (size_at s) s.dims s.coupling)) (vl / r.width) r.moved
  -- n lanes move it by n elements
  pub moves : (n : ℕ) (r : Register) → shape_of r ≡ s → moved_by n r ≡ moved_to (r.moved + n) r

-- passes that have an element
full-passes : (size : ℕ → List ℕ → ℕ) (c : ℕ) (os : List (List ℕ)) → Each [] (λ o. 1 ≤ length (loops size 0 c o)) os → map (pass_stops size c) os ≡ map (loops size 0 c) os
full-passes size c [] h = refl
full-passes size c (o ∷ os) h = ap₂ ◌∷◌ (go (pass-view size c o)) (full-passes size c os (λ k p. h (suc k) (omega arith)))
  where
    go : PassView size c o → pass_stops size c o ≡ loops size 0 c o
    go (full m e) = e
    go (none m e) = absurd (omega (arith, ap length m, h 0 (omega arith)))

-- the groups, and the stops
full-grouped : (size : ℕ → List ℕ → ℕ) (D : ℕ) (k : Option ℕ) → FullBy size D k → grouped size D k ≡ grouped_before size D k
unfolding passes
full-grouped size D None h = refl
full-grouped size D (Some c) h = full-passes size c (loops size c (D - c) []) h

full-stops : (size : ℕ → List ℕ → ℕ) (D : ℕ) (k : Option ℕ) → Covers D k → FullBy size D k → stops_in size D k ≡ loops size 0 D []
unfolding stops_in passes
full-stops size D None c h = refl
full-stops size D (Some d) c h = ap join (full-passes size d (loops size d (D - d) []) h) ∙ passes-join size d D c

-- a stream without an empty coupled pass, and every uncoupled one
pub full-as-before : (s : Shape) → Covers s.dims s.coupling → Full s → AsBefore s
unfolding elements groups nothing_at is_element height next_chunk next_stops moved_by
full-as-before s c h = record {
  stops-are = same;
  groups-are = in-groups;
  held = held;
  never-nothing = never;
  flags = λ n. ap (λ l. cond (nat_le (length l) n) (suc s.dims) (cond (n == 0) 0 (differ (slice_index_or l (n - 1) []) (slice_index_or l n [])))) same;
  state = λ n. ap (λ l. cond (nat_le (length l) n) Finished Open) same;
  next = λ vl r e.
      ap (λ t. held_in t (chunk t (vl / r.width) r.moved)) e
      ∙ held (vl / r.width) r.moved
      ∙ ap (λ gs. chunk_of gs (vl / r.width) r.moved) in-groups;
  moves = λ n r e. ap (λ b. moved_to (r.moved + cond b 1 n) r) (ap (λ t. nothing_at t r.moved) e ∙ never r.moved);
}
  where
    same : stops s ≡ elements s
    same = full-stops (size_at s) s.dims s.coupling c h

    in-groups : stream_groups s ≡ with_elements (grouped_before (size_at s) s.dims s.coupling)
    in-groups = ap with_elements (full-grouped (size_at s) s.dims s.coupling h)

    all : Each [] (λ v. is_element (size_at s) 0 v ≡ true) (stops s)
    all = subst (Each [] (λ v. is_element (size_at s) 0 v ≡ true)) (sym same) (loops-elements (size_at s) s.dims)

    held : (lanes n : ℕ) → held_in s (chunk s lanes n) ≡ chunk s lanes n
    held lanes n = among-all (size_at s) (chunk s lanes n) (chunk-each s lanes n (λ v. is_element (size_at s) 0 v ≡ true) all)

    go : (n : ℕ) → Dec (n < length (stops s)) → not (is_element (size_at s) 0 (slice_index_or (stops s) n [])) ≡ false
    go n (yes p) = ap not (all n p)
    go n (no p) = ap (λ v. not (is_element (size_at s) 0 v)) (get_or-eq_default (stops s) [] (omega arith))

    never : (n : ℕ) → nothing_at s n ≡ false
    never n = go n (dec_lt n (length (stops s)))
