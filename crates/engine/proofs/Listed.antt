-- Over the history of Promise 2 a load stream gives its passes, each cut by the lanes (`Listing` of specs/Listed).
--
--   next, so_far          what an entry goes past is nothing or the next chunk; the chunks given, then what is left, cut by the lanes
--   history-listed        at every moment of a history
--   listing               of every sheet
use Rattle.std.proofs.Common.{◌≡◌, ℕ, zero, suc, ◌+◌, ◌/◌, ◌<◌, ◌≤◌, ◌⊎◌, List, [], ◌∷◌, ◌++◌, map, length, take, drop, sym, refl, ap, ◌∙◌, subst, inl, inr, append_assoc, arith, length-append, length-drop, length-take, take-suc}
use mathlib.Core.Logic.{⊎_map}
use mathlib.Core.List.{map-append}
use Rattle.codec.specs.NumberLaws.{AreBytes}
use Rattle.codec.specs.declared.header.Kind.TheVariants.{Load}
use Rattle.engine.specs.Loops.{size_at, join, elements}
use Rattle.engine.specs.Members.{front-all}
use Rattle.engine.specs.Chunks.{passes, stops, with_elements, left_after, stream_groups, chunk}
use Rattle.engine.specs.ChunkLaws.{groups-join}
use Rattle.engine.specs.ChunkExact.{chunk-one}
use Rattle.engine.specs.Registers.{shape_of, reg}
use Rattle.engine.specs.Calculate.{World}
use Rattle.engine.specs.Sheets.{run}
use Rattle.engine.specs.Good.{Accepted}
use Rattle.engine.specs.GoodLaws.{is-width}
use Rattle.engine.specs.ComeLaws.{lanes-some}
use Rattle.engine.specs.Histories.{Chunk, Entry, Follow, world_at, moved_of}
use Rattle.engine.specs.RanLaws.{ran_named}
use Rattle.engine.specs.MovingLaws.{follow-inside}
use Rattle.engine.specs.Given.{Stream, stops_of, elements_in, pattern_of}
use Rattle.engine.specs.GivenLaws.{Has, before-has}
use Rattle.engine.specs.Promise1.{world}
use Rattle.engine.specs.StreamSums.{stream_width, no_entry, entry_at}
use Rattle.engine.specs.SumLaws.{did_at, moved-next, At}
use Rattle.engine.specs.BorderLaws.{AllSome, groups-some}
use Rattle.engine.specs.Listed.{listed, chunks_of, Listed, Listing}
use Rattle.engine.specs.ListedLaws.{left-none, left-start, listed_next, listed-end, listed-whole, rows_in, held-listed}
use Rattle.engine.proofs.Promise1.{sheet-runs}
use Rattle.engine.proofs.Summing.{load_moved}
use Rattle.engine.proofs.RowSums.{accepted}
use Rattle.engine.specs.declared.stream.Shape.{Shape}
use Rattle.engine.specs.declared.stream.Pattern.{Pattern}
use Rattle.engine.specs.declared.register.Register.{Register}

-- ---- lists

module _ {A : Type 0} where
  -- lists that are not empty, of two
  pub with_append : (gs hs : List (List A)) → with_elements (gs ++ hs) ≡ with_elements gs ++ with_elements hs
  unfolding with_elements
  with_append [] hs = refl
  with_append ([] ∷ gs) hs = with_append gs hs
  with_append ((x ∷ g) ∷ gs) hs = ap (λ l. (x ∷ g) ∷ l) (with_append gs hs)

  -- of one that is not empty
  pub with-one : (g : List A) → 1 ≤ length g → with_elements (g ∷ []) ≡ g ∷ []
  unfolding with_elements
  with-one [] h = absurd (omega arith)
  with-one (x ∷ g) h = refl

-- nothing is made of nothing only
map-none : {A B : Type 0} (f : A → B) (l : List A) → map f l ≡ [] → l ≡ []
map-none f [] e = refl
map-none f (x ∷ l) e = absurd (let z : ◌≡◌ {A = ℕ} 0 1 = omega (arith, ap length e) in omega arith)

-- ---- a history

module _ (vl : ℕ) (t : Stream) (w v : World) (es : List Entry) (i : ℕ) (h : i < 32) (f : Follow vl w es v) (a : At t w es i) (load : t.header.kind ≡ Load)
    (accept : Accepted (pattern_of t).shape) (some : 1 ≤ vl / stream_width t)
    (at : (k : ℕ) → k ≤ length es → (reg (world_at w es k).machine i).moved ≡ length (moved_of (take k es) i))
  where
    -- its shape
    abbrev s : Shape
    s = (pattern_of t).shape

    -- its lanes
    abbrev lanes : ℕ
    lanes = vl / stream_width t

    -- how many stops it has gone past
    abbrev count : ℕ → ℕ
    count k = length (moved_of (take k es) i)

    -- what an entry goes past is nothing, or the next chunk
    next : (k : ℕ) → k < length es → ((entry_at es k).taken i ≡ []) ⊎ (((entry_at es k).taken i ≡ chunk s lanes (count k)) × (1 ≤ length ((entry_at es k).taken i)))
    next k l =
        ⊎_map (λ x. x) (λ x. got x.1) (load_moved vl t (world_at w es k) (entry_at es k) i (moved_of (take k es) i) (a k (omega arith)) (did_at vl es w v k f l) h load)
      where
        r : Register
        r = reg (world_at w es k).machine i

        vs : List (List ℕ)
        vs = (entry_at es k).taken i

        got : Chunk (shape_of r) (vl / r.width) r.moved vs → (vs ≡ chunk s lanes (count k)) × (1 ≤ length vs)
        got x =
            let m = a k (omega arith) in
            let y : Chunk s (vl / r.width) r.moved vs = subst (λ (p : Pattern). Chunk p.shape (vl / r.width) r.moved vs) m.pattern x in
            let z : Chunk s lanes r.moved vs = subst (λ n. Chunk s (vl / n) r.moved vs) m.width y in
            let c : Chunk s lanes (count k) vs = subst (λ n. Chunk s lanes n vs) (at k (omega arith)) z in
            let b : count k < length (stops s) = omega (arith, c.some, ap length c.front ∙ length-take (length vs) (drop (count k) (stops s)), length-drop (count k) (stops s)) in
            (chunk-one s accept lanes (count k) some b vs c, c.some)

    -- every group has a stop
    has-stop : AllSome (stream_groups s)
    has-stop = groups-some (size_at s) s.dims s.coupling

    -- one entry more
    chunks-next : (k : ℕ) → k < length es → chunks_of (take (suc k) es) i ≡ chunks_of (take k es) i ++ with_elements ((entry_at es k).taken i ∷ [])
    chunks-next k l =
        ap (λ y. chunks_of y i) (take-suc es k no_entry l)
        ∙ ap with_elements (map-append (λ (e : Entry). e.taken i) (take k es) (entry_at es k ∷ []))
        ∙ with_append (map (λ (e : Entry). e.taken i) (take k es)) ((entry_at es k).taken i ∷ [])

    -- the chunks given, then what is left cut by the lanes, are all groups cut by the lanes
    so_far : (k : ℕ) → k ≤ length es → chunks_of (take k es) i ++ listed lanes (left_after (count k) (stream_groups s)) ≡ listed lanes (stream_groups s)
    unfolding moved_of with_elements
    so_far zero l = ap (listed lanes) (left-start (stream_groups s) has-stop)
    so_far (suc k) l = ap (λ y. y ++ rest (suc k)) (chunks-next k l) ∙ append_assoc (given k) (with_elements (taken ∷ [])) (rest (suc k)) ∙ go (next k l) ∙ so_far k (omega arith)
      where
        taken : List (List ℕ)
        taken = (entry_at es k).taken i

        given : ℕ → List (List (List ℕ))
        given j = chunks_of (take j es) i

        rest : ℕ → List (List (List ℕ))
        rest j = listed lanes (left_after (count j) (stream_groups s))

        more : count (suc k) ≡ count k + length taken
        more = ap length (moved-next es i k l) ∙ length-append (moved_of (take k es) i) taken

        go : (taken ≡ []) ⊎ ((taken ≡ chunk s lanes (count k)) × (1 ≤ length taken)) → given k ++ (with_elements (taken ∷ []) ++ rest (suc k)) ≡ given k ++ rest k
        go (inl e) =
            let z : count (suc k) ≡ count k = omega (arith, more, ap length e) in
            ap (λ y. given k ++ (with_elements (y ∷ []) ++ rest (suc k))) e ∙ ap (λ n. given k ++ listed lanes (left_after n (stream_groups s))) z
        go (inr (e, p)) =
            ap (λ y. given k ++ (y ++ rest (suc k))) (with-one taken p)
            ∙ ap (λ n. given k ++ (taken ∷ listed lanes (left_after n (stream_groups s)))) more
            ∙ ap (λ y. given k ++ (y ∷ listed lanes (left_after (count k + length y) (stream_groups s)))) e
            ∙ ap (λ y. given k ++ y) (sym (listed_next lanes some (stream_groups s) (count k) has-stop (subst (λ y. 1 ≤ length y) e p)))

    -- at every moment
    pub history-listed : (k : ℕ) → k ≤ length es → Listed lanes t (take k es) (world_at w es k).machine i
    unfolding rows_in elements listed join
    history-listed k l = record {
      to_come = map (elements_in t) rest;
      coupled = λ c e. in_order ∙ ap (λ y. listed lanes (rows_in (size_at s) s.dims y)) e;
      row-by-row = λ c e y. in_order ∙ ap (λ k. listed lanes (rows_in (size_at s) s.dims k)) e ∙ listed-whole lanes (passes (size_at s) c s.dims) some y;
      uncoupled = λ e. in_order ∙ ap (λ y. listed lanes (rows_in (size_at s) s.dims y)) e;
      end-yes = (λ y. ended ((a k l).end-yes.0 y), λ y. (a k l).end-yes.1 (all_past y));
    }
      where
        rest : List (List (List ℕ))
        rest = listed lanes (left_after (count k) (stream_groups s))

        joined : length (join (stream_groups s)) ≡ length (stops_of t)
        joined = ap length (groups-join (size_at s) s.dims s.coupling)

        in_order : map (elements_in t) (chunks_of (take k es) i) ++ map (elements_in t) rest ≡ listed lanes (rows_in (size_at s) s.dims s.coupling)
        in_order =
            sym (map-append (elements_in t) (chunks_of (take k es) i) rest)
            ∙ ap (map (elements_in t)) (so_far k l)
            ∙ held-listed (size_at s) lanes some s.dims s.coupling

        ended : moved_of (take k es) i ≡ stops_of t → map (elements_in t) rest ≡ []
        ended e = ap (λ gs. map (elements_in t) (listed lanes gs)) (left-none (stream_groups s) (count k) (omega (arith, joined, ap length e)))

        all_past : map (elements_in t) rest ≡ [] → moved_of (take k es) i ≡ stops_of t
        all_past e =
            let z : length (join (stream_groups s)) ≤ count k = listed-end lanes some (stream_groups s) (count k) has-stop (map-none (elements_in t) rest e) in
            front-all (moved_of (take k es) i) (a k l).to_come (stops_of t) (a k l).each-stop (omega (arith, joined))

-- ---- the promise

-- for every sheet
pub listing : (vl : ℕ) (s memory : List ℕ) → AreBytes s → Listing vl s memory
listing vl s memory b = record {
  runs = λ f os at m loop cs d r l q i h t g load.
      let x = sheet-runs vl s memory b os at m loop cs d f r l in
      let es = q.ran.entries in
      let nm = ran_named vl loop cs (world m memory) x.running x.some (run vl s memory) q.ran in
      history-listed vl t (world m memory) (run vl s memory).world es i h q.ran.follow (q.moments i h t g) load
      (accepted vl s memory b f os at m loop cs d r l q i h t g)
      (lanes-some vl (stream_width t) x.running.lanes (is-width t.header.width))
      (λ k n.
      (follow-inside vl es (world m memory) (run vl s memory).world i t [] k x.running.lanes x.running.good nm q.ran.follow h
      (subst (λ y. Has y (reg m i)) g (before-has s os at m i d h))
      ).moved);
}
