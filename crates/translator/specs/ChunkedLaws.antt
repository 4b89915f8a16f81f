-- A nest's chunks in order are the plain loop.
--
--   plain-append, chunks-plain     visits in two parts; chunks in order
--   chunks-nest, chunks-join       the elements of the streams' chunks are the visits of the nest's; joined, they are the visits
--   none-in-chunk                  if no visit reads what an earlier one wrote, none reads what one of its chunk wrote
use Prim.Native.Nat.{ℕ, zero, suc, ◌+◌, ◌≤◌}
use Rattle.std.specs.Prelude.{◌≡◌, refl}
use Rattle.std.proofs.Math.Path.{sym, ap, ap₂, subst}
use Rattle.std.proofs.Common.{◌∙◌, arith, length-append, take-append-drop, drop-drop, get_or-append-add}
use mathlib.Core.List.{List, [], ◌∷◌, ◌++◌, map}
use Rattle.std.proofs.Math.ListN.{length, take, drop, get_or-append}
use Rattle.std.proofs.Math.Seq.{drop-length}
use Rattle.engine.specs.Loops.{join}
use Rattle.engine.specs.Configure.{Covers}
use Rattle.engine.specs.Members.{Each, Ordered}
use Rattle.engine.specs.GroupLaws.{join-none, join-next}
use Rattle.engine.specs.Chunks.{elements_among, held_in}
use Rattle.engine.specs.ChunkLaws.{groups-join, chunk_of-front}
use Rattle.engine.specs.StopLaws.{among-append, stops_in-elements}
use Rattle.engine.specs.InStep.{chunks_done}
use Rattle.engine.specs.InStep as step
use Rattle.engine.specs.InOrderLaws.{chunks-over, chunks-next, done_none, done_next}
use Rattle.translator.specs.Nests.{count_at, visits, visited, plain_over, coupling_of, nest_stops, nest_groups, chunk_at, visits_among}
use Rattle.translator.specs.NestSheets.{shape_of}
use Rattle.translator.specs.Promise3.{Inside, Apart, NoneRead, Chunks, NoneReadInChunk}
use Rattle.translator.specs.DescriptorLaws.{stops_same, chunk-same, held_same}
use Rattle.translator.specs.PlainLaws.{three_of, one_chunk}
use Rattle.translator.specs.declared.nest.Nest.{Nest}

module _ {A : Type 0} (z : A) (l k : List A) where
  -- what holds of each member holds of each of the first of two parts
  each-front : (P : A → Type 0) → Each z P (l ++ k) → Each z P l
  each-front P e j h = subst P (get_or-append l k z j h) (e j (omega (arith, length-append l k)))

  -- what holds of each member holds of each of the second of two parts
  each_back : (P : A → Type 0) → Each z P (l ++ k) → Each z P k
  each_back P e j h = subst P (get_or-append-add l k j z) (e (length l + j) (omega (arith, length-append l k)))

  -- what holds of any two, the earlier first, holds of any two of the first of two parts
  ordered-front : (R : A → A → Type 0) → Ordered z R (l ++ k) → Ordered z R l
  ordered-front R e i j p h =
      rw (get_or-append l k z i (omega arith), get_or-append l k z j h) at (e i j p (omega (arith, length-append l k)))

  -- what holds of any two, the earlier first, holds of any two of the second of two parts
  ordered-back : (R : A → A → Type 0) → Ordered z R (l ++ k) → Ordered z R k
  ordered-back R e i j p h =
      rw (get_or-append-add l k i z, get_or-append-add l k j z) at (e (length l + i) (length l + j) (omega arith) (omega (arith, length-append l k)))

-- visits in two parts
pub plain-append : (m : Nest) (us vs : List (List ℕ)) (memory : List ℕ) → plain_over m memory (us ++ vs) ≡ plain_over m (plain_over m memory us) vs
unfolding plain_over
plain-append m [] vs memory = refl
plain-append m (u ∷ us) vs memory = plain-append m us vs (visited m memory u)

-- chunks in order are the visits of all of them
pub chunks-plain : (m : Nest) → m.loops ≤ 7 → (len : ℕ) (gs : List (List (List ℕ))) (memory : List ℕ) → Each [] (Inside m len) (join gs) → Each [] (NoneRead m) gs
    → chunks_done (three_of m) memory gs ≡ plain_over m memory (join gs)
unfolding plain_over
chunks-plain m few len [] memory i h = done_none (three_of m) memory ∙ ap (plain_over m memory) (sym join-none)
chunks-plain m few len (vs ∷ gs) memory i h =
    let j : Each [] (Inside m len) (vs ++ join gs) = subst (Each [] (Inside m len)) (join-next vs gs) i in
    done_next (three_of m) memory vs gs
    ∙ ap (λ y. chunks_done (three_of m) y gs)
    (one_chunk m few len vs memory (each-front [] vs (join gs) (Inside m len) j) (h 0 (omega arith)))
    ∙ chunks-plain m few len gs (plain_over m memory vs) (each_back [] vs (join gs) (Inside m len) j) (λ g l. h (suc g) (omega arith))
    ∙ sym (plain-append m vs (join gs) memory)
    ∙ ap (plain_over m memory) (sym (join-next vs gs))

module _ (m : Nest) (covers : Covers m.loops (coupling_of m.coupled)) (lanes : ℕ) where
  -- the elements of the chunks of the streams are the visits of the chunks of the nest
  pub chunks-nest : (n : ℕ) (gs : List (List (List ℕ))) → step.StreamChunks (shape_of m) lanes n gs → Chunks m lanes n (map (held_in (shape_of m)) gs)
  unfolding Chunks
  chunks-nest n [] c = chunks-over (shape_of m) lanes n c ∙ ap length (stops_same m covers)
  chunks-nest n (vs ∷ gs) c =
      let h = chunks-next (shape_of m) lanes n vs gs c in
      let e : length vs ≡ length (chunk_at m lanes n) = ap length (h.0 ∙ chunk-same m covers lanes n) in (
        ap (held_in (shape_of m)) h.0 ∙ held_same m covers lanes n,
        subst (λ k. 1 ≤ k) e h.1,
        subst (λ k. Chunks m lanes (n + k) (map (held_in (shape_of m)) gs)) e (chunks-nest (n + length vs) gs h.2),
      )

  -- joined, they are the visits among the stops that are left
  visits-left : (n : ℕ) (gs : List (List (List ℕ))) → Chunks m lanes n gs → visits_among m (drop n (nest_stops m)) ≡ join gs
  unfolding Chunks elements_among
  visits-left n [] c = ap (λ k. visits_among m (drop k (nest_stops m))) c ∙ ap (visits_among m) (drop-length (nest_stops m)) ∙ sym join-none
  visits-left n (vs ∷ gs) c =
      let left : List (List ℕ) = drop n (nest_stops m) in
      let k : ℕ = length (chunk_at m lanes n) in
      let front : chunk_at m lanes n ≡ take k left =
      chunk_of-front (nest_groups m) lanes n ∙ ap (λ l. take k (drop n l)) (groups-join (count_at m) m.loops (coupling_of m.coupled)) in
      ap (visits_among m) (sym (take-append-drop k left))
      ∙ among-append (count_at m) (take k left) (drop k left)
      ∙ ap₂ ◌++◌ (sym (c.0 ∙ ap (visits_among m) front)) (ap (visits_among m) (drop-drop k n (nest_stops m)) ∙ visits-left (n + k) gs c.2)
      ∙ sym (join-next vs gs)

  -- all of them joined are the visits
  pub chunks-join : (gs : List (List (List ℕ))) → Chunks m lanes 0 gs → visits m ≡ join gs
  unfolding visits
  chunks-join gs c = sym (stops_in-elements (count_at m) m.loops (coupling_of m.coupled) covers) ∙ visits-left 0 gs c

  -- of each of lists that are joined
  each_part : (gs : List (List (List ℕ))) → NoneRead m (join gs) → Each [] (NoneRead m) gs
  each_part [] h g l = absurd (omega arith)
  each_part (vs ∷ gs) h zero l = ordered-front [] vs (join gs) (Apart m) (subst (NoneRead m) (join-next vs gs) h)
  each_part (vs ∷ gs) h (suc g) l = each_part gs (ordered-back [] vs (join gs) (Apart m) (subst (NoneRead m) (join-next vs gs) h)) g (omega arith)

  -- where no visit reads what an earlier one wrote, none reads what an earlier one of its chunk wrote
  pub none-in-chunk : NoneRead m (visits m) → NoneReadInChunk m lanes
  none-in-chunk h gs c = each_part gs (subst (NoneRead m) (chunks-join gs c) h)
