-- Three streams in step: a run over them is done, and leaves the memory of its chunks.
--
--   streaming-open, streaming-shut    open while a stop is left
--   unhindered, one-done, together    one calculation: not refused; memory after it; all three go past the chunk together
--   StepsDone, in_step                the whole run: done, and memory after it is that of its chunks
use Rattle.std.specs.Prelude.{◌≡◌, ℕ, zero, suc, ◌+◌, ◌*◌, ◌/◌, ◌<◌, ◌≤◌, Bool, true, false, cond, not, ◌&&◌, ◌||◌, ◌⊎◌, List, [], ◌∷◌, ◌++◌, map, length, get_or, take, drop, ℤ, pos, negsuc, ◌==◌, slice_index_or, Ok}
use Rattle.std.proofs.Math.Path.{refl, ap, ap₂}
use Rattle.std.proofs.Common.{sym, ◌∙◌, subst, inl, inr, arith, length-append, length-take, length-drop, take-append-drop, get_or-append-add, leb→le, eq-eqb, ne_eqb, le-leb, le-ltb}
use Rattle.std.proofs.Math.Decide.{dec_lt}
use Rattle.std.proofs.lemmas.List.{length-map}
use Rattle.std.proofs.Math.ListN.{get_or-append}
use Rattle.std.proofs.Math.Seq.{take-length}
use Rattle.std.proofs.lemmas.Bool.{lt-leb}
use Rattle.codec.specs.declared.header.Kind.{Kind}
use Rattle.codec.specs.declared.header.Kind.TheVariants.{Load, Store}
use Rattle.codec.specs.declared.operation.Calculation.{Calculation}
use Rattle.engine.specs.Configure.{Covers}
use Rattle.engine.specs.Loops.{size_at, elements}
use Rattle.engine.specs.Chunks.{stops, held_in, stream_groups, chunk}
use Rattle.engine.specs.Addresses.{address, inside}
use Rattle.engine.specs.Memory.{fetch, holding}
use Rattle.engine.specs.Lanes.{lane, lanewise, outcome_count, wants_lanes}
use Rattle.engine.specs.Registers.{is_configuring, is_open, is_finished, open_load, open_store, state_after, shape_of, next_stops, next_chunk, stops_for, moved_by, to_come, reg}
use Rattle.engine.specs.Calculate.{World, given, results, all_inside, outside, refusal_of, read_from, written_to, memory_after, effect}
use Rattle.engine.specs.Run.{Progress, begun, unless_refused, pass, pass_by, counted, repeat, repeat_by, execute, Verdict}
use Rattle.engine.specs.ChunkLaws.{groups-join, chunk-some, chunk-stops}
use Rattle.engine.specs.StopLaws.{among-append, stops-elements}
use Rattle.engine.specs.Good.{Good}
use Rattle.engine.specs.ComeLaws.{come-open, past-chunk}
use Rattle.engine.specs.CalculationLaws.{not-refused}
use Rattle.engine.specs.EffectLaws.{effect-reg, read-open, written-open, results-length, memory-length}
use Rattle.engine.specs.EffectGood.{effect-good}
use Rattle.engine.specs.Allowed.{Lies, AllLie}
use Rattle.engine.specs.InStep.{Three, OneShape, Streaming, InStep, AllInside, StreamChunks, chunk_done, chunks_done}
use Rattle.engine.specs.declared.stream.Shape.{Shape}
use Rattle.engine.specs.declared.stream.Pattern.{Pattern}
use Rattle.engine.specs.declared.register.State.TheVariants.{Open, Finished}
use Rattle.engine.specs.declared.register.Register.{Register}
use Rattle.engine.specs.declared.run.Placed.{Placed}

-- ---- one register

module _ (p : Pattern) (kind : Kind) (width n : ℕ) (r : Register) (t : Streaming p kind width n r) where
  -- it is open while a stop is left
  pub streaming-open : n < length (stops p.shape) → r.state ≡ Open
  streaming-open h = t.state ∙ ap (λ b. cond b Finished Open) (lt-leb (length (stops p.shape)) n h)

  -- and finished once none is
  pub streaming-shut : length (stops p.shape) ≤ n → r.state ≡ Finished
  streaming-shut h = t.state ∙ ap (λ b. cond b Finished Open) (le-leb (length (stops p.shape)) n h)

  -- the stops of its next chunk are the pattern's
  stops-are : (vl : ℕ) → next_stops vl r ≡ chunk p.shape (vl / width) n
  unfolding next_stops
  stops-are vl = rw (t.pattern, t.wide, t.moved)

  -- and so are the elements there
  next-are : (vl : ℕ) → next_chunk vl r ≡ held_in p.shape (chunk p.shape (vl / width) n)
  unfolding next_chunk
  next-are vl = ap₂ (λ q vs. held_in q.shape vs) t.pattern (stops-are vl)

  -- its lanes are the values at these
  given_is : (vl : ℕ) (memory : List ℕ) → n < length (stops p.shape)
      → given vl memory r ≡ map (fetch p width memory) (held_in p.shape (chunk p.shape (vl / width) n))
  unfolding given
  given_is vl memory h = let o : is_open r.state ≡ true = ap is_open (streaming-open h) in rw (o, next-are vl, t.pattern, t.wide)

  -- after k lanes more it is at the stop behind those that they go past
  moved_on : (k : ℕ) → Streaming p kind width (n + stops_for r k) (moved_by k r)
  unfolding moved_by
  moved_on k = record {
    pattern = t.pattern;
    is = t.is;
    wide = t.wide;
    moved = ap (λ m. m + stops_for r k) t.moved;
    state = ap (λ q. state_after q.shape (r.moved + stops_for r k)) t.pattern ∙ ap (λ m. state_after p.shape (m + stops_for r k)) t.moved;
  }

  -- whatever its register holds, it is the same stream at the same stop
  held : (xs : List ℕ) → Streaming p kind width n (holding r.width xs r)
  unfolding holding
  held xs = record { pattern = t.pattern; is = t.is; wide = t.wide; moved = t.moved; state = t.state }

  module _ (vl : ℕ) (least : 8 ≤ vl) (g : Good vl r) (h : n < length (stops p.shape)) where
    -- the lanes of its next chunk go past the stops of that
    past_all : stops_for r (length (next_chunk vl r)) ≡ length (chunk p.shape (vl / width) n)
    past_all = past-chunk vl r least g (ap is_open (streaming-open h)) ∙ ap length (stops-are vl)

    -- after a write of as many lanes as the next chunk has elements the stream is past that chunk
    wrote_on : (by : ℕ) (xs : List ℕ) → length xs ≡ length (next_chunk vl r) → Streaming p kind width (n + length (chunk p.shape (vl / width) n)) (written_to by xs r)
    wrote_on by xs e =
        rw (written-open by xs r (ap is_open (streaming-open h)))
        (subst (λ k. Streaming p kind width (n + k) (moved_by (length xs) r)) (ap (stops_for r) e ∙ past_all) (moved_on (length xs)))

-- after a read the stream is past its next chunk
read-on : (p : Pattern) (kind : Kind) (width n vl : ℕ) (memory : List ℕ) (r : Register) → Streaming p kind width n r → 8 ≤ vl → Good vl r
    → n < length (stops p.shape) → Streaming p kind width (n + length (chunk p.shape (vl / width) n)) (read_from vl memory r)
unfolding holding
read-on p kind width n vl memory r t least g h =
    rw (read-open vl memory r (ap is_open (streaming-open p kind width n r t h)))
    (subst (λ k. Streaming p kind width (n + k) (moved_by (length (next_chunk vl r)) (holding r.width (given vl memory r) r)))
    (past_all p kind width n r t vl least g h)
    (moved_on p kind width n _ (held p kind width n r t (given vl memory r)) (length (next_chunk vl r))))

-- ---- inside

-- an address inside, by the engine's test
lies-inside : (len width : ℕ) (a : ℤ) → Lies len width a → inside len width a ≡ true
lies-inside len width (pos k) l = le-leb (k + width) len (leb→le (k + width) len l.most.le)
lies-inside len width (negsuc k) l = absurd l.least.le

-- elements inside, by the engine's test
all-inside : (len width : ℕ) (p : Pattern) (vs : List (List ℕ)) → AllLie len width p vs → all_inside p width len vs ≡ true
unfolding all_inside
all-inside len width p [] l = refl
all-inside len width p (v ∷ vs) l = rw (lies-inside len width (address p width v) (l 0 (omega arith)), all-inside len width p vs (λ k h. l (suc k) (omega arith)))

-- a test that fails on both sides
neither : (a o b : Bool) → a ≡ true → b ≡ false → (not a || o && b) ≡ false
neither a true b e f = rw (e, f)
neither a false b e f = rw e

-- a load is no open store
no_store : (r : Register) → r.kind ≡ Load → open_store r ≡ false
no_store r e = rw e (by (is_open r.state))
  where
    by : (o : Bool) → (o && false) ≡ false
    by true = refl
    by false = refl

-- a store is no open load
no-load : (r : Register) → r.kind ≡ Store → open_load r ≡ false
no-load r e = rw e (by (is_open r.state))
  where
    by : (o : Bool) → (o && false) ≡ false
    by true = refl
    by false = refl

-- ---- one calculation

module _ (vl : ℕ) (least : 8 ≤ vl) (b : Three) (s : Shape) (one : OneShape b s) (c : Calculation) (n : ℕ) (w : World) (t : InStep vl b c n w)
    (h : n < length (stops s)) where
  -- the first source
  abbrev ra : Register
  ra = reg w.machine c.first

  -- the second source
  abbrev rb : Register
  rb = reg w.machine c.second

  -- the destination
  abbrev rd : Register
  rd = reg w.machine c.destination

  -- the stops of the chunk that all three go past
  abbrev pub past : List (List ℕ)
  past = chunk s (vl / b.width) n

  -- its elements: none at a coupled pass that holds none
  abbrev pub now : List (List ℕ)
  now = held_in s past

  -- the first source is open
  open-a : ra.state ≡ Open
  open-a = streaming-open _ _ _ n ra t.first (rw one.first h)

  -- the second source is open
  open-b : rb.state ≡ Open
  open-b = streaming-open _ _ _ n rb t.second (rw one.second h)

  -- the destination is open
  open-d : rd.state ≡ Open
  open-d = streaming-open _ _ _ n rd t.destination (rw one.destination h)

  -- the next chunk of the first source is that chunk
  next-a : next_chunk vl ra ≡ now
  next-a = next-are _ _ _ n ra t.first vl ∙ ap (λ u. held_in u (chunk u (vl / b.width) n)) one.first

  -- the next chunk of the second source is that chunk
  next-b : next_chunk vl rb ≡ now
  next-b = next-are _ _ _ n rb t.second vl ∙ ap (λ u. held_in u (chunk u (vl / b.width) n)) one.second

  -- the next chunk of the destination is that chunk
  next-d : next_chunk vl rd ≡ now
  next-d = next-are _ _ _ n rd t.destination vl ∙ ap (λ u. held_in u (chunk u (vl / b.width) n)) one.destination

  -- the lanes of the first source are the values at the chunk's elements
  given-a : given vl w.memory ra ≡ map (fetch b.first b.width w.memory) now
  given-a =
      given_is _ _ _ n ra t.first vl w.memory (rw one.first h)
      ∙ ap (λ u. map (fetch b.first b.width w.memory) (held_in u (chunk u (vl / b.width) n))) one.first

  -- the lanes of the second source are the values at the chunk's elements
  given-b : given vl w.memory rb ≡ map (fetch b.second b.width w.memory) now
  given-b =
      given_is _ _ _ n rb t.second vl w.memory (rw one.second h)
      ∙ ap (λ u. map (fetch b.second b.width w.memory) (held_in u (chunk u (vl / b.width) n))) one.second

  -- the first source gives as many lanes as the chunk has elements
  lanes-a : length (given vl w.memory ra) ≡ length now
  lanes-a = ap length given-a ∙ length-map now (fetch b.first b.width w.memory)

  -- the second source gives as many lanes as the chunk has elements
  lanes-b : length (given vl w.memory rb) ≡ length now
  lanes-b = ap length given-b ∙ length-map now (fetch b.second b.width w.memory)

  -- no element of the chunk is outside
  not-outside : (p : Pattern) (r : Register) (vs : List (List ℕ)) → r.pattern ≡ p → r.width ≡ b.width → vs ≡ now → AllLie (length w.memory) b.width p now
      → outside (length w.memory) r vs ≡ false
  not-outside p r vs e f g l =
      rw (e, f, g, all-inside (length w.memory) b.width p now l) (by (is_open r.state))
    where
      by : (o : Bool) → (o && false) ≡ false
      by true = refl
      by false = refl

  -- it is not refused
  pub unhindered : AllInside b (length w.memory) now → refusal_of vl c w ≡ Ok tt
  unhindered l =
      let m : take (outcome_count c.task (length (given vl w.memory ra))) (next_chunk vl rd) ≡ now = rw (t.task, lanes-a, next-d) (take-length now) in
      let fits : outcome_count c.task (length (given vl w.memory ra)) ≤ length (next_chunk vl rd) = rw t.task (omega (arith, ap length next-d, lanes-a)) in
      not-refused vl c w
      (record {
        first-state = ap is_configuring open-a;
        first_ended = ap is_finished open-a;
        first_kind = no_store ra t.first.is;
        second-state = ap is_configuring open-b;
        second_ended = ap is_finished open-b;
        second-kind = no_store rb t.second.is;
        destination-state = ap is_configuring open-d;
        destination-ended = ap is_finished open-d;
        destination-kind = no-load rd t.destination.is;
        widths = neither _ (open_store rd) _ (eq-eqb _ _ (t.first.wide ∙ sym t.second.wide)) (ap not (eq-eqb _ _ (t.first.wide ∙ sym t.destination.wide)));
        counts = neither _ (open_store rd) _ (eq-eqb _ _ (lanes-a ∙ sym lanes-b)) (le-ltb _ _ fits);
        some = ap (λ k. wants_lanes k && length (given vl w.memory ra) == 0) t.task;
        first-inside = not-outside b.first ra (next_chunk vl ra) t.first.pattern t.first.wide next-a l.first;
        second-inside = not-outside b.second rb (next_chunk vl rb) t.second.pattern t.second.wide next-b l.second;
        destination-inside = not-outside b.destination rd _ t.destination.pattern t.destination.wide m l.destination;
      })

  -- the calculation's lanes are the operation, lane by lane, of the values at both sources' elements
  results-are : results vl c w
      ≡ lanewise (lane b.action (8 * b.width)) (map (fetch b.first b.width w.memory) now) (map (fetch b.second b.width w.memory) now)
  unfolding results
  results-are = rw (t.task, t.first.wide, given-a, given-b)

  -- memory after it: all lanes read, then all stored
  pub one-done : (effect vl c w).memory ≡ chunk_done b w.memory now
  unfolding effect memory_after
  one-done = let o : is_open rd.state ≡ true = ap is_open open-d in rw (o, t.destination.pattern, t.destination.wide, next-d, results-are)

  -- all three go past it together
  pub together : refusal_of vl c w ≡ Ok tt → InStep vl b c (n + length past) (effect vl c w)
  together e = record {
    named = t.named;
    task = t.task;
    not_first = t.not_first;
    not-second = t.not-second;
    good = effect-good vl c w least t.good t.named e;
    first = rw (reg-a, ← one.first) (read-on _ _ _ n vl w.memory ra t.first least (t.good.good c.first t.named.first) (rw one.first h));
    second = rw (reg-b, ← one.second) (read-on _ _ _ n vl w.memory rb t.second least (t.good.good c.second t.named.second) (rw one.second h));
    destination =
        rw (reg-d, ← one.destination)
        (wrote_on _ _ _ n rd t.destination vl least (t.good.good c.destination t.named.destination) (rw one.destination h) ra.width (results vl c w) lanes-out);
  }
    where
      below : (i : ℕ) → i < 32 → i < length w.machine.registers
      below i k = omega (arith, t.good.all)

      or-true : (a : Bool) → (a || true) ≡ true
      or-true true = refl
      or-true false = refl

      reg-a : reg (effect vl c w).machine c.first ≡ read_from vl w.memory ra
      reg-a = effect-reg vl c w c.first (below c.first t.named.first) ∙ rw (ne_eqb c.first c.destination t.not_first, eq-eqb c.first c.first refl)

      reg-b : reg (effect vl c w).machine c.second ≡ read_from vl w.memory rb
      reg-b =
          effect-reg vl c w c.second (below c.second t.named.second)
          ∙ rw (ne_eqb c.second c.destination t.not-second, eq-eqb c.second c.second refl, or-true (c.second == c.first))

      reg-d : reg (effect vl c w).machine c.destination ≡ written_to ra.width (results vl c w) rd
      reg-d = effect-reg vl c w c.destination (below c.destination t.named.destination) ∙ rw (eq-eqb c.destination c.destination refl)

      lanes-out : length (results vl c w) ≡ length (next_chunk vl rd)
      lanes-out =
          results-length vl c w e ∙ ap (λ k. outcome_count k (length (given vl w.memory ra))) t.task ∙ lanes-a ∙ sym (ap length next-d)

-- ---- the run

-- the elements of a chunk are elements of the stream
chunk_inside : (s : Shape) (lanes n len width : ℕ) (p : Pattern) → Covers s.dims s.coupling → AllLie len width p (elements s)
    → AllLie len width p (held_in s (chunk s lanes n))
chunk_inside s lanes n len width p cov l k h =
    subst (λ v. Lies len width (address p width v)) (sym here) (l (length before + k) (omega (arith, ap length all, length-append before (c ++ after), length-append c after)))
  where
    vs : List (List ℕ)
    vs = drop n (stops s)

    before : List (List ℕ)
    before = held_in s (take n (stops s))

    c : List (List ℕ)
    c = held_in s (chunk s lanes n)

    after : List (List ℕ)
    after = held_in s (drop (length (chunk s lanes n)) vs)

    rest : held_in s vs ≡ c ++ after
    rest =
        ap (held_in s) (sym (take-append-drop (length (chunk s lanes n)) vs))
        ∙ among-append (size_at s) (take (length (chunk s lanes n)) vs) (drop (length (chunk s lanes n)) vs)
        ∙ ap (λ u. held_in s u ++ after) (sym (chunk-stops s lanes n))

    all : elements s ≡ before ++ (c ++ after)
    all =
        sym (stops-elements s cov)
        ∙ ap (held_in s) (sym (take-append-drop n (stops s)))
        ∙ among-append (size_at s) (take n (stops s)) vs
        ∙ ap (λ u. before ++ u) rest

    here : get_or c k [] ≡ slice_index_or (elements s) (length before + k) []
    here =
        sym (get_or-append c after [] k h)
        ∙ sym (get_or-append-add before (c ++ after) k [])
        ∙ ap (λ u. get_or u (length before + k) []) (sym all)

-- what a run over three streams in step leaves: the stops of its chunks, and the memory of their elements
pub record StepsDone (vl : ℕ) (b : Three) (s : Shape) (n : ℕ) (memory : List ℕ) (r : Progress) : Type 0 where
  pub chunks : List (List (List ℕ))
  pub are : StreamChunks s (vl / b.width) n chunks
  pub done : r.verdict ≡ Ok tt
  pub memory-after : r.world.memory ≡ chunks_done b memory (map (held_in s) chunks)

-- memory after the first chunk, then after those behind it
then-after : (b : Three) (before memory after : List ℕ) (vs : List (List ℕ)) (gs : List (List (List ℕ))) → memory ≡ chunk_done b before vs
    → after ≡ chunks_done b memory gs → after ≡ chunks_done b before (vs ∷ gs)
unfolding chunks_done
then-after b before memory after vs gs e f = f ∙ ap (λ z. chunks_done b z gs) e

module _ (vl : ℕ) (b : Three) (s : Shape) (one : OneShape b s) (cov : Covers s.dims s.coupling) (least : 8 ≤ vl) (lanes : 0 < vl / b.width) (c : Placed) (loop : ℕ)
    (is : (loop ≡ c.calculation.first) ⊎ (loop ≡ c.calculation.second)) where
  -- the three streams are in step at stop n
  abbrev Steps : ℕ → World → Type 0
  Steps n w = InStep vl b c.calculation n w

  -- the loop register's stream is open while a stop is left
  loop-open : (n : ℕ) (w : World) → Steps n w → n < length (stops s) → is_open (reg w.machine loop).state ≡ true
  loop-open n w t h = go is
    where
      go : (loop ≡ c.calculation.first) ⊎ (loop ≡ c.calculation.second) → is_open (reg w.machine loop).state ≡ true
      go (inl e) = rw e (ap is_open (streaming-open _ _ _ n _ t.first (rw one.first h)))
      go (inr e) = rw e (ap is_open (streaming-open _ _ _ n _ t.second (rw one.second h)))

  -- and not open once none is left
  loop-shut : (n : ℕ) (w : World) → Steps n w → length (stops s) ≤ n → is_open (reg w.machine loop).state ≡ false
  loop-shut n w t h = go is
    where
      go : (loop ≡ c.calculation.first) ⊎ (loop ≡ c.calculation.second) → is_open (reg w.machine loop).state ≡ false
      go (inl e) = rw e (ap is_open (streaming-shut _ _ _ n _ t.first (rw one.first h)))
      go (inr e) = rw e (ap is_open (streaming-shut _ _ _ n _ t.second (rw one.second h)))

  -- a pass of the one calculation
  passed-one : (g : Progress) → refusal_of vl c.calculation g.world ≡ Ok tt
      → ((pass vl (c ∷ []) g).verdict ≡ Ok tt) × ((pass vl (c ∷ []) g).world ≡ effect vl c.calculation g.world)
  unfolding pass_by
  passed-one g e = rw e (refl, refl)

  -- the passes that are left
  steps : (f n : ℕ) (g : Progress) → g.verdict ≡ Ok tt → Steps n g.world → n ≤ length (stops s) → length (stops s) ≤ f + n
      → AllInside b (length g.world.memory) (elements s) → StepsDone vl b s n g.world.memory (repeat vl loop (c ∷ []) f g)
  unfolding repeat_by StreamChunks chunks_done
  steps zero n g v t m k l = record { chunks = []; are = omega arith; done = v; memory-after = refl }
  steps (suc f) n g v t m k l = go (dec_lt n (length (stops s))) (steps f)
    where
      w : World
      w = g.world

      u : List (List ℕ)
      u = chunk s (vl / b.width) n

      q : Progress
      q = pass vl (c ∷ []) g

      Goal : Bool → Verdict → Type 0
      Goal o d = StepsDone vl b s n w.memory (cond o (unless_refused d q (repeat vl loop (c ∷ []) f (counted q))) g)

      go : Dec (n < length (stops s))
          → ((i : ℕ) (h : Progress) → h.verdict ≡ Ok tt → Steps i h.world → i ≤ length (stops s) → length (stops s) ≤ f + i
          → AllInside b (length h.world.memory) (elements s) → StepsDone vl b s i h.world.memory (repeat vl loop (c ∷ []) f h))
          → Goal (is_open (reg w.machine loop).state) q.verdict
      go (no p) rest =
          rw (loop-shut n w t (omega arith)) (record { chunks = []; are = omega arith; done = v; memory-after = refl })
      go (yes h) rest =
          let some : 0 < length u = chunk-some (stream_groups s) (vl / b.width) n lanes (rw (groups-join (size_at s) s.dims s.coupling) h) in
          let most : n + length u ≤ length (stops s) =
          omega (arith, ap length (chunk-stops s (vl / b.width) n), length-take (length u) (drop n (stops s)), length-drop n (stops s)) in
          let free : refusal_of vl c.calculation w ≡ Ok tt =
          unhindered vl least b s one c.calculation n w t h
          (record {
            first = chunk_inside s (vl / b.width) n (length w.memory) b.width b.first cov l.first;
            second = chunk_inside s (vl / b.width) n (length w.memory) b.width b.second cov l.second;
            destination = chunk_inside s (vl / b.width) n (length w.memory) b.width b.destination cov l.destination;
          }) in
          let done = passed-one g free in
          let memory : q.world.memory ≡ chunk_done b w.memory (held_in s u) = ap (λ z. z.memory) done.1 ∙ one-done vl least b s one c.calculation n w t h in
          let len : length q.world.memory ≡ length w.memory = ap (λ z. length z.memory) done.1 ∙ memory-length vl c.calculation w in
          let r : StepsDone vl b s (n + length u) q.world.memory (repeat vl loop (c ∷ []) f (counted q)) =
          rest (n + length u) (counted q) done.0 (rw done.1 (together vl least b s one c.calculation n w t h free)) most (omega arith) (rw len l) in
          subst (λ o. Goal o q.verdict) (sym (loop-open n w t h))
          (subst (Goal true) (sym done.0)
          (record {
            chunks = u ∷ r.chunks;
            are = (refl, some, r.are);
            done = r.done;
            memory-after = then-after b w.memory q.world.memory _ (held_in s u) (map (held_in s) r.chunks) memory r.memory-after;
          }))

  -- at the start all stops are to come
  all_left : (w : World) → Steps 0 w → length (stops s) ≤ length (to_come (reg w.machine loop))
  all_left w t = go is (dec_lt 0 (length (stops s)))
    where
      left : (p : Pattern) (r : Register) → Streaming p Load b.width 0 r → p.shape ≡ s → 0 < length (stops s) → length (stops s) ≤ length (to_come r)
      left p r u e h =
          let o : is_open r.state ≡ true = ap is_open (streaming-open p Load b.width 0 r u (rw e h)) in
          let a : to_come r ≡ drop r.moved (stops (shape_of r)) = come-open r o in
          let z : to_come r ≡ stops s = a ∙ ap (λ k. drop k (stops (shape_of r))) u.moved ∙ ap (λ d. stops d.shape) u.pattern ∙ ap stops e in
          omega (arith, ap length z)

      go : (loop ≡ c.calculation.first) ⊎ (loop ≡ c.calculation.second) → Dec (0 < length (stops s))
          → length (stops s) ≤ length (to_come (reg w.machine loop))
      go i (no h) = omega arith
      go (inl e) (yes h) = rw e (left b.first _ t.first one.first h)
      go (inr e) (yes h) = rw e (left b.second _ t.second one.second h)

  -- a run from the start of the streams
  pub in_step : (w : World) → Steps 0 w → AllInside b (length w.memory) (elements s) → StepsDone vl b s 0 w.memory (execute vl loop (c ∷ []) w)
  in_step w t l = steps (length (to_come (reg w.machine loop))) 0 (begun w) refl t (omega arith) (omega (arith, all_left w t)) l
