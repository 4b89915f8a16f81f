-- Promise 3, proved: the run of a nest's sheet is done if every visit lies inside memory, and leaves the plain loop's memory if no visit
-- reads what an earlier one of its chunk wrote.
--
--   lanes-some           a vector has a lane at least
--   sheet-run, steps     the sheet runs, over three streams in step
--   chunked              the run, chunk by chunk
--   is-done, is_plain    what it answers, and what it leaves
--   promise3
use Prim.Native.Nat.{ℕ, ◌/◌, ◌≤◌, ◌<◌}
use Rattle.std.proofs.Common.{Ok}
use mathlib.Core.Path.{◌≡◌, refl, sym, ◌∙◌, ap, subst}
use mathlib.Core.Logic.{◌⊎◌, inl, inr}
use mathlib.Core.List.{List, [], ◌∷◌, map}
use mathlib.Core.Bool.{Bool, true, false, cond}
use native.Mathlib.Omega.{arith}
use lib.ListN.{length, get_or}
use lib.Dec.{leb}
use Rattle.codec.specs.Headers.{bytes_of}
use Rattle.codec.specs.declared.header.Width.{Width}
use Rattle.codec.specs.declared.header.Width.TheVariants.{B, H, W, D}
use Rattle.codec.specs.declared.refusal.Refusal.TheVariants as reason
use Rattle.engine.specs.Configure.{Covers}
use Rattle.engine.specs.Loops.{elements, join}
use Rattle.engine.specs.Chunks.{stops, held_in}
use Rattle.engine.specs.Members.{Each}
use Rattle.engine.specs.ChunkLaws.{covered}
use Rattle.engine.specs.Registers.{reg}
use Rattle.engine.specs.Run.{execute}
use Rattle.engine.specs.Sheets.{run}
use Rattle.engine.specs.Allowed.{Fits, Lies, AllLie}
use Rattle.engine.specs.AllowedLaws.{fits-allowed}
use Rattle.engine.specs.InStep.{InStep}
use Rattle.engine.specs.InStepLaws.{StepsDone, in_step}
use Rattle.engine.specs.Promise1.{LoopsOn, world}
use Rattle.engine.proofs.Promise1.{Runs, sheet-runs}
use Rattle.engine.specs.declared.register.State.{State}
use Rattle.engine.specs.declared.register.State.TheVariants.{Open, Finished}
use Rattle.engine.specs.declared.run.Placed.{Placed}
use Rattle.translator.specs.Fields.{first, second, destination}
use Rattle.translator.specs.Nests.{visits, width_of, place_of, plain_over, plain_loop, coupling_of}
use Rattle.translator.specs.Reading.{nest_at, nest_bytes}
use Rattle.translator.specs.NestSheets.{shape_of, pattern_for, sheet_ops, calculation_of, sheet_of}
use Rattle.translator.specs.Translation.{unrun, run_nested, run_nest}
use Rattle.translator.specs.Acceptance.{Accepted}
use Rattle.translator.specs.Promise3.{Inside, AllInside, Chunks, NoneReadInChunk, Promise3}
use Rattle.translator.specs.NestingLaws.{accepted-read}
use Rattle.translator.specs.DescriptorLaws.{couples, visits-elements, place-address}
use Rattle.translator.specs.PlainLaws.{three_of}
use Rattle.translator.specs.ChunkedLaws.{chunks-plain, chunks-nest, chunks-join, none-in-chunk}
use Rattle.translator.specs.StartLaws.{body, Started, started}
use Rattle.translator.specs.declared.nest.Access.{Access}
use Rattle.translator.specs.declared.nest.Nest.{Nest}
use Rattle.translator.specs.declared.nest.Stage.TheVariants as stage

-- a vector of 8 bytes or more has a lane of any width
lanes-some : (w : Width) (vl : ℕ) → 8 ≤ vl → 0 < vl / bytes_of w
lanes-some B vl h = omega arith
lanes-some H vl h = omega arith
lanes-some W vl h = omega arith
lanes-some D vl h = omega arith

-- a stream that is ended is open or finished
open-or-finished : (k : State) (b : Bool) → k ≡ cond b Finished Open → (k ≡ Open) ⊎ (k ≡ Finished)
open-or-finished k true e = inr e
open-or-finished k false e = inl e

-- the coupled loop is one of the loops
covers : (m : Nest) → Accepted m → Covers m.loops (coupling_of m.coupled)
covers m ac = covered (shape_of m) (coupling_of m.coupled) (couples (shape_of m) m.coupled ac.range.coupled)

module _ (m : Nest) (ac : Accepted m) (vl : ℕ) (memory : List ℕ) (fits : Fits vl (length memory)) where
  -- the sheet's operations, done
  s : Started m
  s = started m ac

  -- its one calculation
  abbrev one : Placed
  one = body m s.from

  -- the loop register has a load stream that the calculation names
  loops-on : LoopsOn 1 (one ∷ []) s.machine
  loops-on = record {
    load = (s.streams first).is;
    stream = open-or-finished (reg s.machine 1).state (leb (length (stops (shape_of m))) 0) (s.streams first).state;
    which = 0;
    below = omega arith;
    named = inl refl;
  }

  -- the sheet runs
  sheet-run : Runs vl (sheet_of m) memory s.machine 1 (one ∷ [])
  sheet-run = sheet-runs vl (sheet_of m) memory s.bytes (sheet_ops m) s.place s.machine 1 (one ∷ []) s.before fits s.run_at loops-on

  -- over three streams in step
  steps : InStep vl (three_of m) (calculation_of m) 0 (world s.machine memory)
  steps = record {
    named = record { first = omega arith; second = omega arith; destination = omega arith };
    task = refl;
    not_first = λ e. omega arith;
    not-second = λ e. omega arith;
    good = sheet-run.running.good;
    first = s.streams first;
    second = s.streams second;
    destination = s.streams destination;
  }

  -- an access whose visits lie inside has elements that do
  lie : (a : Access) → Each [] (λ v. Lies (length memory) (width_of m) (place_of m a v)) (visits m)
      → AllLie (length memory) (width_of m) (pattern_for m a) (elements (shape_of m))
  lie a h =
      subst (AllLie (length memory) (width_of m) (pattern_for m a)) (sym (visits-elements m))
      (λ k l. subst (Lies (length memory) (width_of m)) (sym (place-address m a (get_or (visits m) k []) ac.range.loops-most)) (h k l))

  module _ (inside : AllInside m (length memory)) where
    -- the run, chunk by chunk
    chunked : StepsDone vl (three_of m) (shape_of m) 0 memory (execute vl 1 (one ∷ []) (world s.machine memory))
    chunked =
        in_step vl (three_of m) (shape_of m) (record { first = refl; second = refl; destination = refl }) (covers m ac) fits.least
        (lanes-some m.width vl fits.least) one 1 (inl refl) (world s.machine memory) steps
        (record {
          first = lie m.first (λ k h. (inside k h).first);
          second = lie m.second (λ k h. (inside k h).second);
          destination = lie m.destination (λ k h. (inside k h).destination);
        })

    -- it is done
    is-done : (run vl (sheet_of m) memory).verdict ≡ Ok tt
    is-done = ap (λ r. r.verdict) sheet-run.executes ∙ chunked.done

    -- the elements of its chunks
    abbrev parts : List (List (List ℕ))
    parts = map (held_in (shape_of m)) chunked.chunks

    -- they are the visits of the nest's chunks
    chunks : Chunks m (vl / width_of m) 0 parts
    chunks = chunks-nest m (covers m ac) (vl / width_of m) 0 chunked.chunks chunked.are

    -- it leaves the plain loop's memory
    is_plain : NoneReadInChunk m (vl / width_of m) → (run vl (sheet_of m) memory).world.memory ≡ plain_loop m memory
    is_plain apart =
        let all : visits m ≡ join parts = chunks-join m (covers m ac) (vl / width_of m) parts chunks in
        ap (λ r. r.world.memory) sheet-run.executes
        ∙ chunked.memory-after
        ∙ chunks-plain m ac.range.loops-most (length memory) parts memory
        (subst (Each [] (Inside m (length memory))) all inside) (apart parts chunks)
        ∙ ap (plain_over m memory) (sym all)

-- ---- the promise

-- the bytes of an accepted nest are translated and run
reads : (m : Nest) (vl : ℕ) (memory : List ℕ) → Accepted m → Fits vl (length memory)
    → run_nest vl (nest_bytes m) memory ≡ record { stage = stage.Sheet; progress = run vl (sheet_of m) memory }
unfolding run_nest
reads m vl memory ac f =
    ap (λ b. cond b (run_nested vl (nest_at (nest_bytes m)) memory) (unrun stage.Lengths memory reason.Lengths 0)) ((fits-allowed vl (length memory)).1 f)
    ∙ ap (λ d. run_nested vl d memory) (accepted-read (nest_bytes m) m ac refl)

-- Promise 3
pub promise3 : (m : Nest) (vl : ℕ) (memory : List ℕ) → Accepted m → Fits vl (length memory) → Promise3 m vl memory
promise3 m vl memory ac f = record {
  runs = reads m vl memory ac f;
  done = is-done m ac vl memory f;
  plain = λ i n. is_plain m ac vl memory f i (none-in-chunk m (covers m ac) (vl / width_of m) n);
  chunkwise = is_plain m ac vl memory f;
}
