-- Nests that are given, and their runs: accepted, done at every allowed vector length, with the plain loop's memory after it.
--
--   ready-runs              a nest whose premises hold
--   examples-run            01's nest, the triangle, three loops, one that writes over its first source, rows of which one has no visit
--   limits-run              a loop of 4,096, and 1,048,576 visits
use Prim.Native.Nat.{ℕ}
use mathlib.Core.Path.{◌≡◌, sym, ◌∙◌, ap, subst}
use mathlib.Core.List.{List}
use lib.ListN.{length}
use Rattle.engine.specs.Allowed.{Fits}
use Rattle.engine.specs.Sheets.{run}
use Rattle.translator.specs.Reading.{nest_bytes}
use Rattle.translator.specs.NestSheets.{sheet_of}
use Rattle.translator.specs.Translation.{run_nest}
use Rattle.translator.specs.Acceptance.{Accepted}
use Rattle.translator.specs.Promise3.{AllInside, Promise3}
use Rattle.translator.specs.PremiseTests.{Ready, RunsPlain}
use Rattle.translator.specs.Examples.{one_bytes, triangle_bytes, ragged_bytes, three_bytes, three}
use Rattle.translator.specs.ReadyNests.{one, triangle, ragged, in_place_bytes, in_place, examples-ready}
use Rattle.translator.specs.Limits.{wide_bytes, wide, million_bytes, million, wide-ready, million-ready}
use Rattle.translator.specs.declared.nest.Nest.{Nest}
use Rattle.translator.specs.declared.nest.Stage.TheVariants as stage
use Rattle.translator.proofs.Nesting.{nesting}
use Rattle.translator.proofs.Promise3.{promise3}

module _ (s : List ℕ) (m : Nest) (len : ℕ) (r : Ready s m len) where
  -- it is accepted, and these are its bytes
  is-nest : Accepted m × (s ≡ nest_bytes m)
  is-nest = ((nesting s r.bytes).is-nest m).0 r.read

  module _ (vl : ℕ) (memory : List ℕ) (e : length memory ≡ len) (f : Fits vl len) where
    -- what is promised
    promise : Promise3 m vl memory
    promise = promise3 m vl memory is-nest.0 (subst (Fits vl) (sym e) f)

    -- every visit lies inside
    inside : AllInside m (length memory)
    inside = subst (AllInside m) (sym e) r.premises.inside

    -- its sheet is run
    runs : run_nest vl s memory ≡ record { stage = stage.Sheet; progress = run vl (sheet_of m) memory }
    runs = ap (λ b. run_nest vl b memory) is-nest.1 ∙ promise.runs

  -- a nest whose premises hold
  pub ready-runs : RunsPlain s m len
  ready-runs = record {
    accepted = is-nest.0;
    bytes = is-nest.1;
    done = λ vl memory e f. ap (λ o. o.progress.verdict) (runs vl memory e f) ∙ (promise vl memory e f).done (inside vl memory e f);
    plain = λ vl memory e f.
        ap (λ o. o.progress.world.memory) (runs vl memory e f) ∙ (promise vl memory e f).plain (inside vl memory e f) r.premises.apart;
  }

-- 01's nest, the triangle, three loops, one that writes over its first source, rows of 0, 1 and 2 visits and of 2, 1 and 0, coupled to the
-- rows
pub examples-run :
    RunsPlain one_bytes one 19
    × RunsPlain (triangle_bytes 0) (triangle 0) 36
    × RunsPlain (triangle_bytes 1) (triangle 1) 36
    × RunsPlain (triangle_bytes 2) (triangle 2) 36
    × RunsPlain three_bytes three 510
    × RunsPlain in_place_bytes in_place 11
    × RunsPlain (ragged_bytes 1 0x00 0x02) (ragged 1 0x00 0x02) 30
    × RunsPlain (ragged_bytes 1 0x02 0x01) (ragged 1 0x02 0x01) 25
examples-run = (
  ready-runs _ _ _ examples-ready.0,
  ready-runs _ _ _ examples-ready.1,
  ready-runs _ _ _ examples-ready.2,
  ready-runs _ _ _ examples-ready.3,
  ready-runs _ _ _ examples-ready.4,
  ready-runs _ _ _ examples-ready.5,
  ready-runs _ _ _ examples-ready.6,
  ready-runs _ _ _ examples-ready.7,
)

-- a loop of 4,096 and 1,048,576 visits, on every memory of 65,536 bytes
pub limits-run : RunsPlain wide_bytes wide 65536 × RunsPlain million_bytes million 65536
limits-run = (ready-runs _ _ _ wide-ready, ready-runs _ _ _ million-ready)
