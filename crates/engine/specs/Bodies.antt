-- A sheet's body and ending as the code keeps them, and what was read of them or refused.
--
--   calculations_of, run_is, ending_is, prepared_is   what was told, in the definitions' words
--   progress_of, Executed         an answer and the memory with it, in the definitions' words
--   verdict_of, settled_of         what some operations of a sheet leave
use Rattle.std.specs.Prelude.{◌≡◌, ℕ, List, Option, None, Some, Result, Ok, Err}
use Rattle.arrayvec.specs.ArrayVec.{ArrayVec}
use Rattle.codec.specs.declared.refusal.Refused.{Refused}
use Rattle.engine.specs.Sheets.{Calculations, whole, broken, Ending, over, runs, refused}
use Rattle.engine.specs.Sheets
use Rattle.engine.specs.Run.{Progress, execute, Verdict, refusal_at}
use Rattle.engine.specs.declared.register.Machine.{Machine}
use Rattle.engine.specs.declared.run.Answer.{Answer}
use Rattle.engine.specs.declared.run.Settled.{Settled}
use Rattle.engine.specs.declared.run.Placed.{Placed}
use Rattle.engine.specs.declared.sheet.Run.{Run}

-- a body read whole, with the place behind it, or broken
abbrev pub calculations_of : Result (ArrayVec Placed × ℕ) Refused → Calculations
calculations_of (Ok read) = whole read.0.items read.1
calculations_of (Err x) = broken x.refusal x.place

-- how a sheet ended at its run
abbrev pub run_is : Result Run Refused → Ending
run_is (Ok r) = runs r.register r.body.items
run_is (Err x) = refused x.refusal x.place

-- how the operations of a sheet ended
abbrev pub ending_is : Result (Option Run) Refused → Ending
ending_is (Ok None) = over
ending_is (Ok (Some r)) = runs r.register r.body.items
ending_is (Err x) = refused x.refusal x.place

-- what a sheet's operations leave, in the definitions' words
abbrev pub prepared_is : Result (Option Run) Refused → Machine → Sheets.Prepared
prepared_is r m = record { machine = m; ending = ending_is r }

-- an answer and the memory with it
abbrev pub progress_of : Answer → List ℕ → Progress
progress_of r memory = record { world = record { machine = r.machine; memory = memory }; report = r.report; verdict = r.verdict }

-- the passes of a run gave this answer and this memory
abbrev pub Executed : ℕ → ℕ → List Placed → Machine → List ℕ → Answer → List ℕ → Type 0
Executed vl loop body m memory r after = progress_of r after ≡ execute vl loop body (record { machine = m; memory = memory })

-- the verdict so far: a run that follows is not yet executed
abbrev pub verdict_of : Ending → Verdict
verdict_of over = Ok tt
verdict_of (runs loop cs) = Ok tt
verdict_of (refused x place) = refusal_at x place

-- the registers after some operations of a sheet, and the verdict so far
abbrev pub settled_of : Sheets.Prepared → Settled
settled_of p = record { verdict = verdict_of p.ending; machine = p.machine }
