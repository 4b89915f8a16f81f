-- What translating a nest answers, and what translating and running it does.
--
--   translated, room_after                translating: the answer, and the room after it
--   Outcome, run_nest, outcome_of          translating and running
--   Answered, as_translated, as_outcome    answers by 01's numbers
use Rattle.std.specs.Prelude.{ℕ, List, cond, length, leb, Result, Ok, Err}
use Rattle.std.proofs.lemmas.List.Edits.{sets}
use Rattle.codec.specs.Refusals.{number_of, err_at}
use Rattle.codec.specs.declared.refusal.Refusal.{Refusal}
use Rattle.codec.specs.declared.refusal.Refusal.TheVariants as reason
use Rattle.codec.specs.declared.refusal.Refused.{Refused}
use Rattle.engine.specs.Registers.{fresh_machine}
use Rattle.engine.specs.Run.{Progress, Verdict, refusal_at}
use Rattle.engine.specs.Sheets.{allowed, refused_at, run}
use Rattle.engine.specs.Bodies.{progress_of}
use Rattle.engine.specs.declared.run.Report.{Report}
use Rattle.engine.specs.declared.run.Answer.{Answer}
use Rattle.translator.specs.Reading.{Nested, nest, refused, nest_at}
use Rattle.translator.specs.NestSheets.{sheet_of}
use Rattle.translator.specs.declared.nest.Stage.{Stage}
use Rattle.translator.specs.declared.nest.Stage.TheVariants as stage
use Rattle.translator.specs.declared.nest.NestAnswer.{NestAnswer}

-- ---- translating

-- "then 17, place 0, exactly if the room is shorter than the sheet": the answer for a room of `size` bytes
abbrev pub translated : Nested → ℕ → Result ℕ Refused
translated (refused x at) size = err_at at x
translated (nest m) size = cond (leb (length (sheet_of m)) size) (Ok (length (sheet_of m))) (err_at 0 reason.NoRoom)

-- "On refusal the room is untouched; on success only the sheet's bytes change"
abbrev pub room_after : Nested → List ℕ → List ℕ
room_after (refused x at) room = room
room_after (nest m) room = cond (leb (length (sheet_of m)) (length room)) (sets room 0 (sheet_of m)) room

-- ---- translating and running

-- where an answer was found, and the answer
pub record Outcome : Type 0 where
  pub stage : Stage
  pub progress : Progress

-- a refusal before any register was used: 32 fresh ones, the memory as it was, both counts 0
abbrev pub unrun : Stage → List ℕ → Refusal → ℕ → Outcome
unrun g memory x at = record { stage = g; progress = refused_at (record { machine = fresh_machine; memory = memory }) x at }

-- the code's answer of a refusal before any register was used
abbrev pub refused_answer : Refusal → ℕ → Answer
refused_answer x at = record { verdict = refusal_at x at; report = record { passes = 0; calculations = 0 }; machine = fresh_machine }

-- a nest's refusal, or the run of its sheet
abbrev pub run_nested : ℕ → Nested → List ℕ → Outcome
run_nested vl (refused x at) memory = unrun stage.Nest memory x at
run_nested vl (nest m) memory = record { stage = stage.Sheet; progress = run vl (sheet_of m) memory }

-- "15 comes first"; then the refusals of bytes as a nest, then the run of its sheet
unfoldable pub run_nest : ℕ → List ℕ → List ℕ → Outcome
run_nest vl s memory =
    cond (allowed vl (length memory)) (run_nested vl (nest_at s) memory) (unrun stage.Lengths memory reason.Lengths 0)

-- an answer of the code with the memory after it, as an outcome
abbrev pub outcome_of : NestAnswer → List ℕ → Outcome
outcome_of r memory = record { stage = r.stage; progress = progress_of r.answer memory }

-- ---- answers by 01's numbers

-- the length of a sheet; passes and calculations; a refusal's number, its place and both counts
pub data Answered : Type 0 where
  sheet : ℕ → Answered
  done : ℕ → ℕ → Answered
  refusal : ℕ → ℕ → ℕ → ℕ → Answered

-- the answer of translating, by 01's numbers
abbrev pub as_translated : Result ℕ Refused → Answered
as_translated (Ok n) = sheet n
as_translated (Err r) = refusal (number_of r.refusal) r.place 0 0

-- a verdict and both counts, by 01's numbers
abbrev pub as_verdict : Verdict → Report → Answered
as_verdict (Ok _) r = done r.passes r.calculations
as_verdict (Err x) r = refusal (number_of x.refusal) x.place r.passes r.calculations

-- the answer of translating and running, by 01's numbers
abbrev pub as_outcome : Outcome → Answered
as_outcome o = as_verdict o.progress.verdict o.progress.report
