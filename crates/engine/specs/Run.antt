-- Passes of a body.
--
--   Verdict, refusal_at    done, or a refusal with its place
--   number_given, place_given   a verdict's number and place
--   Progress, begun        how far a run is
--   Reason                 what says why a calculation is refused
--   step_by, pass_by, counted   one calculation; the body once; one pass more counted
--   repeat_by, execute_by    the body while the loop register's stream is open
--   step .. execute        the same by the checks of a calculation
use Rattle.std.specs.Prelude.{ℕ, zero, suc, ◌+◌, cond, List, [], ◌∷◌, length, Result, Ok, Err}
use Rattle.codec.specs.Refusals.{number_of}
use Rattle.codec.specs.declared.operation.Calculation.{Calculation}
use Rattle.codec.specs.declared.refusal.Refusal.{Refusal}
use Rattle.codec.specs.declared.refusal.Refused.{Refused}
use Rattle.engine.specs.Checks.{Why}
use Rattle.engine.specs.Registers.{is_open, to_come, reg}
use Rattle.engine.specs.Calculate.{World, refusal_of, effect}
use Rattle.engine.specs.declared.run.Report.{Report}
use Rattle.engine.specs.declared.run.Placed.{Placed}

-- "done, or a refusal's number and place"
abbrev pub Verdict : Type 0
Verdict = Result (Unit {0}) Refused

-- a refusal and its place
abbrev pub refusal_at : Refusal → ℕ → Verdict
refusal_at x place = Err (record { refusal = x; place = place })

-- "the refusal's number", 0 if nothing was refused
abbrev pub number_given : Verdict → ℕ
number_given (Ok _) = 0
number_given (Err x) = number_of x.refusal

-- its place, 0 if nothing was refused
abbrev pub place_given : Verdict → ℕ
place_given (Ok _) = 0
place_given (Err x) = x.place

-- how far a run is
pub record Progress : Type 0 where
  pub world : World
  pub report : Report
  pub verdict : Verdict

-- before the first pass
abbrev pub begun : World → Progress
begun w = record { world = w; report = record { passes = 0; calculations = 0 }; verdict = Ok tt }

-- one calculation more, or its refusal; "The place is the first byte of the calculation if one is at fault"
abbrev pub stepped : Why → ℕ → World → Progress → Progress
stepped (Ok _) place w g =
    record { world = w; report = record { passes = g.report.passes; calculations = g.report.calculations + 1 }; verdict = Ok tt }
stepped (Err x) place w g = record { world = g.world; report = g.report; verdict = refusal_at x place }

-- what says, of a vector length, a calculation and a world, why the calculation is refused there
abbrev pub Reason : Type 0
Reason = ℕ → Calculation → World → Why

-- one calculation of a body: done and counted, or refused at its place and nothing altered
abbrev pub step_by : Reason → ℕ → Placed → Progress → Progress
step_by why vl c g = stepped (why vl c.calculation g.world) c.place (effect vl c.calculation g.world) g

-- what follows, unless refused
abbrev pub unless_refused : Verdict → Progress → Progress → Progress
unless_refused (Ok _) refused next = next
unless_refused (Err x) refused next = refused

-- the body once, up to the first calculation that is refused
unfoldable pub pass_by : Reason → ℕ → List Placed → Progress → Progress
pass_by why vl [] g = g
pass_by why vl (c ∷ cs) g = unless_refused (step_by why vl c g).verdict (step_by why vl c g) (pass_by why vl cs (step_by why vl c g))

-- one pass more is counted
abbrev pub counted : Progress → Progress
counted g =
    record { world = g.world; report = record { passes = g.report.passes + 1; calculations = g.report.calculations }; verdict = g.verdict }

-- "Run repeats the body while the loop register's stream is open": at most n passes. The bound is never felt: see
-- `finishes` of EndLaws
unfoldable pub repeat_by : Reason → ℕ → ℕ → List Placed → ℕ → Progress → Progress
repeat_by why vl loop body zero g = g
repeat_by why vl loop body (suc n) g =
    cond (is_open (reg g.world.machine loop).state)
    (unless_refused (pass_by why vl body g).verdict (pass_by why vl body g) (repeat_by why vl loop body n (counted (pass_by why vl body g))))
    g

-- the passes of a run: there are at most as many as the loop register's stream has elements to come
abbrev pub execute_by : Reason → ℕ → ℕ → List Placed → World → Progress
execute_by why vl loop body w = repeat_by why vl loop body (length (to_come (reg w.machine loop))) (begun w)

-- ---- by the checks of a calculation

-- one calculation
abbrev pub step : ℕ → Placed → Progress → Progress
step = step_by refusal_of

-- the body once
abbrev pub pass : ℕ → List Placed → Progress → Progress
pass = pass_by refusal_of

-- at most so many passes
abbrev pub repeat : ℕ → ℕ → List Placed → ℕ → Progress → Progress
repeat = repeat_by refusal_of

-- all of them
abbrev pub execute : ℕ → ℕ → List Placed → World → Progress
execute = execute_by refusal_of
