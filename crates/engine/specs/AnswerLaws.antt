-- What the code answers, against the run.
--
--   progress-parts                   an answer is the run's verdict, counts and registers, each in its place
--   turns-some, settled-some         as many operations as were done, and no more: the registers that they leave
--   settled-over, settled-refused    a sheet set up whole: the verdict and the registers are those of its run, if no run follows
use Rattle.std.specs.Prelude.{◌≡◌, ℕ, true, List, [], ◌∷◌, length, refl, Ok}
use Rattle.std.proofs.Common.{◌∙◌, ap, arith}
use Rattle.codec.specs.NumberLaws.{AreBytes}
use Rattle.codec.specs.declared.operation.Operation.{Operation}
use Rattle.codec.specs.declared.refusal.Refusal.{Refusal}
use Rattle.engine.specs.Registers.{fresh_machine}
use Rattle.engine.specs.Sheets.{over, refused, on_decoded, operations_from, prepare, allowed, run}
use Rattle.engine.specs.Bodies.{progress_of, settled_of}
use Rattle.engine.specs.SheetLaws.{operations-turn}
use Rattle.engine.specs.ReadingLaws.{written_read}
use Rattle.engine.specs.StandLaws.{written_on, decoded-done}
use Rattle.engine.specs.Promise1.{Turns, DoneBefore, after}
use Rattle.engine.specs.declared.register.Machine.{Machine}
use Rattle.engine.specs.declared.run.Answer.{Answer}

-- an answer and the memory with it are a run's, each part in its place
pub progress-parts : (r : Answer) (memory : List ℕ)
    → ((progress_of r memory).verdict ≡ r.verdict)
    × ((progress_of r memory).report.passes ≡ r.report.passes)
    × ((progress_of r memory).report.calculations ≡ r.report.calculations)
    × ((progress_of r memory).world.machine ≡ r.machine)
    × ((progress_of r memory).world.memory ≡ memory)
progress-parts r memory = (refl, refl, refl, refl, refl)

-- of operations in turn as many are done as are asked for
turns-some : (s : List ℕ) (at : ℕ) (m : Machine) (os : List Operation) (to : ℕ) (n : Machine) → AreBytes s → Turns s at m os to n
    → operations_from (length os) s at m ≡ record { machine = n; ending = over }
unfolding operations_from Turns
turns-some s at m [] to n b t = ap (λ k. record { machine = k; ending = over }) t.1
turns-some s at m (o ∷ os) to n b t =
    let w = written_on s at o t.0 b t.1 in
    operations-turn (length os) s at m (omega (arith, w.0, w.1))
    ∙ ap (λ k. on_decoded s at m k (operations_from (length os) s)) (written_read s at o t.0 t.1)
    ∙ decoded-done s at m o (record { at = t.0 }) (operations_from (length os) s) t.2
    ∙ turns-some s t.0 (after o m) os to n b t.3

-- so setting up as many operations as were done gives the registers that they leave
pub settled-some : (s : List ℕ) (os : List Operation) (at : ℕ) (m : Machine) → AreBytes s → DoneBefore s os at m
    → settled_of (operations_from (length os) s 0 fresh_machine) ≡ record { verdict = Ok tt; machine = m }
settled-some s os at m b t = ap settled_of (turns-some s 0 fresh_machine os at m b t)

module _ (vl : ℕ) (s memory : List ℕ) (a : allowed vl (length memory) ≡ true) where
  -- no run follows
  pub settled-over : (prepare s fresh_machine).ending ≡ over
      → settled_of (prepare s fresh_machine) ≡ record { verdict = (run vl s memory).verdict; machine = (run vl s memory).world.machine }
  settled-over e = rw (a, e)

  -- an operation is refused
  pub settled-refused : (x : Refusal) (place : ℕ) → (prepare s fresh_machine).ending ≡ refused x place
      → settled_of (prepare s fresh_machine) ≡ record { verdict = (run vl s memory).verdict; machine = (run vl s memory).world.machine }
  settled-refused x place e = rw (a, e)
