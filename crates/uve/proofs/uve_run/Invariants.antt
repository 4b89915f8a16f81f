-- What is left to put, put behind the registers that were, gives the same report throughout.
use Rattle.std.proofs.Common.{◌≡◌, ◌+◌, ◌-◌, ◌*◌, ◌++◌}
use Rattle.std.proofs.lemmas.List.Edits.{sets}
use Rattle.engine.specs.declared.register.Machine.{Machine}
use Rattle.uve.specs.Reports.{bytes_of64, registers_from, mask_numbers}
use Rattle.uve.proofs.uve_run.Given as goal

abbrev pub invariant-loop-i : goal.invariant-loop-i
invariant-loop-i l =
    let m : Machine = record { registers = l.register-items } in
    sets l.report (64 + 112 * l.i) (bytes_of64 (registers_from m l.i (32 - l.i) ++ mask_numbers))
    ≡ sets l.initial.report 64 (bytes_of64 (registers_from m 0 32 ++ mask_numbers))
