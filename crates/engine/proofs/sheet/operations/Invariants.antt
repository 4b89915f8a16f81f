-- `sheet::operations` meets its contract: what is left of the sheet stays what there was to do.
use Rattle.std.proofs.Common.{◌≡◌, ℕ, ◌-◌}
use Rattle.engine.specs.Good.{AllGood}
use Rattle.engine.specs.Sheets.{operations_from}
use Rattle.engine.proofs.sheet.operations.Given as goal

abbrev pub invariant-loop : goal.invariant-loop
invariant-loop l = ((vl : ℕ) × AllGood vl l.machine) × (operations_from (l.most - l.counter) l.s l.at l.machine ≡ operations_from l.most l.s 0 l.initial.machine)
