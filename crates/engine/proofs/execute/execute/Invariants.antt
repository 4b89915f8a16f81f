-- `execute::execute` meets its contract: between passes what follows gives what the whole run gives, and within one what is left of it.
use Rattle.std.proofs.Common.{◌≤◌, length}
use Rattle.engine.specs.Registers.{to_come, reg}
use Rattle.engine.specs.Layouts.{registers_in}
use Rattle.engine.proofs.PassSteps.{machine_of, Passing, Passes}
use Rattle.engine.proofs.Rounds.{Laid}
use Rattle.engine.proofs.execute.execute.Given as goal

abbrev pub invariant-loop-step : goal.invariant-loop-step
invariant-loop-step l = Passing l.vl l.steps l.passes (registers_in l.registers l.initial.lanes l.initial.indices l.initial.all) l.initial.memory l.initial.calculations (registers_in l.registers l.lanes l.indices l.all) l.memory l.calculations l.step-index
    × Laid l.registers l.lanes l.indices l.all l.xs l.ys l.zs l.len l.memory

abbrev pub invariant-loop-open : goal.invariant-loop-open
invariant-loop-open l = (length l.steps ≤ 16) × Passes l.vl l.register l.steps (record { machine = l.fn.m; memory = l.initial.memory }) (registers_in l.registers l.lanes l.indices l.all) l.memory l.passes l.calculations l.open
    × Laid l.registers l.lanes l.indices l.all l.xs l.ys l.zs l.len l.memory

abbrev pub decreases-loop-open : goal.decreases-loop-open
decreases-loop-open l = length (to_come (reg (machine_of (registers_in l.registers l.lanes l.indices l.all)) l.register))
