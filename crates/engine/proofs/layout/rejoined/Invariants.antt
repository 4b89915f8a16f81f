-- `layout::rejoined` meets its contract: after k turns the first k registers are joined again, and the others are as they were.
use Rattle.engine.proofs.LayoutSteps.{JoinedTo}
use Rattle.engine.proofs.layout.rejoined.Given as goal

abbrev pub invariant-loop-k : goal.invariant-loop-k
invariant-loop-k l = JoinedTo l.initial.registers l.k l.lanes l.indices l.all l.registers
