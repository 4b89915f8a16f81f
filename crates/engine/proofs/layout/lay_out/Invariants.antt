-- `layout::lay_out` meets its contract: after k turns the first k registers are laid out.
use Rattle.engine.proofs.LayoutSteps.{LaidTo}
use Rattle.engine.proofs.layout.lay_out.Given as goal

abbrev pub invariant-loop-k : goal.invariant-loop-k
invariant-loop-k l = LaidTo l.m.registers l.k l.lanes l.indices l.all
