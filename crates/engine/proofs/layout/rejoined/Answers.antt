-- `layout::rejoined` meets its contract: after k turns the first k registers are joined again, and the others are as they were.
use Rattle.std.proofs.Common.{arith}
use Rattle.engine.proofs.LayoutSteps.{joined-all}
use Rattle.engine.proofs.layout.rejoined.Goals as goal

pub returns : goal.returns
returns c =
    let a = c.args in
    let l = c.loop-k in
    joined-all a.m.registers l.k a.lanes.now a.indices.now a.all l.registers l.invariant (omega arith)
