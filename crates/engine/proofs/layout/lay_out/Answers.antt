-- `layout::lay_out` meets its contract: after k turns the first k registers are laid out.
use Rattle.std.proofs.Common.{get_or, arith}
use Rattle.engine.specs.Registers.{no_register}
use Rattle.engine.proofs.LayoutSteps.{laid_more, laid-all, laid_same}
use Rattle.engine.proofs.layout.lay_out.Goals as goal

pub loop-k-preserved : goal.loop-k-preserved
loop-k-preserved c =
    let rs = c.args.m.now.registers in
    let l = c.loop-k in
    let r = get_or rs l.k no_register in
    laid_more rs l.k l.lanes l.indices l.all l.invariant (omega (arith, c.loop-k-test.true)) r.lanes r.index c.started.result c.started.ensures.0 c.started.ensures.1

pub returns : goal.returns
returns c =
    let rs = c.args.m.now.registers in
    let l = c.loop-k in
    record { laid_out = laid-all rs l.k l.lanes l.indices l.all l.invariant (omega arith); result_after = laid_same rs l.k l.lanes l.indices l.all l.invariant (omega arith) }
