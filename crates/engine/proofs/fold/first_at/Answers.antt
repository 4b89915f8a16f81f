-- `fold::first_at` meets its contract: the lanes passed over are not the one that is searched.
use Rattle.std.proofs.Common.{sym, ◌∙◌, arith}
use Rattle.engine.proofs.FoldSteps.{first_more, first_found, first-nowhere}
use Rattle.engine.proofs.fold.first_at.Goals as goal

pub returns-then-y-x : goal.returns-then-y-x
returns-then-y-x c =
    let a = c.args in
    (omega (arith, c.loop-k.invariant, first_found a.lanes.now a.width a.x c.loop-k.k a.n c.loop-k-test.true (sym c.load-y.ensures.0 ∙ c.if-y-x.true)), omega arith)

pub loop-k-preserved : goal.loop-k-preserved
loop-k-preserved c =
    let a = c.args in
    c.loop-k.invariant ∙ first_more a.lanes.now a.width a.x c.loop-k.k a.n c.loop-k-test.true (λ e. c.if-y-x.false (c.load-y.ensures.0 ∙ e))

pub returns : goal.returns
returns c =
    let a = c.args in
    (omega (arith, c.loop-k.invariant, first-nowhere a.lanes.now a.width a.x c.loop-k.k a.n (omega arith)), omega arith)
