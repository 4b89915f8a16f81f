-- `fold::taken_through` meets its contract: what is left to take gives what the whole gives.
use Rattle.std.proofs.Common.{◌*◌, sym, ap, ◌∙◌, arith}
use Rattle.engine.specs.Lanes.{lane}
use Rattle.engine.proofs.FoldSteps.{foldl-more, foldl-last}
use Rattle.engine.proofs.fold.taken_through.Goals as goal

pub loop-k-preserved : goal.loop-k-preserved
loop-k-preserved c =
    let a = c.args in
    let l = c.loop-k in
    let f = lane a.action (8 * a.width) in (
      omega arith,
      c.lane-left.ensures.1,
      l.invariant.2 ∙ foldl-more a.lanes.now a.width f l.k a.n l.left c.lane-left.result (omega arith) (c.lane-left.ensures.0 ∙ ap (f l.left) c.load-x.ensures.0),
    )

pub returns : goal.returns
returns c =
    let a = c.args in
    let l = c.loop-k in
    (sym (l.invariant.2 ∙ foldl-last a.lanes.now a.width (lane a.action (8 * a.width)) l.k a.n l.left (omega arith)), l.invariant.1)
