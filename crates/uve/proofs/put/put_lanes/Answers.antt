-- The lane bytes are copied, and are those of the lane numbers.
use Rattle.std.proofs.Common.{arith}
use Rattle.uve.specs.ReportLaws.{lanes-in-order}
use Rattle.uve.proofs.Steps.{copied}
use Rattle.uve.proofs.put.put_lanes.Goals as goal

pub returns : goal.returns
returns c =
    let a = c.args in
    let same = lanes-in-order a.lanes.now (λ k. let f = c.type_inv.lanes k in omega arith) c.requires.whole in
    rw same (copied a.report.now a.at _ _ _ c.copy_from_slice.ensures.after (omega (arith, c.requires.whole)) (omega (arith, c.requires.fits)))
