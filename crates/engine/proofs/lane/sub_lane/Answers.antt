-- `lane::sub_lane` meets its contract: what the subtrahend added to gives the lane, cut to the width, does so at the width.
use Rattle.std.proofs.Common.{◌+◌, ◌-◌, ◌*◌, ◌%◌, ◌^◌, arith}
use Rattle.std.proofs.lemmas.Nat.{and_mask}
use Rattle.engine.proofs.Cuts.{less}
use Rattle.engine.proofs.lane.sub_lane.Goals as goal

pub returns : goal.returns
returns c =
    let a = c.args in
    let r = (a.a + (2 ^ 64 - a.b)) % 2 ^ 64 in
    rw (c.mask.ensures, and_mask r (8 * a.width)) (less (8 * a.width) r a.a a.b (omega arith) c.requires.1.0 c.requires.1.1 (omega arith))
