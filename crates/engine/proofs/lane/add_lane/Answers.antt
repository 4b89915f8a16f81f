-- `lane::add_lane` meets its contract: the mask cuts to the width, and the wrap at 64 bits before it changes nothing.
use Rattle.std.proofs.Common.{◌+◌, ◌*◌, ◌%◌, ◌^◌, arith}
use Rattle.std.proofs.lemmas.Nat.{and_mask}
use Rattle.engine.proofs.Cuts.{cut}
use Rattle.engine.proofs.lane.add_lane.Goals as goal

pub returns : goal.returns
returns c =
    let a = c.args in
    rw (c.mask.ensures, and_mask ((a.a + a.b) % 2 ^ 64) (8 * a.width)) (cut (8 * a.width) (a.a + a.b) (omega arith))
