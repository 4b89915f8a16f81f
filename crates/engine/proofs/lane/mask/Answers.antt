-- `lane::mask` meets its contract: all 64 bits, shifted down to those of the width.
use Rattle.std.proofs.Common.{◌*◌, arith}
use Rattle.engine.proofs.Cuts.{ones}
use Rattle.engine.proofs.lane.mask.Goals as goal

pub returns : goal.returns
returns c =
    ones (8 * c.args.width) (omega arith)
