-- `calculate::lanes` meets its contract.
use Rattle.std.proofs.Common.{refl, div-le_self, arith}
use Rattle.engine.specs.GoodLaws.{width_some}
use Rattle.engine.proofs.calculate.lanes.Goals as goal

pub nonzero_div-result : goal.nonzero_div-result
nonzero_div-result c =
    width_some c.args.width c.requires.1

pub returns : goal.returns
returns c =
    (refl, omega (arith, c.requires.0, div-le_self c.args.vl c.args.width))
