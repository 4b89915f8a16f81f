-- `rules::high_at` meets its contract: the high in natural numbers is the size and what adding modifiers add.
use Rattle.std.proofs.Common.{suc, drop, arith}
use Rattle.engine.specs.Gains.{high-nat}
use Rattle.engine.proofs.rules.high_at.Goals as goal

pub returns : goal.returns
returns c =
    omega (arith, high-nat c.args.shape.now c.args.d (drop (suc c.args.d) c.args.lasts.now), c.gains.ensures.0)
