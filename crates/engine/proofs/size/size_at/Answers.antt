-- `size::size_at` meets its contract: the size in natural numbers is what the modifiers' gains give, and the configured one where there is no modifier.
use Rattle.std.proofs.Common.{suc, drop, sym, arith}
use Rattle.engine.specs.Gains.{size-nat}
use Rattle.engine.proofs.PlainSteps.{plain_size}
use Rattle.engine.proofs.size.size_at.Goals as goal

pub returns-then-shape-eq0 : goal.returns-then-shape-eq0
returns-then-shape-eq0 c =
    sym (plain_size c.args.shape.now c.args.d (drop (suc c.args.d) c.args.index.now) c.if-shape-eq0.true)

pub returns : goal.returns
returns c =
    omega (arith, c.saturating_sub.ensures, size-nat c.args.shape.now c.args.d (drop (suc c.args.d) c.args.index.now), c.gains-g.ensures.0, c.gains-g.ensures.1)
