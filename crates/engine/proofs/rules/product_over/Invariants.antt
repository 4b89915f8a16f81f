-- `rules::product_over` meets its contract: the product over the dimensions from d on is at most that over all, and the last indices kept are those by the highs.
use Rattle.std.proofs.Common.{◌≡◌, ◌-◌, ◌≤◌}
use Rattle.engine.specs.Rules.{highs, product}
use Rattle.engine.proofs.Lasts.{Walked}
use Rattle.engine.proofs.rules.product_over.Given as goal

abbrev pub invariant-loop-d : goal.invariant-loop-d
invariant-loop-d l = Walked l.s l.d l.lasts × (l.over ≡ product (highs l.s l.d (l.s.dims - l.d))) × (l.over ≤ 1048576)
