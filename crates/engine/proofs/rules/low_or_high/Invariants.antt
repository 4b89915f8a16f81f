-- `rules::low_or_high` meets its contract: what is refused from a dimension on is refused, and the last indices kept are those by the highs.
use Rattle.std.proofs.Common.{◌≡◌, ◌-◌, false}
use Rattle.engine.specs.Rules.{low_or_high_from}
use Rattle.engine.proofs.Lasts.{Walked}
use Rattle.engine.proofs.rules.low_or_high.Given as goal

abbrev pub invariant-loop-d : goal.invariant-loop-d
invariant-loop-d l = Walked l.s l.d l.lasts × (low_or_high_from l.s l.d (l.s.dims - l.d) ≡ false)
