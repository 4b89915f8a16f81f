-- `fold::first_at` meets its contract: the lanes passed over are not the one that is searched.
use Rattle.std.proofs.Common.{◌≡◌, ◌+◌, ◌-◌, ◌*◌}
use Rattle.engine.specs.Memory.{lanes_from}
use Rattle.engine.specs.Lanes.{first_at}
use Rattle.engine.proofs.fold.first_at.Given as goal

abbrev pub invariant-loop-k : goal.invariant-loop-k
invariant-loop-k l = first_at l.x (lanes_from l.lanes l.width 0 l.n) ≡ l.k + first_at l.x (lanes_from l.lanes l.width (l.k * l.width) (l.n - l.k))
