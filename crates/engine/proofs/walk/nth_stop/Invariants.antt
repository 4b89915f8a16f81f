-- `walk::nth_stop` meets its contract: the walk arrives at a position that goes up by one, until it is the one asked for or there is none.
use Rattle.std.specs.Option.{is_some}
use Rattle.engine.specs.Walk.{Arrives, comes_empty}
use Rattle.engine.proofs.walk.nth_stop.Given as goal

abbrev pub invariant-loop-k : goal.invariant-loop-k
invariant-loop-k l = Arrives l.shape l._k (is_some l.here) (comes_empty l.here) l.index
