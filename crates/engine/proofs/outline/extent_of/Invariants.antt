-- `outline::extent_of` meets its contract: the walk stands at the element of a position that goes up by one, until there is none after it.
use Rattle.std.proofs.Common.{◌-◌, true, length}
use Rattle.engine.specs.Loops.{elements}
use Rattle.engine.specs.Walk.{Stands}
use Rattle.engine.proofs.outline.extent_of.Given as goal

abbrev pub invariant-loop-index : goal.invariant-loop-index
invariant-loop-index l = Stands l.shape l.position true l.index

abbrev pub decreases-loop-index : goal.decreases-loop-index
decreases-loop-index l = length (elements l.shape) - l.position
