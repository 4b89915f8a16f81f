-- Each space that goes makes the name shorter.
use Rattle.std.proofs.Common.{length}
use Rattle.nests.proofs.line.Line.name.Given as goal

abbrev pub decreases-loop-name : goal.decreases-loop-name
decreases-loop-name l = length l.name
