-- Each call of itself has one loop fewer.
use Rattle.nests.proofs.plain.Nest.+nested.Given as goal

abbrev pub decreases-nested : goal.decreases-nested
decreases-nested l = l.d
