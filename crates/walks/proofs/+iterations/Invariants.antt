-- Each call of itself has one loop fewer.
use Rattle.walks.proofs.+iterations.Given as goal

abbrev pub decreases-iterations : goal.decreases-iterations
decreases-iterations l = l.loops
