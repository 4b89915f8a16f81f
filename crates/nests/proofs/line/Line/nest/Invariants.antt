-- No more digits than there is room for.
use Rattle.std.proofs.Common.{◌≤◌}
use Rattle.nests.proofs.line.Line.nest.Given as goal

abbrev pub invariant-loop-b : goal.invariant-loop-b
invariant-loop-b l = l.digits ≤ 256
