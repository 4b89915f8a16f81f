use Rattle.std.proofs.Common.{◌≤◌}
use Rattle.nests.proofs.rows.Row.shown.Given as goal

abbrev pub invariant-loop-k : goal.invariant-loop-k
invariant-loop-k l = (l.shown.ended ≤ l.k) × (l.shown.same ≤ l.k)
