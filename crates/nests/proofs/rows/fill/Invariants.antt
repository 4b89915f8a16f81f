use Rattle.std.proofs.Common.{◌<◌}
use Rattle.nests.proofs.rows.fill.Given as goal

abbrev pub invariant-loop-byte : goal.invariant-loop-byte
invariant-loop-byte l = l.x < 65536
