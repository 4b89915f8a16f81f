-- No more numbers than there is room for.
use Rattle.std.proofs.Common.{◌≤◌, length}
use Rattle.bench.proofs.numbers.Given as goal

abbrev pub invariant-loop-digits : goal.invariant-loop-digits
invariant-loop-digits l = l.count ≤ length l.room
