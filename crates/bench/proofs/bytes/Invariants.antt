-- No more bytes than there is room for.
use Rattle.std.proofs.Common.{◌≤◌, length}
use Rattle.bench.proofs.bytes.Given as goal

abbrev pub invariant-loop-pair : goal.invariant-loop-pair
invariant-loop-pair l = l.count ≤ length l.room

abbrev pub invariant-loop-digits : goal.invariant-loop-digits
invariant-loop-digits l = l.count ≤ length l.room
