-- `transfer::read_part` meets its contract: elements side by side are their bytes; of others, after k turns the lanes are those at the first k addresses.
use Rattle.std.proofs.Common.{◌≡◌, ◌+◌, ◌*◌, ◌^◌, ◌≤◌, take, pos, ◌+ℤ◌, ◌*ℤ◌, nat_abs}
use Rattle.std.proofs.lemmas.List.Edits.{sets}
use Rattle.engine.specs.Memory.{joined}
use Rattle.engine.specs.Stretches.{progression, fetched_at}
use Rattle.engine.proofs.transfer.read_part.Given as goal

abbrev pub invariant-loop-k : goal.invariant-loop-k
invariant-loop-k l = record {
  address : l.a.0 ≡ l.initial.a.0 +ℤ l.step.0 *ℤ pos l.k;
  bounded : nat_abs l.a.0 ≤ 2 ^ 55 + l.k * 2 ^ 51;
  read : l.lanes ≡ sets l.initial.lanes (l.at * l.width) (joined l.width (take l.k (fetched_at l.memory l.width (progression l.initial.a.0 l.step.0 l.count))));
}
