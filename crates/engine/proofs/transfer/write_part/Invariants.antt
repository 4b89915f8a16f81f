-- `transfer::write_part` meets its contract: elements side by side take the lanes' bytes; of others, after k turns the first k lanes are written.
use Rattle.std.proofs.Common.{◌≡◌, ◌+◌, ◌*◌, ◌^◌, ◌≤◌, take, pos, ◌+ℤ◌, ◌*ℤ◌, nat_abs}
use Rattle.engine.specs.Memory.{lanes_from}
use Rattle.engine.specs.Stretches.{progression, stored_at}
use Rattle.engine.proofs.transfer.write_part.Given as goal

abbrev pub invariant-loop-k : goal.invariant-loop-k
invariant-loop-k l = record {
  address : l.a.0 ≡ l.initial.a.0 +ℤ l.step.0 *ℤ pos l.k;
  bounded : nat_abs l.a.0 ≤ 2 ^ 55 + l.k * 2 ^ 51;
  written : l.memory ≡ stored_at l.initial.memory l.width (take l.k (progression l.initial.a.0 l.step.0 l.count)) (take l.k (lanes_from l.lanes l.width (l.at * l.width) l.count));
}
