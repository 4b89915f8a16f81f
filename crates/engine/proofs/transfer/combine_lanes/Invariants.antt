-- `transfer::combine_lanes` meets its contract: a copy is the first source's bytes; otherwise, after k turns the lanes are the first k.
use Rattle.std.proofs.Common.{◌≡◌, ◌*◌, ◌≤◌, length, take}
use Rattle.engine.specs.Memory.{lanes_from, packed}
use Rattle.engine.specs.Lanes.{lane, lanewise}
use Rattle.engine.proofs.transfer.combine_lanes.Given as goal

abbrev pub invariant-loop-k : goal.invariant-loop-k
invariant-loop-k l = record {
  few : l.n ≤ 64;
  long : length l.out ≡ 64;
  combined : l.out ≡ packed l.width (take l.k (lanewise (lane l.action (8 * l.width)) (lanes_from l.first l.width 0 l.n) (lanes_from l.second l.width 0 l.n)));
}
