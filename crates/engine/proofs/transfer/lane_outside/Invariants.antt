-- `transfer::lane_outside` meets its contract: after k turns the first k elements lie inside.
use Rattle.std.proofs.Common.{◌≡◌, ◌+◌, ◌-◌, ◌*◌, ◌^◌, ◌≤◌, nat_abs}
use Rattle.engine.specs.Stretches.{progression, lane_without}
use Rattle.engine.proofs.transfer.lane_outside.Given as goal

abbrev pub invariant-loop-k : goal.invariant-loop-k
invariant-loop-k l = (nat_abs l.a.0 ≤ 2 ^ 55 + l.k * 2 ^ 51)
    × (lane_without l.len l.width (progression l.initial.a.0 l.part.step.0 l.part.count) ≡ l.k + lane_without l.len l.width (progression l.a.0 l.part.step.0 (l.part.count - l.k)))
