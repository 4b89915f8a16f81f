-- `fold::taken_through` meets its contract: what is left to take gives what the whole gives.
use Rattle.std.proofs.Common.{◌≡◌, ◌-◌, ◌*◌, ◌^◌, ◌<◌, ◌≤◌}
use mathlib.Core.List.{foldl}
use Rattle.engine.specs.Memory.{lanes_from}
use Rattle.engine.specs.Lanes.{lane}
use Rattle.engine.proofs.fold.taken_through.Given as goal

abbrev pub invariant-loop-k : goal.invariant-loop-k
invariant-loop-k l = (l.k ≤ l.n) × (l.left < 2 ^ (8 * l.width))
    × (foldl (lane l.action (8 * l.width)) l.start (lanes_from l.lanes l.width (l.from * l.width) (l.n - l.from)) ≡ foldl (lane l.action (8 * l.width)) l.left (lanes_from l.lanes l.width (l.k * l.width) (l.n - l.k)))
