-- `transfer::read_parts` meets its contract: after k turns the lanes are those at the addresses of the first k parts.
use Rattle.std.proofs.Common.{◌≡◌, length, take}
use Rattle.engine.specs.Memory.{packed}
use Rattle.engine.specs.Stretches.{joined_in, fetched_at}
use Rattle.engine.proofs.transfer.read_parts.Given as goal

abbrev pub invariant-loop-part : goal.invariant-loop-part
invariant-loop-part l = (l.at ≡ length (joined_in (take l.part-index l.parts)))
    × (l.lanes ≡ packed l.width (fetched_at l.memory l.width (joined_in (take l.part-index l.parts))))
