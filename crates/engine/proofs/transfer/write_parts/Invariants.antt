-- `transfer::write_parts` meets its contract: after k turns the lanes of the first k parts are written.
use Rattle.std.proofs.Common.{◌≡◌, length, take}
use Rattle.engine.specs.Memory.{lanes_from}
use Rattle.engine.specs.Stretches.{joined_in, stored_at}
use Rattle.engine.proofs.transfer.write_parts.Given as goal

abbrev pub invariant-loop-part : goal.invariant-loop-part
invariant-loop-part l = (l.at ≡ length (joined_in (take l.part-index l.parts)))
    × (l.memory ≡ stored_at l.initial.memory l.width (joined_in (take l.part-index l.parts)) (lanes_from l.lanes l.width 0 l.at))
