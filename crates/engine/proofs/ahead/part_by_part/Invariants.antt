-- `ahead::part_by_part` meets its contract: after some parts what was looked at is the front of the chunk, and the walk stands behind it.
use Rattle.std.proofs.Common.{◌≡◌, ◌-◌, ◌≤◌, [], length, take}
use Rattle.engine.specs.Places.{Ready, in_row}
use Rattle.engine.specs.Stretches.{joined_in}
use Rattle.engine.specs.Runnings.{view_of}
use Rattle.engine.proofs.Looking.{Going}
use Rattle.engine.proofs.ahead.part_by_part.Given as goal

abbrev pub invariant-loop-count : goal.invariant-loop-count
invariant-loop-count l = Going (view_of (l.pattern) [] l.initial.index l.r) l.most l.count (in_row l.index l.i l.address l.size l.step) l.height (joined_in (take l.m l.parts))
    × Ready (view_of (l.pattern) [] l.initial.index l.r) × (l.most ≤ 64) × (length l.index ≡ 7) × (length l.parts ≡ 64) × (l.m ≤ l.count)

abbrev pub decreases-loop-count : goal.decreases-loop-count
decreases-loop-count l = l.most - l.count
