-- `transfer::read_parts` meets its contract: after k turns the lanes are those at the addresses of the first k parts.
use Rattle.std.proofs.Common.{length, sym, ap, ◌∙◌, take_all, arith}
use Rattle.engine.specs.Memory.{packed}
use Rattle.engine.specs.Stretches.{joined_in, fetched_at}
use Rattle.engine.proofs.LaneCounts.{few-lanes}
use Rattle.engine.proofs.PartSteps.{lanes-room, part-inside, parts-count, parts-read, none-packed, no-parts}
use Rattle.engine.proofs.transfer.read_parts.Goals as goal

pub loop-part-init : goal.loop-part-init
loop-part-init c =
    let a = c.args in
    (sym no-parts, sym (none-packed a.memory.now a.width))

pub read_part-requires : goal.read_part-requires
read_part-requires c =
    let a = c.args in
    let l = c.loop-part in record {
      room = (c.requires.room.0, lanes-room a.parts.now l.part-index a.width c.part-item.result c.part-item.is c.loop-part-test.true l.invariant.0 c.requires.room.1);
      inside = part-inside (length a.memory.now) a.width a.parts.now l.part-index c.part-item.result c.part-item.is c.loop-part-test.true c.requires.inside;
    }

pub overflow_add-at : goal.overflow_add-at
overflow_add-at c =
    let a = c.args in
    let l = c.loop-part in
    omega (arith, few-lanes l.at a.width c.requires.room.0.0 (omega (arith, lanes-room a.parts.now l.part-index a.width c.part-item.result c.part-item.is c.loop-part-test.true l.invariant.0 c.requires.room.1)))

pub loop-part-preserved : goal.loop-part-preserved
loop-part-preserved c =
    let a = c.args in
    let l = c.loop-part in (
      parts-count a.memory.now a.width a.parts.now l.part-index c.part-item.result c.part-item.is c.loop-part-test.true l.invariant.0,
      parts-read a.memory.now a.width a.parts.now l.part-index c.part-item.result c.part-item.is c.loop-part-test.true l.invariant.0 (lanes-room a.parts.now l.part-index a.width c.part-item.result c.part-item.is c.loop-part-test.true l.invariant.0 c.requires.room.1) l.invariant.1 c.read_part.ensures,
    )

pub returns : goal.returns
returns c =
    let a = c.args in
    let l = c.loop-part in
    l.invariant.1 ∙ ap (λ ps. packed a.width (fetched_at a.memory.now a.width (joined_in ps))) (take_all l.part-index a.parts.now (omega arith))
