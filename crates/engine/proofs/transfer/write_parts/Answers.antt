-- `transfer::write_parts` meets its contract: after k turns the lanes of the first k parts are written.
use Rattle.std.proofs.Common.{length, take, sym, ap, ◌∙◌, take_all, arith}
use Rattle.engine.specs.Memory.{lanes_from}
use Rattle.engine.specs.Stretches.{addresses_in, joined_in, all_within, stored_at}
use Rattle.engine.proofs.LaneCounts.{few-lanes}
use Rattle.engine.proofs.PartSteps.{lanes-room, part-inside, parts-count, parts-written, none-stored, no-parts}
use Rattle.engine.proofs.transfer.write_parts.Goals as goal

pub loop-part-init : goal.loop-part-init
loop-part-init c =
    let a = c.args in
    (sym no-parts, sym (none-stored a.memory.now a.width (lanes_from a.lanes.now a.width 0 0)))

pub write_part-requires : goal.write_part-requires
write_part-requires c =
    let a = c.args in
    let l = c.loop-part in record {
      room = (c.requires.room.0, lanes-room a.parts.now l.part-index a.width c.part-item.result c.part-item.is c.loop-part-test.true l.invariant.0 c.requires.room.1);
      inside = ap (λ len. all_within len a.width (addresses_in c.part-item.result)) l.auto.memory ∙ part-inside (length a.memory.now) a.width a.parts.now l.part-index c.part-item.result c.part-item.is c.loop-part-test.true c.requires.inside;
    }

pub overflow_add-at : goal.overflow_add-at
overflow_add-at c =
    let a = c.args in
    let l = c.loop-part in
    omega (arith, few-lanes l.at a.width c.requires.room.0.0 (omega (arith, lanes-room a.parts.now l.part-index a.width c.part-item.result c.part-item.is c.loop-part-test.true l.invariant.0 c.requires.room.1)))

pub loop-part-preserved : goal.loop-part-preserved
loop-part-preserved c =
    let a = c.args in
    let l = c.loop-part in (
      parts-count a.memory.now a.width a.parts.now l.part-index c.part-item.result c.part-item.is c.loop-part-test.true l.invariant.0,
      parts-written a.memory.now a.width a.parts.now l.part-index c.part-item.result c.part-item.is c.loop-part-test.true l.invariant.0 a.lanes.now l.invariant.1 c.write_part.ensures,
    )

pub returns : goal.returns
returns c =
    let a = c.args in
    let l = c.loop-part in
    l.invariant.1
    ∙ ap (λ i. stored_at a.memory.now a.width (joined_in (take l.part-index a.parts.now)) (lanes_from a.lanes.now a.width 0 i)) l.invariant.0
    ∙ ap (λ ps. stored_at a.memory.now a.width (joined_in ps) (lanes_from a.lanes.now a.width 0 (length (joined_in ps)))) (take_all l.part-index a.parts.now (omega arith))
