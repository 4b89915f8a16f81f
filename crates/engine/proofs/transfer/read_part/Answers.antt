-- `transfer::read_part` meets its contract: elements side by side are their bytes; of others, after k turns the lanes are those at the first k addresses.
use Rattle.std.proofs.Common.{◌*◌, length, take, drop, ◌+ℤ◌, sym, refl, ap, ◌∙◌, arith}
use Rattle.std.proofs.lemmas.List.Edits.{sets}
use Rattle.engine.specs.Stretches.{progression}
use Rattle.engine.proofs.LaneCounts.{few-lanes}
use Rattle.engine.proofs.StretchSteps.{length-progression, row_at, further-none, further-more, within-row, row-place, row_room, row-bytes}
use Rattle.engine.proofs.PartSteps.{lane-room-at, lane-read, part-read, no-lane}
use Rattle.engine.proofs.transfer.read_part.Goals as goal

pub place-requires : goal.place-requires
place-requires c =
    let a = c.args in
    row-place (length a.memory.now) a.width a.part.now.start.0 a.part.now.step.0 a.part.now.count (omega arith) (c.adjacent.ensures c.if-adjacent.true) c.requires.inside

pub copy-requires : goal.copy-requires
copy-requires c =
    let a = c.args in
    let room = row_room (length a.memory.now) a.width a.part.now.start.0 a.part.now.step.0 a.part.now.count (omega arith) (c.adjacent.ensures c.if-adjacent.true) c.requires.inside in
    (omega (arith, c.place.ensures.0, room), omega (arith, c.place.ensures.0, room))

pub returns-then-adjacent : goal.returns-then-adjacent
returns-then-adjacent c =
    let a = c.args in
    let m = a.memory.now in
    c.copy.ensures.0
    ∙ ap (λ i. sets a.lanes.now (a.at * a.width) (take (a.part.now.count * a.width) (drop i m))) c.place.ensures.0
    ∙ ap (sets a.lanes.now (a.at * a.width))
    (row-bytes (length m) a.width a.part.now.start.0 a.part.now.step.0 a.part.now.count (omega arith) (c.adjacent.ensures c.if-adjacent.true) c.requires.inside m refl (λ k. (c.type_inv.memory k).fits))

pub loop-k-init : goal.loop-k-init
loop-k-init c =
    let a = c.args in record {
      address = sym (further-none a.part.now.start.0 a.part.now.step.0);
      bounded = a.part.now.near.0;
      read = sym (no-lane a.width a.lanes.now (a.at * a.width));
    }

pub overflow_add-at : goal.overflow_add-at
overflow_add-at c =
    omega (arith, few-lanes c.args.at c.args.width c.requires.room.0.0 (omega arith))

pub read_lane-requires : goal.read_lane-requires
read_lane-requires c =
    let a = c.args in
    let l = c.loop-k in (
      lane-room-at a.at l.k a.part.now.count a.width 64 c.loop-k-test.true c.requires.room.1,
      (c.requires.room.0.1, within-row (length a.memory.now) a.width a.part.now.start.0 a.part.now.step.0 a.part.now.count l.k c.loop-k-test.true l.invariant.address c.requires.inside),
    )

pub loop-k-preserved : goal.loop-k-preserved
loop-k-preserved c =
    let a = c.args in
    let l = c.loop-k in
    let row = progression a.part.now.start.0 a.part.now.step.0 a.part.now.count in record {
      address = c.plus-a.ensures.exact ∙ ap (λ z. z +ℤ a.part.now.step.0) l.invariant.address ∙ further-more a.part.now.start.0 a.part.now.step.0 l.k;
      bounded = omega (arith, c.plus-a.ensures.most, l.invariant.bounded, a.part.now.near.1);
      read =
          lane-read a.memory.now a.width row l.k a.at a.lanes.now (omega (arith, length-progression a.part.now.start.0 a.part.now.step.0 a.part.now.count))
          (l.invariant.address ∙ sym (row_at a.part.now.start.0 a.part.now.step.0 a.part.now.count l.k c.loop-k-test.true))
          l.invariant.read
          c.read_lane.ensures;
    }

pub returns : goal.returns
returns c =
    let a = c.args in
    let l = c.loop-k in
    l.invariant.read
    ∙ ap (sets a.lanes.now (a.at * a.width))
    (part-read a.memory.now a.width (progression a.part.now.start.0 a.part.now.step.0 a.part.now.count) l.k (length-progression a.part.now.start.0 a.part.now.step.0 a.part.now.count ∙ omega arith))
