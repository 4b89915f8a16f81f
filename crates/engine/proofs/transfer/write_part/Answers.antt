-- `transfer::write_part` meets its contract: elements side by side take the lanes' bytes; of others, after k turns the first k lanes are written.
use Rattle.std.proofs.Common.{◌*◌, [], length, take, drop, ◌+ℤ◌, sym, ap, ◌∙◌, add-mul, arith}
use Rattle.std.proofs.lemmas.List.Edits.{sets}
use Rattle.engine.specs.Addresses.{inside}
use Rattle.engine.specs.Stretches.{progression}
use Rattle.engine.proofs.LaneCounts.{few-lanes}
use Rattle.engine.proofs.StretchSteps.{length-progression, row_at, further-none, further-more, within-row, row-place, row_room, row-written-from, stored-none, stored-further, all-stored-further}
use Rattle.engine.proofs.PartSteps.{lane-room-at}
use Rattle.engine.proofs.transfer.write_part.Goals as goal

pub place-requires : goal.place-requires
place-requires c =
    let a = c.args in
    row-place (length a.memory.now) a.width a.part.now.start.0 a.part.now.step.0 a.part.now.count (omega arith) (c.adjacent.ensures c.if-adjacent.true) c.requires.inside

pub copy-requires : goal.copy-requires
copy-requires c =
    let a = c.args in
    let room = row_room (length a.memory.now) a.width a.part.now.start.0 a.part.now.step.0 a.part.now.count (omega arith) (c.adjacent.ensures c.if-adjacent.true) c.requires.inside in
    (omega (arith, c.place.ensures.0, room), omega (arith, c.place.ensures.0, room))

pub returns-then-adjacent : goal.returns-then-adjacent
returns-then-adjacent c =
    let a = c.args in
    let m = a.memory.now in
    c.copy.ensures.0
    ∙ ap (λ i. sets m i (take (a.part.now.count * a.width) (drop (a.at * a.width) a.lanes.now))) c.place.ensures.0
    ∙ row-written-from (length m) a.width a.part.now.start.0 a.part.now.step.0 a.part.now.count (omega arith) (c.adjacent.ensures c.if-adjacent.true) c.requires.inside m a.lanes.now (a.at * a.width) c.fits-lanes (omega arith)

pub loop-k-init : goal.loop-k-init
loop-k-init c =
    let a = c.args in record {
      address = sym (further-none a.part.now.start.0 a.part.now.step.0);
      bounded = a.part.now.near.0;
      written = sym (stored-none a.memory.now a.width (progression a.part.now.start.0 a.part.now.step.0 a.part.now.count) []);
    }

pub overflow_add-at : goal.overflow_add-at
overflow_add-at c =
    omega (arith, few-lanes c.args.at c.args.width c.requires.room.0.0 (omega arith))

pub write_lane-requires : goal.write_lane-requires
write_lane-requires c =
    let a = c.args in
    let l = c.loop-k in (
      lane-room-at a.at l.k a.part.now.count a.width 64 (omega arith) c.requires.room.1,
      (
        c.requires.room.0.1,
        ap (λ len. inside len a.width l.a.0) l.auto.memory ∙ within-row (length a.memory.now) a.width a.part.now.start.0 a.part.now.step.0 a.part.now.count l.k c.loop-k-test.true l.invariant.address c.requires.inside,
      ),
    )

pub loop-k-preserved : goal.loop-k-preserved
loop-k-preserved c =
    let a = c.args in
    let l = c.loop-k in
    let row = progression a.part.now.start.0 a.part.now.step.0 a.part.now.count in record {
      address = c.plus-a.ensures.exact ∙ ap (λ z. z +ℤ a.part.now.step.0) l.invariant.address ∙ further-more a.part.now.start.0 a.part.now.step.0 l.k;
      bounded = omega (arith, c.plus-a.ensures.most, l.invariant.bounded, a.part.now.near.1);
      written =
          stored-further a.memory.now a.width row a.lanes.now (a.at * a.width) a.part.now.count l.k (length-progression a.part.now.start.0 a.part.now.step.0 a.part.now.count) c.loop-k-test.true
          (l.invariant.address ∙ sym (row_at a.part.now.start.0 a.part.now.step.0 a.part.now.count l.k c.loop-k-test.true))
          (add-mul a.at l.k a.width)
          l.invariant.written
          c.write_lane.ensures;
    }

pub returns : goal.returns
returns c =
    let a = c.args in
    let l = c.loop-k in
    l.invariant.written
    ∙ all-stored-further a.memory.now a.width (progression a.part.now.start.0 a.part.now.step.0 a.part.now.count) a.lanes.now (a.at * a.width) a.part.now.count l.k (length-progression a.part.now.start.0 a.part.now.step.0 a.part.now.count) (omega arith)
