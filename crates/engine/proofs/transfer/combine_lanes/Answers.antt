-- `transfer::combine_lanes` meets its contract: a copy is the first source's bytes; otherwise, after k turns the lanes are the first k.
use Rattle.std.proofs.Common.{◌*◌, length, sym, refl, ap, ◌∙◌, arith}
use lib.Seq.{length-sets}
use Rattle.engine.specs.Memory.{value_at}
use Rattle.engine.specs.Lanes.{lane}
use Rattle.engine.proofs.LaneCounts.{few-lanes}
use Rattle.engine.proofs.LaneSteps.{lane_room, packed_none}
use Rattle.engine.proofs.StretchSteps.{combined-more, all-combined, copied}
use Rattle.engine.proofs.transfer.combine_lanes.Goals as goal

pub returns-in-Copy : goal.returns-in-Copy
returns-in-Copy c =
    let a = c.args in
    c.copy.ensures.0
    ∙ copied (lane a.action (8 * a.width)) a.first.now a.second.now a.width a.n (λ x y. ap (λ action. lane action (8 * a.width) x y) c.in-Copy.is) (λ _. c.fits-first) (omega arith) c.requires.1

pub loop-k-init : goal.loop-k-init
loop-k-init c =
    let a = c.args in record {
      few = few-lanes a.n a.width c.requires.0.0 c.requires.1;
      long = refl;
      combined = sym (packed_none a.width);
    }

pub loop-k-preserved : goal.loop-k-preserved
loop-k-preserved c =
    let a = c.args in
    let l = c.loop-k in
    let f = lane a.action (8 * a.width) in record {
      few = l.invariant.few;
      long = ap length c.store.ensures ∙ simp length-sets l.invariant.long;
      combined =
          combined-more f a.first.now a.second.now a.width a.n l.k c.loop-k-test.true (lane_room l.k a.n a.width 64 c.loop-k-test.true c.requires.1)
          (c.lane.ensures.0 ∙ ap (λ v. f v c.load-b.result) c.load-a.ensures.0 ∙ ap (f (value_at a.first.now (l.k * a.width) a.width)) c.load-b.ensures.0)
          l.invariant.combined
          c.store.ensures;
    }

pub returns-after-loop-k : goal.returns-after-loop-k
returns-after-loop-k c =
    let a = c.args in
    let l = c.loop-k in
    l.invariant.combined ∙ all-combined (lane a.action (8 * a.width)) a.first.now a.second.now a.width a.n l.k (omega arith)
