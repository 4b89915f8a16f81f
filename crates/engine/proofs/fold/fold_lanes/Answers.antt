-- `fold::fold_lanes` meets its contract: each fold is of the lanes taken in turn, or the place of what is left.
use Rattle.std.proofs.Common.{◌*◌, ◌^◌, ◌≤◌, sym, ap, ◌∙◌, arith, pow_mono}
use mathlib.Core.List.{foldl}
use Rattle.codec.specs.declared.operation.Action.TheVariants.{Add}
use Rattle.engine.specs.Lanes.{lane, first_at}
use Rattle.engine.specs.Memory.{lanes_from}
use Rattle.engine.proofs.LaneCounts.{few-lanes}
use Rattle.engine.proofs.FoldSteps.{whole_row}
use Rattle.engine.specs.FoldLaws.{sum-foldl}
use Rattle.engine.proofs.fold.fold_lanes.Goals as goal

pub returns-in-Sum : goal.returns-in-Sum
returns-in-Sum c =
    let a = c.args in
    rw c.in-Sum.is
    (c.taken_through.ensures.0 ∙ ap (foldl (lane Add (8 * a.width)) 0) (whole_row a.lanes.now a.width a.n) ∙ sym (sum-foldl (8 * a.width) _), c.taken_through.ensures.1)

pub returns-in-FirstLargest : goal.returns-in-FirstLargest
returns-in-FirstLargest c =
    let a = c.args in
    let p : 2 ^ 8 ≤ 2 ^ (8 * a.width) = pow_mono {i = 8} {j = 8 * a.width} (omega (arith, c.requires.0.0)) in
    rw c.in-FirstLargest.is (
      c.first_at.ensures.0 ∙ ap (λ x. first_at x (lanes_from a.lanes.now a.width 0 a.n)) c.extreme_lane-largest.ensures.0,
      omega (arith, c.first_at.ensures.1, few-lanes a.n a.width c.requires.0.0 c.requires.1, p),
    )
