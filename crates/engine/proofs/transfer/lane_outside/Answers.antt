-- `transfer::lane_outside` meets its contract: after k turns the first k elements lie inside.
use Rattle.std.proofs.Common.{◌≡◌, ◌+◌, ◌-◌, ◌+ℤ◌, sym, ap, ◌∙◌, arith}
use Rattle.engine.specs.Stretches.{progression, lane_without}
use Rattle.engine.proofs.StretchSteps.{lane-none, lane_here, lane-on}
use Rattle.engine.proofs.transfer.lane_outside.Goals as goal

pub returns-then-not-inside : goal.returns-then-not-inside
returns-then-not-inside c =
    let a = c.args in
    let l = c.loop-k in
    let e = lane_here a.len a.width l.a.0 a.part.now.step.0 (a.part.now.count - l.k) (omega arith) (sym c.inside.ensures ∙ c.if-not-inside.true) in
    (omega (arith, l.invariant.1, e), l.auto.k-end)

pub loop-k-preserved : goal.loop-k-preserved
loop-k-preserved c =
    let a = c.args in
    let l = c.loop-k in
    let m = a.part.now.count - l.k in
    let d : m - 1 ≡ a.part.now.count - (l.k + 1) = omega arith in
    let e = lane-on a.len a.width l.a.0 a.part.now.step.0 m (omega arith) (sym c.inside.ensures ∙ c.if-not-inside.false) in
    let f : lane_without a.len a.width (progression c.plus-a.result.0 a.part.now.step.0 (a.part.now.count - (l.k + 1))) ≡ lane_without a.len a.width (progression (l.a.0 +ℤ a.part.now.step.0) a.part.now.step.0 (m - 1)) =
    rw d (ap (λ z. lane_without a.len a.width (progression z a.part.now.step.0 (a.part.now.count - (l.k + 1)))) c.plus-a.ensures.exact) in
    (omega (arith, c.plus-a.ensures.most, l.invariant.0, a.part.now.near.1), omega (arith, l.invariant.1, e, f))

pub returns : goal.returns
returns c =
    let a = c.args in
    let l = c.loop-k in
    (omega (arith, l.invariant.1, lane-none a.len a.width l.a.0 a.part.now.step.0 (a.part.now.count - l.k) (omega arith)), omega arith)
