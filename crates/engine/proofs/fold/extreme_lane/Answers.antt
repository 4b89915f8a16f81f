-- `fold::extreme_lane` meets its contract: the first lane, and the others taken with it.
use Rattle.std.proofs.Common.{◌≡◌, ◌-◌, ◌*◌, ◌∷◌, sym, ap, ◌∙◌, zero-mul, arith, pow_pos}
use Rattle.engine.specs.Memory.{value_at, lanes_from}
use Rattle.engine.specs.Lanes.{extreme}
use Rattle.engine.proofs.FoldSteps.{lanes_next, whole_row}
use Rattle.engine.proofs.fold.extreme_lane.Goals as goal

pub returns-then-n-eq0 : goal.returns-then-n-eq0
unfolding extreme lanes_from
returns-then-n-eq0 c =
    let a = c.args in
    (sym (ap (λ n. extreme a.action (8 * a.width) (lanes_from a.lanes.now a.width 0 n)) c.if-n-eq0.true), pow_pos (8 * a.width))

pub returns : goal.returns
unfolding extreme
returns c =
    let a = c.args in
    let l = lanes_from a.lanes.now a.width (1 * a.width) (a.n - 1) in
    let e : lanes_from a.lanes.now a.width 0 a.n ≡ c.load-first.result ∷ l =
    sym (whole_row a.lanes.now a.width a.n) ∙ lanes_next a.lanes.now a.width 0 a.n (omega arith)
    ∙ ap (λ x. x ∷ l) (ap (λ i. value_at a.lanes.now i a.width) (zero-mul a.width) ∙ sym c.load-first.ensures.0) in
    (c.taken_through.ensures.0 ∙ sym (ap (extreme a.action (8 * a.width)) e), c.taken_through.ensures.1)
