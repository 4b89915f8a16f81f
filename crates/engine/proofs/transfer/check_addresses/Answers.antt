-- `transfer::check_addresses` meets its contract: after k turns the first k parts lie inside.
use Rattle.std.proofs.Common.{◌+◌, [], sym, ap, ◌∙◌, take_all, arith}
use Rattle.engine.specs.Stretches.{joined_in, all_within}
use Rattle.engine.proofs.PartSteps.{parts_none, parts-none-long, parts-count, part-within, part-outside, part-lane, check-inside, check-outside}
use Rattle.engine.proofs.transfer.check_addresses.Goals as goal

pub loop-part-init : goal.loop-part-init
loop-part-init c = record { inside = parts_none c.args.len c.args.width; counted = parts-none-long; few = omega arith }

pub returns-then-not-row_within : goal.returns-then-not-row_within
returns-then-not-row_within c =
    let a = c.args in
    let l = c.loop-part in
    let parts = a.parts.now in
    let out = sym c.row_within.ensures ∙ c.if-not-row_within.true in
    check-outside a.len a.width (joined_in parts) (l.passed + c.lane_outside.result)
    (part-outside a.len a.width parts l.part-index c.part-item.result c.part-item.is c.loop-part-test.true out)
    (part-lane a.len a.width parts l.part-index c.part-item.result c.part-item.is c.loop-part-test.true l.invariant.inside out ∙ omega (arith, c.lane_outside.ensures.0, l.invariant.counted))

pub loop-part-preserved : goal.loop-part-preserved
loop-part-preserved c =
    let a = c.args in
    let l = c.loop-part in
    let inside = sym c.row_within.ensures ∙ c.if-not-row_within.false in record {
      inside = part-within a.len a.width a.parts.now l.part-index c.part-item.result c.part-item.is c.loop-part-test.true l.invariant.inside inside;
      counted = parts-count [] a.width a.parts.now l.part-index c.part-item.result c.part-item.is c.loop-part-test.true l.invariant.counted;
      few = omega (arith, l.invariant.few, c.part-item.result.few);
    }

pub returns : goal.returns
returns c =
    let a = c.args in
    let l = c.loop-part in
    check-inside a.len a.width _ (sym (ap (λ ps. all_within a.len a.width (joined_in ps)) (take_all l.part-index a.parts.now (omega arith))) ∙ l.invariant.inside)
