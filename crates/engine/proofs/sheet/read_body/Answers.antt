-- `sheet::read_body` meets its contract: what was read, and the rest of the body, are the whole body.
use Rattle.std.proofs.Common.{◌≡◌, ◌+◌, ◌-◌, length, sym, ap, ◌∙◌, arith}
use Rattle.std.proofs.lemmas.Result.{err_from_is_err_and}
use Rattle.engine.specs.Sheets.{body_at}
use Rattle.engine.proofs.BodySteps.{behind, body_more, body-stops, body-whole}
use Rattle.engine.proofs.sheet.read_body.Goals as goal

pub loop-init : goal.loop-init
unfolding behind
loop-init c =
    let z : c.args.n - 0 ≡ c.args.n = omega arith in
    (ap length c.new-body.ensures, λ i. behind (c.new-body.ensures i) (body_at c.args.s.now (z i) c.args.from))

pub loop-preserved : goal.loop-preserved
loop-preserved c =
    let l = c.loop in (
      omega (arith, c.push.ensures.len, l.invariant.0),
      ap (λ cs. behind cs (body_at c.args.s.now (c.args.n - (l.counter + 1)) c.in_ok-calculation.next.at)) c.push.ensures.items
          ∙ sym (body_more _ _ l.counter l.at l.body.items c.loop-test.true _ _ (sym c.decode_calculation.ensures ∙ c.in_ok-calculation.was))
          ∙ l.invariant.1,
    )

pub returns-in_err-calculation : goal.returns-in_err-calculation
returns-in_err-calculation c =
    let l = c.loop in
    let e = c.in_err-calculation.field-0.0 in
    let r = err_from_is_err_and c.from_residual.result c.from_residual.ensures.1 in
    rw (r.1, r.2)
    (sym (body-stops _ _ l.counter l.at l.body.items c.loop-test.true e.refusal e.place (sym c.decode_calculation.ensures ∙ c.in_err-calculation.was)) ∙ l.invariant.1)

pub returns : goal.returns
returns c =
    let l = c.loop in
    sym (body-whole _ _ l.counter l.at l.body.items c.loop-test.false) ∙ l.invariant.1
