-- `address::address` meets its contract: after d turns the sum is the address over the first d dimensions, within 2^20 + d x 2^52; where there is no
-- modifier, by its callee.
use Rattle.std.proofs.Common.{◌≡◌, ◌+◌, ◌+ℤ◌, sym, ap, ◌∙◌, arith}
use Rattle.engine.specs.Addresses.{address_up_to}
use Rattle.engine.proofs.AddressSteps.{up-to-none, up-to-next}
use Rattle.engine.proofs.address.address.Goals as goal

pub loop-d-init : goal.loop-d-init
loop-d-init c =
    (up-to-none c.args.pattern.now c.args.width c.args.index.now, omega (arith, c.requires.0.base))

pub loop-d-preserved : goal.loop-d-preserved
loop-d-preserved c =
    let a = c.args in
    let l = c.loop-d in
    let t = c.term-t.result.0 in
    let e : l.sum.0 +ℤ t ≡ address_up_to a.pattern.now a.width a.index.now (l.d + 1) =
    ap (λ x. x +ℤ t) l.invariant.0
    ∙ ap (λ x. address_up_to a.pattern.now a.width a.index.now l.d +ℤ x) c.term-t.ensures.exact
    ∙ sym (up-to-next a.pattern.now a.width a.index.now l.d) in
    (c.plus-sum.ensures.exact ∙ e, omega (arith, c.plus-sum.ensures.most, c.term-t.ensures.most))
