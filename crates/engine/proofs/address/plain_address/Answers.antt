-- `address::plain_address` meets its contract: after d turns the sum is the address over the first d dimensions, within 2^20 + d x 2^52. With no
-- modifier a dimension adds what its own offset and stride give.
use Rattle.std.proofs.Common.{◌≡◌, suc, ◌+◌, get_or, drop, ◌+ℤ◌, sym, ap, ◌∙◌, arith}
use Rattle.engine.specs.Addresses.{address_up_to}
use Rattle.engine.proofs.PlainSteps.{plain-term}
use Rattle.engine.proofs.AddressSteps.{up-to-none, up-to-next}
use Rattle.engine.proofs.address.plain_address.Goals as goal

pub loop-d-init : goal.loop-d-init
loop-d-init c =
    (up-to-none c.args.pattern.now c.args.width c.args.index.now, omega (arith, c.requires.0.base))

pub loop-d-preserved : goal.loop-d-preserved
loop-d-preserved c =
    let a = c.args in
    let l = c.loop-d in
    let t = c.offset_and_stride-t.result.0 in
    let term = plain-term a.pattern.now c.requires.3 l.d (drop (suc l.d) a.index.now) (get_or a.index.now l.d 0) a.width in
    let e : l.sum.0 +ℤ t ≡ address_up_to a.pattern.now a.width a.index.now (l.d + 1) =
    ap (λ x. x +ℤ t) l.invariant.0
    ∙ ap (λ x. address_up_to a.pattern.now a.width a.index.now l.d +ℤ x) (c.offset_and_stride-t.ensures.exact ∙ term)
    ∙ sym (up-to-next a.pattern.now a.width a.index.now l.d) in
    (c.plus-sum.ensures.exact ∙ e, omega (arith, c.plus-sum.ensures.most, c.offset_and_stride-t.ensures.most))
