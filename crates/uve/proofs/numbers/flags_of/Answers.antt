-- At dimension d, counted down, the number is that of the flags from d on.
use Rattle.std.proofs.Common.{◌≡◌, ◌+◌, ◌-◌, sym, arith}
use Rattle.uve.proofs.Steps.{flag-next, flag-none, doubled}
use Rattle.uve.proofs.numbers.flags_of.Goals as goal

pub loop-d-init : goal.loop-d-init
loop-d-init c = (omega arith, sym (flag-none _ _ _), omega arith)

pub loop-d-preserved : goal.loop-d-preserved
loop-d-preserved c =
    let a = c.args in
    let l = c.loop-d in
    let d = l.d - 1 in
    let e : d + 1 ≡ l.d = omega (arith, l.invariant.0, c.loop-d-test.true) in
    let next = flag-next a.dims a.height d (omega (arith, c.loop-d-test.true)) in (
      omega (arith, c.loop-d-test.true),
      rw (c.flag_digit.ensures.0, l.invariant.1, next, e),
      doubled c.flag_digit.result l.flags (8 - l.d) _ c.flag_digit.ensures.1 l.invariant.2 (omega (arith, c.loop-d-test.true)),
    )
