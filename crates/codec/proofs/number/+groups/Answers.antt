-- `number::groups` meets its contract: each turn goes as one law of `groups_at` says.
use native.Mathlib.Omega.{arith}
use Prim.Native.Nat.{◌-◌}
use mathlib.Core.Path.{sym}
use borrow.Author.Tests.{eq-eqb, ne_eqb}
use Rattle.codec.proofs.Groups.{groups_none, groups-cut, groups-last, groups-more, room-some, room-step, room_most}
use Rattle.codec.proofs.number.+groups.Goals as goal
use Rattle.codec.proofs.number.+groups.Goals.{then-most-eq0-via-then-most-eq0, then-most-eq0-via-else-most-eq0+then-s-at}

pub returns-then-most-eq0-clause-read : goal.returns-then-most-eq0-clause-read
returns-then-most-eq0-clause-read t c =
    let a = c.args in
    elim c.then-most-eq0.branch [
      | then-most-eq0-via-then-most-eq0 w ↦ sym (groups_none a.most a.at _ w.if-most-eq0.true)
      | then-most-eq0-via-else-most-eq0+then-s-at w ↦ sym (groups-cut a.most a.at _ w.if-s-at.true)
    ]

pub returns-then-b-lt128-clause-read : goal.returns-then-b-lt128-clause-read
returns-then-b-lt128-clause-read t c =
    let a = c.args in
    sym (groups-last a.most a.at a.s.now c.if-most-eq0.false (omega arith) c.if-b-lt128.true)

pub returns-then-b-lt128-clause-below : goal.returns-then-b-lt128-clause-below
returns-then-b-lt128-clause-below t c =
    let a = c.args in
    omega (arith, room-step a.most c.if-most-eq0.false, room-some (a.most - 1))

pub returns-in_err-v-clause-read : goal.returns-in_err-v-clause-read
returns-in_err-v-clause-read t c =
    let a = c.args in
    rw (c.from_residual.ensures, groups-more a.most a.at a.s.now c.if-most-eq0.false (omega arith) (omega arith), ← c.in_err-v.ensures.read)

pub returns-then-v-eq0-clause-read : goal.returns-then-v-eq0-clause-read
returns-then-v-eq0-clause-read t c =
    let a = c.args in
    rw (
      groups-more a.most a.at a.s.now c.if-most-eq0.false (omega arith) (omega arith),
      ← c.in_ok-v.ensures.read,
      eq-eqb _ _ c.if-v-eq0.true,
    )

pub overflow_mul-result : goal.overflow_mul-result
overflow_mul-result t c =
    omega (arith, c.in_ok-v.ensures.below, room_most c.args.most (omega arith))

pub overflow_add-result : goal.overflow_add-result
overflow_add-result t c =
    omega (arith, c.type_inv.s c.args.at, c.in_ok-v.ensures.below, room_most c.args.most (omega arith))

pub returns-clause-read : goal.returns-clause-read
returns-clause-read t c =
    let a = c.args in
    rw (
      groups-more a.most a.at a.s.now c.if-most-eq0.false (omega arith) (omega arith),
      ← c.in_ok-v.ensures.read,
      ne_eqb _ _ c.if-v-eq0.false,
    )

pub returns-clause-below : goal.returns-clause-below
returns-clause-below t c =
    omega (arith, c.type_inv.s c.args.at, c.in_ok-v.ensures.below, room-step c.args.most c.if-most-eq0.false)
