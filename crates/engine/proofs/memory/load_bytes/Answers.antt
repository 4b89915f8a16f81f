-- `memory::load_bytes` meets its contract: at byte k, counted down, the number is that of the bytes from k on.
use Rattle.std.proofs.Common.{◌≡◌, ◌+◌, ◌-◌, sym, arith}
use Rattle.engine.proofs.ByteSteps.{byte-loaded, none-loaded, room, grown}
use Rattle.engine.proofs.memory.load_bytes.Goals as goal

pub loop-k-init : goal.loop-k-init
loop-k-init c =
    let w = c.args.width in
    let e : w - w ≡ 0 = omega arith in
    (sym (none-loaded _ _ _ e), rw e (omega arith))

pub overflow_mul-x : goal.overflow_mul-x
overflow_mul-x c =
    let l = c.loop-k in
    omega (arith, room l.x (c.args.width - l.k) l.invariant.1 (omega arith))

pub overflow_add-x : goal.overflow_add-x
overflow_add-x c =
    let l = c.loop-k in
    omega (arith, c.from.ensures, (c.type_inv.bytes (c.args.at + (l.k - 1))).fits, room l.x (c.args.width - l.k) l.invariant.1 (omega arith))

pub loop-k-preserved : goal.loop-k-preserved
loop-k-preserved c =
    let l = c.loop-k in
    let a = c.args in (
      rw (c.from.ensures, l.invariant.0) (sym (byte-loaded a.bytes.now a.at l.k a.width c.loop-k-test.true l.auto.k)),
      rw c.from.ensures (grown _ l.x (a.width - l.k) _ (c.type_inv.bytes (a.at + (l.k - 1))).fits l.invariant.1 (omega arith)),
    )
