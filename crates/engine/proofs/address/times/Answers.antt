-- `address::times` meets its contract: at most 64 steps stay within 2^57.
use Rattle.std.proofs.Common.{◌*◌, ◌^◌, ◌≤◌, pos, ◌*ℤ◌, nat_abs, refl, mul-le-mul, arith}
use Rattle.codec.proofs.Integers.{abs-mul, back, cast}
use Rattle.engine.proofs.address.times.Goals as goal

pub returns : goal.returns
returns c =
    let small : nat_abs (c.args.step.0 *ℤ pos c.args.n) ≤ 2 ^ 57 = let a = c.args in
    let m : nat_abs a.step.0 * a.n ≤ 2 ^ 51 * 64 = mul-le-mul c.requires.0 c.requires.1 in
    omega (arith, abs-mul a.step.0 (pos a.n)) in
    let a = c.args in
    rw (back a.step.0 (omega arith), cast a.n (omega arith), back (a.step.0 *ℤ pos a.n) (omega (arith, small)))
    (record { exact = refl; most = small })
