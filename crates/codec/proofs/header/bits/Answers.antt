-- `header::bits` meets its contract: shifting right is division, and the mask leaves the remainder.
use native.Mathlib.Omega.{arith}
use lib.Bits.{and_mask}
use Prim.Native.Nat.{◌/◌, ◌^◌}
use lib.Pow.{shl_exact}
use native.Mathlib.Nat.{one-mul}
use Rattle.codec.proofs.header.bits.Goals as goal

pub returns : goal.returns
returns c =
    rw (shl_exact {a = 1} 1 c.args.n 32 (omega arith) (omega arith), one-mul, and_mask (c.args.w / 2 ^ c.args.lo) c.args.n)
