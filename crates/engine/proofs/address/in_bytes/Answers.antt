-- `address::in_bytes` meets its contract: a product of such factors stays within 2^51.
use Rattle.std.proofs.Common.{◌*◌, ◌^◌, ◌≤◌, nat_abs, refl, mul-le-mul, arith}
use Rattle.codec.proofs.Integers.{back, cast}
use Rattle.engine.specs.Addresses.{in_bytes}
use Rattle.engine.specs.AddressLaws.{bytes_most}
use Rattle.engine.proofs.address.in_bytes.Goals as goal

pub returns : goal.returns
returns c =
    let count : c.args.index * c.args.width ≤ 32768 = mul-le-mul {n₂ = 4096} {m₂ = 8} (omega arith) (omega arith) in
    let small : nat_abs (in_bytes c.args.stride.0 c.args.index c.args.width) ≤ 2 ^ 51 = let s = c in
    bytes_most s.args.stride.0 s.args.index s.args.width s.requires.0 s.requires.1 s.requires.2 in
    let a = c.args in
    rw (back a.stride.0 (omega arith), cast (a.index * a.width) (omega (arith, count)), back (in_bytes a.stride.0 a.index a.width) (omega (arith, small)))
    (record { exact = refl; most = small })
