-- `address::plain_address` meets its contract: after d turns the sum is the address over the first d dimensions, within 2^20 + d x 2^52.
use Rattle.std.proofs.Common.{◌≡◌, ◌+◌, ◌*◌, ◌^◌, ◌≤◌, nat_abs}
use Rattle.engine.specs.Addresses.{address_up_to}
use Rattle.engine.proofs.address.plain_address.Given as goal

abbrev pub invariant-loop-d : goal.invariant-loop-d
invariant-loop-d l = (l.sum.0 ≡ address_up_to l.pattern l.width l.index l.d) × (nat_abs l.sum.0 ≤ 2 ^ 20 + l.d * 2 ^ 52)
