-- What it says of each field that an operation or a calculation is in range.
--
--   dimension-range, modifier-range, run-range, open-range, calculation-range   each kind
--   reach-small                                                                 an offset or a stride is small
use Rattle.std.specs.Prelude.{ℕ, suc, ◌≤◌, ◌<◌, ◌^◌, ◌≡◌, true, not, ◌&&◌, ◌||◌, leb, eqb, ℤ, pos, negsuc, nat_abs}
use Rattle.std.proofs.Common.{arith, leb-true}
use Rattle.std.specs.Int.Signed.{mag}
use Rattle.codec.specs.TestLaws.{both}
use Rattle.codec.specs.Headers.{header_in_range}
use Rattle.codec.specs.declared.amounts.Bytes.{Bytes}
use Rattle.codec.specs.declared.header.Header.{Header}
use Rattle.codec.specs.declared.operation.Dimension.{Dimension}
use Rattle.codec.specs.declared.operation.Modifier.{Modifier}
use Rattle.codec.specs.declared.operation.Calculation.{Calculation}
use Rattle.codec.specs.declared.operation.Operation.TheVariants as op
use Rattle.codec.specs.Operations.{is_register, is_reach, is_size, is_count, has_one_source, is_second, up_to, is_displacement, task_code, base_in_range, dimension_in_range, modifier_in_range, operation_in_range, calculation_in_range}

-- a dimension
pub dimension-range : (d : Dimension) → dimension_in_range d ≡ true → (d.register ≤ 31) × (is_reach d.offset.0 ≡ true) × (d.size ≤ 4096) × (is_reach d.stride.0 ≡ true)
dimension-range d e =
    let r3 = both (is_register d.register && is_reach d.offset.0 && is_size d.size) (is_reach d.stride.0) e in
    let r2 = both (is_register d.register && is_reach d.offset.0) (is_size d.size) r3.0 in
    let r1 = both (is_register d.register) (is_reach d.offset.0) r2.0 in
    (leb-true _ _ r1.0, r1.1, leb-true _ _ r2.1, r3.1)

-- a modifier
pub modifier-range : (m : Modifier) → modifier_in_range m ≡ true → (m.register ≤ 31) × (m.target ≤ 6) × (m.displacement ≤ 1048576)
modifier-range m e =
    let r2 = both (is_register m.register && up_to 6 m.target) (is_displacement m.displacement) e in
    let r1 = both (is_register m.register) (up_to 6 m.target) r2.0 in
    (leb-true _ _ r1.0, leb-true _ _ r1.1, leb-true _ _ r2.1)

-- a run
pub run-range : (register count : ℕ) → operation_in_range (op.Run register count) ≡ true → (register ≤ 31) × (count ≤ 16)
unfolding operation_in_range
run-range register count e =
    let r = both (is_register register) (is_count count) e in
    (leb-true _ _ r.0, leb-true _ _ (both (leb 1 count) (leb count 16) r.1).1)

-- an open
pub open-range : (h : Header) (b : Bytes) → operation_in_range (op.Open h b) ≡ true → (header_in_range h ≡ true) × (base_in_range b ≡ true)
unfolding operation_in_range
open-range h b e = both (header_in_range h) (base_in_range b) e

-- a calculation
pub calculation-range : (c : Calculation) → calculation_in_range c ≡ true → (c.destination ≤ 31) × (c.first ≤ 31) × (c.second ≤ 31)
calculation-range c e =
    let k = task_code c.task in
    let r2 = both (is_register c.destination && is_register c.first) (is_second k c.first c.second) e in
    let r1 = both (is_register c.destination) (is_register c.first) r2.0 in
    let r3 = both (is_register c.second) (not (has_one_source k) || eqb c.second c.first) r2.1 in
    (leb-true _ _ r1.0, leb-true _ _ r1.1, leb-true _ _ r3.0)

-- an offset or a stride
pub reach-small : (z : ℤ) → is_reach z ≡ true → (mag z < 2147483648) × (nat_abs z < 2 ^ 63)
reach-small (pos a) e = omega (arith, leb-true a 1048576 e)
reach-small (negsuc a) e = omega (arith, leb-true (suc a) 1048576 e)
