-- Where an element lies.
--
--   offset_at, stride_at     a dimension's offset and stride at given outer indices
--   in_bytes                the width applied: the one place where elements become bytes
--   address                the address of an element
--   inside                 whether it lies inside memory
use Rattle.std.specs.Prelude.{ℕ, zero, suc, ◌+◌, ◌*◌, Bool, ◌&&◌, List, drop, ℤ, pos, ◌+ℤ◌, ◌*ℤ◌, nat_le, slice_index, slice_index_or, unsigned_abs}
use Rattle.std.specs.Int.Signed.{non_neg}
use Rattle.codec.specs.declared.amounts.Bytes.{Bytes}
use Rattle.codec.specs.declared.amounts.Elements.{Elements}
use Rattle.codec.specs.declared.operation.Parameter.TheVariants.{Offset, Stride}
use Rattle.engine.specs.Loops.{modifiers_of, added}
use Rattle.engine.specs.declared.stream.Pattern.{Pattern}

-- a base or an offset of 0 bytes
abbrev pub no_bytes : Bytes
no_bytes = record { 0 = pos 0 }

-- a stride of 0 elements
abbrev pub no_elements : Elements
no_elements = record { 0 = pos 0 }

-- "its target's parameter is the configured value plus or minus k x displacement": the offset of dimension d
abbrev pub offset_at : Pattern → ℕ → List ℕ → ℤ
offset_at p d outer = (slice_index_or p.offsets d no_bytes).0 +ℤ added Offset d outer (modifiers_of p.shape)

-- "its target's parameter is the configured value plus or minus k x displacement": the stride of dimension d
abbrev pub stride_at : Pattern → ℕ → List ℕ → ℤ
stride_at p d outer = (slice_index_or p.strides d no_elements).0 +ℤ added Stride d outer (modifiers_of p.shape)

-- "stride x index x width": elements as bytes
abbrev pub in_bytes : ℤ → ℕ → ℕ → ℤ
in_bytes stride index width = stride *ℤ pos (index * width)

-- "base + the sum over dimensions of (offset + stride x index x width), in exact integers": over the first n dimensions
unfoldable pub address_up_to : Pattern → ℕ → List ℕ → ℕ → ℤ
address_up_to p width v zero = p.base.0
address_up_to p width v (suc d) =
    address_up_to p width v d +ℤ (offset_at p d (drop (suc d) v) +ℤ in_bytes (stride_at p d (drop (suc d) v)) (slice_index v d) width)

-- "base + the sum over dimensions of (offset + stride x index x width)": of an element, over all dimensions
abbrev pub address : Pattern → ℕ → List ℕ → ℤ
address p width v = address_up_to p width v p.shape.dims

-- "An element lies inside memory if its address is 0 or more and address + width is at most the memory's length"
abbrev pub inside : ℕ → ℕ → ℤ → Bool
inside length width a = non_neg a && nat_le (unsigned_abs a + width) length
