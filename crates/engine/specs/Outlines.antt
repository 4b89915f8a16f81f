-- What the descriptors of a stream come to.
--
--   address_at     the address of an element, by its position
--   extent_of      a stream's dimensions and modifiers, its elements, and where the first and the last of them lie
--   outline_of     the same of a register whose stream was ended
--   located_in     the address of the element at a stop, if there is one
--   element_of     the same of a register whose stream was ended
--   IsKept, Keeps  what is kept of a register's stream
use Rattle.std.specs.Prelude.{◌≡◌, ℕ, ◌-◌, ◌≤◌, true, false, cond, not, ◌&&◌, ◌||◌, [], length, pos, nat_lt, slice_index_or, Option, None, Some}
use Rattle.codec.specs.declared.amounts.Bytes.{Bytes}
use Rattle.engine.specs.Loops.{elements}
use Rattle.engine.specs.Chunks.{stops, nothing_at}
use Rattle.engine.specs.Addresses.{address}
use Rattle.engine.specs.Stretches.{addresses_of}
use Rattle.engine.specs.Registers.{is_open, is_finished}
use Rattle.engine.specs.Good.{RangedPattern, Accepted}
use Rattle.engine.specs.declared.stream.Pattern.{Pattern}
use Rattle.engine.specs.declared.register.Register.{Register}
use Rattle.engine.specs.declared.outline.Extent.{Extent}
use Rattle.engine.specs.declared.outline.Kept.{Kept}

-- the address of the element at a position, 0 if there is none
abbrev pub address_at : Pattern → ℕ → ℕ → Bytes
address_at p width k = record { 0 = slice_index_or (addresses_of p width (elements p.shape)) k (pos 0) }

-- a stream's dimensions and modifiers, how many elements its loops have, and the addresses of the first and the last of them
unfoldable pub extent_of : Pattern → ℕ → Extent
extent_of p width = record {
  dims = p.shape.dims;
  mods = p.shape.mods;
  elements = length (elements p.shape);
  first = address_at p width 0;
  last = address_at p width (length (elements p.shape) - 1);
}

-- what a register's stream comes to, if it was ended: then the register is open or finished
unfoldable pub outline_of : Register → Option Extent
outline_of r = cond (is_open r.state || is_finished r.state) (Some (extent_of r.pattern r.width)) None

-- the address of the element at a stop, counted from 0, if there are so many and that one is no coupled pass that holds no element
unfoldable pub located_in : Pattern → ℕ → ℕ → Option Bytes
located_in p width n =
    cond (nat_lt n (length (stops p.shape)) && not (nothing_at p.shape n)) (Some (record { 0 = address p width (slice_index_or (stops p.shape) n []) })) None

-- the same of a register's stream, if it was ended
unfoldable pub element_of : Register → ℕ → Option Bytes
element_of r n = cond (is_open r.state || is_finished r.state) (located_in r.pattern r.width n) None

-- what is kept of a register whose stream was ended: its pattern and width, and its loops can be walked
pub record IsKept (r : Register) (k : Kept) : Type 0 where
  pub told : (is_open r.state || is_finished r.state) ≡ true
  pub pattern : k.pattern ≡ r.pattern
  pub width : k.width ≡ r.width
  pub walkable : RangedPattern k.pattern × (k.width ≤ 8) × Accepted k.pattern.shape

-- what is kept of a register's stream, if it was ended
abbrev pub Keeps : Register → Option Kept → Type 0
Keeps r None = (is_open r.state || is_finished r.state) ≡ false
Keeps r (Some k) = IsKept r k
