-- What holds of every register that a sheet's operations leave. No answer depends on these: they are what the code may take for granted.
--
--   RangedModifier, Ranged, RangedPattern   descriptors in 01's ranges
--   Accepted                                a shape that end accepts
--   IsWidth                                 1, 2, 4 or 8
--   Standing, Good                          a register of a run
use Rattle.std.specs.Prelude.{◌≡◌, ℕ, ◌*◌, ◌^◌, ◌<◌, ◌≤◌, true, false, [], length, get_or, slice_index, slice_index_or, unsigned_abs}
use Rattle.codec.specs.Headers.{coupling_in_range}
use Rattle.engine.specs.Chunks.{stops, height}
use Rattle.engine.specs.Rules.{low_or_high, highs_of, product}
use Rattle.engine.specs.Addresses.{no_bytes, no_elements}
use Rattle.engine.specs.Registers.{is_configuring, is_open, is_finished, no_modifier, shape_of, index_of}
use Rattle.engine.specs.Configure.{uncovered}
use Rattle.engine.specs.declared.stream.Modifier.{Modifier}
use Rattle.engine.specs.declared.stream.Shape.{Shape}
use Rattle.engine.specs.declared.stream.Pattern.{Pattern}
use Rattle.engine.specs.declared.register.Register.{Register}
use Rattle.engine.specs.declared.register.Machine.{Machine}

-- a modifier's target is below its owner, which is one of the dimensions
pub record RangedModifier (dims : ℕ) (m : Modifier) : Type 0 where
  pub below : m.target < m.owner
  pub owned : m.owner < dims
  pub displaced : m.displacement ≤ 1048576

-- a shape's arrays and their ranges
pub record Ranged (s : Shape) : Type 0 where
  pub dims : s.dims ≤ 7
  pub mods : s.mods ≤ 8
  pub sizes : length s.sizes ≡ 7
  pub modifiers : length s.modifiers ≡ 8
  pub size : (d : ℕ) → slice_index s.sizes d ≤ 4096
  pub modifier : (k : ℕ) → k < s.mods → RangedModifier s.dims (slice_index_or s.modifiers k no_modifier)

-- a pattern's arrays and their ranges
pub record RangedPattern (p : Pattern) : Type 0 where
  pub shape : Ranged p.shape
  pub coupled : coupling_in_range p.shape.coupling ≡ true
  pub base : unsigned_abs p.base.0 ≤ 1048576
  pub offsets : length p.offsets ≡ 7
  pub strides : length p.strides ≡ 7
  pub offset : (d : ℕ) → unsigned_abs (get_or p.offsets d no_bytes).0 ≤ 1048576
  pub stride : (d : ℕ) → unsigned_abs (get_or p.strides d no_elements).0 ≤ 1048576

-- a shape that end accepts
pub record Accepted (s : Shape) : Type 0 where
  pub ranged : Ranged s
  pub coupled : coupling_in_range s.coupling ≡ true
  pub some : 1 ≤ s.dims
  pub covered : uncovered s s.coupling ≡ false
  pub bounded : low_or_high s ≡ false
  pub few : product (highs_of s) ≤ 1048576

-- an element width
abbrev pub IsWidth : ℕ → Type 0
IsWidth w = (code : ℕ) × (code ≤ 3) × (w ≡ 2 ^ code)

-- a stream that has been ended: where it stands
pub record Standing (r : Register) : Type 0 where
  pub accepted : Accepted (shape_of r)
  pub index : r.index ≡ index_of (slice_index_or (stops (shape_of r)) r.moved [])
  pub height : r.height ≡ height (shape_of r) r.moved

-- what holds of a register: its lanes fit, its descriptors are in range, its stream stands where its state says
pub record Good (vl : ℕ) (r : Register) : Type 0 where
  pub width : IsWidth r.width
  pub lanes : length r.lanes ≡ 64
  pub valid : r.valid * r.width ≤ vl
  pub pattern : RangedPattern r.pattern
  pub indices : length r.index ≡ 7
  pub unmoved : is_configuring r.state ≡ true → r.moved ≡ 0
  pub opened : is_open r.state ≡ true → Standing r × (r.moved < length (stops (shape_of r)))
  pub finished : is_finished r.state ≡ true → Standing r × (r.moved ≡ length (stops (shape_of r)))

-- every register is good
pub record AllGood (vl : ℕ) (m : Machine) : Type 0 where
  pub all : length m.registers ≡ 32
  pub good : (i : ℕ) → i < 32 → Good vl (slice_index_or m.registers i Rattle.engine.specs.Registers.no_register)
