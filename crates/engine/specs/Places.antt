-- Where a walk stands, with what the step to the next element of its row needs.
--
--   Place                     a stop's index and address, the innermost size of its pass, and the innermost stride in bytes
--   place_at, in_row, along_of   the place of an element; one in a row; one element further along it
--   Onward                    what the step from a position says
--   ends_at                   where a chunk ends
--   Ready                     a stream with a next chunk
use Rattle.std.specs.Prelude.{◌≡◌, ℕ, ◌+◌, ◌<◌, ◌≤◌, Bool, true, cond, not, ◌||◌, List, [], length, take, drop, ◌+ℤ◌, nat_lt, slice_index, slice_index_or, slice_set, Option, Some, None}
use Rattle.codec.specs.declared.amounts.Bytes.{Bytes}
use Rattle.engine.specs.Loops.{size_at}
use Rattle.engine.specs.Chunks.{stops, is_element, height}
use Rattle.engine.specs.Addresses.{stride_at, in_bytes, address}
use Rattle.engine.specs.Registers.{index_of, shape_of}
use Rattle.engine.specs.Good.{RangedPattern, Accepted}
use Rattle.engine.specs.declared.register.Register.{Register}
use Rattle.engine.specs.declared.stream.Pattern.{Pattern}

-- a stop's index and address, the innermost size of its pass, 0 if it is no element, and the innermost stride in bytes
pub record Place : Type 0 where
  pub index : List ℕ
  pub address : Bytes
  pub size : ℕ
  pub step : Bytes

-- the place at seven indices: the address there, the innermost size in this pass, 0 if no element stands there, and the innermost stride in
-- bytes
abbrev pub place_at : Pattern → ℕ → List ℕ → Place
place_at p width v = record {
  index = v;
  address = record { 0 = address p width v };
  size = cond (is_element (size_at p.shape) 0 (take p.shape.dims v)) (size_at p.shape 0 (drop 1 v)) 0;
  step = record { 0 = in_bytes (stride_at p 0 (drop 1 v)) 1 width };
}

-- the walk at position k: whether there is a stop, its place, and the height of the flags
pub record Onward (p : Pattern) (width k : ℕ) (found : Bool) (place : Place) (h : ℕ) : Type 0 where
  pub told : found ≡ nat_lt k (length (stops p.shape))
  pub here : found ≡ true → place ≡ place_at p width (index_of (slice_index_or (stops p.shape) k []))
  pub high : h ≡ height p.shape k

-- the place with innermost index i in a row's indices
abbrev pub in_row : List ℕ → ℕ → Bytes → ℕ → Bytes → Place
in_row index i address size step = record { index = slice_set index 0 i; address = address; size = size; step = step }

-- one element further along a row
abbrev pub along_of : Place → Place
along_of here = record {
  index = slice_set here.index 0 (slice_index here.index 0 + 1);
  address = record { 0 = here.address.0 +ℤ here.step.0 };
  size = here.size;
  step = here.step;
}

-- whether a chunk ends where the walk goes on: there is no next stop, or it lies in another pass of the coupled dimension
abbrev pub ends_at : Option ℕ → Bool → ℕ → Bool
ends_at None found h = not found
ends_at (Some c) found h = not found || nat_lt c h

-- an ended stream with stops to come, whose register says where it stands
pub record Ready (r : Register) : Type 0 where
  pub pattern : RangedPattern r.pattern
  pub width : r.width ≤ 8
  pub accepted : Accepted (shape_of r)
  pub some : r.moved < length (stops (shape_of r))
  pub index : r.index ≡ index_of (slice_index_or (stops (shape_of r)) r.moved [])
  pub height : r.height ≡ height (shape_of r) r.moved
