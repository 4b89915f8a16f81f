-- Bytes, elements in memory, and a register's lanes.
--
--   value_at, little_endian    "Bytes are little-endian"
--   spot, fetch, stored      an element's place and value; memory after elements were written
--   contents, packed         a register's lanes as numbers, and lanes as its bytes
use Rattle.std.specs.Prelude.{ℕ, zero, suc, ◌+◌, ◌*◌, ◌/◌, ◌%◌, List, [], ◌∷◌, ◌++◌, length, take, replicate, slice_index}
use Rattle.std.proofs.lemmas.List.Edits.{sets}
use Rattle.engine.specs.Loops.{natural}
use Rattle.engine.specs.Addresses.{address}
use Rattle.engine.specs.declared.stream.Pattern.{Pattern}
use Rattle.engine.specs.declared.register.Register.{Register}

-- the number whose `width` bytes lie from k on, lowest first
unfoldable pub value_at : List ℕ → ℕ → ℕ → ℕ
value_at bytes k zero = 0
value_at bytes k (suc width) = slice_index bytes k + 256 * value_at bytes (suc k) width

-- the `width` lowest bytes of x, lowest first
unfoldable pub little_endian : ℕ → ℕ → List ℕ
little_endian zero x = []
little_endian (suc width) x = x % 256 ∷ little_endian width (x / 256)

-- where an element inside memory lies
abbrev pub spot : Pattern → ℕ → List ℕ → ℕ
spot p width v = natural (address p width v)

-- an element's value
abbrev pub fetch : Pattern → ℕ → List ℕ → List ℕ → ℕ
fetch p width memory v = value_at memory (spot p width v) width

-- "writes them in lane order": memory after lanes were written to elements, one after the other
unfoldable pub stored : Pattern → ℕ → List ℕ → List (List ℕ) → List ℕ → List ℕ
stored p width memory [] xs = memory
stored p width memory (v ∷ vs) [] = memory
stored p width memory (v ∷ vs) (x ∷ xs) = stored p width (sets memory (spot p width v) (little_endian width x)) vs xs

-- n lanes of `width` bytes, from byte k on
unfoldable pub lanes_from : List ℕ → ℕ → ℕ → ℕ → List ℕ
lanes_from bytes width k zero = []
lanes_from bytes width k (suc n) = value_at bytes k width ∷ lanes_from bytes width (k + width) n

-- a register's valid lanes
abbrev pub contents : Register → List ℕ
contents r = lanes_from r.lanes r.width 0 r.valid

-- the bytes of lanes, one after the other
unfoldable pub joined : ℕ → List ℕ → List ℕ
joined width [] = []
joined width (x ∷ xs) = little_endian width x ++ joined width xs

-- "valid lanes in front, zeros behind", in the register's 64 bytes
abbrev pub packed : ℕ → List ℕ → List ℕ
packed width xs = take 64 (joined width xs ++ replicate 64 0)

-- a register with these lanes as its content; all else as it was
unfoldable pub holding : ℕ → List ℕ → Register → Register
holding width xs r = record {
  state = r.state;
  width = width;
  valid = length xs;
  lanes = packed width xs;
  kind = r.kind;
  pattern = r.pattern;
  moved = r.moved;
  index = r.index;
  height = r.height;
}
