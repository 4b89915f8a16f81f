-- A register while a sheet runs, as the code keeps it: what changes with every chunk, and beside it the lanes, the indices of its
-- element as a row of seven and the descriptors.
--
--   place_of, spotted              where it stands in its row; a spot with its indices
--   view_of, bare                  the register that it stands for
--   filled_with                    with another content
--   Remembers                     what it remembers of the next stop is so
--   gone_by, behind, afterwards    behind a chunk
--   listed_in                      the addresses of a chunk
--   row_ahead                       a chunk of the present row
--   Near, Looks                   a chunk looked at
use Rattle.std.specs.Prelude.{◌≡◌, ℕ, ◌+◌, ◌^◌, ◌≤◌, true, cond, List, [], length, take, ℤ, pos, ◌+ℤ◌, ◌*ℤ◌, ◌==◌, slice_set, unsigned_abs}
use Rattle.codec.specs.declared.amounts.Bytes.{Bytes}
use Rattle.engine.specs.Chunks.{held_in, chunk}
use Rattle.engine.specs.Registers.{is_open, no_pattern, moved_by}
use Rattle.engine.specs.Places.{Place, place_at, in_row}
use Rattle.engine.specs.Stretches.{joined_in, addresses_of}
use Rattle.engine.specs.declared.stream.Pattern.{Pattern}
use Rattle.engine.specs.declared.place.Spot.{Spot}
use Rattle.engine.specs.declared.register.State.TheVariants.{Open, Finished}
use Rattle.engine.specs.declared.register.Register.{Register}
use Rattle.engine.specs.declared.running.Running.{Running}
use Rattle.engine.specs.declared.ahead.Ahead.{Ahead}
use Rattle.engine.specs.declared.part.Part.{Part}

-- the place in its row at which a running register stands
abbrev pub place_of : List ℕ → Running → Place
place_of row q = in_row row q.index q.address q.size q.step

-- a spot with its indices
abbrev pub spotted : List ℕ → Spot → Place
spotted row s = record { index = row; address = s.address; size = s.size; step = s.step }

-- the register that a running one stands for
abbrev pub view_of : Pattern → List ℕ → List ℕ → Running → Register
view_of p lanes row q = record {
  state = q.state;
  width = q.width;
  valid = q.valid;
  lanes = lanes;
  kind = q.kind;
  pattern = p;
  moved = q.moved;
  index = slice_set row 0 q.index;
  height = q.height;
}

-- the register without lanes, indices and descriptors: enough for its state, its kind and its width
abbrev pub bare : Running → Register
bare q = view_of no_pattern [] [] q

-- with a content of so many lanes of a width
abbrev pub filled_with : ℕ → ℕ → Running → Running
filled_with width n q = record {
  state = q.state;
  kind = q.kind;
  width = width;
  valid = n;
  moved = q.moved;
  height = q.height;
  index = q.index;
  address = q.address;
  size = q.size;
  step = q.step;
}

-- what an open one remembers of its next stop is so
abbrev pub Remembers : Pattern → List ℕ → Running → Type 0
Remembers p row q = is_open q.state ≡ true → place_of row q ≡ place_at p q.width (slice_set row 0 q.index)

-- how many stops n lanes go past: as many; a coupled pass that holds no element, where the size is 0, is one
abbrev pub gone_by : Running → ℕ → ℕ
gone_by q n = cond (q.size == 0) 1 n

-- behind a chunk that was looked at: open where the next stop was found, or finished
abbrev pub behind : Ahead → Running → Running
behind o q = record {
  state = cond o.found Open Finished;
  kind = q.kind;
  width = q.width;
  valid = q.valid;
  moved = q.moved + gone_by q o.count;
  height = o.height;
  index = o.index;
  address = o.address;
  size = o.size;
  step = o.step;
}

-- after it was taken as an operand: behind the chunk, if there is a stream
abbrev pub afterwards : Ahead → Running → Running
afterwards o q = cond o.live (behind o q) q

-- the addresses of a chunk that was looked at: those of the first parts of an array
abbrev pub listed_in : Ahead → List Part → List ℤ
listed_in o rows = joined_in (take o.parts rows)

-- the next n elements of the present row, as a chunk, where they do not end the row
abbrev pub row_ahead : ℕ → Running → Ahead
row_ahead n q = record {
  live = true;
  found = true;
  count = n;
  parts = 1;
  height = 1;
  index = q.index + n;
  address = record { 0 = q.address.0 +ℤ (q.step.0 *ℤ pos n) };
  size = q.size;
  step = q.step;
}

-- an address and a step far from overflowing
abbrev pub Near : Bytes → Bytes → Type 0
Near a step = (unsigned_abs a.0 ≤ 2 ^ 55) × (unsigned_abs step.0 ≤ 2 ^ 51)

-- at most so many elements of a chunk looked at: how many, their addresses, and the register and the row of indices after it
pub record Looks (p : Pattern) (before : List ℕ) (q : Running) (most count : ℕ) (addresses : List ℤ) (row : List ℕ) (after : Running) : Type 0 where
  pub counted : count ≡ length (held_in p.shape (chunk p.shape most q.moved))
  pub addressed : addresses ≡ addresses_of p q.width (held_in p.shape (chunk p.shape most q.moved))
  pub moved : (lanes : List ℕ) → view_of p lanes row after ≡ moved_by count (view_of p lanes before q)
  pub remembers : Remembers p row after
