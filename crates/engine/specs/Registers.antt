-- Registers and their streams.
--
--   is_configuring, is_open, is_finished, is_load   a register's state and its stream's kind
--   no_pattern, fresh, no_register                a fresh register
--   to_come, next_stops, next_chunk                the stops still to come; those of the next chunk, and its elements
--   index_of, state_after, stops_for, moved_by      a stream after some lanes more
--   fresh_machine, reg, put                      the 32 registers
use Rattle.std.specs.Prelude.{ℕ, ◌+◌, ◌/◌, Bool, true, false, cond, not, ◌&&◌, List, [], ◌++◌, length, take, drop, replicate, nat_le, slice_index_or, slice_set, None}
use Rattle.codec.specs.declared.header.Kind.{Kind}
use Rattle.codec.specs.declared.header.Kind.TheVariants.{Load, Store}
use Rattle.codec.specs.declared.operation.Parameter.TheVariants.{Size}
use Rattle.codec.specs.declared.operation.Behaviour.TheVariants.{Add}
use Rattle.engine.specs.Chunks.{stops, held_in, nothing_at, chunk, height}
use Rattle.engine.specs.Addresses.{no_bytes, no_elements}
use Rattle.engine.specs.declared.stream.Modifier.{Modifier}
use Rattle.engine.specs.declared.stream.Shape.{Shape}
use Rattle.engine.specs.declared.stream.Pattern.{Pattern}
use Rattle.engine.specs.declared.register.State.{State}
use Rattle.engine.specs.declared.register.State.TheVariants.{Plain, Configuring, Open, Finished}
use Rattle.engine.specs.declared.register.Register.{Register}
use Rattle.engine.specs.declared.register.Machine.{Machine}

-- "A register is plain, being configured, open or finished": whether it is being configured
abbrev pub is_configuring : State → Bool
is_configuring Plain = false
is_configuring Configuring = true
is_configuring Open = false
is_configuring Finished = false

-- whether a register is open
abbrev pub is_open : State → Bool
is_open Plain = false
is_open Configuring = false
is_open Open = true
is_open Finished = false

-- whether a register is finished
abbrev pub is_finished : State → Bool
is_finished Plain = false
is_finished Configuring = false
is_finished Open = false
is_finished Finished = true

-- whether a stream is a load
abbrev pub is_load : Kind → Bool
is_load Load = true
is_load Store = false

-- whether a register's stream is an open load
abbrev pub open_load : Register → Bool
open_load r = is_open r.state && is_load r.kind

-- whether a register's stream is an open store
abbrev pub open_store : Register → Bool
open_store r = is_open r.state && not (is_load r.kind)

-- what stands in the place of a modifier that was not given
abbrev pub no_modifier : Modifier
no_modifier = record { owner = 0; target = 0; parameter = Size; behaviour = Add; displacement = 0 }

-- a shape with no dimension and no modifier yet
abbrev pub no_shape : Shape
no_shape = record { dims = 0; sizes = replicate 7 0; mods = 0; modifiers = replicate 8 no_modifier; coupling = None }

-- a pattern with no descriptors yet
abbrev pub no_pattern : Pattern
no_pattern = record { shape = no_shape; base = no_bytes; offsets = replicate 7 no_bytes; strides = replicate 7 no_elements }

-- "A fresh one is plain, width 1, no valid lanes, all bytes zero"
abbrev pub fresh : Register
fresh = record {
  state = Plain;
  width = 1;
  valid = 0;
  lanes = replicate 64 0;
  kind = Load;
  pattern = no_pattern;
  moved = 0;
  index = replicate 7 0;
  height = 0;
}

-- what `get_or` gives past the 32 registers; no register is such
abbrev pub no_register : Register
no_register = record {
  state = Plain;
  width = 0;
  valid = 0;
  lanes = [];
  kind = Load;
  pattern = record { shape = record { dims = 0; sizes = []; mods = 0; modifiers = []; coupling = None }; base = no_bytes; offsets = []; strides = [] };
  moved = 0;
  index = [];
  height = 0;
}

-- a register's shape
abbrev pub shape_of : Register → Shape
shape_of r = r.pattern.shape

-- the stops still to come: those of an open stream that it has not gone past
unfoldable pub to_come : Register → List (List ℕ)
to_come r = cond (is_open r.state) (drop r.moved (stops (shape_of r))) []

-- the stops of an open stream's next chunk; lanes are "vector length / width"
unfoldable pub next_stops : ℕ → Register → List (List ℕ)
next_stops vl r = chunk (shape_of r) (vl / r.width) r.moved

-- the next chunk: the elements there, none at a coupled pass that holds none
unfoldable pub next_chunk : ℕ → Register → List (List ℕ)
next_chunk vl r = held_in (shape_of r) (next_stops vl r)

-- a stop as the register's seven indices, zeros behind
abbrev pub index_of : List ℕ → List ℕ
index_of v = take 7 (v ++ replicate 7 0)

-- "After its last element a stream is finished"; 02, 3/14: a coupled one "finishes after its last coupled pass": the state after n stops
abbrev pub state_after : Shape → ℕ → State
state_after s n = cond (nat_le (length (stops s)) n) Finished Open

-- the state, how many stops it has gone past, the next one's index and the height of the flags, set; all else as it was
abbrev pub standing : State → ℕ → List ℕ → ℕ → Register → Register
standing k n v h r = record {
  state = k;
  width = r.width;
  valid = r.valid;
  lanes = r.lanes;
  kind = r.kind;
  pattern = r.pattern;
  moved = n;
  index = v;
  height = h;
}

-- after n stops in all
abbrev pub moved_to : ℕ → Register → Register
moved_to n r = standing (state_after (shape_of r) n) n (index_of (slice_index_or (stops (shape_of r)) n [])) (height (shape_of r) n) r

-- how many stops n lanes go past: as many; at a coupled pass that holds no element that one, whatever n is
abbrev pub stops_for : Register → ℕ → ℕ
stops_for r n = cond (nothing_at (shape_of r) r.moved) 1 n

-- after n lanes more moved
unfoldable pub moved_by : ℕ → Register → Register
moved_by n r = moved_to (r.moved + stops_for r n) r

-- "A sheet starts with 32 fresh ones"
abbrev pub fresh_machine : Machine
fresh_machine = record { registers = replicate 32 fresh }

-- register i of a machine
abbrev pub reg : Machine → ℕ → Register
reg m i = slice_index_or m.registers i no_register

-- the machine with r as its register i
abbrev pub put : Machine → ℕ → Register → Machine
put m i r = record { registers = slice_set m.registers i r }
