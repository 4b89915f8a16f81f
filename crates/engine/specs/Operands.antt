-- A calculation's registers as its code takes them: looked at, read, written.
--
--   Operand, front_of, Operates     a register as an operand
--   operand_from, Taken             the same as the code keeps it
--   outside_at, outside_of           14 at addresses; of an operand
--   lanes_of                        the lanes that an operand gives
--   results_on, why_on, Calculated   a calculation on three registers and a memory
--   lanes_out, CarriedOut           the calculation carried out on operands
use Rattle.std.specs.Prelude.{◌≡◌, ℕ, ◌*◌, ◌≤◌, Bool, true, cond, not, ◌&&◌, List, length, ℤ, Ok}
use Rattle.codec.specs.declared.operation.Task.{Task}
use Rattle.codec.specs.declared.refusal.Role.{Role}
use Rattle.codec.specs.declared.refusal.Refusal.TheVariants.{Outside}
use Rattle.engine.specs.Chunks.{held_in, chunk}
use Rattle.engine.specs.Lanes.{outcome}
use Rattle.engine.specs.Memory.{contents, holding}
use Rattle.engine.specs.Checks.{Check, ◌if◌, first_of, Why}
use Rattle.engine.specs.Configure.{unless_because}
use Rattle.engine.specs.Calculate.{given, checks_on, read_from, written_to, memory_after}
use Rattle.engine.specs.Registers.{is_open, shape_of, moved_by}
use Rattle.engine.specs.Stretches.{addresses_of, all_within, lane_without, fetched_at, stored_at}
use Rattle.engine.specs.Runnings.{view_of, Remembers, listed_in, afterwards}
use Rattle.engine.specs.declared.register.Register.{Register}
use Rattle.engine.specs.declared.stream.Pattern.{Pattern}
use Rattle.engine.specs.declared.running.Running.{Running}
use Rattle.engine.specs.declared.ahead.Ahead.{Ahead}
use Rattle.engine.specs.declared.part.Part.{Part}

-- a register as an operand: whether its stream is open, how many lanes, their addresses if it is, and the register after it
pub record Operand : Type 0 where
  pub live : Bool
  pub count : ℕ
  pub addresses : List ℤ
  pub after : Register

-- at most so many elements of the next chunk of an open stream
abbrev pub front_of : Register → ℕ → List (List ℕ)
front_of r most = held_in (shape_of r) (chunk (shape_of r) most r.moved)

-- a register as an operand: of an open stream at most so many elements of its next chunk, of any other register so many lanes
pub record Operates (r : Register) (most plain : ℕ) (o : Operand) : Type 0 where
  pub told : o.live ≡ is_open r.state
  pub counted : o.count ≡ cond (is_open r.state) (length (front_of r most)) plain
  pub addressed : is_open r.state ≡ true → o.addresses ≡ addresses_of r.pattern r.width (front_of r most)
  pub after : o.after ≡ cond (is_open r.state) (moved_by o.count r) r

-- an operand as the code keeps it: with the pattern, the lanes, the row of indices after it and the array of parts
abbrev pub operand_from : Pattern → List ℕ → List ℕ → List Part → Running → Ahead → Operand
operand_from p lanes row xs q o = record { live = o.live; count = o.count; addresses = listed_in o xs; after = view_of p lanes row (afterwards o q) }

-- a running register taken as an operand
pub record Taken (p : Pattern) (before : List ℕ) (q : Running) (most plain : ℕ) (row : List ℕ) (xs : List Part) (o : Ahead) : Type 0 where
  pub operates : (lanes : List ℕ) → Operates (view_of p lanes before q) most plain (operand_from p lanes row xs q o)
  pub parts : o.parts ≤ 64
  pub remembers : Remembers p row (afterwards o q)
  pub long : length xs ≡ 64

-- 14 of an operand whose stream is open or not, at the addresses of the elements that it would move
abbrev pub outside_at : Role → ℕ → ℕ → Bool → List ℤ → Check
outside_at role len width live l = Outside (lane_without len width l) role if (live && not (all_within len width l))

-- 14 of an operand as the code keeps it
abbrev pub outside_of : Role → ℕ → ℕ → Ahead → List Part → Check
outside_of role len width o xs = outside_at role len width o.live (listed_in o xs)

-- the lanes that an operand gives: those in memory at its addresses, or the register's own
abbrev pub lanes_of : Register → Operand → List ℕ → List ℕ
lanes_of r o memory = cond o.live (fetched_at memory r.width o.addresses) (contents r)

-- the lanes of a calculation on two sources
abbrev pub results_on : ℕ → Task → List ℕ → Register → Register → List ℕ
results_on vl t memory a b = outcome t (8 * a.width) (given vl memory a) (given vl memory b)

-- why a calculation on these registers is refused
abbrev pub why_on : Task → ℕ → List ℕ → Register → Register → Register → Why
why_on t vl memory a b d = first_of (checks_on t vl (length memory) (length (given vl memory a)) (length (given vl memory b)) a b d)

-- why it is refused, if it is, and the memory after it; if it is not refused, the first source, the second and the destination after it
pub record Calculated (vl : ℕ) (t : Task) (memory : List ℕ) (a b d : Register) (why : Why) (first second destination : Register) (after : List ℕ) : Type 0 where
  pub refused : why ≡ why_on t vl memory a b d
  pub read : why ≡ Ok tt → first ≡ read_from vl memory a
  pub other : why ≡ Ok tt → second ≡ read_from vl memory b
  pub written : why ≡ Ok tt → destination ≡ written_to a.width (results_on vl t memory a b) d
  pub stored : after ≡ unless_because (why_on t vl memory a b d) (memory_after vl (results_on vl t memory a b) memory d) memory

-- the lanes of the result, over operands
abbrev pub lanes_out : Task → List ℕ → Register → Register → Operand → Operand → List ℕ
lanes_out t memory a b x y = outcome t (8 * a.width) (lanes_of a x memory) (lanes_of b y memory)

-- a calculation carried out, over operands
pub record CarriedOut (t : Task) (memory : List ℕ) (a b d : Register) (x y z : Operand) (why : Why) (first second destination : Register) (after : List ℕ) : Type 0 where
  pub done : why ≡ Ok tt
  pub read : first ≡ cond x.live (holding a.width (lanes_of a x memory) x.after) a
  pub other : second ≡ cond y.live (holding b.width (lanes_of b y memory) y.after) b
  pub written : destination ≡ cond z.live z.after (holding a.width (lanes_out t memory a b x y) d)
  pub stored : after ≡ cond z.live (stored_at memory d.width z.addresses (lanes_out t memory a b x y)) memory
