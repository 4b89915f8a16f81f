-- One calculation: its checks, in order, and its effect.
--
--   World                    the machine and the memory
--   given, results           the lanes of a source; those of the calculation
--   all_inside, lane_outside, outside   elements inside memory; the first lane outside
--   source_checks, destination_checks, inside_check, checks_on, on_named, refusal_of   why a calculation is refused
--   read_from, written_to, effect   what one that is not refused does
use Rattle.std.specs.Prelude.{ℕ, suc, ◌*◌, Bool, true, cond, not, ◌&&◌, ◌||◌, List, [], ◌∷◌, ◌++◌, map, length, take, ◌==◌, nat_lt}
use Rattle.codec.specs.declared.operation.Task.{Task}
use Rattle.codec.specs.declared.operation.Calculation.{Calculation}
use Rattle.codec.specs.declared.refusal.Role.{Role}
use Rattle.codec.specs.declared.refusal.Role.TheVariants as role
use Rattle.codec.specs.declared.refusal.Refusal.TheVariants.{WrongState, StreamEnded, WrongKind, Widths, LaneCounts, NoLanes, Outside}
use Rattle.engine.specs.Addresses.{address, inside}
use Rattle.engine.specs.Memory.{fetch, stored, contents, holding}
use Rattle.engine.specs.Lanes.{outcome, outcome_count, wants_lanes}
use Rattle.engine.specs.Checks.{Check, ◌if◌, first_of, Why}
use Rattle.engine.specs.Registers.{is_configuring, is_open, is_finished, open_load, open_store, next_chunk, moved_by, reg, put}
use Rattle.engine.specs.declared.stream.Pattern.{Pattern}
use Rattle.engine.specs.declared.register.Register.{Register}
use Rattle.engine.specs.declared.register.Machine.{Machine}

-- what a calculation may change: the 32 registers with their streams, and the memory
pub record World : Type 0 where
  pub machine : Machine
  pub memory : List ℕ

-- "An open load stream named as source gives its next chunk", "A plain register gives its valid lanes"
unfoldable pub given : ℕ → List ℕ → Register → List ℕ
given vl memory r = cond (is_open r.state) (map (fetch r.pattern r.width memory) (next_chunk vl r)) (contents r)

-- the calculation's lanes, from those of its sources
unfoldable pub results : ℕ → Calculation → World → List ℕ
results vl c w =
    outcome c.task (8 * (reg w.machine c.first).width)
    (given vl w.memory (reg w.machine c.first))
    (given vl w.memory (reg w.machine c.second))

-- every element lies inside memory
unfoldable pub all_inside : Pattern → ℕ → ℕ → List (List ℕ) → Bool
all_inside p width length [] = true
all_inside p width length (v ∷ vs) = inside length width (address p width v) && all_inside p width length vs

-- 02, 1/14: "which lane, counted from 0, is the first outside": how many elements stand before it, all of them inside
unfoldable pub lane_outside : Pattern → ℕ → ℕ → List (List ℕ) → ℕ
lane_outside p width length [] = 0
lane_outside p width length (v ∷ vs) = cond (inside length width (address p width v)) (suc (lane_outside p width length vs)) 0

-- an element that an open stream would move lies outside memory
abbrev pub outside : ℕ → Register → List (List ℕ) → Bool
outside length r vs = is_open r.state && not (all_inside r.pattern r.width length vs)

-- a source: 5, 11, 10
abbrev pub source_checks : Register → List Check
source_checks r = WrongState if is_configuring r.state ∷ StreamEnded if is_finished r.state ∷ WrongKind if open_store r ∷ []

-- a destination: 5, 11, 10
abbrev pub destination_checks : Register → List Check
destination_checks r = WrongState if is_configuring r.state ∷ StreamEnded if is_finished r.state ∷ WrongKind if open_load r ∷ []

-- an operand, 14: 02, 1/14: "which lane .. is the first outside, and whether the first source, second source or destination was at fault"
abbrev pub inside_check : Role → ℕ → Register → List (List ℕ) → Check
inside_check role len r vs = Outside (lane_outside r.pattern r.width len vs) role if outside len r vs

-- "a calculation looks at first source, second source, destination in turn (5, 11, 10), then 12, 13, and 14 in that turn"; 02, 2/14: "18, no
-- lanes for smallest, largest or first largest, after 13 and before 14": of what it does, on first source a, second source b, destination d,
-- with n lanes of a and m of b
abbrev pub checks_on : Task → ℕ → ℕ → ℕ → ℕ → Register → Register → Register → List Check
checks_on t vl len n m a b d =
    source_checks a
    ++ source_checks b
    ++ destination_checks d
    ++ Widths if (not (a.width == b.width) || open_store d && not (a.width == d.width))
    ∷ LaneCounts if (not (n == m) || open_store d && nat_lt (length (next_chunk vl d)) (outcome_count t n))
    ∷ NoLanes if (wants_lanes t && n == 0)
    ∷ inside_check role.First len a (next_chunk vl a)
    ∷ inside_check role.Second len b (next_chunk vl b)
    ∷ inside_check role.Destination len d (take (outcome_count t n) (next_chunk vl d))
    ∷ []

-- of a calculation in a world: the memory's length, how many lanes its sources have, and the registers that it names
abbrev pub on_named : {A : Type 0} → (ℕ → ℕ → ℕ → ℕ → Register → Register → Register → A) → ℕ → Calculation → World → A
on_named f vl c w =
    f vl (length w.memory)
    (length (given vl w.memory (reg w.machine c.first)))
    (length (given vl w.memory (reg w.machine c.second)))
    (reg w.machine c.first)
    (reg w.machine c.second)
    (reg w.machine c.destination)

-- why a calculation is refused, if it is: the first of its checks that applies
unfoldable pub refusal_of : ℕ → Calculation → World → Why
refusal_of vl c w = first_of (on_named (checks_on c.task) vl c w)

-- a source after it: an open stream moved on by its chunk, which is now the register's content
unfoldable pub read_from : ℕ → List ℕ → Register → Register
read_from vl memory r = cond (is_open r.state) (moved_by (length (next_chunk vl r)) (holding r.width (given vl memory r) r)) r

-- a destination after it: "A plain destination takes the lanes and width, zeros behind. A store stream .. moves on by n"; 02, 3/14: "at an
-- empty pass moves past it when 0 lanes are written"
unfoldable pub written_to : ℕ → List ℕ → Register → Register
written_to width xs r = cond (is_open r.state) (moved_by (length xs) r) (holding width xs r)

-- memory after it: a store stream's next elements hold the lanes
unfoldable pub memory_after : ℕ → List ℕ → List ℕ → Register → List ℕ
memory_after vl xs memory r = cond (is_open r.state) (stored r.pattern r.width memory (next_chunk vl r) xs) memory

-- what a calculation that is not refused does; "named twice, it is read once"
unfoldable pub effect : ℕ → Calculation → World → World
effect vl c w = record {
  machine =
      put
      (put
      (put w.machine c.first (read_from vl w.memory (reg w.machine c.first)))
      c.second (read_from vl w.memory (reg w.machine c.second)))
      c.destination (written_to (reg w.machine c.first).width (results vl c w) (reg w.machine c.destination));
  memory = memory_after vl (results vl c w) w.memory (reg w.machine c.destination);
}
