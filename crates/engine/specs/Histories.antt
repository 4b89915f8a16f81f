-- The history of a run: each completed calculation, what it read and wrote, and the worlds between.
--
--   PassEnds, Chunk          where a coupled pass ends; a chunk of a stream
--   Gives, Becomes, Stores   the lanes of a source; each register, and memory, after a calculation
--   Did                      one completed calculation
--   Entry, Follow            a history: each calculation goes on where the one before it ended
--   world_at, moved_of         the world at a moment of it; the stops that a register went past in it
--   in_turn, Ran              the history of a run
use Rattle.std.specs.Prelude.{◌≡◌, ℕ, zero, suc, ◌+◌, ◌-◌, ◌*◌, ◌/◌, ◌%◌, ◌<◌, ◌≤◌, true, false, ◌⊎◌, List, [], ◌∷◌, ◌++◌, map, length, take, drop, slice_index_or, Ok, Some}
use Rattle.codec.specs.declared.operation.Action.TheVariants.{Copy}
use Rattle.codec.specs.declared.operation.Task.TheVariants.{Each}
use Rattle.codec.specs.declared.operation.Calculation.{Calculation}
use Rattle.codec.specs.declared.refusal.Refusal.{Refusal}
use Rattle.engine.specs.Chunks.{stops, held_in, nothing_at}
use Rattle.engine.specs.Memory.{fetch, stored, contents, holding}
use Rattle.engine.specs.Lanes.{outcome}
use Rattle.engine.specs.Registers.{shape_of, moved_to, reg}
use Rattle.engine.specs.Calculate.{World}
use Rattle.engine.specs.Run.{Progress, refusal_at}
use Rattle.engine.specs.Allowed.{Calculates}
use Rattle.engine.specs.Reasons.{CalculationRefused}
use Rattle.engine.specs.declared.stream.Shape.{Shape}
use Rattle.engine.specs.declared.register.State.TheVariants.{Plain, Open, Finished}
use Rattle.engine.specs.declared.register.Register.{Register}
use Rattle.engine.specs.declared.run.Placed.{Placed}

-- the stop at position n is not of the pass of the coupled dimension that the one before it is of
pub record PassEnds (s : Shape) (n : ℕ) : Type 0 where
  pub dimension : ℕ
  pub coupled : s.coupling ≡ Some dimension
  pub other : ¬ (drop dimension (slice_index_or (stops s) (n - 1) []) ≡ drop dimension (slice_index_or (stops s) n []))

-- "the next elements of the loop, as many as there are lanes, fewer at the end of the stream or, if coupled, at the end of the current
-- pass of that dimension": the stops of a chunk after n stops. Its lanes are the elements among them; at a coupled pass that holds none the
-- one stop is no element, and there are no lanes (02, 3/14)
pub record Chunk (s : Shape) (lanes n : ℕ) (vs : List (List ℕ)) : Type 0 where
  -- the next ones
  pub front : vs ≡ take (length vs) (drop n (stops s))
  -- one at least: at the first stop of a pass the chunk is not the empty end of the pass before it
  pub some : 1 ≤ length vs
  pub most : length vs ≤ lanes
  -- if coupled they are of one pass of dimension c (counted from 1): no index above it differs
  pub one-pass : (c : ℕ) → s.coupling ≡ Some c → (k : ℕ) → suc k < length vs → drop c (slice_index_or vs k []) ≡ drop c (slice_index_or vs (suc k) [])
  -- fewer only at the end of the stream, or of the pass
  pub full : length vs < lanes → (n + length vs ≡ length (stops s)) ⊎ PassEnds s (n + length vs)

-- ---- one calculation

-- the lanes of a source: "A plain register gives its valid lanes", "An open load stream .. its next chunk", with the values that memory
-- holds; vs are the stops that it goes past
pub data Gives (vl : ℕ) (memory : List ℕ) (r : Register) (vs : List (List ℕ)) (xs : List ℕ) : Type 0 where
  plain : r.state ≡ Plain → vs ≡ [] → xs ≡ contents r → Gives vl memory r vs xs
  load : r.state ≡ Open → Chunk (shape_of r) (vl / r.width) r.moved vs → xs ≡ map (fetch r.pattern r.width memory) (held_in (shape_of r) vs)
      → Gives vl memory r vs xs

-- register i after calculation c, which calculated the lanes `out`; vs are the stops that it went past
pub data Becomes (vl : ℕ) (c : Calculation) (w : World) (out : List ℕ) (i : ℕ) (vs : List (List ℕ)) (q : Register) : Type 0 where
  -- "A plain destination takes the lanes and width, zeros behind"
  plain : i ≡ c.destination → (reg w.machine i).state ≡ Plain → vs ≡ []
      → q ≡ holding (reg w.machine c.first).width out (reg w.machine i) → Becomes vl c w out i vs q
  -- "A store stream .. moves on by n"
  store : i ≡ c.destination → (reg w.machine i).state ≡ Open → nothing_at (shape_of (reg w.machine i)) (reg w.machine i).moved ≡ false
      → vs ≡ take (length out) (drop (reg w.machine i).moved (stops (shape_of (reg w.machine i))))
      → q ≡ moved_to ((reg w.machine i).moved + length out) (reg w.machine i) → Becomes vl c w out i vs q
  -- 02, 3/14: "A store stream at an empty pass moves past it when 0 lanes are written"
  past : i ≡ c.destination → (reg w.machine i).state ≡ Open → nothing_at (shape_of (reg w.machine i)) (reg w.machine i).moved ≡ true
      → out ≡ [] → vs ≡ take 1 (drop (reg w.machine i).moved (stops (shape_of (reg w.machine i))))
      → q ≡ moved_to ((reg w.machine i).moved + 1) (reg w.machine i) → Becomes vl c w out i vs q
  -- "The chunk becomes the register's content", zeros behind; the stream has moved on by it
  load : ¬ (i ≡ c.destination) → (i ≡ c.first) ⊎ (i ≡ c.second) → (reg w.machine i).state ≡ Open
      → Chunk (shape_of (reg w.machine i)) (vl / (reg w.machine i).width) (reg w.machine i).moved vs
      → q
      ≡ moved_to ((reg w.machine i).moved + length vs)
      (holding (reg w.machine i).width
      (map (fetch (reg w.machine i).pattern (reg w.machine i).width w.memory) (held_in (shape_of (reg w.machine i)) vs))
      (reg w.machine i))
      → Becomes vl c w out i vs q
  -- a plain source stays
  source : ¬ (i ≡ c.destination) → (i ≡ c.first) ⊎ (i ≡ c.second) → (reg w.machine i).state ≡ Plain → vs ≡ [] → q ≡ reg w.machine i
      → Becomes vl c w out i vs q
  -- so does every other register
  other : ¬ (i ≡ c.destination) → ¬ (i ≡ c.first) → ¬ (i ≡ c.second) → vs ≡ [] → q ≡ reg w.machine i → Becomes vl c w out i vs q

-- memory after it: as it was, or with the lanes stored one after the other at the store's next elements
pub data Stores (c : Calculation) (w : World) (out : List ℕ) (vs : List (List ℕ)) (memory : List ℕ) : Type 0 where
  nothing : (reg w.machine c.destination).state ≡ Plain → memory ≡ w.memory → Stores c w out vs memory
  lanes : (reg w.machine c.destination).state ≡ Open
      → memory
      ≡ stored (reg w.machine c.destination).pattern (reg w.machine c.destination).width w.memory
      (held_in (shape_of (reg w.machine c.destination)) vs) out
      → Stores c w out vs memory

-- one completed calculation, from w to v: nothing refuses it; `taken i` are the stops that register i goes past
pub record Did (vl : ℕ) (c : Calculation) (w v : World) (taken : ℕ → List (List ℕ)) : Type 0 where
  pub calculates : Calculates vl c w
  pub first : List ℕ
  pub second : List ℕ
  pub gives-first : Gives vl w.memory (reg w.machine c.first) (taken c.first) first
  pub gives-second : Gives vl w.memory (reg w.machine c.second) (taken c.second) second
  -- the operation, lane by lane, of both sources' lanes, or over all lanes of the first
  pub out : List ℕ
  pub calculated : out ≡ outcome c.task (8 * (reg w.machine c.first).width) first second
  pub registers : length v.machine.registers ≡ 32
  pub becomes : (i : ℕ) → i < 32 → Becomes vl c w out i (taken i) (reg v.machine i)
  pub stores : Stores c w out (taken c.destination) v.memory

-- ---- a history

-- a completed calculation, the stops that the registers went past in it, and the world after it
pub record Entry : Type 0 where
  pub calculation : Placed
  pub taken : ℕ → List (List ℕ)
  pub after : World

-- from w to v: each calculation begins in the world that the one before it left
unfoldable pub Follow : ℕ → World → List Entry → World → Type 0
Follow vl w [] v = w ≡ v
Follow vl w (e ∷ es) v = Did vl e.calculation.calculation w e.after e.taken × Follow vl e.after es v

-- the world after k of them
unfoldable pub world_at : World → List Entry → ℕ → World
world_at w es zero = w
world_at w [] (suc k) = w
world_at w (e ∷ es) (suc k) = world_at e.after es k

-- the stops that register i went past in them, joined in order
unfoldable pub moved_of : List Entry → ℕ → List (List ℕ)
moved_of [] i = []
moved_of (e ∷ es) i = e.taken i ++ moved_of es i

-- ---- a run

-- what `get_or` gives past the end of a body; no calculation of a run is such
abbrev pub no_placed : Placed
no_placed = record { place = 0; calculation = record { task = Each Copy; destination = 0; first = 0; second = 0 } }

-- calculation k of a body that is repeated
abbrev pub in_turn : List Placed → ℕ → Placed
in_turn body k = slice_index_or body (k % length body) no_placed

-- "Run repeats the body while the loop register's stream is open": r is the answer of a run from w
pub record Ran (vl loop : ℕ) (body : List Placed) (w : World) (r : Progress) : Type 0 where
  pub entries : List Entry
  pub follow : Follow vl w entries r.world
  pub turns : (k : ℕ) → k < length entries → slice_index_or (map (λ (e : Entry). e.calculation) entries) k no_placed ≡ in_turn body k
  -- both counts
  pub calculations : r.report.calculations ≡ length entries
  pub passes : r.report.passes ≡ length entries / length body
  -- each pass began with the loop register's stream open
  pub began : (k : ℕ) → k < length entries → k % length body ≡ 0 → (reg (world_at w entries k).machine loop).state ≡ Open
  -- done: after whole passes, once the stream is finished
  pub done : r.verdict ≡ Ok tt → (length entries % length body ≡ 0) × ((reg r.world.machine loop).state ≡ Finished)
  -- refused: the next calculation in turn is, for the first thing wanted of it that is lacking, at its place; a pass had begun
  pub refused : (x : Refusal) (at : ℕ) → r.verdict ≡ refusal_at x at
      → CalculationRefused vl (in_turn body (length entries)).calculation r.world x
      × (at ≡ (in_turn body (length entries)).place)
      × (length entries % length body ≡ 0 → (reg r.world.machine loop).state ≡ Open)
