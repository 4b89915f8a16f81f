-- The sums of a stream, and what a history (Histories) reads of it. For RowSums.
--
--   stream_width, all_of, values_of    a stream's width; its elements; the values of some of them
--   sum_of, partial_sums, total       the sum of lanes; of each chunk; these added up
--   entry_at, calculation_of, DidIn, destination_of   an entry of a history, and what is said of it
--   chunk_read, chunks_read, between  what a stream gave in an entry; in each; between two moments
--   Steady                          each value is still there when it is read
--   Clear, StoresApart              the body stores nothing that the stream reads
--   Row                             the stops of one row of a stream, or of several
use Rattle.std.specs.Prelude.{◌≡◌, ℕ, ◌+◌, ◌*◌, ◌<◌, ◌≤◌, ◌⊎◌, List, [], ◌∷◌, ◌++◌, map, length, get_or, take, drop, slice_index_or}
use mathlib.Core.List.{foldl}
use Rattle.codec.specs.Headers.{bytes_of}
use Rattle.codec.specs.declared.header.Kind.TheVariants.{Store}
use Rattle.codec.specs.declared.operation.Action.TheVariants.{Add}
use Rattle.codec.specs.declared.operation.Fold.TheVariants.{Sum}
use Rattle.codec.specs.declared.operation.Calculation.{Calculation}
use Rattle.codec.specs.declared.operation.Operation.{Operation}
use Rattle.engine.specs.Loops.{elements}
use Rattle.engine.specs.Chunks.{stops, held_in}
use Rattle.engine.specs.Memory.{spot, fetch}
use Rattle.engine.specs.Lanes.{lane, folded}
use Rattle.engine.specs.Registers.{shape_of, reg}
use Rattle.engine.specs.Calculate.{World}
use Rattle.engine.specs.Histories.{PassEnds, Did, Entry, world_at, no_placed}
use Rattle.engine.specs.Given.{Stream, elements_in, pattern_of, ended, given_for}
use Rattle.engine.specs.declared.stream.Shape.{Shape}
use Rattle.engine.specs.declared.register.Register.{Register}
use Rattle.engine.specs.declared.run.Placed.{Placed}

-- ---- a stream

-- the bytes of an element
abbrev pub stream_width : Stream → ℕ
stream_width t = bytes_of t.header.width

-- all elements of its loops, in order, each once
abbrev pub all_of : Stream → List (List ℕ)
all_of t = elements (pattern_of t).shape

-- the values that memory holds at some of them
abbrev pub values_of : Stream → List ℕ → List (List ℕ) → List ℕ
values_of t memory vs = map (fetch (pattern_of t) (stream_width t) memory) vs

-- 02, 2/14: "sum modulo the width", of lanes of it
abbrev pub sum_of : Stream → List ℕ → ℕ
sum_of t xs = folded Sum (8 * stream_width t) xs

-- "the partial sums": of each of its chunks
abbrev pub partial_sums : Stream → List (List ℕ) → List ℕ
partial_sums t xss = map (sum_of t) xss

-- these, added up from 0 on by the engine's own add: what a kernel that keeps a total ends with
abbrev pub total : Stream → List (List ℕ) → ℕ
total t xss = foldl (lane Add (8 * stream_width t)) 0 (partial_sums t xss)

-- ---- a history

-- what `get_or` gives past the end of a history; no entry is such
abbrev pub no_entry : Entry
no_entry = record { calculation = no_placed; taken = λ i. []; after = record { machine = record { registers = [] }; memory = [] } }

-- entry k of a history, which begins in the world after k entries
abbrev pub entry_at : List Entry → ℕ → Entry
entry_at es k = slice_index_or es k no_entry

-- its calculation
abbrev pub calculation_of : Entry → Calculation
calculation_of e = e.calculation.calculation

-- an entry from w, as a completed calculation
abbrev pub DidIn : ℕ → World → Entry → Type 0
DidIn vl w e = Did vl (calculation_of e) w e.after e.taken

-- the register that it names as destination, in a world
abbrev pub destination_of : World → Entry → Register
destination_of w e = reg w.machine (calculation_of e).destination

-- what register i's stream gives in an entry from w: its chunk, with the values that memory holds then; no lanes in an entry that does not
-- read it, nor at a coupled pass that holds no element. Of a store it is what stood where the entry writes
abbrev pub chunk_read : World → Entry → ℕ → List ℕ
chunk_read w e i =
    map (fetch (reg w.machine i).pattern (reg w.machine i).width w.memory) (held_in (shape_of (reg w.machine i)) (e.taken i))

-- in each entry of a history from w
unfoldable pub chunks_read : World → List Entry → ℕ → List (List ℕ)
chunks_read w [] i = []
chunks_read w (e ∷ es) i = chunk_read w e i ∷ chunks_read e.after es i

-- of what stands entry by entry: from moment j to moment k
abbrev pub between : {A : Type 0} → ℕ → ℕ → List A → List A
between j k xs = drop j (take k xs)

-- ---- steady

-- in each entry memory holds, at the elements that the stream t moves in it, what it held at the start
abbrev pub Steady : Stream → World → List Entry → ℕ → Type 0
Steady t w es i =
    (k : ℕ) → k < length es
    → values_of t (world_at w es k).memory (elements_in t ((entry_at es k).taken i)) ≡ values_of t w.memory (elements_in t ((entry_at es k).taken i))

-- where an element of a stream lies
abbrev pub spot_of : Stream → ℕ → ℕ
spot_of t n = spot (pattern_of t) (stream_width t) (slice_index_or (all_of t) n [])

-- no element of t has a byte in common with one of u: one of the two ends before the other begins
abbrev pub Clear : Stream → Stream → Type 0
Clear t u = (a b : ℕ) → a < length (all_of t) → b < length (all_of u)
    → (spot_of t a + stream_width t ≤ spot_of u b) ⊎ (spot_of u b + stream_width u ≤ spot_of t a)

-- whatever store stream was given for a destination of the body, it is clear of t
abbrev pub StoresApart : Stream → List Operation → List Placed → Type 0
StoresApart t os cs = (k : ℕ) → k < length cs → (u : Stream) → given_for (get_or cs k no_placed).calculation.destination os ≡ ended u
    → u.header.kind ≡ Store → Clear t u

-- ---- rows

-- stops of a stream one after the other, from where it begins, or a pass of the coupled dimension, to where one ends: one row or several. A
-- coupled pass that holds no element is a row too, of one stop
pub record Row (s : Shape) (before row behind : List (List ℕ)) : Type 0 where
  pub all : before ++ (row ++ behind) ≡ stops s
  pub begins : (before ≡ []) ⊎ PassEnds s (length before)
  pub ends : (behind ≡ []) ⊎ PassEnds s (length (before ++ row))
