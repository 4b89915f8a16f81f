-- What is allowed, in plain terms: numbers and ≤, no test of the engine's own.
--
--   Fits                              vector length and memory
--   lasts_outside, low_of, high_of       the rule on low and high, of one dimension
--   Opens, Extends, Modifies, Ends    when each configuring operation is accepted
--   Accepts                           any of them
--   Lies, AllLie, OpenLie             elements inside memory
--   Source, Destination, SomeLanes, Calculates   when a calculation is
use Rattle.std.specs.Prelude.{◌≡◌, ℕ, suc, ◌+◌, ◌%◌, ◌<◌, ◌≤◌, List, [], map, length, take, drop, ℤ, pos, ◌+ℤ◌, ◌≤ℤ◌, slice_index_or}
use Rattle.codec.specs.declared.header.Kind.TheVariants.{Load, Store}
use Rattle.codec.specs.declared.operation.Operation.{Operation}
use Rattle.codec.specs.declared.operation.Operation.TheVariants as op
use Rattle.codec.specs.declared.operation.Fold.TheVariants.{Sum, Smallest, Largest, FirstLargest}
use Rattle.codec.specs.declared.operation.Task.{Task}
use Rattle.codec.specs.declared.operation.Task.TheVariants.{Each, All}
use Rattle.codec.specs.declared.operation.Calculation.{Calculation}
use Rattle.engine.specs.Rules.{last_index, high_at, low_at, highs_of, product}
use Rattle.engine.specs.Addresses.{address}
use Rattle.engine.specs.Registers.{shape_of, next_chunk, reg}
use Rattle.engine.specs.Configure.{Covers}
use Rattle.engine.specs.Lanes.{outcome_count}
use Rattle.engine.specs.Calculate.{World, given}
use Rattle.engine.specs.declared.stream.Shape.{Shape}
use Rattle.engine.specs.declared.stream.Pattern.{Pattern}
use Rattle.engine.specs.declared.register.State.TheVariants.{Plain, Configuring, Open, Finished}
use Rattle.engine.specs.declared.register.Register.{Register}

-- "vector length | 8 to 64 bytes, a multiple of 8", "memory | 0 to 65,536 bytes"
pub record Fits (vl len : ℕ) : Type 0 where
  pub least : 8 ≤ vl
  pub most : vl ≤ 64
  pub eights : vl % 8 ≡ 0
  pub memory : len ≤ 65536

-- ---- configuring

-- "Open turns a plain or finished one to being configured"
pub data Opens (r : Register) : Type 0 where
  plain : r.state ≡ Plain → Opens r
  finished : r.state ≡ Finished → Opens r

-- a dimension, of a register being configured that has fewer than seven
pub record Extends (r : Register) : Type 0 where
  pub configuring : r.state ≡ Configuring
  pub room : (shape_of r).dims < 7

-- a modifier, of one that has fewer than eight and whose dimension added last comes after the target, dimension target + 1
pub record Modifies (target : ℕ) (r : Register) : Type 0 where
  pub configuring : r.state ≡ Configuring
  pub room : (shape_of r).mods < 8
  pub below : target + 1 < (shape_of r).dims

-- the last indices of the dimensions outside d, by their highs
abbrev pub lasts_outside : Shape → ℕ → List ℕ
lasts_outside s d = map last_index (drop (suc d) (highs_of s))

-- "low = size less the same over subtracting ones": of dimension d
abbrev pub low_of : Shape → ℕ → ℤ
low_of s d = low_at s d (lasts_outside s d)

-- "high = size plus, for each adding size modifier on it, displacement x ..": of dimension d
abbrev pub high_of : Shape → ℕ → ℕ
high_of s d = high_at s d (lasts_outside s d)

-- end, of one that has a dimension and the coupled one, no low below 0, no high above 4,096, and a product of at most 1,048,576
pub record Ends (r : Register) : Type 0 where
  pub configuring : r.state ≡ Configuring
  pub some : 1 ≤ (shape_of r).dims
  pub covers : Covers (shape_of r).dims (shape_of r).coupling
  pub low : (d : ℕ) → d < (shape_of r).dims → pos 0 ≤ℤ low_of (shape_of r) d
  pub high : (d : ℕ) → d < (shape_of r).dims → high_of (shape_of r) d ≤ 4096
  pub few : product (highs_of (shape_of r)) ≤ 1048576

-- an operation that configures, on its register; a run is none
abbrev pub Accepts : Operation → Register → Type 0
Accepts (op.Open h base) r = Opens r
Accepts (op.Dimension d) r = Extends r
Accepts (op.Modifier m) r = Modifies m.target r
Accepts (op.End i) r = Ends r
Accepts (op.Run i n) r = ⊥

-- ---- calculating

-- an element inside memory: "its address is 0 or more and address + width is at most the memory's length"
pub record Lies (len width : ℕ) (a : ℤ) : Type 0 where
  pub least : pos 0 ≤ℤ a
  pub most : (a +ℤ pos width) ≤ℤ pos len

-- the elements vs of a pattern lie inside a memory of len bytes
abbrev pub AllLie : ℕ → ℕ → Pattern → List (List ℕ) → Type 0
AllLie len width p vs = (k : ℕ) → k < length vs → Lies len width (address p width (slice_index_or vs k []))

-- the elements of an open stream that would move lie inside
abbrev pub OpenLie : ℕ → Register → List (List ℕ) → Type 0
OpenLie len r vs = r.state ≡ Open → AllLie len r.width r.pattern vs

-- a source is plain or an open load
pub data Source (r : Register) : Type 0 where
  plain : r.state ≡ Plain → Source r
  load : r.state ≡ Open → r.kind ≡ Load → Source r

-- a destination is plain or an open store
pub data Destination (r : Register) : Type 0 where
  plain : r.state ≡ Plain → Destination r
  store : r.state ≡ Open → r.kind ≡ Store → Destination r

-- 02, 2/14: the smallest, the largest and the first largest are of one lane at least; a sum, or an operation lane by lane, of any number
abbrev pub SomeLanes : Task → ℕ → Type 0
SomeLanes (Each action) n = Unit {0}
SomeLanes (All Sum) n = Unit {0}
SomeLanes (All Smallest) n = 1 ≤ n
SomeLanes (All Largest) n = 1 ≤ n
SomeLanes (All FirstLargest) n = 1 ≤ n

-- when a calculation is accepted: of what it does, on first source a, second source b, destination d, with n lanes of a and m of b
pub record CalculatesOn (t : Task) (vl len n m : ℕ) (a b d : Register) : Type 0 where
  pub first : Source a
  pub second : Source b
  pub destination : Destination d
  pub widths : a.width ≡ b.width
  pub width : d.state ≡ Open → a.width ≡ d.width
  pub lanes : n ≡ m
  pub room : d.state ≡ Open → outcome_count t n ≤ length (next_chunk vl d)
  pub some : SomeLanes t n
  pub first-inside : OpenLie len a (next_chunk vl a)
  pub second-inside : OpenLie len b (next_chunk vl b)
  pub destination-inside : OpenLie len d (take (outcome_count t n) (next_chunk vl d))

-- when a calculation is accepted in a world: on the registers that it names
abbrev pub Calculates : ℕ → Calculation → World → Type 0
Calculates vl c w =
    CalculatesOn c.task vl (length w.memory)
    (length (given vl w.memory (reg w.machine c.first)))
    (length (given vl w.memory (reg w.machine c.second)))
    (reg w.machine c.first)
    (reg w.machine c.second)
    (reg w.machine c.destination)
