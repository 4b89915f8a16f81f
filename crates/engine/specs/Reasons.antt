-- Why an operation, a calculation or a question is refused, in plain terms: what is wanted, in 01's order, each with 01's number.
--
--   Wanted                                 one thing that is wanted, and what is wanted after it
--   OpenRefused .. EndRefused              what each configuring operation is refused for
--   OperationRefused                       any of them
--   AsSource, AsDestination                what is wanted of a source, of a destination
--   FirstOutside, WantedInside             the first lane outside; what 14 wants of an operand
--   CalculationRefusedOn, CalculationRefused   what a calculation is refused for
--   FlagRefused, EndOfStreamRefused        what the two questions are refused for
use Rattle.std.specs.Prelude.{◌≡◌, ℕ, ◌+◌, ◌<◌, ◌≤◌, ◌⊎◌, List, [], length, take, pos, ◌≤ℤ◌, slice_index_or}
use Rattle.codec.specs.Refusals.{number_of, lane_of, operand_of}
use Rattle.codec.specs.declared.header.Kind.TheVariants.{Load, Store}
use Rattle.codec.specs.declared.operation.Operation.{Operation}
use Rattle.codec.specs.declared.operation.Operation.TheVariants as op
use Rattle.codec.specs.declared.operation.Task.{Task}
use Rattle.codec.specs.declared.operation.Calculation.{Calculation}
use Rattle.codec.specs.declared.refusal.Refusal.{Refusal}
use Rattle.engine.specs.Rules.{highs_of, product}
use Rattle.engine.specs.Addresses.{address}
use Rattle.engine.specs.Registers.{shape_of, next_chunk, reg}
use Rattle.engine.specs.Configure.{Covers}
use Rattle.engine.specs.Lanes.{outcome_count}
use Rattle.engine.specs.Calculate.{World, given}
use Rattle.engine.specs.Allowed.{Opens, low_of, high_of, Lies, OpenLie, SomeLanes}
use Rattle.engine.specs.declared.register.State.TheVariants.{Configuring, Open, Finished}
use Rattle.engine.specs.declared.register.Register.{Register}

-- P is wanted with 01's number n: where P does not hold the refusal x has that number; where it does, what is wanted later decides
pub data Wanted (x : Refusal) (n : ℕ) (P Later : Type 0) : Type 0 where
  lacking : number_of x ≡ n → ¬ P → Wanted x n P Later
  later : P → Later → Wanted x n P Later

-- ---- configuring

-- 5: "Open turns a plain or finished one to being configured"
abbrev pub OpenRefused : Register → Refusal → Type 0
OpenRefused r x = Wanted x 5 (Opens r) ⊥

-- 5, then 6: "an eighth dimension"
abbrev pub DimensionRefused : Register → Refusal → Type 0
DimensionRefused r x = Wanted x 5 (r.state ≡ Configuring) (Wanted x 6 ((shape_of r).dims < 7) ⊥)

-- 5, then 6: "ninth modifier", then 7: "modifier with no dimension yet or target not below its owner"; the owner is the dimension added
-- last, the target dimension target + 1
abbrev pub ModifierRefused : ℕ → Register → Refusal → Type 0
ModifierRefused target r x =
    Wanted x 5 (r.state ≡ Configuring) (Wanted x 6 ((shape_of r).mods < 8) (Wanted x 7 (target + 1 < (shape_of r).dims) ⊥))

-- 5, then 7: "end with no dimension; coupled dimension missing", then 8: "Low below 0 or high above 4,096", then 9: "a product .. above
-- 1,048,576"
abbrev pub EndRefused : Register → Refusal → Type 0
EndRefused r x =
    Wanted x 5 (r.state ≡ Configuring)
    (Wanted x 7 ((1 ≤ (shape_of r).dims) × Covers (shape_of r).dims (shape_of r).coupling)
    (Wanted x 8 ((d : ℕ) → d < (shape_of r).dims → (pos 0 ≤ℤ low_of (shape_of r) d) × (high_of (shape_of r) d ≤ 4096))
    (Wanted x 9 (product (highs_of (shape_of r)) ≤ 1048576) ⊥)))

-- an operation that configures is refused with x on its register; a run is not
abbrev pub OperationRefused : Operation → Register → Refusal → Type 0
OperationRefused (op.Open h base) r x = OpenRefused r x
OperationRefused (op.Dimension d) r x = DimensionRefused r x
OperationRefused (op.Modifier m) r x = ModifierRefused m.target r x
OperationRefused (op.End i) r x = EndRefused r x
OperationRefused (op.Run i n) r x = ⊥

-- ---- calculating

-- a source, 5, 11, 10: not being configured, not finished, if open a load stream
abbrev pub AsSource : Register → Refusal → Type 0 → Type 0
AsSource r x Later =
    Wanted x 5 (¬ (r.state ≡ Configuring)) (Wanted x 11 (¬ (r.state ≡ Finished)) (Wanted x 10 (r.state ≡ Open → r.kind ≡ Load) Later))

-- a destination, 5, 11, 10: not being configured, not finished, if open a store stream
abbrev pub AsDestination : Register → Refusal → Type 0 → Type 0
AsDestination r x Later =
    Wanted x 5 (¬ (r.state ≡ Configuring)) (Wanted x 11 (¬ (r.state ≡ Finished)) (Wanted x 10 (r.state ≡ Open → r.kind ≡ Store) Later))

-- 02, 1/14: "which lane, counted from 0, is the first outside": of the elements vs that an open stream would move, that of this lane lies
-- outside memory, that of every lane before it inside
pub record FirstOutside (len : ℕ) (r : Register) (vs : List (List ℕ)) (lane : ℕ) : Type 0 where
  pub opened : r.state ≡ Open
  pub moves : lane < length vs
  pub lies : ¬ Lies len r.width (address r.pattern r.width (slice_index_or vs lane []))
  pub before : (k : ℕ) → k < lane → Lies len r.width (address r.pattern r.width (slice_index_or vs k []))

-- an operand, 14: its elements vs are wanted inside memory; where they are not, x has number 14, names the first lane outside, and has the
-- operand's number: 0 for the first source, 1 for the second, 2 for the destination
pub data WantedInside (x : Refusal) (operand len : ℕ) (r : Register) (vs : List (List ℕ)) (Later : Type 0) : Type 0 where
  lacking : number_of x ≡ 14 → operand_of x ≡ operand → FirstOutside len r vs (lane_of x) → WantedInside x operand len r vs Later
  later : OpenLie len r vs → Later → WantedInside x operand len r vs Later

-- "first source, second source, destination in turn (5, 11, 10), then 12, 13, and 14 in that turn"; 02, 2/14: "18 .., after 13 and before 14":
-- of what a calculation does, on first source a, second source b, destination d, with n lanes of a and m of b
abbrev pub CalculationRefusedOn : Task → ℕ → ℕ → ℕ → ℕ → Register → Register → Register → Refusal → Type 0
CalculationRefusedOn t vl len n m a b d x =
    AsSource a x
    (AsSource b x
    (AsDestination d x
    (Wanted x 12 ((a.width ≡ b.width) × (d.state ≡ Open → a.width ≡ d.width))
    (Wanted x 13 ((n ≡ m) × (d.state ≡ Open → outcome_count t n ≤ length (next_chunk vl d)))
    (Wanted x 18 (SomeLanes t n)
    (WantedInside x 0 len a (next_chunk vl a)
    (WantedInside x 1 len b (next_chunk vl b)
    (WantedInside x 2 len d (take (outcome_count t n) (next_chunk vl d)) ⊥))))))))

-- a calculation is refused with x in a world: on the registers that it names
abbrev pub CalculationRefused : ℕ → Calculation → World → Refusal → Type 0
CalculationRefused vl c w x =
    CalculationRefusedOn c.task vl (length w.memory)
    (length (given vl w.memory (reg w.machine c.first)))
    (length (given vl w.memory (reg w.machine c.second)))
    (reg w.machine c.first)
    (reg w.machine c.second)
    (reg w.machine c.destination)
    x

-- ---- asking

-- "refused with 2 for a register above 31 or a dimension not 1 to 7, then 5 for a plain or configuring register, then 2 for a dimension
-- the stream lacks": of register i, which is r, and dimension d
abbrev pub FlagRefused : ℕ → ℕ → Register → Refusal → Type 0
FlagRefused i d r x =
    Wanted x 2 (((i ≤ 31) × (1 ≤ d)) × (d ≤ 7))
    (Wanted x 5 ((r.state ≡ Open) ⊎ (r.state ≡ Finished)) (Wanted x 2 (d ≤ (shape_of r).dims) ⊥))

-- "The question for the end of stream has the same refusals without the dimension's"
abbrev pub EndOfStreamRefused : ℕ → Register → Refusal → Type 0
EndOfStreamRefused i r x = Wanted x 2 (i ≤ 31) (Wanted x 5 ((r.state ≡ Open) ⊎ (r.state ≡ Finished)) ⊥)
