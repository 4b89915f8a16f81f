-- Promise 1: an end and an answer. Every sheet of bytes, vector length and memory has exactly one right answer, and the run gives it.
--
--   NumberAt, NoNumberAt          a number stands at a place, in its one encoding; none does
--   Range, Holds, fields_of        the numbers of an operation and their ranges
--   NumberFault, NumbersFault     a number at fault; the first of several
--   WordFault                     a header word at fault
--   Unread, UnreadCalculation     an operation, a calculation that cannot be read
--   OperationInRange, OperationAt   an operation as it stands in the sheet
--   Turns                         operations done in turn
--   CalculationAt, BodyAt         the calculations of a run as they stand in the sheet
--   LoopsOn, RunAt                what 16 looks at; a run whose body is read whole
--   Right                         the right answers
--   Unrefused                     nothing else is refused
--   AllFree, Encoded              a sheet that is, from its first byte to its last, what was read
--   Promise1
use Rattle.std.specs.Prelude.{◌≡◌, ℕ, zero, suc, ◌<◌, ◌≤◌, true, ◌⊎◌, ◌↔◌, List, [], ◌∷◌, ◌++◌, length, take, pos, ◌≤ℤ◌, slice_index, slice_index_or, unsigned_abs, Ok, Err, Option, Some, None}
use Rattle.codec.specs.Numbers.{number_bytes, signed_of}
use Rattle.codec.specs.NumberLaws.{Stands}
use Rattle.codec.specs.Refusals.{number_of}
use Rattle.codec.specs.Headers.{bits_of}
use Rattle.codec.specs.HeaderLaws.{IsFree}
use Rattle.codec.specs.Operations.{operation_bytes, calculation_bytes, task_code}
use Rattle.codec.specs.declared.header.Kind.TheVariants.{Load}
use Rattle.codec.specs.declared.operation.Operation.{Operation}
use Rattle.codec.specs.declared.operation.Operation.TheVariants as op
use Rattle.codec.specs.declared.operation.Calculation.{Calculation}
use Rattle.codec.specs.declared.refusal.Refusal.{Refusal}
use Rattle.engine.specs.Registers.{fresh_machine, reg, put}
use Rattle.engine.specs.Configure.{register_of, applied, why_not, configured}
use Rattle.engine.specs.Questions.{ask_flag, ask_end}
use Rattle.engine.specs.Calculate.{World, refusal_of}
use Rattle.engine.specs.Run.{Progress, begun, step, refusal_at}
use Rattle.engine.specs.Sheets.{is_loop_register, allowed, refused_at, run}
use Rattle.engine.specs.Allowed.{Fits, Accepts, Calculates}
use Rattle.engine.specs.Reasons.{OperationRefused, CalculationRefused, FlagRefused, EndOfStreamRefused}
use Rattle.engine.specs.Histories.{no_placed, Ran}
use Rattle.engine.specs.declared.register.State.TheVariants.{Open, Finished}
use Rattle.engine.specs.declared.register.Machine.{Machine}
use Rattle.engine.specs.declared.run.Placed.{Placed}

-- ---- numbers

-- a number below 2^32 stands at a place, in its one encoding; `to` is the place behind it
pub record NumberAt (s : List ℕ) (at n to : ℕ) : Type 0 where
  pub small : n < 4294967296
  pub stands : Stands s at (number_bytes n) to

-- 1: "a number is cut off, too long or not shortest"
abbrev pub NoNumberAt : List ℕ → ℕ → Type 0
NoNumberAt s at = (n to : ℕ) → NumberAt s at n to → ⊥

-- the ranges of the numbers of a sheet
pub data Range : Type 0 where
  any : Range
  up_to : ℕ → Range
  between : ℕ → ℕ → Range
  reach : Range
  source : Range

-- "0 copy (second source must equal the first, else 2)"; 02, 2/14, of 8 to 11: "The second source must equal the first": a calculation of
-- this code has one source only
abbrev pub OneSource : ℕ → Type 0
OneSource code = (code ≡ 0) ⊎ (8 ≤ code)

-- a number in its range; `before` are the operation's numbers before it, the nearest first
abbrev pub Holds : Range → List ℕ → ℕ → Type 0
Holds any before n = Unit {0}
Holds (up_to most) before n = n ≤ most
Holds (between least most) before n = (least ≤ n) × (n ≤ most)
-- offset and stride: "-1,048,576 to 1,048,576"
Holds reach before n = unsigned_abs (signed_of n) ≤ 1048576
-- a second source
Holds source before n = (n ≤ 31) × (OneSource (slice_index before 2) → n ≡ slice_index before 0)

-- the numbers of each operation, after its own
abbrev pub fields_of : ℕ → List Range
-- "1 open: header word, base"
fields_of (suc zero) = any ∷ up_to 1048576 ∷ []
-- "2 dimension: register, offset (signed), size, stride (signed)"
fields_of (suc (suc zero)) = up_to 31 ∷ reach ∷ up_to 4096 ∷ reach ∷ []
-- "3 modifier: register, target field 0 to 6 .., parameter .., behaviour .., displacement"
fields_of (suc (suc (suc zero))) = up_to 31 ∷ up_to 6 ∷ up_to 2 ∷ up_to 1 ∷ up_to 1048576 ∷ []
-- "4 end: register"
fields_of (suc (suc (suc (suc zero)))) = up_to 31 ∷ []
-- "5 run: loop register, count"
fields_of (suc (suc (suc (suc (suc zero))))) = up_to 31 ∷ between 1 16 ∷ []
-- there is no other operation
fields_of zero = []
fields_of (suc (suc (suc (suc (suc (suc n)))))) = []

-- "each: operation, destination, first source, second source"; 02, 2/14: "calculations 8 to 11"
abbrev pub calculation_fields : List Range
calculation_fields = up_to 11 ∷ up_to 31 ∷ up_to 31 ∷ source ∷ []

-- "Each number is read, then checked for range, before the next": the fault is in this number, 1 or 2, or in a later one
pub data NumberFault (s : List ℕ) (x : Refusal) (at : ℕ) (before : List ℕ) (f : Range) (Later : ℕ → ℕ → Type 0) : Type 0 where
  unread : number_of x ≡ 1 → NoNumberAt s at → NumberFault s x at before f Later
  beyond : (n to : ℕ) → number_of x ≡ 2 → NumberAt s at n to → ¬ Holds f before n → NumberFault s x at before f Later
  later : (n to : ℕ) → NumberAt s at n to → Holds f before n → Later n to → NumberFault s x at before f Later

-- of the numbers in these ranges from a place on, the first at fault is refused with x
unfoldable pub NumbersFault : List ℕ → Refusal → ℕ → List ℕ → List Range → Type 0
NumbersFault s x at before [] = ⊥
NumbersFault s x at before (f ∷ fs) = NumberFault s x at before f (λ n to. NumbersFault s x to (n ∷ before) fs)

-- the fixed bits of a header word: "bits 6-0 = 0001011", "21-20 = 00", "26-25 = 00", "Uncoupled needs 29-27 = 000; this and 111 there count
-- as fixed bits"
pub record FixedRight (w : ℕ) : Type 0 where
  pub opcode : bits_of 0 7 w ≡ 11
  pub bits-20 : bits_of 20 2 w ≡ 0
  pub bits-25 : bits_of 25 2 w ≡ 0
  pub coupled : ¬ (bits_of 27 3 w ≡ 7)
  pub uncoupled : ¬ (bits_of 30 1 w ≡ 1) → bits_of 27 3 w ≡ 0

-- "24 inds", "31 m": both are clear
pub record BothClear (w : ℕ) : Type 0 where
  pub inds : bits_of 24 1 w ≡ 0
  pub m : bits_of 31 1 w ≡ 0

-- why a header word is refused: 3, then 4
pub data WordFault (w : ℕ) (x : Refusal) : Type 0 where
  fixed : number_of x ≡ 3 → ¬ FixedRight w → WordFault w x
  carried : number_of x ≡ 4 → FixedRight w → ¬ BothClear w → WordFault w x

-- an operation that cannot be read: its own number, one of those after it, or its header word once both numbers of open are read
pub data Unread (s : List ℕ) (at : ℕ) (x : Refusal) : Type 0 where
  which : NumbersFault s x at [] (between 1 5 ∷ []) → Unread s at x
  field : (k to : ℕ) → NumberAt s at k to → (1 ≤ k) × (k ≤ 5) → NumbersFault s x to [] (fields_of k) → Unread s at x
  word : (p w q base to : ℕ) → NumberAt s at 1 p → NumberAt s p w q → NumberAt s q base to → base ≤ 1048576 → WordFault w x → Unread s at x

-- a calculation that cannot be read
abbrev pub UnreadCalculation : List ℕ → ℕ → Refusal → Type 0
UnreadCalculation s at x = NumbersFault s x at [] calculation_fields

-- ---- operations

-- an operation that configures: no run
abbrev pub Configures : Operation → Type 0
Configures (op.Open h base) = Unit {0}
Configures (op.Dimension d) = Unit {0}
Configures (op.Modifier m) = Unit {0}
Configures (op.End i) = Unit {0}
Configures (op.Run i n) = ⊥

-- a coupled dimension is 1 to 7
abbrev pub CouplingInRange : Option ℕ → Type 0
CouplingInRange None = Unit {0}
CouplingInRange (Some c) = (1 ≤ c) × (c ≤ 7)

-- every number of an operation is in its range
abbrev pub OperationInRange : Operation → Type 0
OperationInRange (op.Open h base) =
    (h.register ≤ 31) × (CouplingInRange h.coupling × ((pos 0 ≤ℤ base.0) × (unsigned_abs base.0 ≤ 1048576)))
OperationInRange (op.Dimension d) =
    (d.register ≤ 31) × ((unsigned_abs d.offset.0 ≤ 1048576) × ((d.size ≤ 4096) × (unsigned_abs d.stride.0 ≤ 1048576)))
OperationInRange (op.Modifier m) = (m.register ≤ 31) × ((m.target ≤ 6) × (m.displacement ≤ 1048576))
OperationInRange (op.End i) = i ≤ 31
OperationInRange (op.Run i n) = (i ≤ 31) × ((1 ≤ n) × (n ≤ 16))

-- an operation stands at a place, in its one encoding; of a header word the bits 19-15 and 23-22 are free
pub record OperationAt (s : List ℕ) (at : ℕ) (o : Operation) (to : ℕ) : Type 0 where
  pub free : ℕ
  pub is_free : IsFree free
  pub range : OperationInRange o
  pub stands : Stands s at (operation_bytes free o) to

-- the machine after an operation that is not refused
abbrev pub after : Operation → Machine → Machine
after o m = put m (register_of o) (applied o (reg m (register_of o)))

-- operations that configure, one behind the other from place `at` and machine m to place `to` and machine n, none refused
unfoldable pub Turns : List ℕ → ℕ → Machine → List Operation → ℕ → Machine → Type 0
Turns s at m [] to n = (at ≡ to) × (m ≡ n)
Turns s at m (o ∷ os) to n =
    (next : ℕ) × OperationAt s at o next × Accepts o (reg m (register_of o)) × Turns s next (after o m) os to n

-- ---- a run

-- a calculation stands at a place
pub record CalculationAt (s : List ℕ) (at : ℕ) (c : Calculation) (to : ℕ) : Type 0 where
  pub destination : c.destination ≤ 31
  pub first : c.first ≤ 31
  pub second : c.second ≤ 31
  pub alone : OneSource (task_code c.task) → c.second ≡ c.first
  pub stands : Stands s at (calculation_bytes c) to

-- calculations, one behind the other, each with its place
unfoldable pub BodyAt : List ℕ → ℕ → List Placed → ℕ → Type 0
BodyAt s at [] to = at ≡ to
BodyAt s at (c ∷ cs) to = (next : ℕ) × (c.place ≡ at) × CalculationAt s at c.calculation next × BodyAt s next cs to

-- what 16 asks of the loop register: it is an open or finished load stream, and calculation `which` names it as a source
pub record LoopsOn (loop : ℕ) (cs : List Placed) (m : Machine) : Type 0 where
  pub load : (reg m loop).kind ≡ Load
  pub stream : ((reg m loop).state ≡ Open) ⊎ ((reg m loop).state ≡ Finished)
  pub which : ℕ
  pub below : which < length cs
  pub named : (loop ≡ (slice_index_or cs which no_placed).calculation.first) ⊎ (loop ≡ (slice_index_or cs which no_placed).calculation.second)

-- a run whose body is read whole: its operation at `at`, its calculations up to `to`
pub record RunAt (s : List ℕ) (at loop : ℕ) (cs : List Placed) (to : ℕ) : Type 0 where
  pub from : ℕ
  pub written : OperationAt s at (op.Run loop (length cs)) from
  pub body : BodyAt s from cs to

-- ---- the answer

-- a machine and a memory together
abbrev pub world : Machine → List ℕ → World
world m memory = record { machine = m; memory = memory }

-- the operations before place `at`, done from 32 fresh registers
abbrev pub DoneBefore : List ℕ → List Operation → ℕ → Machine → Type 0
DoneBefore s os at m = Turns s 0 fresh_machine os at m

-- the right answers of a sheet, case by case
pub data Right (vl : ℕ) (s memory : List ℕ) (r : Progress) : Type 0 where
  -- "15 comes first", place 0
  lengths : ¬ Fits vl (length memory) → (x : Refusal) → number_of x ≡ 15 → r ≡ refused_at (world fresh_machine memory) x 0 → Right vl s memory r
  -- no byte is left, and no run
  over : Fits vl (length memory) → (os : List Operation) (m : Machine) → DoneBefore s os (length s) m → r ≡ begun (world m memory)
      → Right vl s memory r
  -- an operation that cannot be read
  unread : Fits vl (length memory) → (os : List Operation) (at : ℕ) (m : Machine) (x : Refusal) → DoneBefore s os at m → at < length s → Unread s at x
      → r ≡ refused_at (world m memory) x at → Right vl s memory r
  -- one that is refused, for the first thing wanted of it that is lacking: 5 to 9
  refused : Fits vl (length memory) → (os : List Operation) (at : ℕ) (m : Machine) (o : Operation) (to : ℕ) (x : Refusal) → DoneBefore s os at m
      → OperationAt s at o to → OperationRefused o (reg m (register_of o)) x → r ≡ refused_at (world m memory) x at → Right vl s memory r
  -- a run, and a calculation of it that cannot be read
  broken : Fits vl (length memory) → (os : List Operation) (at : ℕ) (m : Machine) (loop count from : ℕ) (cs : List Placed) (place : ℕ) (x : Refusal)
      → DoneBefore s os at m → OperationAt s at (op.Run loop count) from → BodyAt s from cs place → length cs < count → UnreadCalculation s place x
      → r ≡ refused_at (world m memory) x place → Right vl s memory r
  -- bytes after it
  trailing : Fits vl (length memory) → (os : List Operation) (at : ℕ) (m : Machine) (loop : ℕ) (cs : List Placed) (to : ℕ) (x : Refusal) → DoneBefore s os at m
      → RunAt s at loop cs to → to < length s → number_of x ≡ 2 → r ≡ refused_at (world m memory) x to → Right vl s memory r
  -- 16
  no_loop : Fits vl (length memory) → (os : List Operation) (at : ℕ) (m : Machine) (loop : ℕ) (cs : List Placed) (x : Refusal) → DoneBefore s os at m
      → RunAt s at loop cs (length s) → ¬ LoopsOn loop cs m → number_of x ≡ 16 → r ≡ refused_at (world m memory) x at → Right vl s memory r
  -- a run
  ran : Fits vl (length memory) → (os : List Operation) (at : ℕ) (m : Machine) (loop : ℕ) (cs : List Placed) → DoneBefore s os at m
      → RunAt s at loop cs (length s) → LoopsOn loop cs m → Ran vl loop cs (world m memory) r → Right vl s memory r

-- ---- a sheet that is done

-- operations in their encodings, one behind the other; `frees` are what the free bits of each one's header word are worth
unfoldable pub encodings : List ℕ → List Operation → List ℕ
encodings frees [] = []
encodings [] (o ∷ os) = operation_bytes 0 o ++ encodings [] os
encodings (free ∷ frees) (o ∷ os) = operation_bytes free o ++ encodings frees os

-- calculations in their encodings, one behind the other
unfoldable pub body_bytes : List Placed → List ℕ
body_bytes [] = []
body_bytes (c ∷ cs) = calculation_bytes c.calculation ++ body_bytes cs

-- values that bits 19-15 and 23-22 of a header word can be worth, each of them
unfoldable pub AllFree : List ℕ → Type 0
AllFree [] = Unit {0}
AllFree (free ∷ frees) = IsFree free × AllFree frees

-- a sheet that is the encodings of the operations done, with no run or with one at its end
pub data Encoded (s : List ℕ) : Type 0 where
  over : (frees : List ℕ) (os : List Operation) (m : Machine) → AllFree frees → DoneBefore s os (length s) m → s ≡ encodings frees os → Encoded s
  with-run : (frees : List ℕ) (os : List Operation) (at : ℕ) (m : Machine) (loop : ℕ) (cs : List Placed) → AllFree frees → DoneBefore s os at m → RunAt s at loop cs (length s)
      → s ≡ encodings frees os ++ (operation_bytes 0 (op.Run loop (length cs)) ++ body_bytes cs) → Encoded s

-- ---- what is refused, and nothing else

-- not refused exactly if the plain conditions hold: of the lengths, every operation that configures, 16 and every calculation
pub record Unrefused : Type 0 where
  pub lengths : (vl len : ℕ) → (allowed vl len ≡ true) ↔ Fits vl len
  pub operation : (o : Operation) (m : Machine) → Configures o → (why_not o m ≡ Ok tt) ↔ Accepts o (reg m (register_of o))
  pub loop : (loop : ℕ) (cs : List Placed) (m : Machine) → (is_loop_register loop cs m ≡ true) ↔ LoopsOn loop cs m
  pub calculation : (vl : ℕ) (c : Calculation) (w : World) → (refusal_of vl c w ≡ Ok tt) ↔ Calculates vl c w
  -- refused exactly for the first thing wanted that is lacking, with 01's number: 5 to 9, and 5, 10 to 14
  pub operation-refused : (o : Operation) (m : Machine) (x : Refusal) → (why_not o m ≡ Err x) ↔ OperationRefused o (reg m (register_of o)) x
  pub calculation-refused : (vl : ℕ) (c : Calculation) (w : World) (x : Refusal) → (refusal_of vl c w ≡ Err x) ↔ CalculationRefused vl c w x
  -- so are the two questions: 2, 5, 2, and 2, 5
  pub flag-refused : (m : Machine) (i d : ℕ) (x : Refusal) → (ask_flag m i d ≡ Err x) ↔ FlagRefused i d (reg m i) x
  pub end_refused : (m : Machine) (i : ℕ) (x : Refusal) → (ask_end m i ≡ Err x) ↔ EndOfStreamRefused i (reg m i) x
  -- a refused one alters nothing
  pub operation-kept : (o : Operation) (m : Machine) (x : Refusal) → why_not o m ≡ Err x → configured o m ≡ m
  pub calculation-kept : (vl : ℕ) (c : Placed) (g : Progress) (x : Refusal) → refusal_of vl c.calculation g.world ≡ Err x
      → step vl c g ≡ record { world = g.world; report = g.report; verdict = refusal_at x c.place }

-- ---- the promise

-- promise 1 for a vector length, a sheet and a memory: one right answer, which the run gives
pub record Promise1 (vl : ℕ) (s memory : List ℕ) : Type 0 where
  -- the run's answer is right, and the only right one
  pub right : Right vl s memory (run vl s memory)
  pub only : (r : Progress) → Right vl s memory r → r ≡ run vl s memory
  -- what stands after a refusal is what the sheet cut at the first byte of the refused operation leaves
  pub stands : Fits vl (length memory) → (os : List Operation) (at : ℕ) (m : Machine) → DoneBefore s os at m
      → run vl (take at s) memory ≡ begun (world m memory)
  -- a sheet that is done is, from its first byte to its last, the encodings of what was read
  pub whole : (run vl s memory).verdict ≡ Ok tt → Encoded s
