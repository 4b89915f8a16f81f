-- Operations and calculations, read number by number and as they are written.
--
--   Decoded, Body                 what decoding gives
--   field                         a number is read, then checked for range, before the next
--   IsRead, IsUnread              what reading one such number comes to
--   open_at .. run_at             the numbers of each kind of operation
--   operation_at, calculation_at  what stands at a place of a sheet
--   operation_in_range, calculation_in_range  what can be written
--   operation_bytes, bytes_of_all, calculation_bytes   as bytes
use Rattle.std.specs.Prelude.{ℕ, zero, suc, ◌+◌, ◌≡◌, ◌⊎◌, List, [], ◌∷◌, ◌++◌, Bool, true, false, Option, Some, None, Result, Ok, Err, cond, not, ◌&&◌, ◌||◌, leb, eqb, ltb, ℤ, pos, nat_abs}
use Rattle.std.specs.Int.Signed.{non_neg}
use Rattle.codec.specs.Numbers.{number_at, signed_at, number_bytes, unsigned_of}
use Rattle.codec.specs.Refusals.{err_at}
use Rattle.codec.specs.Headers.{header_of, header_in_range, word_of}
use Rattle.codec.specs.declared.amounts.Bytes.{Bytes}
use Rattle.codec.specs.declared.number.Cursor.{Cursor}
use Rattle.codec.specs.declared.header.Header.{Header}
use Rattle.codec.specs.declared.operation.Dimension.{Dimension}
use Rattle.codec.specs.declared.operation.Parameter.{Parameter}
use Rattle.codec.specs.declared.operation.Parameter.TheVariants as parameter
use Rattle.codec.specs.declared.operation.Behaviour.{Behaviour}
use Rattle.codec.specs.declared.operation.Behaviour.TheVariants as behaviour
use Rattle.codec.specs.declared.operation.Modifier.{Modifier}
use Rattle.codec.specs.declared.operation.Operation.{Operation}
use Rattle.codec.specs.declared.operation.Operation.TheVariants as op
use Rattle.codec.specs.declared.operation.Action.{Action}
use Rattle.codec.specs.declared.operation.Action.TheVariants as action
use Rattle.codec.specs.declared.operation.Fold.{Fold}
use Rattle.codec.specs.declared.operation.Fold.TheVariants as fold
use Rattle.codec.specs.declared.operation.Task.{Task}
use Rattle.codec.specs.declared.operation.Task.TheVariants as task
use Rattle.codec.specs.declared.operation.Calculation.{Calculation}
use Rattle.codec.specs.declared.refusal.Refusal.{Refusal}
use Rattle.codec.specs.declared.refusal.Refusal.TheVariants.{BadNumber, OutOfRange}
use Rattle.codec.specs.declared.refusal.Refused.{Refused}

-- what decoding an operation gives: the operation and the place behind it, or the refusal and its place
abbrev pub Decoded : Type 0
Decoded = Result (Operation × Cursor) Refused

-- the same for a calculation
abbrev pub Body : Type 0
Body = Result (Calculation × Cursor) Refused

-- "Each number is read, then checked for range, before the next": no number is refused with 1, one out of range with 2
abbrev pub field : {A B : Type 0} → (Refusal → A) → Option (B × Cursor) → (B → Bool) → (B → ℕ → A) → A
field refused None allowed next = refused BadNumber
field refused (Some (v, c)) allowed next = cond (allowed v) (next v c.at) (refused OutOfRange)

-- a number that was read and is in its range
abbrev pub IsRead : {B : Type 0} → Option (B × Cursor) → (B → Bool) → B × Cursor → Type 0
IsRead n allowed r = (n ≡ Some r) × (allowed r.0 ≡ true)

-- why a number is refused at a place: with 1 as there is none, or with 2 as it is out of its range
abbrev pub IsUnread : {B : Type 0} → Option (B × Cursor) → (B → Bool) → ℕ → Refused → Type 0
IsUnread {B} n allowed place e =
    ((n ≡ None) × (e ≡ record { refusal = BadNumber; place = place }))
    ⊎ ((r : B × Cursor) × (n ≡ Some r) × (allowed r.0 ≡ false) × (e ≡ record { refusal = OutOfRange; place = place }))

-- any number is allowed: the number of an operation and a header word are judged once they are read
abbrev pub any_number : ℕ → Bool
any_number v = true

-- a number from 0 to `most`
abbrev pub up_to : ℕ → ℕ → Bool
up_to most v = leb v most

-- "keeps 32 vector registers": a register is 0 to 31
abbrev pub is_register : ℕ → Bool
is_register = up_to 31

-- "base address | 0 to 1,048,576"
abbrev pub is_base : ℕ → Bool
is_base = up_to 1048576

-- "dimension size | 0 to 4,096"
abbrev pub is_size : ℕ → Bool
is_size = up_to 4096

-- "offset, stride | -1,048,576 to 1,048,576"
abbrev pub is_reach : ℤ → Bool
is_reach z = leb (nat_abs z) 1048576

-- "displacement of a modifier | 0 to 1,048,576"
abbrev pub is_displacement : ℕ → Bool
is_displacement = up_to 1048576

-- "calculations in a body | 1 to 16"
abbrev pub is_count : ℕ → Bool
is_count v = leb 1 v && leb v 16

-- "parameter (0 size, 1 offset, 2 stride)": the parameter of a code
abbrev pub parameter_coded : ℕ → Parameter
parameter_coded zero = parameter.Size
parameter_coded (suc zero) = parameter.Offset
parameter_coded (suc (suc n)) = parameter.Stride

-- "behaviour (0 add, 1 subtract)": the behaviour of a code
abbrev pub behaviour_coded : ℕ → Behaviour
behaviour_coded zero = behaviour.Add
behaviour_coded (suc n) = behaviour.Subtract

-- "0 copy .., 1 add, 2 subtract, 3 and, 4 or, 5 xor, 6 signed smaller, 7 signed larger": the action of a code
abbrev pub action_coded : ℕ → Action
action_coded zero = action.Copy
action_coded (suc zero) = action.Add
action_coded (suc (suc zero)) = action.Subtract
action_coded (suc (suc (suc zero))) = action.And
action_coded (suc (suc (suc (suc zero)))) = action.Or
action_coded (suc (suc (suc (suc (suc zero))))) = action.Xor
action_coded (suc (suc (suc (suc (suc (suc zero)))))) = action.Smaller
action_coded (suc (suc (suc (suc (suc (suc (suc n))))))) = action.Larger

-- 02, 2/14: "calculations 8 to 11 ..: sum modulo the width, signed smallest, signed largest, and the lane of the first largest": the fold
-- of a code
abbrev pub fold_coded : ℕ → Fold
fold_coded n = cond (eqb n 8) fold.Sum (cond (eqb n 9) fold.Smallest (cond (eqb n 10) fold.Largest fold.FirstLargest))

-- what a calculation of a code does: 01's calculations up to 7, lane by lane; 02's above, over all lanes
abbrev pub task_coded : ℕ → Task
task_coded n = cond (leb n 7) (task.Each (action_coded n)) (task.All (fold_coded n))

-- the open operation of a header word and a base, once both are read: a word is refused with 3, then 4
abbrev pub open_of : (Refusal → Decoded) → Result Header Refusal → ℕ → ℕ → Decoded
open_of refused (Err x) base at = refused x
open_of refused (Ok h) base at = Ok (op.Open h (record { 0 = pos base }), record { at = at })

-- "1 open: header word, base"
unfoldable pub open_at : List ℕ → (Refusal → Decoded) → ℕ → Decoded
open_at s refused at =
    field refused (number_at s at) any_number λ w at.
    field refused (number_at s at) is_base λ base at.
    open_of refused (header_of w) base at

-- "2 dimension: register, offset (signed), size, stride (signed)"
unfoldable pub dimension_at : List ℕ → (Refusal → Decoded) → ℕ → Decoded
dimension_at s refused at =
    field refused (number_at s at) is_register λ register at.
    field refused (signed_at s at) is_reach λ offset at.
    field refused (number_at s at) is_size λ size at.
    field refused (signed_at s at) is_reach λ stride at.
    Ok (op.Dimension (record { register = register; offset = record { 0 = offset }; size = size; stride = record { 0 = stride } }), record { at = at })

-- "3 modifier: register, target field 0 to 6 .., parameter .., behaviour .., displacement"
unfoldable pub modifier_at : List ℕ → (Refusal → Decoded) → ℕ → Decoded
modifier_at s refused at =
    field refused (number_at s at) is_register λ register at.
    field refused (number_at s at) (up_to 6) λ target at.
    field refused (number_at s at) (up_to 2) λ parameter at.
    field refused (number_at s at) (up_to 1) λ behaviour at.
    field refused (number_at s at) is_displacement λ displacement at.
    Ok (
      op.Modifier
          (record {
            register = register;
            target = target;
            parameter = parameter_coded parameter;
            behaviour = behaviour_coded behaviour;
            displacement = displacement;
          }),
      record { at = at },
    )

-- "4 end: register"
unfoldable pub end_at : List ℕ → (Refusal → Decoded) → ℕ → Decoded
end_at s refused at = field refused (number_at s at) is_register λ register at. Ok (op.End register, record { at = at })

-- "5 run: loop register, count, then the calculations"
unfoldable pub run_at : List ℕ → (Refusal → Decoded) → ℕ → Decoded
run_at s refused at =
    field refused (number_at s at) is_register λ register at.
    field refused (number_at s at) is_count λ count at.
    Ok (op.Run register count, record { at = at })

-- the operation that has a number, 1 to 5, its other numbers read from a place on; 2 for an "unknown operation"
abbrev pub operation_numbered : List ℕ → (Refusal → Decoded) → ℕ → ℕ → Decoded
operation_numbered s refused zero at = refused OutOfRange
operation_numbered s refused (suc zero) at = open_at s refused at
operation_numbered s refused (suc (suc zero)) at = dimension_at s refused at
operation_numbered s refused (suc (suc (suc zero))) at = modifier_at s refused at
operation_numbered s refused (suc (suc (suc (suc zero)))) at = end_at s refused at
operation_numbered s refused (suc (suc (suc (suc (suc zero))))) at = run_at s refused at
operation_numbered s refused (suc (suc (suc (suc (suc (suc n)))))) at = refused OutOfRange

-- the operation at a place; the place of its refusals is its first byte
unfoldable pub operation_at : List ℕ → ℕ → Decoded
operation_at s at = field (err_at at) (number_at s at) any_number λ number next. operation_numbered s (err_at at) number next

-- "0 copy (second source must equal the first, else 2)"; 02, 2/14, of 8 to 11: "over all valid lanes of one source"
abbrev pub has_one_source : ℕ → Bool
has_one_source code = eqb code 0 || ltb 7 code

-- a second source is a register; "second source must equal the first" where there is one source only
abbrev pub is_second : ℕ → ℕ → ℕ → Bool
is_second code first v = is_register v && (not (has_one_source code) || eqb v first)

-- "each: operation, destination, first source, second source"; the place of its refusals is its first byte
unfoldable pub calculation_at : List ℕ → ℕ → Body
calculation_at s place =
    field (err_at place) (number_at s place) (up_to 11) λ code at.
    field (err_at place) (number_at s at) is_register λ destination at.
    field (err_at place) (number_at s at) is_register λ first at.
    field (err_at place) (number_at s at) (is_second code first) λ second at.
    Ok (record { task = task_coded code; destination = destination; first = first; second = second }, record { at = at })

-- ---- writing

-- "parameter (0 size, 1 offset, 2 stride)": the code of a parameter
abbrev pub parameter_code : Parameter → ℕ
parameter_code parameter.Size = 0
parameter_code parameter.Offset = 1
parameter_code parameter.Stride = 2

-- "behaviour (0 add, 1 subtract)": the code of a behaviour
abbrev pub behaviour_code : Behaviour → ℕ
behaviour_code behaviour.Add = 0
behaviour_code behaviour.Subtract = 1

-- "0 copy .., 1 add, 2 subtract, 3 and, 4 or, 5 xor, 6 signed smaller, 7 signed larger": the code of an action
abbrev pub action_code : Action → ℕ
action_code action.Copy = 0
action_code action.Add = 1
action_code action.Subtract = 2
action_code action.And = 3
action_code action.Or = 4
action_code action.Xor = 5
action_code action.Smaller = 6
action_code action.Larger = 7

-- 02, 2/14: "calculations 8 to 11 ..: sum modulo the width, signed smallest, signed largest, and the lane of the first largest": the code
-- of a fold
abbrev pub fold_code : Fold → ℕ
fold_code fold.Sum = 8
fold_code fold.Smallest = 9
fold_code fold.Largest = 10
fold_code fold.FirstLargest = 11

-- the code of what a calculation does
abbrev pub task_code : Task → ℕ
task_code (task.Each a) = action_code a
task_code (task.All f) = fold_code f

-- every field of a dimension is in its range
abbrev pub dimension_in_range : Dimension → Bool
dimension_in_range d = is_register d.register && is_reach d.offset.0 && is_size d.size && is_reach d.stride.0

-- the register, the target field and the displacement of a modifier are in their ranges
abbrev pub modifier_in_range : Modifier → Bool
modifier_in_range m = is_register m.register && up_to 6 m.target && is_displacement m.displacement

-- "base address | 0 to 1,048,576", of a base as a byte amount
abbrev pub base_in_range : Bytes → Bool
base_in_range b = non_neg b.0 && is_base (nat_abs b.0)

-- every field of an operation is in its range
unfoldable pub operation_in_range : Operation → Bool
operation_in_range (op.Open h b) = header_in_range h && base_in_range b
operation_in_range (op.Dimension d) = dimension_in_range d
operation_in_range (op.Modifier m) = modifier_in_range m
operation_in_range (op.End register) = is_register register
operation_in_range (op.Run register count) = is_register register && is_count count

-- "A signed n is written as 2n if n is 0 or more, else -2n-1": its bytes
abbrev pub signed_bytes : ℤ → List ℕ
signed_bytes z = number_bytes (unsigned_of z)

-- an operation's numbers, one after the other; `free` is what the header word's bits 19-15 and 23-22 are worth (writers put 0)
unfoldable pub operation_bytes : ℕ → Operation → List ℕ
operation_bytes free (op.Open h b) = number_bytes 1 ++ number_bytes (word_of h + free) ++ number_bytes (nat_abs b.0)
operation_bytes free (op.Dimension d) =
    number_bytes 2 ++ number_bytes d.register ++ signed_bytes d.offset.0 ++ number_bytes d.size ++ signed_bytes d.stride.0
operation_bytes free (op.Modifier m) =
    number_bytes 3
    ++ number_bytes m.register
    ++ number_bytes m.target
    ++ number_bytes (parameter_code m.parameter)
    ++ number_bytes (behaviour_code m.behaviour)
    ++ number_bytes m.displacement
operation_bytes free (op.End register) = number_bytes 4 ++ number_bytes register
operation_bytes free (op.Run register count) = number_bytes 5 ++ number_bytes register ++ number_bytes count

-- operations one behind the other, the free bits zero
unfoldable pub bytes_of_all : List Operation → List ℕ
bytes_of_all [] = []
bytes_of_all (o ∷ os) = operation_bytes 0 o ++ bytes_of_all os

-- every register of a calculation is in its range, and the second source is the first where there is one source only
abbrev pub calculation_in_range : Calculation → Bool
calculation_in_range c =
    is_register c.destination && is_register c.first && is_second (task_code c.task) c.first c.second

-- "each: operation, destination, first source, second source": its numbers, one after the other
unfoldable pub calculation_bytes : Calculation → List ℕ
calculation_bytes c =
    number_bytes (task_code c.task) ++ number_bytes c.destination ++ number_bytes c.first ++ number_bytes c.second
