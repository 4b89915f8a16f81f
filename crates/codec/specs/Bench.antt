-- Examples of document 01, computed from the definitions.
--
--   numbers, signed_numbers, no_numbers  bytes and the numbers they give
--   words                              header words
--   codes                              every code: refusals, kinds and widths, parameters and behaviours, operations of a calculation
--   steps                              what a whole sheet decodes to
--   sheet, refused_sheets               the sheet of "Loop nests", and sheets with a fault
use Rattle.std.specs.Prelude.{ℕ, zero, suc, ◌≡◌, refl, List, [], ◌∷◌, map, Some, None, Ok, Err, cond, length, replicate, leb, pos, negsuc}
use Rattle.codec.specs.Refusals.{number_of, lane_of, operand_of, err_at}
use Rattle.codec.specs.Numbers.{groups_at, number_at, signed_of, signed_at, groups_of, number_bytes, unsigned_of}
use Rattle.codec.specs.Headers.{bytes_of, header_said, header_of}
use Rattle.codec.specs.Operations.{Decoded, Body, open_at, dimension_at, modifier_at, end_at, run_at, operation_at, calculation_at}
use Rattle.codec.specs.declared.header.Kind.TheVariants.{Load, Store}
use Rattle.codec.specs.declared.header.Width.TheVariants.{B, H, W, D}
use Rattle.codec.specs.declared.operation.Operation.{Operation}
use Rattle.codec.specs.declared.operation.Operation.TheVariants as op
use Rattle.codec.specs.declared.operation.Parameter.TheVariants as parameter
use Rattle.codec.specs.declared.operation.Behaviour.TheVariants as behaviour
use Rattle.codec.specs.declared.operation.Action.TheVariants as action
use Rattle.codec.specs.declared.operation.Fold.TheVariants as fold
use Rattle.codec.specs.declared.operation.Task.TheVariants as task
use Rattle.codec.specs.declared.operation.Calculation.{Calculation}
use Rattle.codec.specs.declared.refusal.Role.TheVariants as role
use Rattle.codec.specs.declared.refusal.Refusal.{Refusal}
use Rattle.codec.specs.declared.refusal.Refusal.TheVariants.{BadNumber, OutOfRange, FixedBits, NotCarried, WrongState, TooMany, Misplaced, LowHigh, Product, WrongKind, StreamEnded, Widths, LaneCounts, Outside, Lengths, LoopRegister, NoRoom, NoLanes}

-- "127 is 7F, 128 is 80 01, 300 is AC 02", read and written; 2^32 - 1 takes five groups
pub numbers :
    (number_at (127 ∷ []) 0 ≡ Some (127, record { at = 1 }))
    × (number_at (128 ∷ 1 ∷ []) 0 ≡ Some (128, record { at = 2 }))
    × (number_at (172 ∷ 2 ∷ []) 0 ≡ Some (300, record { at = 2 }))
    × (number_at (255 ∷ 255 ∷ 255 ∷ 255 ∷ 15 ∷ []) 0 ≡ Some (4294967295, record { at = 5 }))
    × (number_bytes 127 ≡ 127 ∷ [])
    × (number_bytes 128 ≡ 128 ∷ 1 ∷ [])
    × (number_bytes 300 ≡ 172 ∷ 2 ∷ [])
    × (number_bytes 4294967295 ≡ 255 ∷ 255 ∷ 255 ∷ 255 ∷ 15 ∷ [])
unfolding number_at groups_at groups_of
numbers = (refl, refl, refl, refl, refl, refl, refl, refl)

-- "-1 is 01"
pub signed_numbers :
    (signed_at (1 ∷ []) 0 ≡ Some (negsuc 0, record { at = 1 }))
    × (signed_at (2 ∷ []) 0 ≡ Some (pos 1, record { at = 1 }))
    × (unsigned_of (negsuc 0) ≡ 1)
    × (unsigned_of (pos 1) ≡ 2)
unfolding number_at groups_at signed_of
signed_numbers = (refl, refl, refl, refl)

-- cut off; not shortest; 2^32; a sixth group
pub no_numbers :
    (number_at [] 0 ≡ None)
    × (number_at (128 ∷ []) 0 ≡ None)
    × (number_at (128 ∷ 0 ∷ []) 0 ≡ None)
    × (number_at (128 ∷ 128 ∷ 128 ∷ 128 ∷ 16 ∷ []) 0 ≡ None)
    × (number_at (128 ∷ 128 ∷ 128 ∷ 128 ∷ 128 ∷ 1 ∷ []) 0 ≡ None)
unfolding number_at groups_at
no_numbers = (refl, refl, refl, refl, refl)

-- "Header 5608Bh: load W, register 1", "Header 6218Bh: store W, register 3"; then 4000408Bh, coupled to dimension 1, 7000408Bh, to 7;
-- 7800408Bh, 111 in 29-27, and 0800408Bh, uncoupled and not 000 there; 8000408Bh, m, and 0100408Bh, inds
pub words :
    (header_of 352395 ≡ Ok (record { kind = Load; width = W; register = 1; coupling = None }))
    × (header_of 401803 ≡ Ok (record { kind = Store; width = W; register = 3; coupling = None }))
    × (header_of 1073758347 ≡ Ok (record { kind = Load; width = B; register = 1; coupling = Some 1 }))
    × (header_of 1879064715 ≡ Ok (record { kind = Load; width = B; register = 1; coupling = Some 7 }))
    × (header_of 2013282443 ≡ Err FixedBits)
    × (header_of 134234251 ≡ Err FixedBits)
    × (header_of 2147500171 ≡ Err NotCarried)
    × (header_of 16793739 ≡ Err NotCarried)
unfolding header_of header_said
words = (refl, refl, refl, refl, refl, refl, refl, refl)

-- the table of "Refusal numbers"; "000 to 011 store B, H, W, D; 100 to 111 load", "1, 2, 4 or 8 bytes"; "parameter (0 size, 1 offset, 2
-- stride), behaviour (0 add, 1 subtract)"; "0 copy .., 1 add, 2 subtract, 3 and, 4 or, 5 xor, 6 signed smaller, 7 signed larger"; 02, 2/14: "18";
-- "calculations 8 to 11"; "The second source must equal the first"; no calculation has a code above 11
pub codes :
    (map number_of
    (BadNumber ∷ OutOfRange ∷ FixedBits ∷ NotCarried ∷ WrongState ∷ TooMany ∷ Misplaced ∷ LowHigh ∷ Product ∷ WrongKind ∷ StreamEnded ∷ Widths
    ∷ LaneCounts ∷ Outside 5 role.Second ∷ Lengths ∷ LoopRegister ∷ NoRoom ∷ NoLanes ∷ [])
    ≡ 1 ∷ 2 ∷ 3 ∷ 4 ∷ 5 ∷ 6 ∷ 7 ∷ 8 ∷ 9 ∷ 10 ∷ 11 ∷ 12 ∷ 13 ∷ 14 ∷ 15 ∷ 16 ∷ 17 ∷ 18 ∷ [])
    × (map (λ r. number_of (Outside 5 r)) (role.First ∷ role.Second ∷ role.Destination ∷ []) ≡ 14 ∷ 14 ∷ 14 ∷ [])
    × (map (λ r. lane_of (Outside 5 r)) (role.First ∷ role.Second ∷ role.Destination ∷ []) ≡ 5 ∷ 5 ∷ 5 ∷ [])
    × (map (λ r. operand_of (Outside 5 r)) (role.First ∷ role.Second ∷ role.Destination ∷ []) ≡ 0 ∷ 1 ∷ 2 ∷ [])
    × (lane_of LaneCounts ≡ 0)
    × (operand_of LaneCounts ≡ 0)
    × (map header_of (0x8b ∷ 0x108b ∷ 0x208b ∷ 0x308b ∷ [])
    ≡ map (λ w. Ok (record { kind = Store; width = w; register = 1; coupling = None })) (B ∷ H ∷ W ∷ D ∷ []))
    × (map header_of (0x408b ∷ 0x508b ∷ 0x608b ∷ 0x708b ∷ [])
    ≡ map (λ w. Ok (record { kind = Load; width = w; register = 1; coupling = None })) (B ∷ H ∷ W ∷ D ∷ []))
    × (map bytes_of (B ∷ H ∷ W ∷ D ∷ []) ≡ 1 ∷ 2 ∷ 4 ∷ 8 ∷ [])
    × (map (λ k. operation_at (3 ∷ 1 ∷ 4 ∷ k ∷ 0 ∷ 5 ∷ []) 0) (0 ∷ 1 ∷ 2 ∷ [])
    ≡ map
    (λ q.
    Ok (op.Modifier (record { register = 1; target = 4; parameter = q; behaviour = behaviour.Add; displacement = 5 }), record { at = 6 }))
    (parameter.Size ∷ parameter.Offset ∷ parameter.Stride ∷ []))
    × (map (λ k. operation_at (3 ∷ 1 ∷ 4 ∷ 2 ∷ k ∷ 5 ∷ []) 0) (0 ∷ 1 ∷ [])
    ≡ map
    (λ b.
    Ok (op.Modifier (record { register = 1; target = 4; parameter = parameter.Stride; behaviour = b; displacement = 5 }), record { at = 6 }))
    (behaviour.Add ∷ behaviour.Subtract ∷ []))
    × (map (λ k. calculation_at (k ∷ 3 ∷ 1 ∷ 1 ∷ []) 0) (0 ∷ 1 ∷ 2 ∷ 3 ∷ 4 ∷ 5 ∷ 6 ∷ 7 ∷ [])
    ≡ map (λ a. Ok (record { task = task.Each a; destination = 3; first = 1; second = 1 }, record { at = 4 }))
    (action.Copy ∷ action.Add ∷ action.Subtract ∷ action.And ∷ action.Or ∷ action.Xor ∷ action.Smaller ∷ action.Larger ∷ []))
    × (map (λ k. calculation_at (k ∷ 3 ∷ 1 ∷ 1 ∷ []) 0) (8 ∷ 9 ∷ 10 ∷ 11 ∷ [])
    ≡ map (λ f. Ok (record { task = task.All f; destination = 3; first = 1; second = 1 }, record { at = 4 }))
    (fold.Sum ∷ fold.Smallest ∷ fold.Largest ∷ fold.FirstLargest ∷ []))
    × (map (λ k. calculation_at (k ∷ 3 ∷ 1 ∷ 2 ∷ []) 0) (0 ∷ 8 ∷ 9 ∷ 10 ∷ 11 ∷ 12 ∷ []) ≡ replicate 6 (err_at 0 OutOfRange))
    × (calculation_at (12 ∷ 3 ∷ 1 ∷ 1 ∷ []) 0 ≡ err_at 0 OutOfRange)
unfolding number_at groups_at signed_of header_said header_of modifier_at operation_at calculation_at
codes = (refl, refl, refl, refl, refl, refl, refl, refl, refl, refl, refl, refl, refl, refl, refl)

-- what stands in a sheet, one after the other
pub data Step : Type 0 where
  operation : Operation → Step
  calculation : Calculation → Step
  refused : Refusal → ℕ → Step

-- a calculation and what stands behind it; a refusal ends the list
abbrev pub calculated : (ℕ → List Step) → Body → List Step
calculated next (Ok (k, c)) = calculation k ∷ next c.at
calculated next (Err e) = refused e.refusal e.place ∷ []

-- so many calculations from a place on; nothing may follow
unfoldable pub calculations : ℕ → List ℕ → ℕ → List Step
calculations zero s at = cond (leb (length s) at) [] (refused OutOfRange at ∷ [])
calculations (suc n) s at = calculated (calculations n s) (calculation_at s at)

-- after a run its calculations, after any other operation the next one
abbrev pub operated : List ℕ → (ℕ → List Step) → Decoded → List Step
operated s next (Ok (op.Run register count, c)) = operation (op.Run register count) ∷ calculations count s c.at
operated s next (Ok (op.Open h b, c)) = operation (op.Open h b) ∷ next c.at
operated s next (Ok (op.Dimension d, c)) = operation (op.Dimension d) ∷ next c.at
operated s next (Ok (op.Modifier m, c)) = operation (op.Modifier m) ∷ next c.at
operated s next (Ok (op.End register, c)) = operation (op.End register) ∷ next c.at
operated s next (Err e) = refused e.refusal e.place ∷ []

-- at most so many operations from a place on
unfoldable pub from : ℕ → List ℕ → ℕ → List Step
from zero s at = []
from (suc n) s at = cond (leb (length s) at) [] (operated s (from n s) (operation_at s at))

-- a sheet, which has at most as many operations as bytes
unfoldable pub steps : List ℕ → List Step
steps s = from (length s) s 0

-- "Loop nests": `01 8B 81 01 00 02 01 00 03 02 04 01 01 8B 82 01 08 02 02 00 03 02 04 02 01 8B 03 10 02 03 00 03 02 04 03 05 01 01 01 03 01 02`
pub sheet :
    steps (1 ∷ 139 ∷ 129 ∷ 1 ∷ 0 ∷ 2 ∷ 1 ∷ 0 ∷ 3 ∷ 2 ∷ 4 ∷ 1 ∷ 1 ∷ 139 ∷ 130 ∷ 1 ∷ 8 ∷ 2 ∷ 2 ∷ 0 ∷ 3 ∷ 2 ∷ 4 ∷ 2 ∷ 1 ∷ 139 ∷ 3 ∷ 16 ∷ 2 ∷ 3 ∷ 0 ∷ 3 ∷ 2 ∷ 4 ∷ 3 ∷ 5 ∷ 1 ∷ 1 ∷ 1 ∷ 3 ∷ 1 ∷ 2 ∷ [])
    ≡ operation (op.Open (record { kind = Load; width = B; register = 1; coupling = None }) (record { 0 = pos 0 }))
    ∷ operation (op.Dimension (record { register = 1; offset = record { 0 = pos 0 }; size = 3; stride = record { 0 = pos 1 } }))
    ∷ operation (op.End 1)
    ∷ operation (op.Open (record { kind = Load; width = B; register = 2; coupling = None }) (record { 0 = pos 8 }))
    ∷ operation (op.Dimension (record { register = 2; offset = record { 0 = pos 0 }; size = 3; stride = record { 0 = pos 1 } }))
    ∷ operation (op.End 2)
    ∷ operation (op.Open (record { kind = Store; width = B; register = 3; coupling = None }) (record { 0 = pos 16 }))
    ∷ operation (op.Dimension (record { register = 3; offset = record { 0 = pos 0 }; size = 3; stride = record { 0 = pos 1 } }))
    ∷ operation (op.End 3)
    ∷ operation (op.Run 1 1)
    ∷ calculation (record { task = task.Each action.Add; destination = 3; first = 1; second = 2 })
    ∷ []
unfolding number_at groups_at signed_of header_said header_of open_at dimension_at end_at run_at operation_at calculation_at calculations from steps
sheet = refl

-- an empty sheet; an unknown operation; a modifier; a modifier whose target is out of range, behind an end; a run cut off before its
-- count; a copy of two sources, the second calculation of its run; a byte after a run
pub refused_sheets :
    (steps [] ≡ [])
    × (steps (0 ∷ []) ≡ refused OutOfRange 0 ∷ [])
    × (steps (6 ∷ []) ≡ refused OutOfRange 0 ∷ [])
    × (steps (3 ∷ 1 ∷ 0 ∷ 0 ∷ 1 ∷ 5 ∷ [])
    ≡ operation
    (op.Modifier (record { register = 1; target = 0; parameter = parameter.Size; behaviour = behaviour.Subtract; displacement = 5 }))
    ∷ [])
    × (steps (4 ∷ 1 ∷ 3 ∷ 1 ∷ 7 ∷ 0 ∷ 1 ∷ 5 ∷ []) ≡ operation (op.End 1) ∷ refused OutOfRange 2 ∷ [])
    × (steps (5 ∷ 1 ∷ []) ≡ refused BadNumber 0 ∷ [])
    × (steps (5 ∷ 1 ∷ 2 ∷ 1 ∷ 3 ∷ 1 ∷ 2 ∷ 0 ∷ 3 ∷ 1 ∷ 2 ∷ [])
    ≡ operation (op.Run 1 2)
    ∷ calculation (record { task = task.Each action.Add; destination = 3; first = 1; second = 2 })
    ∷ refused OutOfRange 7
    ∷ [])
    × (steps (5 ∷ 1 ∷ 1 ∷ 0 ∷ 3 ∷ 1 ∷ 1 ∷ 4 ∷ [])
    ≡ operation (op.Run 1 1)
    ∷ calculation (record { task = task.Each action.Copy; destination = 3; first = 1; second = 1 })
    ∷ refused OutOfRange 7
    ∷ [])
unfolding number_at groups_at signed_of header_said header_of open_at dimension_at modifier_at end_at run_at operation_at calculation_at calculations from steps
refused_sheets = (refl, refl, refl, refl, refl, refl, refl, refl)
