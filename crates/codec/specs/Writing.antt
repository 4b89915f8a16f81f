-- Writing numbers, header words, operations and calculations into a lent slice.
--
--   is_number, is_signed     which numbers can be written
--   ready                    the bytes that are ready to be written
--   written_to, bytes_after  the answer and the slice after
use Rattle.std.specs.Prelude.{ℕ, ◌+◌, List, Bool, cond, ltb, leb, ℤ, length, Option, Some, None, Result, Ok, Err}
use Rattle.std.proofs.lemmas.List.Edits.{sets}
use Rattle.std.specs.Int.Signed.{mag}
use Rattle.codec.specs.declared.writing.Unwritten.{Unwritten}
use Rattle.codec.specs.declared.writing.Unwritten.TheVariants.{NoRoom, OutOfRange}

-- a number that can be written: "2^32 or more counts as too long"
abbrev pub is_number : ℕ → Bool
is_number v = ltb v 4294967296

-- a signed number that can be written, -2^31 to 2^31 - 1: `mag` is n for n and for -(n + 1)
abbrev pub is_signed : ℤ → Bool
is_signed z = ltb (mag z) 2147483648

-- whether it is in range and the bytes: the bytes that are ready to be written, none if it is not in range
abbrev pub ready : Bool → List ℕ → Option (List ℕ)
ready in_range bytes = cond in_range (Some bytes) None

-- whether it is in range, the bytes, their place and the length of the slice: the place behind them, or why nothing was written
unfoldable pub written_to : Bool → List ℕ → ℕ → ℕ → Result ℕ Unwritten
written_to in_range bytes at size = cond in_range (cond (leb (at + length bytes) size) (Ok (at + length bytes)) (Err NoRoom)) (Err OutOfRange)

-- whether it is in range, the bytes, the slice before and the place: the slice after, as it was if nothing was written
unfoldable pub bytes_after : Bool → List ℕ → List ℕ → ℕ → List ℕ
bytes_after in_range bytes buf at = cond in_range (cond (leb (at + length bytes) (length buf)) (sets buf at bytes) buf) buf
