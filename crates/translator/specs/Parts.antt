-- A nest read part by part, as the code keeps its parts.
--
--   within, number_within, signed_within    a number that has to be in a range
--   part_of                  a nest with the place behind it, or a refusal
--   ReadAccess, side_of, strides_at, access_at   an access read by itself
use Rattle.std.specs.Prelude.{ℕ, zero, suc, List, Bool, ℤ, Option, Result, Ok, Err}
use Rattle.codec.specs.Numbers.{number_at, signed_at}
use Rattle.codec.specs.Operations.{field, is_reach}
use Rattle.codec.specs.Refusals.{err_at}
use Rattle.codec.specs.declared.number.Cursor.{Cursor}
use Rattle.codec.specs.declared.refusal.Refusal.{Refusal}
use Rattle.codec.specs.declared.refusal.Refused.{Refused}
use Rattle.translator.specs.Fields.{between, holds, with_base, with_stride}
use Rattle.translator.specs.Reading.{Read, up_to, refused}
use Rattle.translator.specs.declared.nest.Access.{Access}
use Rattle.translator.specs.declared.nest.Nest.{Nest}

-- "Refusals 1 and 2 number by number .., the place being the first byte of the number": a number that has to be allowed, with the place
-- behind it, or its refusal
abbrev pub within : {N : Type 0} → Option (N × Cursor) → (N → Bool) → ℕ → Result (N × Cursor) Refused
within n allowed at = field (err_at at) n allowed λ v to. Ok (v, record { at = to })

-- the number at a place
abbrev pub number_within : List ℕ → ℕ → (ℕ → Bool) → Result (ℕ × Cursor) Refused
number_within s at allowed = within (number_at s at) allowed at

-- the signed number at a place, in the range of a stride
abbrev pub signed_within : List ℕ → ℕ → Result (ℤ × Cursor) Refused
signed_within s at = within (signed_at s at) is_reach at

-- what the code says of a nest that it reads: the nest and the cursor behind its numbers, or a refusal
abbrev pub part_of : Result (Nest × Cursor) Refused → Read
part_of (Ok (m, c)) = up_to m c.at
part_of (Err r) = refused r.refusal r.place

-- an access read, with the place behind it, or a refusal and its place
pub data ReadAccess : Type 0 where
  read : Access → ℕ → ReadAccess
  unread : Refusal → ℕ → ReadAccess

-- what the code says of an access that it reads: the access and the cursor behind its numbers, or a refusal
abbrev pub side_of : Result (Access × Cursor) Refused → ReadAccess
side_of (Ok (a, c)) = read a c.at
side_of (Err r) = unread r.refusal r.place

-- the strides for n loops from d on, read from a place on and put into an access
unfoldable pub strides_at : List ℕ → ℕ → ℕ → ℕ → Access → ReadAccess
strides_at s d zero at a = read a at
strides_at s d (suc n) at a = field (λ x. unread x at) (signed_at s at) is_reach λ z to. strides_at s (suc d) n to (with_stride d z a)

-- a base and the strides for n loops, read from a place on and put into an access
unfoldable pub access_at : List ℕ → ℕ → ℕ → Access → ReadAccess
access_at s n at a = field (λ x. unread x at) (number_at s at) (holds (between 0 1048576)) λ b to. strides_at s 0 n to (with_base b a)
