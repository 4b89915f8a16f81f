-- Numbers in groups of seven bits.
--
--   above                  a group below the groups that follow it
--   groups_at, not_too_long, number_at   reading a number at a place
--   signed_of, as_signed, signed_at     reading a signed number
--   groups_of, number_bytes  the groups of a number
--   unsigned_of             how a signed number is written
--   Number, Signed          what reading a number, or a signed one, gives
use Rattle.std.specs.Prelude.{ℕ, zero, suc, ◌+◌, ◌-◌, ◌*◌, ◌%◌, ◌/◌, List, [], ◌∷◌, Option, Some, None, cond, drop, ltb, eqb, ℤ, pos, negsuc}
use Rattle.codec.specs.declared.number.Cursor.{Cursor}

-- "hands back the value together with its moved place": a number and the place behind it, or no number
abbrev pub Number : Type 0
Number = Option (ℕ × Cursor)

-- the same for a signed number
abbrev pub Signed : Type 0
Signed = Option (ℤ × Cursor)

-- "lowest group first; the high bit is set on every group but the last", "shortest form only":
-- a group with its high bit set, below the number that the groups after it give; if that is 0 the form is not the shortest
abbrev pub above : ℕ → Number → Number
above b (Some (v, c)) = cond (eqb v 0) None (Some (b - 128 + 128 * v, c))
above b None = None

-- the number that the bytes at a place give, at most n groups of them
unfoldable pub groups_at : ℕ → ℕ → List ℕ → Number
groups_at zero at l = None
groups_at (suc n) at [] = None
groups_at (suc n) at (b ∷ l) = cond (ltb b 128) (Some (b, record { at = at + 1 })) (above b (groups_at n (at + 1) l))

-- "2^32 or more counts as too long"
abbrev pub not_too_long : Number → Number
not_too_long (Some (v, c)) = cond (ltb v 4294967296) (Some (v, c)) None
not_too_long None = None

-- "At most five groups": the number at a place of a sheet
unfoldable pub number_at : List ℕ → ℕ → Number
number_at s at = not_too_long (groups_at 5 at (drop at s))

-- "A signed n is written as 2n if n is 0 or more, else -2n-1": -2n-1 is 2k + 1 for n = -(k + 1)
abbrev pub unsigned_of : ℤ → ℕ
unsigned_of (pos n) = 2 * n
unsigned_of (negsuc k) = 2 * k + 1

-- what a number stands for, read as signed
unfoldable pub signed_of : ℕ → ℤ
signed_of n = cond (eqb (n % 2) 0) (pos (n / 2)) (negsuc (n / 2))

-- an answer read as signed: what its number stands for, with the same place behind it
abbrev pub as_signed : Number → Signed
as_signed (Some (v, c)) = Some (signed_of v, c)
as_signed None = None

-- the signed number at a place of a sheet
abbrev pub signed_at : List ℕ → ℕ → Signed
signed_at s at = as_signed (number_at s at)

-- the groups of v, lowest first, the high bit set on every one but the last; at most n + 1 of them
unfoldable pub groups_of : ℕ → ℕ → List ℕ
groups_of zero v = v ∷ []
groups_of (suc n) v = cond (ltb v 128) (v ∷ []) ((v % 128 + 128) ∷ groups_of n (v / 128))

-- a number below 2^32 as bytes: 127 is 7F, 128 is 80 01
abbrev pub number_bytes : ℕ → List ℕ
number_bytes v = groups_of 4 v
