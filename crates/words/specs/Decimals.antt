-- Decimal numbers in text.
--   is_digit b      == b is one of the bytes `0` to `9`
--   are_digits s    == every byte of s is
--   value_of v s    == the number whose digits are those of v and then those of s
--   digits_from v s == what the digits s say behind those of v: a number, at most 4,294,967,295, or none
--   decimal_of s    == what the text s says
use Rattle.std.specs.Prelude.{ℕ, ◌+◌, ◌-◌, ◌*◌, min, Bool, true, cond, ◌&&◌, Option, Some, None, List, [], ◌∷◌, nat_le}

-- a byte that is one of the digits `0` to `9`
abbrev pub is_digit : ℕ → Bool
is_digit b = nat_le 48 b && nat_le b 57

-- every byte of a text is a digit
unfoldable pub are_digits : List ℕ → Bool
are_digits [] = true
are_digits (b ∷ l) = is_digit b && are_digits l

-- the number whose digits are those of v and then those of a text
unfoldable pub value_of : ℕ → List ℕ → ℕ
value_of v [] = v
value_of v (b ∷ l) = value_of (v * 10 + (b - 48)) l

-- what the digits of a text say behind those of v: a number, at most 4,294,967,295, or none
unfoldable pub digits_from : ℕ → List ℕ → Option ℕ
digits_from v s = cond (are_digits s) (Some (min (value_of v s) 4294967295)) None

-- what a text says: one or more digits, and nothing else; a number above 4,294,967,295 is read as that
unfoldable pub decimal_of : List ℕ → Option ℕ
decimal_of [] = None
decimal_of (b ∷ l) = digits_from 0 (b ∷ l)
