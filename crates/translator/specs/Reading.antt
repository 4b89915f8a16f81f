-- A nest read from bytes, and written.
--
--   Read, read_from         number by number
--   Nested, nest_at         a nest, or its refusal: 1 and 2, then 6, 8, 9
--   nested_of               what the code says of it
--   numbers_bytes, nest_bytes   a nest's bytes
use Rattle.std.specs.Prelude.{ℕ, List, [], ◌∷◌, ◌++◌, cond, length, ltb, Result, Ok, Err}
use Rattle.codec.specs.Numbers.{number_at, number_bytes}
use Rattle.codec.specs.Operations.{field}
use Rattle.codec.specs.declared.refusal.Refusal.{Refusal}
use Rattle.codec.specs.declared.refusal.Refusal.TheVariants.{OutOfRange}
use Rattle.codec.specs.declared.refusal.Refused.{Refused}
use Rattle.engine.specs.Checks.{first_of, Why}
use Rattle.translator.specs.Fields.{Field, head_fields, rest_fields, fields_of, range_of, holds, no_nest, put, number_in}
use Rattle.translator.specs.NestRules.{checks_of}
use Rattle.translator.specs.declared.nest.Nest.{Nest}

-- ---- reading

-- a nest into which numbers were read, with the place behind them, or a refusal and its place
pub data Read : Type 0 where
  up_to : Nest → ℕ → Read
  refused : Refusal → ℕ → Read

-- "Refusals 1 and 2 number by number .., the place being the first byte of the number": the numbers of these fields from a place on,
-- put into a nest
unfoldable pub read_from : List ℕ → List Field → ℕ → Nest → Read
read_from s [] at m = up_to m at
read_from s (f ∷ fs) at m = field (λ x. refused x at) (number_at s at) (holds (range_of m.loops f)) λ n to. read_from s fs to (put f n m)

-- what follows on numbers that were read; a refusal stays
abbrev pub on_read : {A : Type 0} → (Refusal → ℕ → A) → Read → (Nest → ℕ → A) → A
on_read refuse (up_to m at) next = next m at
on_read refuse (refused x at) next = refuse x at

-- a nest, or its refusal and the place
pub data Nested : Type 0 where
  nest : Nest → Nested
  refused : Refusal → ℕ → Nested

-- "then 6, 8, 9, the place being .. else 0"
abbrev pub unless : Why → Nest → Nested
unless (Ok u) m = nest m
unless (Err x) m = refused x 0

-- "bytes after .. a nest", "the first byte too many", then the rules
abbrev pub whole_at : List ℕ → Nest → ℕ → Nested
whole_at s m at = cond (ltb at (length s)) (refused OutOfRange at) (unless (first_of (checks_of m)) m)

-- the nest that bytes are
unfoldable pub nest_at : List ℕ → Nested
nest_at s =
    on_read refused (read_from s head_fields 0 no_nest) λ m at.
    on_read refused (read_from s (rest_fields m.loops) at m) λ m at.
    whole_at s m at

-- what the code says of a nest that it read: the nest, or a refusal
abbrev pub nested_of : Result Nest Refused → Nested
nested_of (Ok m) = nest m
nested_of (Err r) = refused r.refusal r.place

-- ---- writing

-- the numbers of a nest's fields as bytes, one after the other
unfoldable pub numbers_bytes : Nest → List Field → List ℕ
numbers_bytes m [] = []
numbers_bytes m (f ∷ fs) = number_bytes (number_in f m) ++ numbers_bytes m fs

-- a nest's bytes: all its numbers, in order
unfoldable pub nest_bytes : Nest → List ℕ
nest_bytes m = numbers_bytes m (fields_of m.loops)
