-- The checks of a shape by itself, for any shape whatever.
--
--   too_large, far_moved, misplaced_in     a size, a displacement or a place of a modifier out of range
--   shape_checks, check_shape             the checks, and the first that applies
use Rattle.std.specs.Prelude.{ℕ, Bool, ◌||◌, List, [], ◌∷◌, ◌==◌, nat_le, nat_lt}
use Rattle.std.specs.List.{list_any}
use Rattle.codec.specs.declared.refusal.Refusal.TheVariants.{OutOfRange, TooMany, Misplaced, LowHigh, Product}
use Rattle.engine.specs.Loops.{modifiers_of}
use Rattle.engine.specs.Rules.{low_or_high, highs_of, product}
use Rattle.engine.specs.Checks.{Check, ◌if◌, first_of, Why}
use Rattle.engine.specs.declared.stream.Modifier.{Modifier}
use Rattle.engine.specs.declared.stream.Shape.{Shape}

-- "dimension size | 0 to 4,096": a size is out of that range
abbrev pub too_large : ℕ → Bool
too_large size = nat_lt 4096 size

-- "displacement of a modifier | 0 to 1,048,576": a displacement is out of that range
abbrev pub far_moved : Modifier → Bool
far_moved m = nat_lt 1048576 m.displacement

-- "target not below its owner", or its owner is none of the dimensions: of a modifier in a shape of so many
abbrev pub misplaced_in : ℕ → Modifier → Bool
misplaced_in dims m = nat_le m.owner m.target || nat_le dims m.owner

-- 6, then 2, 7, 8, 9. 6 stands first, so that the others look at entries that are there; all seven sizes are looked at, the unused too;
-- the coupling is not, since no size and no index depends on it
abbrev pub shape_checks : Shape → List Check
shape_checks s =
    TooMany if (nat_lt 7 s.dims || nat_lt 8 s.mods)
    ∷ OutOfRange if (list_any too_large s.sizes || list_any far_moved (modifiers_of s))
    ∷ Misplaced if (s.dims == 0 || list_any (misplaced_in s.dims) (modifiers_of s))
    ∷ LowHigh if low_or_high s
    ∷ Product if nat_lt 1048576 (product (highs_of s))
    ∷ []

-- why a shape is refused, if it is
unfoldable pub check_shape : Shape → Why
check_shape s = first_of (shape_checks s)
