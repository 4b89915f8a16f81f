-- The rules on a shape's descriptors: low, high, product.
--
--   last_index               the last index of a dimension by its high
--   only                    the modifiers that add, or those that subtract
--   high_at, low_at, highs    high and low, from the outermost dimension inward
--   low_or_high, product      what 8 and 9 look at
use Rattle.std.specs.Prelude.{ℕ, zero, suc, ◌-◌, ◌*◌, max, Bool, true, false, cond, not, ◌||◌, List, [], ◌∷◌, map, ℤ, pos, ◌+ℤ◌, nat_lt, slice_index}
use Rattle.std.specs.Int.Signed.{non_neg}
use Rattle.codec.specs.declared.operation.Parameter.TheVariants.{Size}
use Rattle.codec.specs.declared.operation.Behaviour.{Behaviour}
use Rattle.codec.specs.declared.operation.Behaviour.TheVariants.{Add, Subtract}
use Rattle.engine.specs.Loops.{modifiers_of, added, natural}
use Rattle.engine.specs.declared.stream.Modifier.{Modifier}
use Rattle.engine.specs.declared.stream.Shape.{Shape}

-- "the larger of 1 and the owner's high, less 1"
abbrev pub last_index : ℕ → ℕ
last_index high = max 1 high - 1

-- whether two behaviours are the same
abbrev pub same_behaviour : Behaviour → Behaviour → Bool
same_behaviour Add Add = true
same_behaviour Add Subtract = false
same_behaviour Subtract Add = false
same_behaviour Subtract Subtract = true

-- the modifiers of one behaviour
unfoldable pub only : Behaviour → List Modifier → List Modifier
only b [] = []
only b (m ∷ ms) = cond (same_behaviour m.behaviour b) (m ∷ only b ms) (only b ms)

-- "high = size plus, for each adding size modifier on it, displacement x (the larger of 1 and the owner's high, less 1)":
-- `lasts` are the last indices of the dimensions outside d
abbrev pub high_at : Shape → ℕ → List ℕ → ℕ
high_at s d lasts = natural (pos (slice_index s.sizes d) +ℤ added Size d lasts (only Add (modifiers_of s)))

-- "low = size less the same over subtracting ones"
abbrev pub low_at : Shape → ℕ → List ℕ → ℤ
low_at s d lasts = pos (slice_index s.sizes d) +ℤ added Size d lasts (only Subtract (modifiers_of s))

-- "from the outermost dimension inward": the highs of n dimensions from d on, innermost first
unfoldable pub highs : Shape → ℕ → ℕ → List ℕ
highs s d zero = []
highs s d (suc n) = high_at s d (map last_index (highs s (suc d) n)) ∷ highs s (suc d) n

-- "Low below 0 or high above 4,096 is refused", of n dimensions from d on
unfoldable pub low_or_high_from : Shape → ℕ → ℕ → Bool
low_or_high_from s d zero = false
low_or_high_from s d (suc n) =
    not (non_neg (low_at s d (map last_index (highs s (suc d) n))))
    || nat_lt 4096 (high_at s d (map last_index (highs s (suc d) n)))
    || low_or_high_from s (suc d) n

-- "Low below 0 or high above 4,096 is refused": of all dimensions of a shape
abbrev pub low_or_high : Shape → Bool
low_or_high s = low_or_high_from s 0 s.dims

-- "a product over all dimensions of the larger of 1 and high"
unfoldable pub product : List ℕ → ℕ
product [] = 1
product (h ∷ hs) = max 1 h * product hs

-- the highs of all dimensions of a shape, innermost first
abbrev pub highs_of : Shape → List ℕ
highs_of s = highs s 0 s.dims
