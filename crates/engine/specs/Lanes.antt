-- What a calculation does to two lanes, and to all lanes of a row.
--
--   raised        a lane moved up, so that two's complement order becomes plain order
--   lane          the operation on two lanes
--   lanewise      the operation lane by lane
--   sum, extreme, first_at   the sum of numbers; the lane left of a row; the place of a number
--   folded        what is made of all lanes of a row
--   outcome, outcome_count, wants_lanes   the lanes of a calculation; how many; whether it wants any
use Rattle.std.specs.Prelude.{ℕ, suc, ◌+◌, ◌-◌, ◌%◌, ◌^◌, Bool, true, false, cond, List, [], ◌∷◌, ◌==◌, bit_and, bit_or, bit_xor, nat_lt}
use mathlib.Core.List.{foldl, foldr}
use Rattle.codec.specs.declared.operation.Action.{Action}
use Rattle.codec.specs.declared.operation.Action.TheVariants.{Copy, Add, Subtract, And, Or, Xor, Smaller, Larger}
use Rattle.codec.specs.declared.operation.Fold.{Fold}
use Rattle.codec.specs.declared.operation.Fold.TheVariants.{Sum, Smallest, Largest, FirstLargest}
use Rattle.codec.specs.declared.operation.Task.{Task}
use Rattle.codec.specs.declared.operation.Task.TheVariants.{Each, All}

-- a lane of n bits moved up by half its range: two's complement order becomes plain order
abbrev pub raised : ℕ → ℕ → ℕ
raised n a = (a + 2 ^ (n - 1)) % 2 ^ n

-- "Add and subtract wrap at the element width; 6 and 7 read lanes as two's complement": the operation on two lanes of n bits. Before
-- b is subtracted, 2^n is added, so that nothing goes below 0
abbrev pub lane : Action → ℕ → ℕ → ℕ → ℕ
lane Copy n a b = a
lane Add n a b = (a + b) % 2 ^ n
lane Subtract n a b = (a + 2 ^ n - b) % 2 ^ n
lane And n a b = bit_and a b
lane Or n a b = bit_or a b
lane Xor n a b = bit_xor a b
lane Smaller n a b = cond (nat_lt (raised n b) (raised n a)) b a
lane Larger n a b = cond (nat_lt (raised n a) (raised n b)) b a

-- an operation on two rows of lanes, lane by lane
unfoldable pub lanewise : (ℕ → ℕ → ℕ) → List ℕ → List ℕ → List ℕ
lanewise f [] ys = []
lanewise f (x ∷ xs) [] = []
lanewise f (x ∷ xs) (y ∷ ys) = f x y ∷ lanewise f xs ys

-- ---- all lanes of a row

-- the sum of numbers
unfoldable pub sum : List ℕ → ℕ
sum xs = foldr ◌+◌ 0 xs

-- the lane that is left of a row of n-bit lanes, taken two by two: the first with the second, what is left with the third, and so on; of
-- no lanes 0, which no calculation gives (18)
unfoldable pub extreme : Action → ℕ → List ℕ → ℕ
extreme action n [] = 0
extreme action n (x ∷ xs) = foldl (lane action n) x xs

-- the first place, counted from 0, where x stands; the length of the list if it stands nowhere
unfoldable pub first_at : ℕ → List ℕ → ℕ
first_at x [] = 0
first_at x (y ∷ ys) = cond (y == x) 0 (suc (first_at x ys))

-- 02, 2/14: "sum modulo the width, signed smallest, signed largest, and the lane of the first largest": of a row of n-bit lanes. "A sum
-- over no lanes is 0"
abbrev pub folded : Fold → ℕ → List ℕ → ℕ
folded Sum n xs = sum xs % 2 ^ n
folded Smallest n xs = extreme Smaller n xs
folded Largest n xs = extreme Larger n xs
folded FirstLargest n xs = first_at (extreme Larger n xs) xs

-- ---- a calculation's lanes

-- from those of its sources, of n bits: lane by lane; 02, 2/14: "over all valid lanes of one source", "a single lane"
abbrev pub outcome : Task → ℕ → List ℕ → List ℕ → List ℕ
outcome (Each action) n xs ys = lanewise (lane action n) xs ys
outcome (All fold) n xs ys = folded fold n xs ∷ []

-- how many lanes the destination takes where each source has n: n; 02, 2/14: "the destination takes a single lane"
abbrev pub outcome_count : Task → ℕ → ℕ
outcome_count (Each action) n = n
outcome_count (All fold) n = 1

-- 02, 2/14: "no lanes for smallest, largest or first largest": these want a lane at least
abbrev pub wants_lanes : Task → Bool
wants_lanes (Each action) = false
wants_lanes (All Sum) = false
wants_lanes (All Smallest) = true
wants_lanes (All Largest) = true
wants_lanes (All FirstLargest) = true
