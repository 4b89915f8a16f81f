-- The rules on a nest's numbers: 6, 8 and 9.
--
--   nonzero, nonzero_for, nonzero_from   how many terms are not 0
--   adding, subtracting, total         what the terms of a loop add, and what they subtract, at given outer indices
--   high_with, highs_from, highs_of       high, from the outermost loop inward
--   lasts_outside, high_of, less_of       high of one loop, and what low is less than its count
--   low_or_high, checks_of                the checks, in order
use Rattle.std.specs.Prelude.{ℕ, zero, suc, ◌+◌, ◌*◌, List, [], ◌∷◌, map, Bool, false, ◌||◌, get_or, drop, ltb, ℤ, pos, negsuc}
use Rattle.codec.specs.declared.refusal.Refusal.TheVariants.{TooMany, LowHigh, Product}
use Rattle.engine.specs.Rules.{last_index, product}
use Rattle.engine.specs.Checks.{Check, ◌if◌}
use Rattle.translator.specs.Fields.{term_of}
use Rattle.translator.specs.declared.nest.Nest.{Nest}

-- ---- 6

-- 1 for a nonzero term
abbrev pub nonzero : ℤ → ℕ
nonzero (pos zero) = 0
nonzero (pos (suc n)) = 1
nonzero (negsuc n) = 1

-- how many of the terms for loop o, of n loops from t on inside it, are not 0
unfoldable pub nonzero_for : Nest → ℕ → ℕ → ℕ → ℕ
nonzero_for m o t zero = 0
nonzero_for m o t (suc n) = nonzero (term_of m t o) + nonzero_for m o (suc t) n

-- how many terms for n loops from o on, of all loops inside each, are not 0
unfoldable pub nonzero_from : Nest → ℕ → ℕ → ℕ
nonzero_from m o zero = 0
nonzero_from m o (suc n) = nonzero_for m o 0 o + nonzero_from m (suc o) n

-- "a size modifier .. for each nonzero term": how many terms of a nest are not 0
abbrev pub nonzero_of : Nest → ℕ
nonzero_of m = nonzero_from m 0 m.loops

-- ---- 8 and 9

-- what a term adds: nothing if it is negative
abbrev pub adding : ℤ → ℕ
adding (pos n) = n
adding (negsuc n) = 0

-- what a term subtracts: nothing if it is not negative
abbrev pub subtracting : ℤ → ℕ
subtracting (pos n) = 0
subtracting (negsuc n) = suc n

-- the sum, over the terms of loop t for the loops from o on, of what f takes of a term times what a list has for that loop
unfoldable pub total : (ℤ → ℕ) → Nest → ℕ → ℕ → List ℕ → ℕ
total f m t o [] = 0
total f m t o (k ∷ ks) = f (term_of m t o) * k + total f m t (suc o) ks

-- "high = size plus, for each adding size modifier on it, displacement x (the larger of 1 and the owner's high, less 1)": `lasts` are
-- these for the loops outside t
abbrev pub high_with : Nest → ℕ → List ℕ → ℕ
high_with m t lasts = get_or m.counts t 0 + total adding m t (suc t) lasts

-- "low = size less the same over subtracting ones": what is subtracted from the size of loop t
abbrev pub less_with : Nest → ℕ → List ℕ → ℕ
less_with m t lasts = total subtracting m t (suc t) lasts

-- "from the outermost dimension inward": the highs of n loops from t on, innermost first
unfoldable pub highs_from : Nest → ℕ → ℕ → List ℕ
highs_from m t zero = []
highs_from m t (suc n) = high_with m t (map last_index (highs_from m (suc t) n)) ∷ highs_from m (suc t) n

-- the highs of all loops of a nest, innermost first
abbrev pub highs_of : Nest → List ℕ
highs_of m = highs_from m 0 m.loops

-- the last indices of the loops outside t, by their highs
abbrev pub lasts_outside : Nest → ℕ → List ℕ
lasts_outside m t = map last_index (drop (suc t) (highs_of m))

-- "high = size plus, for each adding size modifier on it, displacement x ..": of loop t
abbrev pub high_of : Nest → ℕ → ℕ
high_of m t = high_with m t (lasts_outside m t)

-- "low = size less the same over subtracting ones": what is subtracted, of loop t
abbrev pub less_of : Nest → ℕ → ℕ
less_of m t = less_with m t (lasts_outside m t)

-- "Low below 0 or high above 4,096 is refused", of n loops from t on
unfoldable pub low_or_high_from : Nest → ℕ → ℕ → Bool
low_or_high_from m t zero = false
low_or_high_from m t (suc n) =
    ltb (get_or m.counts t 0) (less_with m t (map last_index (highs_from m (suc t) n)))
    || ltb 4096 (high_with m t (map last_index (highs_from m (suc t) n)))
    || low_or_high_from m (suc t) n

-- "Low below 0 or high above 4,096 is refused": of all loops of a nest
abbrev pub low_or_high : Nest → Bool
low_or_high m = low_or_high_from m 0 m.loops

-- "then 6, 8, 9": more than eight nonzero terms, the rule on low and high, the product rule
abbrev pub checks_of : Nest → List Check
checks_of m =
    TooMany if ltb 8 (nonzero_of m)
    ∷ LowHigh if low_or_high m
    ∷ Product if ltb 1048576 (product (highs_of m))
    ∷ []
