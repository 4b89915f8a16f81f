-- What is made of all lanes of a row: lanes taken two by two, sums, and that each answer is a lane.
--
--   Narrow                           every lane is a number of n bits
--   foldl-small                      lanes taken two by two give a lane
--   sum-none, sum-exact, sum-small   the sum of no lanes; of any, less a multiple of 2^n; below 2^n
--   foldl-sum, sum-foldl             the sum, lane by lane
--   folding-sum, folding-added       the sum of the sums of any cutting
--   first-most                       a number's place is at most the length of the list
--   extreme-small, lanewise-small, folded-small, outcome-small   what is made of lanes is a lane
--   all_four                          rows computed
--
-- The smallest and the largest are in ExtremeLaws, the lane of the first largest in FirstLaws.
use Rattle.std.specs.Prelude.{◌≡◌, ℕ, zero, suc, ◌+◌, ◌*◌, ◌/◌, ◌%◌, ◌^◌, ◌<◌, ◌≤◌, Bool, true, false, cond, List, [], ◌∷◌, ◌++◌, map, length, ◌==◌, slice_index}
use Rattle.std.proofs.Math.Path.{refl, ap}
use Rattle.std.proofs.Common.{sym, ◌∙◌, arith, zero-add, add-zero, add_assoc, mod-lt, mod-eq_of_lt, pow_mono}
use mathlib.Core.List.{foldl}
use Rattle.std.proofs.Math.Nat.{zero-mod, mod-add-mod, add-mod-mod, mod-add-div}
use Rattle.std.proofs.Math.Pow.{pow_pos}
use Rattle.codec.specs.declared.operation.Action.{Action}
use Rattle.codec.specs.declared.operation.Action.TheVariants.{Add, Smaller, Larger}
use Rattle.codec.specs.declared.operation.Fold.{Fold}
use Rattle.codec.specs.declared.operation.Fold.TheVariants.{Sum, Smallest, Largest, FirstLargest}
use Rattle.codec.specs.declared.operation.Task.{Task}
use Rattle.codec.specs.declared.operation.Task.TheVariants.{Each, All}
use Rattle.engine.specs.Loops.{join}
use Rattle.engine.specs.Lanes.{lane, lanewise, sum, extreme, first_at, folded, outcome}
use Rattle.engine.specs.LaneLaws.{lane-small}

-- every lane is a number of n bits
abbrev pub Narrow : ℕ → List ℕ → Type 0
Narrow n xs = (k : ℕ) → slice_index xs k < 2 ^ n

-- ---- lanes taken two by two

-- lanes of n bits taken two by two give a lane of n bits
pub foldl-small : (action : Action) (n a : ℕ) (xs : List ℕ) → a < 2 ^ n → Narrow n xs → foldl (lane action n) a xs < 2 ^ n
foldl-small action n a [] p h = p
foldl-small action n a (x ∷ xs) p h = foldl-small action n (lane action n a x) xs (lane-small action n a x p (h 0)) (λ j. h (suc j))

-- ---- sums

-- the sum of two rows joined
sum-append : (xs ys : List ℕ) → sum (xs ++ ys) ≡ sum xs + sum ys
unfolding sum
sum-append [] ys = omega arith
sum-append (x ∷ xs) ys = omega (arith, sum-append xs ys)

module _ (n : ℕ) where
  -- 02, 2/14: "A sum over no lanes is 0"
  pub sum-none : folded Sum n [] ≡ 0
  unfolding sum
  sum-none = zero-mod (2 ^ n)

  -- "sum modulo the width": below 2^n, and the sum less a multiple of 2^n
  pub sum-exact : (xs : List ℕ) → (folded Sum n xs < 2 ^ n) × (folded Sum n xs + 2 ^ n * (sum xs / 2 ^ n) ≡ sum xs)
  sum-exact xs = (mod-lt (sum xs) (pow_pos n), mod-add-div (sum xs) (2 ^ n))

  -- a sum below 2^n is the sum itself
  pub sum-small : (xs : List ℕ) → sum xs < 2 ^ n → folded Sum n xs ≡ sum xs
  sum-small xs h = mod-eq_of_lt h

  -- lanes added to a one by one, each time modulo the width
  pub foldl-sum : (a : ℕ) (xs : List ℕ) → a < 2 ^ n → foldl (lane Add n) a xs ≡ (a + sum xs) % 2 ^ n
  unfolding sum
  foldl-sum a [] h = rw (add-zero a) (sym (mod-eq_of_lt h))
  foldl-sum a (x ∷ xs) h =
      foldl-sum ((a + x) % 2 ^ n) xs (mod-lt (a + x) (pow_pos n)) ∙ mod-add-mod (a + x) (2 ^ n) (sum xs) ∙ ap (λ s. s % 2 ^ n) (add_assoc a x (sum xs))

  -- the sum is the lanes added to 0 one by one
  pub sum-foldl : (xs : List ℕ) → folded Sum n xs ≡ foldl (lane Add n) 0 xs
  sum-foldl xs = rw (foldl-sum 0 xs (pow_pos n), zero-add (sum xs))

  -- 02, 2/14: "folding the partial sums of any cutting gives the whole row's sum"
  pub folding-sum : (xss : List (List ℕ)) → folded Sum n (join xss) ≡ folded Sum n (map (folded Sum n) xss)
  unfolding sum join
  folding-sum [] = refl
  folding-sum (xs ∷ xss) =
      rw (sum-append xs (join xss), mod-add-mod (sum xs) (2 ^ n), ← add-mod-mod (sum xs) (sum (join xss)), folding-sum xss)
      (add-mod-mod (sum xs) (sum (map (folded Sum n) xss)) (2 ^ n))

  -- .. the sums added to 0 one by one
  pub folding-added : (xss : List (List ℕ)) → folded Sum n (join xss) ≡ foldl (lane Add n) 0 (map (folded Sum n) xss)
  folding-added xss = folding-sum xss ∙ sum-foldl (map (folded Sum n) xss)

-- ---- each answer is a lane

-- a number stands at the length of the list at most
pub first-most : (x : ℕ) (xs : List ℕ) → first_at x xs ≤ length xs
unfolding first_at
first-most x [] = omega arith
first-most x (y ∷ ys) = go (y == x) (first-most x ys)
  where
    go : (b : Bool) → first_at x ys ≤ length ys → cond b 0 (suc (first_at x ys)) ≤ suc (length ys)
    go true h = omega arith
    go false h = omega arith

module _ (n : ℕ) where
  -- the lane that is left of lanes of n bits has n bits
  pub extreme-small : (action : Action) (xs : List ℕ) → Narrow n xs → extreme action n xs < 2 ^ n
  unfolding extreme
  extreme-small action [] h = pow_pos n
  extreme-small action (x ∷ xs) h = foldl-small action n x xs (h 0) (λ j. h (suc j))

  -- an operation lane by lane on lanes of n bits gives lanes of n bits
  pub lanewise-small : (action : Action) (xs ys : List ℕ) → Narrow n xs → Narrow n ys → Narrow n (lanewise (lane action n) xs ys)
  unfolding lanewise
  lanewise-small action [] ys p q k = p k
  lanewise-small action (x ∷ xs) [] p q k = q k
  lanewise-small action (x ∷ xs) (y ∷ ys) p q zero = lane-small action n x y (p 0) (q 0)
  lanewise-small action (x ∷ xs) (y ∷ ys) p q (suc k) = lanewise-small action xs ys (λ j. p (suc j)) (λ j. q (suc j)) k

  module _ (byte : 8 ≤ n) where
    -- what is made of at most 64 lanes of n bits, a byte or more, is a lane of n bits: a place, too, is below 2^8
    pub folded-small : (fold : Fold) (xs : List ℕ) → length xs ≤ 64 → Narrow n xs → folded fold n xs < 2 ^ n
    folded-small Sum xs l h = mod-lt (sum xs) (pow_pos n)
    folded-small Smallest xs l h = extreme-small Smaller xs h
    folded-small Largest xs l h = extreme-small Larger xs h
    folded-small FirstLargest xs l h = omega (arith, first-most (extreme Larger n xs) xs, pow_mono {i = 8} {j = n} byte)

    -- so are the lanes that a calculation gives
    pub outcome-small : (t : Task) (xs ys : List ℕ) → length xs ≤ 64 → Narrow n xs → Narrow n ys → Narrow n (outcome t n xs ys)
    outcome-small (Each action) xs ys l p q k = lanewise-small action xs ys p q k
    outcome-small (All fold) xs ys l p q zero = folded-small fold xs l p
    outcome-small (All fold) xs ys l p q (suc k) = pow_pos n

-- ---- computed

-- all that is made of a row: the sum, the smallest, the largest, the lane of the first largest
abbrev all_four : ℕ → List ℕ → List ℕ
all_four n xs = map (λ fold. folded fold n xs) (Sum ∷ Smallest ∷ Largest ∷ FirstLargest ∷ [])

-- bytes: 200 + 100 is 44; 200 stands for -56
bytes-200-100 : all_four 8 (200 ∷ 100 ∷ []) ≡ 44 ∷ 200 ∷ 100 ∷ 1 ∷ []
unfolding sum extreme first_at
bytes-200-100 = refl

-- bytes: of 80h, 01h and 7fh the smallest is 80h, the largest 7fh
bytes-80-01-7f : all_four 8 (128 ∷ 1 ∷ 127 ∷ []) ≡ 0 ∷ 128 ∷ 127 ∷ 2 ∷ []
unfolding sum extreme first_at
bytes-80-01-7f = refl

-- bytes: of 3, 7 and 7 the first largest is in lane 1
bytes-3-7-7 : all_four 8 (3 ∷ 7 ∷ 7 ∷ []) ≡ 17 ∷ 3 ∷ 7 ∷ 1 ∷ []
unfolding sum extreme first_at
bytes-3-7-7 = refl

-- bytes: of 80h, ffh and 80h it is ffh, which stands for -1
bytes-80-ff-80 : all_four 8 (128 ∷ 255 ∷ 128 ∷ []) ≡ 255 ∷ 128 ∷ 255 ∷ 1 ∷ []
unfolding sum extreme first_at
bytes-80-ff-80 = refl

-- two bytes: 255 + 1 is 256; 255 stands for itself
pairs-255-1 : all_four 16 (255 ∷ 1 ∷ []) ≡ 256 ∷ 1 ∷ 255 ∷ 0 ∷ []
unfolding sum extreme first_at
pairs-255-1 = refl

-- two bytes: 7fffh, 8000h, ffffh and 7fffh
pairs-7fff-8000-ffff-7fff : all_four 16 (32767 ∷ 32768 ∷ 65535 ∷ 32767 ∷ []) ≡ 32765 ∷ 32768 ∷ 32767 ∷ 0 ∷ []
unfolding sum extreme first_at
pairs-7fff-8000-ffff-7fff = refl

-- no lanes
bytes-none : folded Sum 8 [] ≡ 0
unfolding sum
bytes-none = refl
