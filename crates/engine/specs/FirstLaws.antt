-- The lane of the first largest of a row, and of its parts.
--
--   first-stands              a member of a list stands at its first place
--   first-front, first-behind the first place in two lists joined
--   first-value               the lane of the first largest is one of the row's, and holds the largest
--   FirstOf, first-largest    none is larger, and each before it is smaller
--   folding-first             of two rows joined
--   Best, best_of, join_best    lanes, largest and first largest: of a row; of two parts, from theirs
--   folding-best              of any parts
use Rattle.std.specs.Prelude.{◌≡◌, ℕ, zero, suc, ◌+◌, ◌<◌, ◌≤◌, Bool, true, false, cond, List, [], ◌∷◌, ◌++◌, map, length, ◌≤ℤ◌, ◌<ℤ◌, ◌==◌, nat_lt, slice_index, refl}
use Rattle.std.proofs.Common.{sym, ◌∙◌, arith, eqb-true, ne_eqb}
use Rattle.std.proofs.Math.Path.{ap}
use mathlib.Core.List.{foldl, append-nil, append_assoc}
use Rattle.std.proofs.Math.ListN.{length-append}
use Rattle.std.proofs.lemmas.Bool.{eqb-false}
use Rattle.codec.specs.TestLaws.{never}
use Rattle.codec.specs.declared.operation.Action.TheVariants.{Larger}
use Rattle.codec.specs.declared.operation.Fold.TheVariants.{Largest, FirstLargest}
use Rattle.engine.specs.Loops.{join}
use Rattle.engine.specs.Members.{Each, Member}
use Rattle.engine.specs.Lanes.{raised, lane, extreme, first_at, folded}
use Rattle.engine.specs.SignedLaws.{twos}
use Rattle.engine.specs.FoldLaws.{Narrow, extreme-small}
use Rattle.engine.specs.ChoiceLaws.{Chooses, larger-chooses, takes_first, takes-second, foldl-before}
use Rattle.engine.specs.ExtremeLaws.{extreme-member, extreme-stays, extreme-append, NoneEmpty, less, largest-greatest}

-- ---- the first place of a number

-- a member stands at its first place
pub first-stands : (x : ℕ) (xs : List ℕ) → Member 0 x xs → (first_at x xs < length xs) × (slice_index xs (first_at x xs) ≡ x)
unfolding first_at
first-stands x [] (j, h, e) = absurd (omega arith)
first-stands x (y ∷ ys) m = go (y == x) refl (first-stands x ys) m
  where
    go : (b : Bool) → (y == x) ≡ b → (Member 0 x ys → (first_at x ys < length ys) × (slice_index ys (first_at x ys) ≡ x))
        → Member 0 x (y ∷ ys) → (cond b 0 (suc (first_at x ys)) < suc (length ys)) × (slice_index (y ∷ ys) (cond b 0 (suc (first_at x ys))) ≡ x)
    go true p r m = (omega arith, eqb-true y x p)
    go false p r (zero, h, e) = absurd (eqb-false y x p e)
    go false p r (suc j, h, e) = let (k, i) = r (j, omega arith, e) in (omega arith, i)

-- in two lists joined: of a number that stands in the first
pub first-front : (x : ℕ) (xs ys : List ℕ) → first_at x xs < length xs → first_at x (xs ++ ys) ≡ first_at x xs
unfolding first_at
first-front x [] ys h = absurd (omega arith)
first-front x (y ∷ xs) ys h = go (y == x) (first-front x xs ys) h
  where
    go : (b : Bool) → (first_at x xs < length xs → first_at x (xs ++ ys) ≡ first_at x xs) → cond b 0 (suc (first_at x xs)) < suc (length xs)
        → cond b 0 (suc (first_at x (xs ++ ys))) ≡ cond b 0 (suc (first_at x xs))
    go true r h = refl
    go false r h = ap suc (r (omega arith))

-- of one that does not
pub first-behind : (x : ℕ) (xs ys : List ℕ) → Each 0 (λ y. (y == x) ≡ false) xs → first_at x (xs ++ ys) ≡ length xs + first_at x ys
unfolding first_at
first-behind x [] ys h = omega arith
first-behind x (y ∷ xs) ys h = rw (h 0 (omega arith)) (omega (arith, first-behind x xs ys (λ j p. h (suc j) (omega arith))))

-- where a is the number chosen of the first list: the first place of the one chosen of a and b
chosen-place : {f : ℕ → ℕ → ℕ} {t : ℕ → ℕ → Bool} → Chooses f t → (a b : ℕ) (xs ys : List ℕ) → Member 0 a xs → Each 0 (λ x. t a x ≡ false) xs
    → first_at (f a b) (xs ++ ys) ≡ cond (t a b) (length xs + first_at b ys) (first_at a xs)
chosen-place {f} {t} c a b xs ys m s = go (t a b) refl
  where
    go : (u : Bool) → t a b ≡ u → first_at (f a b) (xs ++ ys) ≡ cond u (length xs + first_at b ys) (first_at a xs)
    go true p = rw (takes-second c a b p) (first-behind b xs ys (λ j h. ne_eqb _ b (λ e. never (sym (rw e at (s j h)) ∙ p))))
    go false p = rw (takes_first c a b p) (first-front a xs ys (first-stands a xs m).0)

-- ---- the first largest of a row

-- k is a lane of the row, none is larger, and each before it is smaller, as two's complement
pub record FirstOf (n : ℕ) (xs : List ℕ) (k : ℕ) : Type 0 where
  pub stands : k < length xs
  pub largest : Each 0 (λ x. twos n x ≤ℤ twos n (slice_index xs k)) xs
  pub first : (j : ℕ) → j < k → twos n (slice_index xs j) <ℤ twos n (slice_index xs k)

module _ (n : ℕ) where
  -- the largest is taken in place of each lane before its first place
  largest-before : (xs : List ℕ) (j : ℕ) → j < folded FirstLargest n xs → nat_lt (raised n (slice_index xs j)) (raised n (folded Largest n xs)) ≡ true
  unfolding extreme first_at
  largest-before [] j h = absurd (omega arith)
  largest-before (x ∷ xs) j h = foldl-before (larger-chooses n) x xs j h

  -- the lane of the first largest is one of the row's, and holds the largest
  pub first-value : (xs : List ℕ) → 1 ≤ length xs → (folded FirstLargest n xs < length xs) × (slice_index xs (folded FirstLargest n xs) ≡ folded Largest n xs)
  first-value xs l = first-stands (extreme Larger n xs) xs (extreme-member Larger n (larger-chooses n) xs l)

  -- 02, 2/14: "the lane of the first largest"
  pub first-largest : 1 ≤ n → (xs : List ℕ) → 1 ≤ length xs → Narrow n xs → FirstOf n xs (folded FirstLargest n xs)
  first-largest some xs l h = record {
    stands = (first-value xs l).0;
    largest = rw (first-value xs l).1 (largest-greatest n some xs l h).greatest;
    first = λ j p. rw (first-value xs l).1 (less n some (slice_index xs j) (extreme Larger n xs) (h j) (extreme-small n Larger xs h) (largest-before xs j p));
  }

  -- of two rows joined: the second's, counted behind the first, where its largest is larger; else the first's
  pub folding-first : (xs ys : List ℕ) → 1 ≤ length xs → 1 ≤ length ys
      → folded FirstLargest n (xs ++ ys)
      ≡ cond (nat_lt (raised n (folded Largest n xs)) (raised n (folded Largest n ys))) (length xs + folded FirstLargest n ys) (folded FirstLargest n xs)
  folding-first xs ys l m =
      ap (λ r. first_at r (xs ++ ys)) (extreme-append Larger n (larger-chooses n) xs ys l m)
      ∙ chosen-place (larger-chooses n) (extreme Larger n xs) (extreme Larger n ys) xs ys (extreme-member Larger n (larger-chooses n) xs l)
      (extreme-stays Larger n (larger-chooses n) xs)

-- ---- of its parts

-- of a row, or a part of one: how many lanes, the largest, and the first lane that holds it
pub record Best : Type 0 where
  pub count : ℕ
  pub value : ℕ
  pub place : ℕ

module _ (n : ℕ) where
  -- of a row of n-bit lanes
  abbrev pub best_of : List ℕ → Best
  best_of xs = record { count = length xs; value = folded Largest n xs; place = folded FirstLargest n xs }

  -- of two parts, from theirs: the second's, counted behind the first, where its largest is larger; else the first's
  abbrev pub join_best : Best → Best → Best
  join_best a b = record {
    count = a.count + b.count;
    value = lane Larger n a.value b.value;
    place = cond (nat_lt (raised n a.value) (raised n b.value)) (a.count + b.place) a.place;
  }

  -- that of two rows joined is joined from theirs
  pub best-append : (xs ys : List ℕ) → 1 ≤ length xs → 1 ≤ length ys → best_of (xs ++ ys) ≡ join_best (best_of xs) (best_of ys)
  best-append xs ys l m = λ i. record {
    count = length-append xs ys i;
    value = extreme-append Larger n (larger-chooses n) xs ys l m i;
    place = folding-first n xs ys l m i;
  }

  -- that of a row is joined from those of its parts, one after the other
  pub folding-best : (xs : List ℕ) (xss : List (List ℕ)) → 1 ≤ length xs → NoneEmpty xss
      → best_of (join (xs ∷ xss)) ≡ foldl join_best (best_of xs) (map best_of xss)
  unfolding join
  folding-best xs [] l h = ap best_of (append-nil xs)
  folding-best xs (ys ∷ xss) l h =
      ap best_of (sym (append_assoc xs ys (join xss)))
      ∙ folding-best (xs ++ ys) xss (omega (arith, length-append xs ys)) (λ j p. h (suc j) (omega arith))
      ∙ ap (λ b. foldl join_best b (map best_of xss)) (best-append xs ys l (h 0 (omega arith)))
