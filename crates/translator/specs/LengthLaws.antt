-- A nest's bytes, and how many they are. 195 is over all nests in range: a nest of seven loops whose numbers are all as long as they can
-- be, which rule 6 refuses. The longest that are accepted are shorter (`LongNests`).
--
--   groups-below          a number below 128 ^ k has at most k bytes
--   most_for, most_of       the most bytes that a number of a nest can have; of numbers in a row
--   nest-most             a nest in range has at most 195 bytes
--   long-refused, long-no-nest   longer bytes are refused, and no nest
use Rattle.std.specs.Prelude.{ℕ, zero, suc, ◌+◌, ◌%◌, ◌/◌, ◌^◌, ◌≤◌, ◌<◌, ◌≡◌, List, [], ◌∷◌, Bool, true, false, cond, length, ltb, eqb, pos, negsuc, nat_abs}
use Rattle.std.proofs.Common.{ap, inl, inr, arith, length-append}
use Rattle.std.proofs.Math.Nat.{pow-succ'}
use Rattle.codec.specs.Numbers.{groups_of, number_bytes, signed_of}
use Rattle.codec.specs.NumberLaws.{AreBytes, last-group}
use Rattle.codec.specs.declared.refusal.Refusal.{Refusal}
use Rattle.translator.specs.Fields.{Field, width, loops, coupled, operation, count, term, base, stride, term_fields, loop_fields, stride_fields, fields_of, number_in}
use Rattle.translator.specs.FieldLists.{All}
use Rattle.translator.specs.Reading.{nest, refused, nest_at, numbers_bytes, nest_bytes}
use Rattle.translator.specs.Acceptance.{InRange}
use Rattle.translator.specs.NestStands.{NumberInRange}
use Rattle.translator.specs.NestWritten.{ranged-all}
use Rattle.translator.specs.NestingLaws.{NestOrRefusal, nest-answer, refused-read}
use Rattle.translator.specs.declared.nest.Nest.{Nest}

-- ---- one number

-- a number below 128 ^ (k + 1) has at most k + 1 groups
pub groups-below : (n k v : ℕ) → v < 128 ^ suc k → length (groups_of n v) ≤ suc k
unfolding groups_of
groups-below zero k v h = omega arith
groups-below (suc n) zero v h = omega (arith, ap length (last-group (suc n) v (omega arith)))
groups-below (suc n) (suc k) v h = go (ltb v 128) (groups-below n k (v / 128) (omega (arith, pow-succ' 128 (suc k))))
  where
    go : (b : Bool) → length (groups_of n (v / 128)) ≤ suc k → length (cond b (v ∷ []) ((v % 128 + 128) ∷ groups_of n (v / 128))) ≤ suc (suc k)
    go true h = omega arith
    go false h = omega arith

-- a signed number of the stride range is below 128 ^ 4 as written
reach-below : (v : ℕ) → nat_abs (signed_of v) ≤ 1048576 → v < 268435456
unfolding signed_of
reach-below v h = go (eqb (v % 2) 0) h
  where
    go : (b : Bool) → nat_abs (cond b (pos (v / 2)) (negsuc (v / 2))) ≤ 1048576 → v < 268435456
    go true h = omega arith
    go false h = omega arith

-- the most bytes of each number, by its range
unfoldable pub most_for : Field → ℕ
most_for width = 1
most_for loops = 1
most_for coupled = 1
most_for operation = 1
most_for (count t) = 2
most_for (term t o) = 4
most_for (base a) = 3
most_for (stride a d) = 4

-- a number in its range has no more
number-most : (m : Nest) → m.loops ≤ 7 → (f : Field) → NumberInRange m m.loops f → length (number_bytes (number_in f m)) ≤ most_for f
unfolding most_for
number-most m l width h = groups-below 4 0 _ (omega arith)
number-most m l loops h = groups-below 4 0 _ (omega arith)
number-most m l coupled h = groups-below 4 0 _ (omega arith)
number-most m l operation h = groups-below 4 0 _ (omega arith)
number-most m l (count t) h = groups-below 4 1 _ (omega arith)
number-most m l (term t o) h = groups-below 4 3 _ (omega (arith, reach-below _ h))
number-most m l (base a) h = groups-below 4 2 _ (omega arith)
number-most m l (stride a d) h = groups-below 4 3 _ (omega (arith, reach-below _ h))

-- ---- all of them

-- the most bytes of numbers in a row
unfoldable pub most_of : List Field → ℕ
most_of [] = 0
most_of (f ∷ fs) = most_for f + most_of fs

-- numbers in their ranges, in a row, have no more
numbers-most : (m : Nest) → m.loops ≤ 7 → (fs : List Field) → All (NumberInRange m m.loops) fs → length (numbers_bytes m fs) ≤ most_of fs
unfolding All numbers_bytes most_of
numbers-most m l [] h = omega arith
numbers-most m l (f ∷ fs) h =
    omega (arith, length-append (number_bytes (number_in f m)) (numbers_bytes m fs), number-most m l f h.0, numbers-most m l fs h.1)

-- of at most seven loops: 4 of the head, 7 counts of 2, 21 terms of 4, 3 bases of 3, 21 strides of 4
fields-most : (D : ℕ) → D ≤ 7 → most_of (fields_of D) ≤ 195
unfolding term_fields loop_fields stride_fields most_for most_of
fields-most zero h = omega arith
fields-most (suc zero) h = omega arith
fields-most (suc (suc zero)) h = omega arith
fields-most (suc (suc (suc zero))) h = omega arith
fields-most (suc (suc (suc (suc zero)))) h = omega arith
fields-most (suc (suc (suc (suc (suc zero))))) h = omega arith
fields-most (suc (suc (suc (suc (suc (suc zero)))))) h = omega arith
fields-most (suc (suc (suc (suc (suc (suc (suc zero))))))) h = omega arith
fields-most (suc (suc (suc (suc (suc (suc (suc (suc D)))))))) h = absurd (omega arith)

-- a nest in range has at most 195 bytes
pub nest-most : (m : Nest) → InRange m → length (nest_bytes m) ≤ 195
unfolding nest_bytes
nest-most m r = omega (arith, numbers-most m r.loops-most (fields_of m.loops) (ranged-all m r), fields-most m.loops r.loops-most)

-- ---- longer bytes

-- they are refused
pub long-refused : (s : List ℕ) → AreBytes s → 195 < length s → (x : Refusal) × (at : ℕ) × (nest_at s ≡ refused x at)
long-refused s p h = by (nest-answer s p)
  where
    by : NestOrRefusal s → (x : Refusal) × (at : ℕ) × (nest_at s ≡ refused x at)
    by (inl (n, a, e)) = absurd (omega (arith, ap length e, nest-most n a.range))
    by (inr (x, at, r)) = (x, at, refused-read s p x at r)

-- they are no nest
pub long-no-nest : (s : List ℕ) → AreBytes s → 195 < length s → (m : Nest) → ¬ (nest_at s ≡ nest m)
long-no-nest s p h m e =
    let q = (long-refused s p h).2 in
    let z : ◌≡◌ {A = ℕ} 0 1 = cc in
    omega arith
