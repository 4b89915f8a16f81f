-- Laws of gathering a nest's modifiers.
--
--   keep-then                 some modifiers, then others
--   at_next, at-end           those of one dimension, term by term
--   from_next, from_end       those of the dimensions, one by one
--   kept-all, kept_more       what is kept of a list of at most eight, and of a longer one
--   kept-shape                the checks of the shape that comes of it are those of the nest's shape
use Rattle.std.specs.Prelude.{ℕ, suc, ◌+◌, ◌-◌, ◌≤◌, ◌<◌, ◌≡◌, refl, List, [], ◌∷◌, ◌++◌, Bool, true, false, cond, length, set, eqb, nat_abs}
use Rattle.std.proofs.Common.{sym, ◌∙◌, ap, append_assoc, append-nil, arith, length-append, lt-ltb, le-ltb}
use Rattle.std.proofs.Math.Decide.{dec_lt}
use Rattle.engine.specs.Given.{filled}
use Rattle.engine.specs.GivenLaws.{filled_more}
use Rattle.engine.specs.Registers.{no_modifier}
use Rattle.engine.specs.ShapeCheck.{check_shape}
use Rattle.engine.specs.ShapeLaws.{many-refused}
use Rattle.engine.specs.declared.stream.Modifier.{Modifier}
use Rattle.translator.specs.Fields.{term_of}
use Rattle.translator.specs.NestSheets.{modifier_of, modifiers_at, modifiers_from, modifiers_of, shape_of}
use Rattle.translator.specs.Keeping.{none_kept, keep_one, keep_all, shape_with, kept_shape}
use Rattle.translator.specs.declared.nest.Nest.{Nest}
use Rattle.translator.specs.declared.rules.Kept.{Kept}

-- some modifiers, then others
pub keep-then : (xs ys : List Modifier) (k : Kept) → keep_all (xs ++ ys) k ≡ keep_all ys (keep_all xs k)
unfolding keep_all
keep-then [] ys k = refl
keep-then (q ∷ xs) ys k = keep-then xs ys (keep_one q k)

-- one modifier that is left out, or kept before the others
by_cond : (b : Bool) (xs : List Modifier) (q : Modifier) (k : Kept) → keep_all (cond b xs (q ∷ xs)) k ≡ keep_all xs (cond b k (keep_one q k))
unfolding keep_all
by_cond true xs q k = refl
by_cond false xs q k = refl

-- the term of loop t, then those of the loops outside it, up to loop o
pub at_next : (m : Nest) (o t : ℕ) (k : Kept) → t < o
    → keep_all (modifiers_at m o t (o - t)) k
    ≡ keep_all (modifiers_at m o (t + 1) (o - (t + 1))) (cond (eqb (nat_abs (term_of m t o)) 0) k (keep_one (modifier_of m o t) k))
unfolding modifiers_at
at_next m o t k h =
    let e : o - t ≡ suc (o - (t + 1)) = omega arith in
    let f : t + 1 ≡ suc t = omega arith in
    rw (e, f) (by_cond (eqb (nat_abs (term_of m t o)) 0) (modifiers_at m o (suc t) (o - suc t)) (modifier_of m o t) k)

-- no target is left: nothing more is kept
pub at-end : (m : Nest) (o t : ℕ) (k : Kept) → o ≤ t → keep_all (modifiers_at m o t (o - t)) k ≡ k
unfolding modifiers_at keep_all
at-end m o t k h = let e : o - t ≡ 0 = omega arith in rw e

-- dimension o, then those outside it, up to n
pub from_next : (m : Nest) (o n : ℕ) (k : Kept) → o < n
    → keep_all (modifiers_from m o (n - o)) k ≡ keep_all (modifiers_from m (o + 1) (n - (o + 1))) (keep_all (modifiers_at m o 0 o) k)
unfolding modifiers_from
from_next m o n k h =
    let e : n - o ≡ suc (n - (o + 1)) = omega arith in
    let f : o + 1 ≡ suc o = omega arith in
    rw (e, f) (keep-then (modifiers_at m o 0 o) (modifiers_from m (suc o) (n - suc o)) k)

-- no dimension is left: nothing more is kept
pub from_end : (m : Nest) (o n : ℕ) (k : Kept) → n ≤ o → keep_all (modifiers_from m o (n - o)) k ≡ k
unfolding modifiers_from keep_all
from_end m o n k h = let e : n - o ≡ 0 = omega arith in rw e

-- ---- what is kept

-- what is kept of a list of at most eight: all of it
abbrev pub kept_of : List Modifier → Kept
kept_of xs = record { count = length xs; modifiers = filled 8 no_modifier xs }

-- one more, where fewer than eight are kept
one_more : (q : Modifier) (k : Kept) → k.count < 8 → keep_one q k ≡ record { count = k.count + 1; modifiers = set k.modifiers k.count q }
one_more q k h = rw (lt-ltb k.count 8 h)

-- one more behind the eighth: the count is 9, and all else stays
one-over : (q : Modifier) (k : Kept) → 8 ≤ k.count → keep_one q k ≡ record { count = 9; modifiers = k.modifiers }
one-over q k h = rw (le-ltb k.count 8 h)

-- one more behind those of a list of fewer than eight
more-kept : (xs : List Modifier) (q : Modifier) → length xs < 8 → keep_one q (kept_of xs) ≡ kept_of (xs ++ (q ∷ []))
more-kept xs q h =
    one_more q (kept_of xs) h ∙ rw (filled_more 8 no_modifier xs (length xs) q refl h, length-append xs (q ∷ []))

-- others behind those of a list, at most eight in all
kept_on : (xs ys : List Modifier) → length xs + length ys ≤ 8 → keep_all ys (kept_of xs) ≡ kept_of (xs ++ ys)
unfolding keep_all
kept_on xs [] h = rw (append-nil xs)
kept_on xs (q ∷ ys) h =
    ap (keep_all ys) (more-kept xs q (omega arith))
    ∙ kept_on (xs ++ (q ∷ [])) ys (rw (length-append xs (q ∷ [])) (omega arith))
    ∙ ap kept_of (append_assoc xs (q ∷ []) ys)

-- of at most eight all are kept
pub kept-all : (xs : List Modifier) → length xs ≤ 8 → keep_all xs none_kept ≡ kept_of xs
kept-all xs h = kept_on [] xs (omega arith)

-- once the count is 9 it stays 9
kept-over : (ys : List Modifier) (k : Kept) → k.count ≡ 9 → (keep_all ys k).count ≡ 9
unfolding keep_all
kept-over [] k e = e
kept-over (q ∷ ys) k e = ap (λ x. (keep_all ys x).count) (one-over q k (omega arith)) ∙ kept-over ys (record { count = 9; modifiers = k.modifiers }) refl

-- others, more than eight in all: the count is 9
kept-on-over : (xs : List Modifier) (k : Kept) → k.count ≤ 8 → 8 < k.count + length xs → (keep_all xs k).count ≡ 9
unfolding keep_all
kept-on-over [] k h p = absurd (omega arith)
kept-on-over (q ∷ xs) k h p =
    by (dec_lt k.count 8) (kept-on-over xs (record { count = k.count + 1; modifiers = set k.modifiers k.count q }))
  where
    by : Dec (k.count < 8) → (k.count + 1 ≤ 8 → 8 < k.count + 1 + length xs → (keep_all xs (record { count = k.count + 1; modifiers = set k.modifiers k.count q })).count ≡ 9)
        → (keep_all xs (keep_one q k)).count ≡ 9
    by (yes l) ih = ap (λ x. (keep_all xs x).count) (one_more q k l) ∙ ih (omega arith) (omega arith)
    by (no g) ih = ap (λ x. (keep_all xs x).count) (one-over q k (omega arith)) ∙ kept-over xs (record { count = 9; modifiers = k.modifiers }) refl

-- of more than eight the count is 9
pub kept_more : (xs : List Modifier) → 8 < length xs → (keep_all xs none_kept).count ≡ 9
kept_more xs h = kept-on-over xs none_kept (omega arith) (omega arith)

-- ---- the shape

-- the checks of the shape with the modifiers kept are those of the nest's shape
pub kept-shape : (m : Nest) → check_shape (kept_shape m) ≡ check_shape (shape_of m)
kept-shape m = by (dec_lt 8 (length (modifiers_of m)))
  where
    by : Dec (8 < length (modifiers_of m)) → check_shape (kept_shape m) ≡ check_shape (shape_of m)
    by (yes h) =
        many-refused (shape_with m (keep_all (modifiers_of m) none_kept)) (rw (kept_more (modifiers_of m) h) (omega arith))
        ∙ sym (many-refused (shape_with m (kept_of (modifiers_of m))) h)
    by (no h) = ap (λ k. check_shape (shape_with m k)) (kept-all (modifiers_of m) (omega arith))
