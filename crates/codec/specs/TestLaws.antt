-- What tests joined by `&&` and `||` say.
--
--   never, never_true                  a test does not both hold and fail
--   both, and_both                     what a `&&` that holds says, and the reverse
--   and-false, and_left, and_right     one that fails
--   or-false, either, or-second, or-none   the same of a `||`
use Rattle.std.specs.Prelude.{ℕ, ◌≡◌, refl, Bool, true, false, cond, ◌&&◌, ◌||◌}
use Rattle.std.proofs.Common.{sym, ap, arith}

-- a test that fails does not hold
pub never : {X : Type 0} → false ≡ true → X
never e = absurd (let z : ◌≡◌ {A = ℕ} 0 1 = ap (λ t. cond t 1 0) e in omega arith)

-- nor the other way round
pub never_true : {X : Type 0} → true ≡ false → X
never_true e = never (sym e)

-- both of two
pub both : (a b : Bool) → (a && b) ≡ true → (a ≡ true) × (b ≡ true)
both true b e = (refl, e)
both false b e = never e

-- each: both
pub and_both : (a b : Bool) → a ≡ true → b ≡ true → (a && b) ≡ true
and_both a b e f = rw (e, f)

-- not both, but the first: not the second
pub and-false : (a b : Bool) → (a && b) ≡ false → a ≡ true → b ≡ false
and-false true b e p = e
and-false false b e p = never p

-- not the first: not both
pub and_left : (a b : Bool) → a ≡ false → (a && b) ≡ false
and_left a b e = rw e

-- not the second: not both
pub and_right : (a b : Bool) → b ≡ false → (a && b) ≡ false
and_right true b e = e
and_right false b e = refl

-- neither of two
pub or-false : (a b : Bool) → (a || b) ≡ false → (a ≡ false) × (b ≡ false)
or-false true b e = never_true e
or-false false b e = (refl, e)

-- one of two, not the first: the second
pub either : (a b : Bool) → (a || b) ≡ true → a ≡ false → b ≡ true
either true b e f = never_true f
either false b e f = e

-- the second: one of two
pub or-second : (a b : Bool) → b ≡ true → (a || b) ≡ true
or-second true b e = refl
or-second false b e = e

-- the first or nothing: the first
pub or-none : (a : Bool) → (a || false) ≡ a
or-none true = refl
or-none false = refl
