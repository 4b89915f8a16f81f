-- The operations on lanes, in exact numbers. A lane of n bits is a number below 2^n.
--
--   width-range                            a width is 1 to 8
--   lane-small                             an operation on lanes gives a lane
--   copy-exact                             copy gives the first lane
--   add-exact, sub-exact, sub-modulo       add and subtract: exact, or off by 2^n
--   and-bit, or-bit, xor-bit               and, or, xor: bit by bit
--   sum-200-100, 0-less-1, smaller-80-01   the examples of 01
--
-- The smaller and the larger lane are in SignedLaws.
use Rattle.std.specs.Prelude.{◌≡◌, ℕ, zero, suc, ◌+◌, ◌-◌, ◌/◌, ◌%◌, ◌^◌, ◌<◌, ◌≤◌, min, max, Bool, true, false, cond, ◌⊎◌, nat_lt, refl}
use Rattle.std.proofs.Common.{◌∙◌, ap, inl, inr, arith, mod-lt, mod-eq_of_lt, pow_pos, pow_mono}
use Rattle.std.proofs.Math.Nat.{mod-eq-sub-mod, add-mod_right}
use Rattle.std.proofs.Math.Decide.{dec_lt}
use Rattle.std.specs.Int.Bits.{differ, and_step, or_step, xor_step, and_lt}
use Rattle.std.proofs.lemmas.Nat.{and_shr, or_shr, xor_shr, or_lt, xor_lt}
use Rattle.codec.specs.declared.operation.Action.{Action}
use Rattle.codec.specs.declared.operation.Action.TheVariants.{Copy, Add, Subtract, And, Or, Xor, Smaller, Larger}
use Rattle.engine.specs.Lanes.{raised, lane}
use Rattle.engine.specs.Good.{IsWidth}

-- a width is 1 to 8 bytes
pub width-range : (w : ℕ) → IsWidth w → (1 ≤ w) × (w ≤ 8)
width-range w h = omega (arith, pow_pos h.0, pow_mono {i = h.0} {j = 3} h.1, h.2)

-- whichever of two lanes is taken, it is below what both are below
one_of : (t : Bool) (a b m : ℕ) → a < m → b < m → cond t b a < m
one_of true a b m p q = q
one_of false a b m p q = p

-- an operation on two lanes of n bits gives a lane of n bits
pub lane-small : (action : Action) (n a b : ℕ) → a < 2 ^ n → b < 2 ^ n → lane action n a b < 2 ^ n
lane-small Copy n a b p q = p
lane-small Add n a b p q = mod-lt (a + b) (pow_pos n)
lane-small Subtract n a b p q = mod-lt (a + 2 ^ n - b) (pow_pos n)
lane-small And n a b p q = and_lt n a b p q
lane-small Or n a b p q = or_lt n a b p q
lane-small Xor n a b p q = xor_lt n a b p q
lane-small Smaller n a b p q = one_of (nat_lt (raised n b) (raised n a)) a b (2 ^ n) p q
lane-small Larger n a b p q = one_of (nat_lt (raised n a) (raised n b)) a b (2 ^ n) p q

-- "0 copy"
pub copy-exact : (n a b : ℕ) → lane Copy n a b ≡ a
copy-exact n a b = refl

-- "Add and subtract wrap at the element width": the sum itself, or the sum less 2^n
pub add-exact : (n a b : ℕ) → a < 2 ^ n → b < 2 ^ n → (lane Add n a b ≡ a + b) ⊎ (lane Add n a b + 2 ^ n ≡ a + b)
add-exact n a b p q = go (dec_lt (a + b) (2 ^ n))
  where
    go : Dec (a + b < 2 ^ n) → (lane Add n a b ≡ a + b) ⊎ (lane Add n a b + 2 ^ n ≡ a + b)
    go (yes h) = inl (mod-eq_of_lt h)
    go (no h) =
        let k : 2 ^ n ≤ a + b = omega arith in
        let e : (a + b) % 2 ^ n ≡ a + b - 2 ^ n = mod-eq-sub-mod k ∙ mod-eq_of_lt (omega arith) in
        inr (omega arith)

-- ".. and subtract": the difference itself, or the difference with 2^n added; each said of the sum with b
pub sub-exact : (n a b : ℕ) → a < 2 ^ n → b < 2 ^ n → (lane Subtract n a b + b ≡ a) ⊎ (lane Subtract n a b + b ≡ a + 2 ^ n)
sub-exact n a b p q = go (dec_lt a b)
  where
    go : Dec (a < b) → (lane Subtract n a b + b ≡ a) ⊎ (lane Subtract n a b + b ≡ a + 2 ^ n)
    go (yes h) =
        let e : (a + 2 ^ n - b) % 2 ^ n ≡ a + 2 ^ n - b = mod-eq_of_lt (omega arith) in
        inr (omega arith)
    go (no h) =
        let f : a + 2 ^ n - b ≡ (a - b) + 2 ^ n = omega arith in
        let e : (a + 2 ^ n - b) % 2 ^ n ≡ a - b = ap (λ x. x % 2 ^ n) f ∙ add-mod_right (a - b) (2 ^ n) ∙ mod-eq_of_lt (omega arith) in
        inl (omega arith)

-- b added to the difference gives a back, modulo 2^n
pub sub-modulo : (n a b : ℕ) → a < 2 ^ n → b < 2 ^ n → (lane Subtract n a b + b) % 2 ^ n ≡ a
sub-modulo n a b p q = go (sub-exact n a b p q)
  where
    go : (lane Subtract n a b + b ≡ a) ⊎ (lane Subtract n a b + b ≡ a + 2 ^ n) → (lane Subtract n a b + b) % 2 ^ n ≡ a
    go (inl e) = ap (λ x. x % 2 ^ n) e ∙ mod-eq_of_lt p
    go (inr e) = ap (λ x. x % 2 ^ n) e ∙ add-mod_right a (2 ^ n) ∙ mod-eq_of_lt p

-- two binary digits differ: 1 where exactly one of them is 1
differ-small : (x y : ℕ) → x < 2 → y < 2 → differ x y < 2
differ-small zero y p q = q
differ-small (suc x) zero p q = p
differ-small (suc zero) (suc y) p q = omega arith
differ-small (suc (suc x)) (suc y) p q = absurd (omega arith)

-- and: a bit is set where both are
pub and-bit : (n a b i : ℕ) → lane And n a b / 2 ^ i % 2 ≡ min (a / 2 ^ i % 2) (b / 2 ^ i % 2)
and-bit n a b i =
    ap (λ x. x % 2) (and_shr a b i) ∙ omega (arith, and_step (a / 2 ^ i) (b / 2 ^ i))

-- or: a bit is set where one is
pub or-bit : (n a b i : ℕ) → lane Or n a b / 2 ^ i % 2 ≡ max (a / 2 ^ i % 2) (b / 2 ^ i % 2)
or-bit n a b i =
    ap (λ x. x % 2) (or_shr a b i) ∙ omega (arith, or_step (a / 2 ^ i) (b / 2 ^ i))

-- xor: a bit is set where exactly one is
pub xor-bit : (n a b i : ℕ) → lane Xor n a b / 2 ^ i % 2 ≡ differ (a / 2 ^ i % 2) (b / 2 ^ i % 2)
xor-bit n a b i =
    let d : differ (a / 2 ^ i % 2) (b / 2 ^ i % 2) < 2 = differ-small (a / 2 ^ i % 2) (b / 2 ^ i % 2) (omega arith) (omega arith) in
    ap (λ x. x % 2) (xor_shr a b i) ∙ omega (arith, xor_step (a / 2 ^ i) (b / 2 ^ i))

-- "Bytes: 200 + 100 = 44"
sum-200-100 : lane Add 8 200 100 ≡ 44
sum-200-100 = refl

-- "0 - 1 = 255"
0-less-1 : lane Subtract 8 0 1 ≡ 255
0-less-1 = refl

-- "smaller of 80h and 01h is 80h"
smaller-80-01 : lane Smaller 8 128 1 ≡ 128
smaller-80-01 = refl
