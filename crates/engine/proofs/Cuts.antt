-- A number cut to n bits, n at most 64: by a mask, and after a sum or a difference at 64 bits. Over n, so once for every width.
use Rattle.std.proofs.Common.{◌≡◌, ℕ, ◌+◌, ◌-◌, ◌/◌, ◌%◌, ◌^◌, ◌<◌, ◌≤◌, sym, ap, ◌∙◌, mod-lt, mod-eq_of_lt, arith, pow_pos}
use native.Mathlib.Nat.{add-mod_right, mod-add-mod, mod-eq-sub-mod}
use native.Mathlib.Decide.{dec_lt}
use lib.Pow.{ones_split, ones_lt, high, mod-mod-pow}

-- all 64 bits, shifted down, are the mask of n bits
pub ones : (n : ℕ) → n ≤ 64 → 18446744073709551615 / 2 ^ (64 - n) ≡ 2 ^ n - 1
ones n h =
    let e : 64 ≡ n + (64 - n) = omega arith in
    ap (λ k. (2 ^ k - 1) / 2 ^ (64 - n)) e
    ∙ ap (λ x. x / 2 ^ (64 - n)) (ones_split n (64 - n))
    ∙ high (2 ^ n - 1) (64 - n) (ones_lt (64 - n))

-- a cut to 64 bits before the cut to n changes nothing
pub cut : (n x : ℕ) → n ≤ 64 → x % 2 ^ 64 % 2 ^ n ≡ x % 2 ^ n
cut n x h =
    let e : 64 ≡ (64 - n) + n = omega arith in
    ap (λ k. x % 2 ^ k % 2 ^ n) e ∙ mod-mod-pow x (64 - n) n

-- what b added to gives a, modulo m
difference : (x b a m : ℕ) → x < m → b < m → (x + b) % m ≡ a → x ≡ (a + m - b) % m
difference x b a m p q e = go (dec_lt (x + b) m)
  where
    go : Dec (x + b < m) → x ≡ (a + m - b) % m
    go (yes h) =
        let f : a ≡ x + b = sym e ∙ mod-eq_of_lt h in
        let g : a + m - b ≡ x + m = omega arith in
        sym (rw (g, add-mod_right) (mod-eq_of_lt p))
    go (no h) =
        let k : m ≤ x + b = omega arith in
        let f : a ≡ x + b - m = sym e ∙ mod-eq-sub-mod k ∙ mod-eq_of_lt (omega arith) in
        let g : a + m - b ≡ x = omega arith in
        sym (rw g (mod-eq_of_lt p))

-- a difference at 64 bits, cut to n, is that of n bits
pub less : (n r a b : ℕ) → n ≤ 64 → a < 2 ^ n → b < 2 ^ n → (r + b) % 2 ^ 64 ≡ a → r % 2 ^ n ≡ (a + 2 ^ n - b) % 2 ^ n
less n r a b h p q e =
    let f : (r % 2 ^ n + b) % 2 ^ n ≡ a = mod-add-mod r (2 ^ n) b ∙ sym (cut n (r + b) h) ∙ ap (λ y. y % 2 ^ n) e ∙ mod-eq_of_lt p in
    difference (r % 2 ^ n) b a (2 ^ n) (mod-lt r (pow_pos n)) q f
