-- The smaller and the larger of two lanes, read as two's complement.
--
--   twos                       a lane of n bits as two's complement
--   twos-low, twos-high        its lower and its upper half
--   raised-order               raised lanes stand in the order of two's complement
--   Least, smaller-least       the smaller of two lanes
--   Greatest, larger-greatest  the larger
use Rattle.std.specs.Prelude.{◌≡◌, ℕ, zero, suc, ◌+◌, ◌-◌, ◌*◌, ◌%◌, ◌^◌, ◌<◌, ◌≤◌, Bool, true, false, cond, not, T, ◌⊎◌, ℤ, pos, negsuc, ◌-ℤ◌, ◌≤ℤ◌, int_le, int_lt, nat_lt, refl}
use Rattle.std.proofs.Common.{sym, ◌∙◌, ap, subst, inl, inr, arith, mod-eq_of_lt, le→leb, ltb→lt, lt-ltb, le-ltb}
use Rattle.std.proofs.Math.Nat.{add-mod_right, pow-succ'}
use Rattle.std.proofs.Math.Decide.{dec_lt}
use Rattle.std.specs.Int.Signed.{≤ℤ_refl, lt_z_no}
use Rattle.codec.specs.declared.operation.Action.TheVariants.{Smaller, Larger}
use Rattle.engine.specs.Lanes.{raised, lane}

-- "read lanes as two's complement": from half the range on, a lane stands for 2^n less
unfoldable pub twos : ℕ → ℕ → ℤ
twos n a = cond (nat_lt a (2 ^ (n - 1))) (pos a) (pos a -ℤ pos (2 ^ n))

-- a - m, where a is below m, is -(m - a)
below : (a m : ℕ) → a < m → pos a -ℤ pos m ≡ negsuc (m - suc a)
below a zero h = absurd (omega arith)
below a (suc m) h = rw (lt-ltb a (suc m) h)

-- 2^n is twice 2^(n - 1)
doubled : (n : ℕ) → 1 ≤ n → 2 ^ n ≡ 2 * 2 ^ (n - 1)
doubled n h = let e : n ≡ suc (n - 1) = omega arith in ap (λ k. 2 ^ k) e ∙ pow-succ' 2 (n - 1)

-- if a is below b exactly where c is below d, both tests give the same
same_test : (a b c d : ℕ) → (a < b → c < d) → (b ≤ a → d ≤ c) → nat_lt a b ≡ nat_lt c d
same_test a b c d f g = go (dec_lt a b)
  where
    go : Dec (a < b) → nat_lt a b ≡ nat_lt c d
    go (yes h) = lt-ltb a b h ∙ sym (lt-ltb c d (f h))
    go (no h) = let k : b ≤ a = omega arith in le-ltb a b k ∙ sym (le-ltb c d (g k))

module _ (n : ℕ) (some : 1 ≤ n) where
  -- the lower half stands for itself
  pub twos-low : (a : ℕ) → a < 2 ^ (n - 1) → twos n a ≡ pos a
  unfolding twos
  twos-low a h = rw (lt-ltb a (2 ^ (n - 1)) h)

  -- the upper half for the negative numbers, 2^n - 1 for -1
  pub twos-high : (a : ℕ) → 2 ^ (n - 1) ≤ a → a < 2 ^ n → twos n a ≡ negsuc (2 ^ n - suc a)
  unfolding twos
  twos-high a h p = rw (le-ltb a (2 ^ (n - 1)) h) (below a (2 ^ n) p)

  -- the lower half is raised to the upper
  raised-low : (a : ℕ) → a < 2 ^ (n - 1) → raised n a ≡ a + 2 ^ (n - 1)
  raised-low a h = mod-eq_of_lt (omega (arith, doubled n some))

  -- the upper half goes round to the lower
  raised-high : (a : ℕ) → 2 ^ (n - 1) ≤ a → a < 2 ^ n → raised n a ≡ a - 2 ^ (n - 1)
  raised-high a h p =
      let e : a + 2 ^ (n - 1) ≡ (a - 2 ^ (n - 1)) + 2 ^ n = omega (arith, doubled n some) in
      ap (λ x. x % 2 ^ n) e ∙ add-mod_right (a - 2 ^ (n - 1)) (2 ^ n) ∙ mod-eq_of_lt (omega arith)

  -- raised lanes stand in the order of two's complement
  pub raised-order : (a b : ℕ) → a < 2 ^ n → b < 2 ^ n → nat_lt (raised n a) (raised n b) ≡ int_lt (twos n a) (twos n b)
  raised-order a b p q = go (dec_lt a (2 ^ (n - 1))) (dec_lt b (2 ^ (n - 1)))
    where
      go : Dec (a < 2 ^ (n - 1)) → Dec (b < 2 ^ (n - 1)) → nat_lt (raised n a) (raised n b) ≡ int_lt (twos n a) (twos n b)
      go (yes h) (yes k) =
          rw (raised-low a h, raised-low b k, twos-low a h, twos-low b k)
          (same_test (a + 2 ^ (n - 1)) (b + 2 ^ (n - 1)) a b (λ u. omega arith) (λ u. omega arith))
      go (yes h) (no k) =
          rw (raised-low a h, raised-high b (omega arith) q, twos-low a h, twos-high b (omega arith) q)
          (le-ltb (a + 2 ^ (n - 1)) (b - 2 ^ (n - 1)) (omega (arith, doubled n some)))
      go (no h) (yes k) =
          rw (raised-high a (omega arith) p, raised-low b k, twos-high a (omega arith) p, twos-low b k)
          (lt-ltb (a - 2 ^ (n - 1)) (b + 2 ^ (n - 1)) (omega (arith, doubled n some)))
      go (no h) (no k) =
          rw (raised-high a (omega arith) p, raised-high b (omega arith) q, twos-high a (omega arith) p, twos-high b (omega arith) q)
          (same_test (a - 2 ^ (n - 1)) (b - 2 ^ (n - 1)) (2 ^ n - suc b) (2 ^ n - suc a) (λ u. omega arith) (λ u. omega arith))

-- the lane r is one of a and b, and no larger than either as two's complement
pub record Least (n a b r : ℕ) : Type 0 where
  pub one : (r ≡ a) ⊎ (r ≡ b)
  pub first : twos n r ≤ℤ twos n a
  pub second : twos n r ≤ℤ twos n b

-- the lane r is one of a and b, and no smaller than either as two's complement
pub record Greatest (n a b r : ℕ) : Type 0 where
  pub one : (r ≡ a) ⊎ (r ≡ b)
  pub first : twos n a ≤ℤ twos n r
  pub second : twos n b ≤ℤ twos n r

-- of two integers the one that is less is at most the other, by the tests
lt-le : (x y : ℤ) → T (int_lt x y) → T (int_le x y)
lt-le (pos x) (pos y) t = le→leb x y (let h : x < y = ltb→lt x y t in omega arith)
lt-le (pos x) (negsuc y) t = t
lt-le (negsuc x) (pos y) t = t
lt-le (negsuc x) (negsuc y) t = le→leb y x (let h : y < x = ltb→lt y x t in omega arith)

-- of two integers the one that is less is at most the other
strictly : (x y : ℤ) → int_lt x y ≡ true → x ≤ℤ y
strictly x y e = record { le = lt-le x y (subst T (sym e) tt) }

-- of two integers the one that is not less is at least the other
otherwise : (x y : ℤ) → int_lt x y ≡ false → y ≤ℤ x
otherwise x y e = lt_z_no (subst (λ t. T (not t)) (sym e) tt)

module _ (n a b : ℕ) (some : 1 ≤ n) (p : a < 2 ^ n) (q : b < 2 ^ n) where
  -- "6 signed smaller"
  pub smaller-least : Least n a b (lane Smaller n a b)
  smaller-least = go (nat_lt (raised n b) (raised n a)) refl
    where
      go : (t : Bool) → nat_lt (raised n b) (raised n a) ≡ t → Least n a b (cond t b a)
      go true e = record {
        one = inr refl;
        first = strictly (twos n b) (twos n a) (sym (raised-order n some b a q p) ∙ e);
        second = ≤ℤ_refl (twos n b);
      }
      go false e = record {
        one = inl refl;
        first = ≤ℤ_refl (twos n a);
        second = otherwise (twos n b) (twos n a) (sym (raised-order n some b a q p) ∙ e);
      }

  -- "7 signed larger"
  pub larger-greatest : Greatest n a b (lane Larger n a b)
  larger-greatest = go (nat_lt (raised n a) (raised n b)) refl
    where
      go : (t : Bool) → nat_lt (raised n a) (raised n b) ≡ t → Greatest n a b (cond t b a)
      go true e = record {
        one = inr refl;
        first = strictly (twos n a) (twos n b) (sym (raised-order n some a b p q) ∙ e);
        second = ≤ℤ_refl (twos n b);
      }
      go false e = record {
        one = inl refl;
        first = ≤ℤ_refl (twos n a);
        second = otherwise (twos n a) (twos n b) (sym (raised-order n some a b p q) ∙ e);
      }
