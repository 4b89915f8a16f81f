-- Sums of signed numbers that fit are exact.
use Rattle.std.proofs.Common.{◌≡◌, ◌^◌, ◌≤◌, ℤ, ◌+ℤ◌, nat_abs, arith, w64, to_z, of_z}
use Rattle.codec.proofs.Integers.{abs-add, back}

module _ (a b : ℤ) (m : nat_abs a ≤ 2 ^ 61) (n : nat_abs b ≤ 2 ^ 61) where
  sum-read : to_z w64 (of_z w64 a) +ℤ to_z w64 (of_z w64 b) ≡ a +ℤ b
  sum-read = rw (back a (omega arith), back b (omega arith))

  pub sum-exact : to_z w64 (of_z w64 (to_z w64 (of_z w64 a) +ℤ to_z w64 (of_z w64 b))) ≡ a +ℤ b
  sum-exact = rw sum-read (back (a +ℤ b) (omega (arith, abs-add a b)))
