-- Laws of `groups_at`, one for each way that a turn of the reader goes.
use Prim.Native.Nat.{ℕ, zero, suc, ◌+◌, ◌-◌, ◌*◌, ◌^◌, ◌≤◌, ◌<◌}
use mathlib.Core.Path.{◌≡◌, refl, sym, ap}
use mathlib.Core.List.{List}
use lib.ListN.{length, get_or, drop, drop_of_length-le}
use lib.Seq.{drop-cons}
use native.Mathlib.Numerals.{add-one, sub-one}
use native.Mathlib.Omega.{arith}
use native.Mathlib.Nat.{one-le-pow, pow-succ', pow-le-pow_right}
use borrow.Author.Tests.{lt-ltb, le-ltb}
use Rattle.std.specs.Prelude.{Some, None}
use Rattle.codec.specs.Numbers.{groups_at, above}

pub groups_none : (n at : ℕ) (l : List ℕ) → n ≡ 0 → groups_at n at l ≡ None
unfolding groups_at
groups_none zero at l e = refl
groups_none (suc n) at l e = absurd (omega arith)

pub groups-cut : (n at : ℕ) (s : List ℕ) → length s ≤ at → groups_at n at (drop at s) ≡ None
unfolding groups_at
groups-cut zero at s h = refl
groups-cut (suc n) at s h = rw (drop_of_length-le s h)

module _ (n at : ℕ) (s : List ℕ) (some : n ≡ 0 → ⊥) (within : at < length s) where
  pub groups-last : get_or s at 0 < 128 → groups_at n at (drop at s) ≡ Some (get_or s at 0, record { at = at + 1 })
  groups-last h = go n some
    where
      go : (k : ℕ) → (k ≡ 0 → ⊥) → groups_at k at (drop at s) ≡ Some (get_or s at 0, record { at = at + 1 })
      go zero p = absurd (p refl)
      go (suc k) p = unfold groups_at in rw (drop-cons s at 0 within, lt-ltb (get_or s at 0) 128 h)

  pub groups-more : 128 ≤ get_or s at 0 → groups_at n at (drop at s) ≡ above (get_or s at 0) (groups_at (n - 1) (at + 1) (drop (at + 1) s))
  groups-more h = go n some
    where
      go : (k : ℕ) → (k ≡ 0 → ⊥) → groups_at k at (drop at s) ≡ above (get_or s at 0) (groups_at (k - 1) (at + 1) (drop (at + 1) s))
      go zero p = absurd (p refl)
      go (suc k) p = unfold groups_at in rw (sub-one, drop-cons s at 0 within, le-ltb (get_or s at 0) 128 h) (ap (λ (j : ℕ). above (get_or s at 0) (groups_at k (at + 1) (drop j s))) (sym (add-one at)))

-- so many groups hold less than this
pub room-some : (n : ℕ) → 0 < 128 ^ n
room-some n = one-le-pow n 128 (omega arith)

pub room-step : (n : ℕ) → (n ≡ 0 → ⊥) → 128 ^ n ≡ 128 * 128 ^ (n - 1)
room-step zero p = absurd (p refl)
room-step (suc n) p = rw sub-one (pow-succ' 128 n)

pub room_most : (n : ℕ) → n ≤ 5 → 128 ^ (n - 1) ≤ 268435456
room_most n h = pow-le-pow_right {n = 128} (omega arith) {j = 4} (omega arith)
