-- Numbers taken two by two, where of two one is chosen.
--
--   Chooses                          of two numbers the second is taken where a test says so, else the first
--   smaller-chooses, larger-chooses  the smaller and the larger of two lanes are so chosen
--   takes_first, takes-second        which one is taken
--   foldl-grouped                    a number taken with others is taken with the one chosen of these
--   foldl-member, foldl-stays        the number chosen is one of them; none of them is taken in its place
--   foldl-before                     where it stands first, it is taken in place of each before it
use Rattle.std.specs.Prelude.{◌≡◌, ℕ, zero, suc, ◌<◌, Bool, true, false, cond, ltb, List, [], ◌∷◌, ◌==◌, nat_lt, slice_index}
use Rattle.std.proofs.Math.Path.{refl}
use Rattle.std.proofs.Common.{sym, ◌∙◌, subst, arith}
use mathlib.Core.List.{foldl}
use borrow.Author.Tests.{ltb-true, ltb-false, lt-ltb, le-ltb, eq-eqb}
use Rattle.codec.specs.declared.operation.Action.TheVariants.{Smaller, Larger}
use Rattle.engine.specs.Members.{Each, Member}
use Rattle.engine.specs.Lanes.{raised, lane, first_at}

-- f takes of two numbers the second where t says so, else the first; and t is a strict order: one way round at most, on from a to b to
-- c where it says so of both steps, and off where it does of neither
pub record Chooses (f : ℕ → ℕ → ℕ) (t : ℕ → ℕ → Bool) : Type 0 where
  pub takes : (a b : ℕ) → f a b ≡ cond (t a b) b a
  pub once : (a b : ℕ) → t a b ≡ true → t b a ≡ false
  pub on : (a b c : ℕ) → t a b ≡ true → t b c ≡ true → t a c ≡ true
  pub off : (a b c : ℕ) → t a b ≡ false → t b c ≡ false → t a c ≡ false

-- a number is less than another one way round at most
less-once : (x y : ℕ) → nat_lt x y ≡ true → nat_lt y x ≡ false
less-once x y p = le-ltb y x (omega (arith, ltb-true x y p))

-- less in both steps
less-on : (x y z : ℕ) → nat_lt x y ≡ true → nat_lt y z ≡ true → nat_lt x z ≡ true
less-on x y z p q = lt-ltb x z (omega (arith, ltb-true x y p, ltb-true y z q))

-- less in neither
less-off : (x y z : ℕ) → nat_lt x y ≡ false → nat_lt y z ≡ false → nat_lt x z ≡ false
less-off x y z p q = le-ltb x z (omega (arith, ltb-false x y p, ltb-false y z q))

module _ (n : ℕ) where
  -- the smaller of two lanes: the second where it, raised, is less
  pub smaller-chooses : Chooses (lane Smaller n) (λ a b. ltb (raised n b) (raised n a))
  smaller-chooses = record {
    takes = λ a b. refl;
    once = λ a b. less-once (raised n b) (raised n a);
    on = λ a b c p q. less-on (raised n c) (raised n b) (raised n a) q p;
    off = λ a b c p q. less-off (raised n c) (raised n b) (raised n a) q p;
  }

  -- the larger: the second where the first, raised, is less
  pub larger-chooses : Chooses (lane Larger n) (λ a b. ltb (raised n a) (raised n b))
  larger-chooses = record {
    takes = λ a b. refl;
    once = λ a b. less-once (raised n a) (raised n b);
    on = λ a b c. less-on (raised n a) (raised n b) (raised n c);
    off = λ a b c. less-off (raised n a) (raised n b) (raised n c);
  }

-- what is not the first of a list stands in the rest
later : (b : Bool) (j k : ℕ) → suc j < cond b 0 (suc k) → j < k
later true j k h = absurd (omega arith)
later false j k h = omega arith

module _ {f : ℕ → ℕ → ℕ} {t : ℕ → ℕ → Bool} (c : Chooses f t) where
  -- the second is taken
  pub takes-second : (a b : ℕ) → t a b ≡ true → f a b ≡ b
  takes-second a b e = c.takes a b ∙ rw e

  -- the first is taken
  pub takes_first : (a b : ℕ) → t a b ≡ false → f a b ≡ a
  takes_first a b e = c.takes a b ∙ rw e

  -- nothing is taken in place of itself
  itself : (a : ℕ) → t a a ≡ false
  itself a = go (t a a) refl
    where
      go : (b : Bool) → t a a ≡ b → t a a ≡ false
      go true e = c.once a a e
      go false e = e

  -- three numbers, in either grouping
  grouped : (a b d : ℕ) → f (f a b) d ≡ f a (f b d)
  grouped a b d = go (t a b) (t b d) refl refl
    where
      go : (x y : Bool) → t a b ≡ x → t b d ≡ y → f (f a b) d ≡ f a (f b d)
      go true true p q = rw (takes-second a b p, takes-second b d q) (sym (takes-second a d (c.on a b d p q)))
      go true false p q = rw (takes-second a b p, takes_first b d q) (sym (takes-second a b p))
      go false true p q = rw (takes_first a b p, takes-second b d q)
      go false false p q = rw (takes_first a b p, takes_first b d q) (takes_first a d (c.off a b d p q) ∙ sym (takes_first a b p))

  -- neither of two is taken in place of the one that was
  stays : (a b : ℕ) → (t (f a b) a ≡ false) × (t (f a b) b ≡ false)
  stays a b = go (t a b) refl
    where
      go : (x : Bool) → t a b ≡ x → (t (f a b) a ≡ false) × (t (f a b) b ≡ false)
      go true p = rw (takes-second a b p) (c.once a b p, itself b)
      go false p = rw (takes_first a b p) (itself a, p)

  -- a number taken with others is taken with the one chosen of these
  pub foldl-grouped : (a b : ℕ) (xs : List ℕ) → foldl f a (b ∷ xs) ≡ f a (foldl f b xs)
  foldl-grouped a b [] = refl
  foldl-grouped a b (x ∷ xs) = rw (grouped a b x) (foldl-grouped a (f b x) xs)

  -- the number chosen is one of them
  pub foldl-member : (a : ℕ) (xs : List ℕ) → Member 0 (foldl f a xs) (a ∷ xs)
  foldl-member a [] = (0, omega arith, refl)
  foldl-member a (x ∷ xs) = go (t a x) refl (foldl-member (f a x) xs)
    where
      go : (b : Bool) → t a x ≡ b → Member 0 (foldl f (f a x) xs) (f a x ∷ xs) → Member 0 (foldl f (f a x) xs) (a ∷ x ∷ xs)
      go true p (zero, h, e) = (1, omega arith, sym (takes-second a x p) ∙ e)
      go false p (zero, h, e) = (0, omega arith, sym (takes_first a x p) ∙ e)
      go b p (suc j, h, e) = (suc (suc j), omega arith, e)

  -- none of them is taken in its place
  pub foldl-stays : (a : ℕ) (xs : List ℕ) → Each 0 (λ x. t (foldl f a xs) x ≡ false) (a ∷ xs)
  foldl-stays a [] zero h = itself a
  foldl-stays a [] (suc j) h = absurd (omega arith)
  foldl-stays a (x ∷ xs) zero h = c.off _ (f a x) a (foldl-stays (f a x) xs 0 (omega arith)) (stays a x).0
  foldl-stays a (x ∷ xs) (suc zero) h = c.off _ (f a x) x (foldl-stays (f a x) xs 0 (omega arith)) (stays a x).1
  foldl-stays a (x ∷ xs) (suc (suc j)) h = foldl-stays (f a x) xs (suc j) (omega arith)

  -- if m is taken in place of each before its first place, so is the one chosen of x and m, where x stands in front
  before : (x m : ℕ) (ys : List ℕ) → ((j : ℕ) → j < first_at m ys → t (slice_index ys j) m ≡ true)
      → (j : ℕ) → j < first_at (f x m) (x ∷ ys) → t (slice_index (x ∷ ys) j) (f x m) ≡ true
  unfolding first_at
  before x m ys r = go (t x m) refl
    where
      go : (b : Bool) → t x m ≡ b → (j : ℕ) → j < cond (x == f x m) 0 (suc (first_at (f x m) ys)) → t (slice_index (x ∷ ys) j) (f x m) ≡ true
      go true p zero h = rw (takes-second x m p) p
      go true p (suc j) h = rw (takes-second x m p) (r j (later (x == m) j (first_at m ys) (rw (takes-second x m p) at h)))
      go false p j h = absurd (omega (arith, (rw (takes_first x m p, eq-eqb x x refl) at h)))

  -- it is taken in place of each before its first place
  pub foldl-before : (x : ℕ) (xs : List ℕ) (j : ℕ) → j < first_at (foldl f x xs) (x ∷ xs) → t (slice_index (x ∷ xs) j) (foldl f x xs) ≡ true
  unfolding first_at
  foldl-before x [] = λ j h. absurd (omega (arith, (rw (eq-eqb x x refl) at h)))
  foldl-before x (y ∷ ys) =
      subst (λ (z : ℕ). (j : ℕ) → j < first_at z (x ∷ y ∷ ys) → t (slice_index (x ∷ y ∷ ys) j) z ≡ true) (sym (foldl-grouped x y ys))
      (before x (foldl f y ys) (y ∷ ys) (foldl-before y ys))
