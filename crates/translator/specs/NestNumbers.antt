-- Numbers that stand one behind the other, and the nest that they give.
--
--   stand-append, stand-cut    two lists of numbers
--   stand-sized, stand-based, stand-kept   what they leave as it was
--   stand-bytes, stand-holds   the nest's own numbers stand there, each in its range
--   copied                     a nest's numbers put into another
--   copied-stands              a nest's own numbers, where they stand
--   copied-kept, copied-there  what they leave, and what they give
use Prim.Native.Nat.{ℕ, ◌+◌, ◌≤◌, ◌<◌}
use Rattle.std.specs.Prelude.{◌≡◌, ℤ, pos, negsuc, nat_abs}
use Rattle.std.proofs.Math.Path.{refl, ap, subst}
use Rattle.std.proofs.Common.{sym, ◌∙◌, arith}
use mathlib.Core.List.{List, [], ◌∷◌, ◌++◌}
use Rattle.std.proofs.Math.ListN.{length}
use Rattle.std.specs.Int.Signed.{mag}
use Rattle.codec.specs.Numbers.{number_bytes, signed_of}
use Rattle.codec.specs.NumberLaws.{Stands, stands-join, signed_range}
use Rattle.codec.specs.StandingLaws.{stands-none, stands-front, stands-back}
use Rattle.engine.specs.Promise1.{NumberAt}
use Rattle.translator.specs.Fields.{Role, Field, width, loops, coupled, operation, count, term, base, stride, range_of, Holds, access_of, put, number_in}
use Rattle.translator.specs.FieldLists.{All}
use Rattle.translator.specs.PlaceLaws.{place, Sized, HasPlace, put-sized, number_put, number-kept}
use Rattle.translator.specs.SameNests.{Based, put-based}
use Rattle.translator.specs.FieldPlaces.{Fresh, Distinct}
use Rattle.translator.specs.Reading.{numbers_bytes}
use Rattle.translator.specs.Acceptance.{Stand}
use Rattle.translator.specs.declared.nest.Nest.{Nest}

-- ---- from the bytes to the nest

module _ (s : List ℕ) where
  -- numbers of one list, and behind them numbers of another, are numbers of both joined
  pub stand-append : (xs ys : List Field) (at mid to : ℕ) (m k n : Nest) → Stand s xs at m mid k → Stand s ys mid k to n → Stand s (xs ++ ys) at m to n
  unfolding Stand
  stand-append [] ys at mid to m k n h l = subst (λ x. Stand s ys x m to n) (sym h.0) (subst (λ x. Stand s ys mid x to n) (sym h.1) l)
  stand-append (x ∷ xs) ys at mid to m k n h l = (h.0, h.1, h.2, h.3, stand-append xs ys h.1 mid to (put x h.0 m) k n h.4 l)

  -- numbers of two lists joined are numbers of the first, and behind them numbers of the second
  pub stand-cut : (xs ys : List Field) (at to : ℕ) (m n : Nest) → Stand s (xs ++ ys) at m to n
      → (mid : ℕ) × (k : Nest) × Stand s xs at m mid k × Stand s ys mid k to n
  unfolding Stand
  stand-cut [] ys at to m n h = (at, m, (refl, refl), h)
  stand-cut (x ∷ xs) ys at to m n h =
      let r = stand-cut xs ys h.1 to (put x h.0 m) n h.4 in
      (r.0, r.1, (h.0, h.1, h.2, h.3, r.2), r.3)

  -- numbers that are put in leave the parts as long as they were
  pub stand-sized : (fs : List Field) (at to : ℕ) (m n : Nest) → Stand s fs at m to n → Sized m → Sized n
  unfolding Stand
  stand-sized [] at to m n h l = subst Sized h.1 l
  stand-sized (f ∷ fs) at to m n h l = stand-sized fs h.1 to (put f h.0 m) n h.4 (put-sized f h.0 m m.loops h.3 l)

  -- numbers that are put in leave the bases 0 or more
  pub stand-based : (fs : List Field) (at to : ℕ) (m n : Nest) → Stand s fs at m to n → ((a : Role) → Based (access_of a m)) → (a : Role) → Based (access_of a n)
  unfolding Stand
  stand-based [] at to m n h b a = subst (λ k. Based (access_of a k)) h.1 (b a)
  stand-based (f ∷ fs) at to m n h b a = stand-based fs h.1 to (put f h.0 m) n h.4 (put-based f h.0 m b) a

  -- numbers that are put in leave every other number as it was
  pub stand-kept : (fs : List Field) (at to : ℕ) (m n : Nest) → Stand s fs at m to n → (g : Field) → Fresh (place g) fs → number_in g n ≡ number_in g m
  unfolding Stand All
  stand-kept [] at to m n h g u = ap (number_in g) (sym h.1)
  stand-kept (f ∷ fs) at to m n h g u =
      stand-kept fs h.1 to (put f h.0 m) n h.4 g u.1 ∙ number-kept f g h.0 m m.loops h.3 u.0

  -- what is put in first is there at the end
  first-given : (f : Field) (fs : List Field) (v at to : ℕ) (m n : Nest) → Holds (range_of m.loops f) v → Stand s fs at (put f v m) to n
      → Sized m → HasPlace f → Fresh (place f) fs → number_in f n ≡ v
  first-given f fs v at to m n h k l u a = stand-kept fs at to (put f v m) n k f a ∙ number_put f v m m.loops h l u

  -- where numbers stand, the numbers of the nest that they give stand
  pub stand-bytes : (fs : List Field) (at to : ℕ) (m n : Nest) → Stand s fs at m to n → at ≤ length s → Sized m → Distinct fs → All HasPlace fs
      → Stands s at (numbers_bytes n fs) to
  unfolding Stand All Distinct numbers_bytes
  stand-bytes [] at to m n h b l a u = subst (Stands s at []) h.0 (stands-none s at b)
  stand-bytes (f ∷ fs) at to m n h b l a u =
      let e : number_in f n ≡ h.0 = first-given f fs h.0 h.1 to m n h.3 h.4 l u.0 a.0 in
      let here : Stands s at (number_bytes (number_in f n)) h.1 = rw e h.2.stands in
      stands-join here
      (stand-bytes fs h.1 to (put f h.0 m) n h.4 h.2.stands.within (put-sized f h.0 m m.loops h.3 l) a.1 u.1)

  -- where numbers stand, the numbers of the nest that they give are in their ranges
  pub stand-holds : (fs : List Field) (at to : ℕ) (m n : Nest) → Stand s fs at m to n → Sized m → Distinct fs → All HasPlace fs → Fresh (place loops) fs
      → All (λ f. Holds (range_of m.loops f) (number_in f n)) fs
  unfolding Stand All Distinct
  stand-holds [] at to m n h l a u q = tt
  stand-holds (f ∷ fs) at to m n h l a u q =
      let e : number_in f n ≡ h.0 = first-given f fs h.0 h.1 to m n h.3 h.4 l u.0 a.0 in
      let d : (put f h.0 m).loops ≡ m.loops = number-kept f loops h.0 m m.loops h.3 q.0 in (
        rw e h.3,
        rw d at (stand-holds fs h.1 to (put f h.0 m) n h.4 (put-sized f h.0 m m.loops h.3 l) a.1 u.1 q.1),
      )

-- ---- from the nest to the bytes

-- a nest with the numbers of these fields taken from another
unfoldable pub copied : List Field → Nest → Nest → Nest
copied [] m n = m
copied (f ∷ fs) m n = copied fs (put f (number_in f n) m) n

-- a signed number in its range is below 2^32 as written
reach-small : (v : ℕ) → nat_abs (signed_of v) ≤ 1048576 → v < 4294967296
reach-small v h = (signed_range v).1 (go (signed_of v) h)
  where
    go : (z : ℤ) → nat_abs z ≤ 1048576 → mag z < 2147483648
    go (pos n) h = omega arith
    go (negsuc n) h = omega arith

-- every number in its range is below 2^32 as written
pub holds-small : (D : ℕ) (f : Field) (v : ℕ) → D ≤ 7 → Holds (range_of D f) v → v < 4294967296
holds-small D width v d h = omega arith
holds-small D loops v d h = omega arith
holds-small D coupled v d h = omega arith
holds-small D operation v d h = omega arith
holds-small D (count t) v d h = omega arith
holds-small D (term t o) v d h = reach-small v h
holds-small D (base a) v d h = omega arith
holds-small D (stride a k) v d h = reach-small v h

module _ (s : List ℕ) (n : Nest) (D : ℕ) (small : D ≤ 7) where
  -- where a nest's numbers stand as bytes, they stand as numbers in their ranges
  pub copied-stands : (fs : List Field) (at to : ℕ) (m : Nest) → Stands s at (numbers_bytes n fs) to → m.loops ≡ D → Fresh (place loops) fs
      → All (λ f. Holds (range_of D f) (number_in f n)) fs → Stand s fs at m to (copied fs m n)
  unfolding Stand All numbers_bytes copied
  copied-stands [] at to m h e u r = (omega (arith, h.behind), refl)
  copied-stands (f ∷ fs) at to m h e u r =
      let v : ℕ = number_in f n in
      let l : List ℕ = number_bytes v in
      let there : NumberAt s at v (at + length l) =
      record { small = holds-small D f v small r.0; stands = stands-front s l (numbers_bytes n fs) at to h } in
      let held : Holds (range_of m.loops f) v = subst (λ d. Holds (range_of d f) v) (sym e) r.0 in (
        v,
        at + length l,
        there,
        held,
        copied-stands fs (at + length l) to (put f v m) (stands-back s l (numbers_bytes n fs) at to h)
            (number-kept f loops v m D r.0 u.0 ∙ e) u.1 r.1,
      )

module _ (n : Nest) (D : ℕ) where
  -- every number of other fields stays as it was
  pub copied-kept : (fs : List Field) (m : Nest) → All (λ f. Holds (range_of D f) (number_in f n)) fs → (g : Field) → Fresh (place g) fs
      → number_in g (copied fs m n) ≡ number_in g m
  unfolding All copied
  copied-kept [] m r g u = refl
  copied-kept (f ∷ fs) m r g u = copied-kept fs (put f (number_in f n) m) r.1 g u.1 ∙ number-kept f g (number_in f n) m D r.0 u.0

  -- every number of these fields is that of the other nest
  pub copied-there : (fs : List Field) (m : Nest) → All (λ f. Holds (range_of D f) (number_in f n)) fs → Sized m → Distinct fs → All HasPlace fs
      → All (λ f. number_in f (copied fs m n) ≡ number_in f n) fs
  unfolding All Distinct copied
  copied-there [] m r l a u = tt
  copied-there (f ∷ fs) m r l a u = (
    copied-kept fs (put f (number_in f n) m) r.1 f a.0 ∙ number_put f (number_in f n) m D r.0 l u.0,
    copied-there fs (put f (number_in f n) m) r.1 (put-sized f (number_in f n) m D r.0 l) a.1 u.1,
  )
