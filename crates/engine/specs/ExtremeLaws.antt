-- The smallest and the largest lane of a row, and of its parts.
--
--   extreme-member, extreme-stays     the lane chosen is one of the row; none is taken in its place
--   extreme-append                    of two rows joined
--   NoneEmpty, folding-extreme        every part of a row has a lane; the lane chosen of those chosen of the parts
--   not-less, less                    raised lanes in order, as two's complement
--   LeastOf, smallest-least           the smallest
--   GreatestOf, largest-greatest      the largest
--   folding-smallest, folding-largest the smallest of the smallest of the parts; the largest of the largest
use Rattle.std.specs.Prelude.{◌≡◌, ℕ, suc, ◌^◌, ◌<◌, ◌≤◌, Bool, true, false, not, T, List, [], ◌∷◌, ◌++◌, map, length, ◌≤ℤ◌, ◌<ℤ◌, nat_lt, slice_index}
use Rattle.std.proofs.Math.Path.{refl, ap}
use Rattle.std.proofs.Common.{sym, ◌∙◌, subst, arith}
use mathlib.Core.List.{foldl, foldl-append}
use Rattle.std.specs.Int.Signed.{lt_z_no, lt_z_yes}
use Rattle.codec.specs.declared.operation.Action.{Action}
use Rattle.codec.specs.declared.operation.Action.TheVariants.{Smaller, Larger}
use Rattle.codec.specs.declared.operation.Fold.TheVariants.{Smallest, Largest}
use Rattle.engine.specs.Loops.{join}
use Rattle.engine.specs.Members.{Each, Member}
use Rattle.engine.specs.Lanes.{raised, lane, extreme, folded}
use Rattle.engine.specs.SignedLaws.{twos, raised-order}
use Rattle.engine.specs.FoldLaws.{Narrow, extreme-small}
use Rattle.engine.specs.ChoiceLaws.{Chooses, smaller-chooses, larger-chooses, foldl-grouped, foldl-member, foldl-stays}

-- every part of a row has a lane
abbrev pub NoneEmpty : List (List ℕ) → Type 0
NoneEmpty xss = Each [] (λ xs. 1 ≤ length xs) xss

module _ (action : Action) (n : ℕ) {t : ℕ → ℕ → Bool} (c : Chooses (lane action n) t) where
  -- the lane chosen is one of the row
  pub extreme-member : (xs : List ℕ) → 1 ≤ length xs → Member 0 (extreme action n xs) xs
  unfolding extreme
  extreme-member [] l = absurd (omega arith)
  extreme-member (x ∷ xs) l = foldl-member c x xs

  -- none of the row is taken in its place
  pub extreme-stays : (xs : List ℕ) → Each 0 (λ x. t (extreme action n xs) x ≡ false) xs
  unfolding extreme
  extreme-stays [] j h = absurd (omega arith)
  extreme-stays (x ∷ xs) j h = foldl-stays c x xs j h

  -- of two rows joined: the one chosen of both
  pub extreme-append : (xs ys : List ℕ) → 1 ≤ length xs → 1 ≤ length ys → extreme action n (xs ++ ys) ≡ lane action n (extreme action n xs) (extreme action n ys)
  unfolding extreme
  extreme-append [] ys l m = absurd (omega arith)
  extreme-append (x ∷ xs) [] l m = absurd (omega arith)
  extreme-append (x ∷ xs) (y ∷ ys) l m = foldl-append (lane action n) x xs (y ∷ ys) ∙ foldl-grouped c (foldl (lane action n) x xs) y ys

  -- from a lane on: over all lanes of the parts, or over the one chosen of each
  parts-foldl : (a : ℕ) (xss : List (List ℕ)) → NoneEmpty xss → foldl (lane action n) a (join xss) ≡ foldl (lane action n) a (map (extreme action n) xss)
  unfolding extreme join
  parts-foldl a [] h = refl
  parts-foldl a ([] ∷ xss) h = absurd (omega (arith, h 0 (omega arith)))
  parts-foldl a ((x ∷ xs) ∷ xss) h =
      foldl-append (lane action n) a (x ∷ xs) (join xss)
      ∙ ap (λ b. foldl (lane action n) b (join xss)) (foldl-grouped c a x xs)
      ∙ parts-foldl (lane action n a (foldl (lane action n) x xs)) xss (λ j p. h (suc j) (omega arith))

  -- the lane chosen of a row is the one chosen of those chosen of its parts
  pub folding-extreme : (xss : List (List ℕ)) → NoneEmpty xss → extreme action n (join xss) ≡ extreme action n (map (extreme action n) xss)
  unfolding extreme join
  folding-extreme [] h = refl
  folding-extreme ([] ∷ xss) h = absurd (omega (arith, h 0 (omega arith)))
  folding-extreme ((x ∷ xs) ∷ xss) h =
      foldl-append (lane action n) x xs (join xss) ∙ parts-foldl (foldl (lane action n) x xs) xss (λ j p. h (suc j) (omega arith))

-- the lane r is one of the row, and none is smaller as two's complement
pub record LeastOf (n : ℕ) (xs : List ℕ) (r : ℕ) : Type 0 where
  pub member : Member 0 r xs
  pub least : Each 0 (λ x. twos n r ≤ℤ twos n x) xs

-- the lane r is one of the row, and none is larger as two's complement
pub record GreatestOf (n : ℕ) (xs : List ℕ) (r : ℕ) : Type 0 where
  pub member : Member 0 r xs
  pub greatest : Each 0 (λ x. twos n x ≤ℤ twos n r) xs

module _ (n : ℕ) (some : 1 ≤ n) where
  -- a lane that, raised, is not less is at least the other
  pub not-less : (a b : ℕ) → a < 2 ^ n → b < 2 ^ n → nat_lt (raised n a) (raised n b) ≡ false → twos n b ≤ℤ twos n a
  not-less a b p q e = lt_z_no (subst (λ t. T (not t)) (sym e ∙ raised-order n some a b p q) tt)

  -- one that is less is less
  pub less : (a b : ℕ) → a < 2 ^ n → b < 2 ^ n → nat_lt (raised n a) (raised n b) ≡ true → twos n a <ℤ twos n b
  less a b p q e = lt_z_yes (subst T (sym e ∙ raised-order n some a b p q) tt)

  module _ (xs : List ℕ) (l : 1 ≤ length xs) (h : Narrow n xs) where
    -- 02, 2/14: "signed smallest"
    pub smallest-least : LeastOf n xs (folded Smallest n xs)
    smallest-least = record {
      member = extreme-member Smaller n (smaller-chooses n) xs l;
      least = λ j p. not-less (slice_index xs j) _ (h j) (extreme-small n Smaller xs h) (extreme-stays Smaller n (smaller-chooses n) xs j p);
    }

    -- "signed largest"
    pub largest-greatest : GreatestOf n xs (folded Largest n xs)
    largest-greatest = record {
      member = extreme-member Larger n (larger-chooses n) xs l;
      greatest = λ j p. not-less _ (slice_index xs j) (extreme-small n Larger xs h) (h j) (extreme-stays Larger n (larger-chooses n) xs j p);
    }

module _ (n : ℕ) (xss : List (List ℕ)) (some : NoneEmpty xss) where
  -- the smallest lane of a row is the smallest of the smallest of its parts
  pub folding-smallest : folded Smallest n (join xss) ≡ folded Smallest n (map (folded Smallest n) xss)
  folding-smallest = folding-extreme Smaller n (smaller-chooses n) xss some

  -- the largest is the largest of the largest
  pub folding-largest : folded Largest n (join xss) ≡ folded Largest n (map (folded Largest n) xss)
  folding-largest = folding-extreme Larger n (larger-chooses n) xss some
