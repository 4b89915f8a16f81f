-- A nest without terms: its counts are its numbers, and it has as many visits as their product.
--
--   rectangle                  the product of numbers
--   span-many, loops-many      loops that do not depend on each other
--   count-plain, visits-many   a nest without terms
use Rattle.std.specs.Prelude.{ℕ, zero, suc, ◌+◌, ◌*◌, ◌≡◌, length, replicate}
use Rattle.std.proofs.Math.Path.{refl}
use Rattle.std.proofs.Common.{◌∙◌, ap, arith, zero-add, zero-mul, suc-mul, length-append}
use mathlib.Core.List.{List, [], ◌∷◌}
use Rattle.std.proofs.Math.ListN.{get_or}
use Rattle.std.proofs.Math.IntN.{pos}
use Rattle.engine.specs.Loops.{span, loops}
use Rattle.translator.specs.Fields.{term_of}
use Rattle.translator.specs.Nests.{terms_at, count_at, visits}
use Rattle.translator.specs.declared.nest.Nest.{Nest}

-- the product of f 0, f 1, .., n of them
unfoldable pub rectangle : (ℕ → ℕ) → ℕ → ℕ
rectangle f zero = 1
rectangle f (suc n) = f n * rectangle f n

-- ---- loops

-- n lists of c
span-many : {A : Type 0} (f : ℕ → List A) (c : ℕ) → ((k : ℕ) → length (f k) ≡ c) → (k n : ℕ) → length (span f k n) ≡ n * c
unfolding span
span-many f c e k zero = omega (arith, zero-mul c)
span-many f c e k (suc n) = omega (arith, length-append (f k) (span f (suc k) n), e k, span-many f c e (suc k) n, suc-mul n c)

-- loops of sizes that do not depend on the indices outside
loops-many : (size : ℕ → List ℕ → ℕ) (f : ℕ → ℕ) → ((d : ℕ) (outer : List ℕ) → size d outer ≡ f d)
    → (n : ℕ) (outer : List ℕ) → length (loops size 0 n outer) ≡ rectangle f n
unfolding loops rectangle
loops-many size f e zero outer = refl
loops-many size f e (suc n) outer =
    span-many (λ k. loops size 0 n (k ∷ outer)) (rectangle f n) (λ k. loops-many size f e n (k ∷ outer)) 0 (size (0 + n) outer)
    ∙ ap (λ c. c * rectangle f n) (e (0 + n) outer ∙ ap f (zero-add n))

-- ---- nests

module _ (m : Nest) (none : m.terms ≡ replicate 49 (pos 0)) where
  -- no term
  term-none : (t o : ℕ) → term_of m t o ≡ pos 0
  term-none t o = ap (λ l. get_or l (7 * t + o) (pos 0)) none ∙ go (7 * t + o) 49
    where
      go : (k n : ℕ) → get_or (replicate n (pos 0)) k (pos 0) ≡ pos 0
      go k zero = refl
      go zero (suc n) = refl
      go (suc k) (suc n) = go k n

  -- nothing is added
  terms-none : (t o : ℕ) (outer : List ℕ) → terms_at m t o outer ≡ pos 0
  unfolding terms_at
  terms-none t o [] = refl
  terms-none t o (k ∷ outer) = rw (term-none t o, terms-none t (suc o) outer) (ap pos (omega arith))

  -- a count is its number
  pub count-plain : (t : ℕ) (outer : List ℕ) → count_at m t outer ≡ get_or m.counts t 0
  unfolding count_at
  count-plain t outer = rw (terms-none t (suc t) outer) (omega arith)

  -- as many visits as the product of the counts
  pub visits-many : length (visits m) ≡ rectangle (λ t. get_or m.counts t 0) m.loops
  unfolding visits
  visits-many = loops-many (count_at m) (λ t. get_or m.counts t 0) count-plain m.loops []
