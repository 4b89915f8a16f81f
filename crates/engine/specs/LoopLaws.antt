-- The loops list exactly the index vectors that lie within their sizes, each once, outermost slowest.
--
--   Within, Before            an index vector within the sizes; one that comes earlier, outermost slowest
--   before-not-self, before-drop   nothing comes before itself; the outer indices decide
--   loops-within              every member lies within the sizes
--   loops-found               whatever lies within the sizes is a member
--   loops-order               an earlier member comes before a later one
--   loops-once                each stands at one place only
--   loops-length, loops-drop  a member's length; its outer indices
use Rattle.std.specs.Prelude.{◌≡◌, ℕ, zero, suc, ◌+◌, ◌<◌, ◌⊎◌, List, [], ◌∷◌, length, get_or, drop, slice_index, slice_index_or, refl}
use Rattle.std.proofs.Math.Path.{sym}
use Rattle.std.proofs.Common.{◌∙◌, ap, inl, inr, eq-or-lt_of_le, add-zero, add-one, get_or-drop, drop-drop, drop-cons}
use native.Mathlib.Omega.{arith}
use Rattle.std.proofs.Math.Decide.{dec_lt}
use Rattle.engine.specs.Loops.{loops}
use Rattle.engine.specs.Members.{Each, Member, Ordered, each-one, each-span, member-span, ordered-span}

-- an index vector of n loops from dimension d on in front of `outer`, each index below its size at the indices outside it
pub record Within (size : ℕ → List ℕ → ℕ) (d n : ℕ) (outer v : List ℕ) : Type 0 where
  pub long : length v ≡ n + length outer
  pub outside : drop n v ≡ outer
  pub below : (k : ℕ) → k < n → slice_index v k < size (d + k) (drop (suc k) v)

-- "outermost slowest": at the outermost place where they differ, the first has the smaller index
unfoldable pub Before : List ℕ → List ℕ → Type 0
Before [] v = ⊥
Before (i ∷ u) [] = ⊥
Before (i ∷ u) (j ∷ v) = Before u v ⊎ ((u ≡ v) × (i < j))

-- nothing comes before itself
pub before-not-self : (u : List ℕ) → Before u u → ⊥
unfolding Before
before-not-self [] b = b
before-not-self (i ∷ u) (inl b) = before-not-self u b
before-not-self (i ∷ u) (inr (e, h)) = omega arith

-- the outer indices decide
pub before-drop : (n : ℕ) (u v : List ℕ) → Before (drop n u) (drop n v) → Before u v
unfolding Before
before-drop zero u v b = b
before-drop (suc n) [] v b = absurd b
before-drop (suc n) (i ∷ u) [] b = none (drop n u) b
  where
    none : (w : List ℕ) → Before w [] → ⊥
    none [] h = h
    none (k ∷ w) h = h
before-drop (suc n) (i ∷ u) (j ∷ v) b = inl (before-drop n u v b)

-- at the place outside n loops, the smaller index comes first
before-outer : (n i j : ℕ) (outer u v : List ℕ) → drop n u ≡ i ∷ outer → drop n v ≡ j ∷ outer → i < j → Before u v
unfolding Before
before-outer n i j outer u v e f h = before-drop n u v (rw (e, f) (inr (refl, h)))

module _ (size : ℕ → List ℕ → ℕ) where
  -- one loop more
  within_more : (d n k : ℕ) (outer v : List ℕ) → k < size (d + n) outer → Within size d n (k ∷ outer) v → Within size d (suc n) outer v
  within_more d n k outer v h w = record { long = omega arith; outside = out; below = low }
    where
      out : drop (suc n) v ≡ outer
      out = ap (λ i. drop i v) (sym (add-one n)) ∙ sym (drop-drop 1 n v) ∙ ap (drop 1) w.outside

      here : get_or v n 0 ≡ k
      here = ap (λ i. slice_index v i) (sym (add-zero n)) ∙ sym (get_or-drop n v 0 0) ∙ ap (λ l. slice_index l 0) w.outside

      low : (j : ℕ) → j < suc n → slice_index v j < size (d + j) (drop (suc j) v)
      low j p = go (eq-or-lt_of_le p)
        where
          go : (suc j ≡ suc n) ⊎ (suc j < suc n) → slice_index v j < size (d + j) (drop (suc j) v)
          go (inl e) = let f : j ≡ n = omega arith in rw (f, out, here) h
          go (inr l) = w.below j (omega arith)

  -- one loop less
  within-less : (d n : ℕ) (outer v : List ℕ) → Within size d (suc n) outer v → Within size d n (slice_index v n ∷ outer) v
  within-less d n outer v w = record {
    long = omega arith;
    outside = drop-cons v n 0 (omega arith) ∙ ap (λ l. slice_index v n ∷ l) w.outside;
    below = λ k h. w.below k (omega arith);
  }

  -- every member lies within the sizes
  pub loops-within : (d n : ℕ) (outer : List ℕ) → Each [] (Within size d n outer) (loops size d n outer)
  unfolding loops
  loops-within d zero outer = each-one [] (Within size d zero outer) outer (record { long = omega arith; outside = refl; below = λ k p. absurd (omega arith) })
  loops-within d (suc n) outer =
      each-span [] (Within size d (suc n) outer) (λ k. loops size d n (k ∷ outer)) 0 (size (d + n) outer)
      (λ k p q j h. within_more d n k outer _ (omega arith) (loops-within d n (k ∷ outer) j h))

  -- whatever lies within the sizes is a member
  pub loops-found : (d n : ℕ) (outer v : List ℕ) → Within size d n outer v → Member [] v (loops size d n outer)
  unfolding loops
  loops-found d zero outer v w = (0, omega arith, sym w.outside)
  loops-found d (suc n) outer v w =
      let h : get_or v n 0 < size (d + n) outer = rw w.outside at (w.below n (omega arith)) in
      member-span [] v (λ k. loops size d n (k ∷ outer)) 0 (size (d + n) outer) (slice_index v n) (omega arith) (omega arith)
      (loops-found d n (slice_index v n ∷ outer) v (within-less d n outer v w))

  -- a member's length
  pub loops-length : (d n : ℕ) (outer : List ℕ) → Each [] (λ v. length v ≡ n + length outer) (loops size d n outer)
  loops-length d n outer j h = (loops-within d n outer j h).long

  -- a member's outer indices
  pub loops-drop : (d n : ℕ) (outer : List ℕ) → Each [] (λ v. drop n v ≡ outer) (loops size d n outer)
  loops-drop d n outer j h = (loops-within d n outer j h).outside

  -- an earlier member comes before a later one
  pub loops-order : (d n : ℕ) (outer : List ℕ) → Ordered [] Before (loops size d n outer)
  unfolding loops
  loops-order d zero outer = λ j k p h. absurd (omega arith)
  loops-order d (suc n) outer =
      ordered-span [] Before (λ k. loops size d n (k ∷ outer)) 0 (size (d + n) outer) (λ k. loops-order d n (k ∷ outer))
      (λ i j p a x b y. before-outer n i j outer _ _ (loops-drop d n (i ∷ outer) a x) (loops-drop d n (j ∷ outer) b y) p)

  -- each stands at one place only
  pub loops-once : (d n : ℕ) (outer : List ℕ) (j k : ℕ) → j < length (loops size d n outer) → k < length (loops size d n outer)
      → slice_index_or (loops size d n outer) j [] ≡ slice_index_or (loops size d n outer) k [] → j ≡ k
  loops-once d n outer j k p q e = go (dec_lt j k) (dec_lt k j)
    where
      go : Dec (j < k) → Dec (k < j) → j ≡ k
      go (yes h) y = absurd (before-not-self _ (rw e at (loops-order d n outer j k h q)))
      go (no h) (yes g) = absurd (before-not-self _ (rw (sym e) at (loops-order d n outer k j g p)))
      go (no h) (no g) = omega arith
