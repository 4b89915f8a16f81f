-- What holds of each number of a nest, list by list.
--
--   All                                  what holds of each field of a list
--   all_append, all-front, all_back      of two lists joined
--   all-terms, all-strides, all-loops    of terms, strides and loops: exactly if it holds of each by its indices
--   OfLoop, OfAccess, EachField, all_rest                  of all numbers behind the first four
use Prim.Native.Nat.{ℕ, zero, suc, ◌+◌, ◌≤◌, ◌<◌}
use Rattle.std.specs.Prelude.{◌≡◌, refl, ◌↔◌}
use Rattle.std.proofs.Common.{subst, arith}
use mathlib.Core.List.{List, [], ◌∷◌, ◌++◌}
use Rattle.std.proofs.Math.Decide.{dec_lt}
use Rattle.translator.specs.Fields.{Role, first, second, destination, Field, count, term, base, stride, term_fields, loop_fields, stride_fields, access_fields, rest_fields}

-- what holds of index o and of the n behind it holds of each index from o on, as many and one more
each_next : (Q : ℕ → Type 0) (o n : ℕ) → Q o → ((k : ℕ) → suc o ≤ k → k < suc o + n → Q k) → (k : ℕ) → o ≤ k → k < o + suc n → Q k
each_next Q o n here rest k l u = go (dec_lt o k)
  where
    go : Dec (o < k) → Q k
    go (yes q) = rest k q (omega arith)
    go (no q) = let e : o ≡ k = omega arith in subst Q e here

module _ (P : Field → Type 0) where
  -- P holds of each field of a list
  unfoldable pub All : List Field → Type 0
  All [] = Unit {0}
  All (f ∷ fs) = P f × All fs

  -- what holds of each field of two lists holds of each field of both joined
  pub all_append : (xs ys : List Field) → All xs → All ys → All (xs ++ ys)
  unfolding All
  all_append [] ys h k = k
  all_append (x ∷ xs) ys h k = (h.0, all_append xs ys h.1 k)

  -- what holds of each field of two lists joined holds of each of the first
  pub all-front : (xs ys : List Field) → All (xs ++ ys) → All xs
  unfolding All
  all-front [] ys h = tt
  all-front (x ∷ xs) ys h = (h.0, all-front xs ys h.1)

  -- what holds of each field of two lists joined holds of each of the second
  pub all_back : (xs ys : List Field) → All (xs ++ ys) → All ys
  unfolding All
  all_back [] ys h = h
  all_back (x ∷ xs) ys h = all_back xs ys h.1

  -- P holds of n fields of a family, one after the other from index o on, exactly if it holds of each by its index
  all_from : (g : ℕ → Field) (fields : ℕ → ℕ → List Field) → ((o : ℕ) → fields o 0 ≡ []) → ((o n : ℕ) → fields o (suc n) ≡ g o ∷ fields (suc o) n)
      → (o n : ℕ) → All (fields o n) ↔ ((k : ℕ) → o ≤ k → k < o + n → P (g k))
  unfolding All
  all_from g fields none more o zero = rw (none o) (λ h k l u. absurd (omega arith), λ h. tt)
  all_from g fields none more o (suc n) =
      rw (more o n) (
        λ h. each_next (λ k. P (g k)) o n h.0 ((all_from g fields none more (suc o) n).0 h.1),
        λ h. (h o (omega arith) (omega arith), (all_from g fields none more (suc o) n).1 (λ k l u. h k (omega arith) (omega arith))),
      )

  -- P holds of the terms of loop t for n loops from o on exactly if it holds of each by its loop
  pub all-terms : (t o n : ℕ) → All (term_fields t o n) ↔ ((k : ℕ) → o ≤ k → k < o + n → P (term t k))
  unfolding term_fields
  all-terms t = all_from (term t) (term_fields t) (λ o. refl) (λ o n. refl)

  -- P holds of the strides of an access for n loops from d on exactly if it holds of each by its loop
  pub all-strides : (a : Role) (d n : ℕ) → All (stride_fields a d n) ↔ ((k : ℕ) → d ≤ k → k < d + n → P (stride a k))
  unfolding stride_fields
  all-strides a = all_from (stride a) (stride_fields a) (λ d. refl) (λ d n. refl)

  -- P holds of the numbers of loop t: its count, and its terms for the loops outside it, below e
  pub record OfLoop (e t : ℕ) : Type 0 where
    pub count : P (count t)
    pub terms : (o : ℕ) → t < o → o < e → P (term t o)

  -- P holds of the numbers of n loops from t on, up to loop e, exactly if it holds of each loop's
  pub all-loops : (t n e : ℕ) → t + n ≡ e → All (loop_fields t n) ↔ ((k : ℕ) → t ≤ k → k < e → OfLoop e k)
  unfolding All loop_fields
  all-loops t zero e q = (λ h k l u. absurd (omega arith), λ h. tt)
  all-loops t (suc n) e q = (
    λ h.
        let here : All (count t ∷ term_fields t (suc t) n) = all-front (count t ∷ term_fields t (suc t) n) (loop_fields (suc t) n) h in
        let loop : OfLoop e t = record { count = here.0; terms = λ o l u. (all-terms t (suc t) n).0 here.1 o l (omega arith) } in
        let rest : (k : ℕ) → suc t ≤ k → k < e → OfLoop e k =
        (all-loops (suc t) n e (omega arith)).0 (all_back (count t ∷ term_fields t (suc t) n) (loop_fields (suc t) n) h) in
        λ k l u. each_next (OfLoop e) t n loop (λ k l u. rest k l (omega arith)) k l (omega arith),
    λ h.
        all_append (count t ∷ term_fields t (suc t) n) (loop_fields (suc t) n)
        ((h t (omega arith) (omega arith)).count, (all-terms t (suc t) n).1 (λ o l u. (h t (omega arith) (omega arith)).terms o l (omega arith)))
        ((all-loops (suc t) n e (omega arith)).1 (λ k l u. h k (omega arith) u)),
  )

  -- P holds of the numbers of an access of D loops: its base and its strides
  pub record OfAccess (D : ℕ) (a : Role) : Type 0 where
    pub base : P (base a)
    pub strides : (d : ℕ) → d < D → P (stride a d)

  -- P holds of the fields of an access exactly if it holds of its base and its strides
  pub all-access : (D : ℕ) (a : Role) → All (access_fields a D) ↔ OfAccess D a
  unfolding All
  all-access D a = (
    λ h. record { base = h.0; strides = λ d u. (all-strides a 0 D).0 h.1 d (omega arith) (omega arith) },
    λ h. (h.base, (all-strides a 0 D).1 (λ k l u. h.strides k (omega arith))),
  )

  -- P holds of the numbers of all D loops, and of those of every access
  pub record EachField (D : ℕ) : Type 0 where
    pub loops : (t : ℕ) → t < D → OfLoop D t
    pub accesses : (a : Role) → OfAccess D a

  -- P holds of all numbers behind the first four exactly if it holds of the loops' and the accesses'
  pub all_rest : (D : ℕ) → All (rest_fields D) ↔ EachField D
  all_rest D = (there, back)
    where
      L : List Field
      L = loop_fields 0 D

      A : Role → List Field
      A a = access_fields a D

      there : All (rest_fields D) → EachField D
      there h =
          let h1 = all_back L (A first ++ (A second ++ A destination)) h in
          let h2 = all_back (A first) (A second ++ A destination) h1 in
          let access : (a : Role) → OfAccess D a = λ a. (all-access D a).0 (of a h1 h2) in
          record {
            loops = λ t u. (all-loops 0 D D (omega arith)).0 (all-front L (A first ++ (A second ++ A destination)) h) t (omega arith) u;
            accesses = access;
          }
        where
          of : (a : Role) → All (A first ++ (A second ++ A destination)) → All (A second ++ A destination) → All (A a)
          of first h k = all-front (A first) (A second ++ A destination) h
          of second h k = all-front (A second) (A destination) k
          of destination h k = all_back (A second) (A destination) k

      back : EachField D → All (rest_fields D)
      back h =
          all_append L (A first ++ (A second ++ A destination)) ((all-loops 0 D D (omega arith)).1 (λ k l u. h.loops k u))
          (all_append (A first) (A second ++ A destination) ((all-access D first).1 (h.accesses first))
          (all_append (A second) (A destination) ((all-access D second).1 (h.accesses second)) ((all-access D destination).1 (h.accesses destination))))
