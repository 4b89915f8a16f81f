-- Two stops' highest difference, and when a flag is set.
--
--   differ-drop               it is at most i exactly if the indices above dimension i are the same
--   differ-flag               it is above i exactly if they are not
--   differ-none               there is none exactly if they are the same
--   differ-length             it is at most their length
--   loops-even                the elements of loops are equally long
--   differ_next, loops-differ  the highest difference between one and the next; there is one
--   height-end, height-between   the height when no stop is left, and between two stops
--   flag-set                  a flag is set exactly if no stop is left or the next one differs in an index above
--   flag-clear                the flags are clear before any stop, if one is to come
--   flag-all                  all are set when no stop is left
--   flag-below                a flag that is set has all below it set
--   height-high               the height is at most one above the dimensions
use Rattle.std.specs.Prelude.{◌≡◌, ℕ, zero, suc, ◌+◌, ◌-◌, ◌<◌, ◌≤◌, Bool, true, false, cond, ◌⊎◌, ◌↔◌, List, [], ◌∷◌, ◌++◌, length, drop, replicate, ◌==◌, ◌≢◌, slice_index, slice_index_or, refl}
use Rattle.std.proofs.Common.{sym, ◌∙◌, ap, subst, inl, inr, ⊎_elim, eq-or-lt_of_le, get_or-drop}
use native.Mathlib.Omega.{arith}
use Rattle.std.proofs.Math.Decide.{dec_le}
use borrow.Author.Tests.{ltb-true, lt-ltb, le-ltb, le-leb, lt-leb, eqb-true, eq-eqb, ne_eqb}
use Rattle.engine.specs.Configure.{Covers}
use Rattle.engine.specs.Loops.{loops}
use Rattle.engine.specs.LoopLaws.{Before, loops-length, loops-order, before-not-self}
use Rattle.engine.specs.Chunks.{stops, or_above, differ, height, flag}
use Rattle.engine.specs.StopLaws.{stop-length, stop-even}
use Rattle.engine.specs.declared.stream.Shape.{Shape}

-- one place more
or_above-step : (n h k : ℕ) → n ≤ 1 → (or_above n h ≤ suc k) ↔ (h ≤ k)
or_above-step n zero k p = (λ q. omega arith, λ q. omega arith)
or_above-step n (suc h) k p = (λ q. omega arith, λ q. omega arith)

-- no difference in all: none here and none above
or_above-none : (n h : ℕ) → or_above n h ≤ 0 → (n ≤ 0) × (h ≤ 0)
or_above-none n zero p = (p, omega arith)
or_above-none n (suc h) p = absurd (omega arith)

-- a place counts for at most 1
here-low : (b : Bool) → cond b 0 1 ≤ 1
here-low true = omega arith
here-low false = omega arith

-- a place that counts for 0 has the same index on both sides
here-none : (b : Bool) → cond b 0 1 ≤ 0 → b ≡ true
here-none true e = refl
here-none false e = absurd (omega arith)

-- a stop differs from itself nowhere
pub differ_self : (u : List ℕ) → differ u u ≡ 0
unfolding differ
differ_self [] = refl
differ_self (i ∷ u) = rw (eq-eqb i i refl, differ_self u)

-- equally long vectors that differ nowhere are the same
same : (u v : List ℕ) → length u ≡ length v → differ u v ≤ 0 → u ≡ v
unfolding differ
same [] [] e h = refl
same [] (j ∷ v) e h = absurd (omega arith)
same (i ∷ u) [] e h = absurd (omega arith)
same (i ∷ u) (j ∷ v) e h =
    let (p, q) = or_above-none (cond (i == j) 0 1) (differ u v) h in
    let f : i ≡ j = eqb-true i j (here-none (i == j) p) in
    let g : u ≡ v = same u v (omega arith) q in
    cc

-- there is no difference exactly if they are the same
pub differ-none : (u v : List ℕ) → length u ≡ length v → (differ u v ≡ 0) ↔ (u ≡ v)
differ-none u v e = (λ h. same u v e (omega arith), λ h. rw (← h) (differ_self u))

-- the highest difference is at most i exactly if the indices above dimension i are the same
pub differ-drop : (i : ℕ) (u v : List ℕ) → length u ≡ length v → (differ u v ≤ i) ↔ (drop i u ≡ drop i v)
unfolding differ
differ-drop zero u v e = (same u v e, λ h. omega (arith, (differ-none u v e).1 h))
differ-drop (suc i) [] [] e = (λ h. refl, λ h. omega arith)
differ-drop (suc i) [] (j ∷ v) e = absurd (omega arith)
differ-drop (suc i) (k ∷ u) [] e = absurd (omega arith)
differ-drop (suc i) (k ∷ u) (j ∷ v) e =
    let s = or_above-step (cond (k == j) 0 1) (differ u v) i (here-low (k == j)) in
    let r = differ-drop i u v (omega arith) in
    (λ h. r.0 (s.0 h), λ h. s.1 (r.1 h))

-- it is above i exactly if they are not
pub differ-flag : (i : ℕ) (u v : List ℕ) → length u ≡ length v → (flag (differ u v) i ≡ true) ↔ (¬ (drop i u ≡ drop i v))
differ-flag i u v e = (λ f d. let a = ltb-true i (differ u v) f in omega (arith, (differ-drop i u v e).1 d), λ d. go d (dec_le (differ u v) i))
  where
    go : ¬ (drop i u ≡ drop i v) → Dec (differ u v ≤ i) → flag (differ u v) i ≡ true
    go d (yes h) = absurd (d ((differ-drop i u v e).0 h))
    go d (no h) = lt-ltb i (differ u v) (omega arith)

-- the highest difference is at most their length
pub differ-length : (u v : List ℕ) → differ u v ≤ length u
unfolding differ
differ-length [] v = omega arith
differ-length (i ∷ u) [] = omega arith
differ-length (i ∷ u) (j ∷ v) = (or_above-step (cond (i == j) 0 1) (differ u v) (length u) (here-low (i == j))).1 (differ-length u v)

-- the elements of loops are equally long
pub loops-even : (size : ℕ → List ℕ → ℕ) (d n : ℕ) (outer : List ℕ) (j k : ℕ) → j < length (loops size d n outer) → k < length (loops size d n outer)
    → length (slice_index_or (loops size d n outer) j []) ≡ length (slice_index_or (loops size d n outer) k [])
loops-even size d n outer j k p q = loops-length size d n outer j p ∙ sym (loops-length size d n outer k q)

-- what comes before another differs from it
before-differ : (u v : List ℕ) → length u ≡ length v → Before u v → 1 ≤ differ u v
before-differ u v e b = go (dec_le 1 (differ u v))
  where
    go : Dec (1 ≤ differ u v) → 1 ≤ differ u v
    go (yes p) = p
    go (no p) = absurd (before-not-self v (subst (λ w. Before w v) (same u v e (omega arith)) b))

-- the highest difference between one and the next
abbrev pub differ_next : List (List ℕ) → ℕ → ℕ
differ_next es n = differ (slice_index_or es n []) (slice_index_or es (suc n) [])

-- one element differs from the next
pub loops-differ : (size : ℕ → List ℕ → ℕ) (d n : ℕ) (outer : List ℕ) (j : ℕ) → suc j < length (loops size d n outer)
    → 1 ≤ differ_next (loops size d n outer) j
loops-differ size d n outer j h =
    before-differ _ _ (loops-even size d n outer j (suc j) (omega arith) h) (loops-order size d n outer j (suc j) (omega arith) h)

module _ (s : Shape) (n : ℕ) where
  -- the height when no stop is left
  pub height-end : length (stops s) ≤ n → height s n ≡ suc s.dims
  unfolding height
  height-end h = rw (le-leb (length (stops s)) n h)

  -- the height between two stops
  pub height-between : 0 < n → n < length (stops s) → height s n ≡ differ (slice_index_or (stops s) (n - 1) []) (slice_index_or (stops s) n [])
  unfolding height
  height-between p h = rw (lt-leb (length (stops s)) n h, ne_eqb n 0 (omega arith))

  -- all flags are set when no stop is left
  pub flag-all : (i : ℕ) → length (stops s) ≤ n → i ≤ s.dims → flag (height s n) i ≡ true
  flag-all i h p = rw (height-end h) (lt-ltb i (suc s.dims) (omega arith))

  -- "set exactly if the last element moved is the last of its pass of dimension i: the next element, if any, differs in an index above i", with
  -- stops for elements; of a coupled stream in 02's words: PassFlags
  pub flag-set : Covers s.dims s.coupling → (i : ℕ) → 0 < n → n ≤ length (stops s) → i ≤ s.dims
      → (flag (height s n) i ≡ true) ↔ ((n ≡ length (stops s)) ⊎ (¬ (drop i (slice_index_or (stops s) (n - 1) []) ≡ drop i (slice_index_or (stops s) n []))))
  flag-set c i p h q = go (eq-or-lt_of_le h)
    where
      go : (n ≡ length (stops s)) ⊎ (n < length (stops s))
          → (flag (height s n) i ≡ true) ↔ ((n ≡ length (stops s)) ⊎ (¬ (drop i (slice_index_or (stops s) (n - 1) []) ≡ drop i (slice_index_or (stops s) n []))))
      go (inl e) = (λ f. inl e, λ f. flag-all i (omega arith) q)
      go (inr l) =
          let r = differ-flag i (slice_index_or (stops s) (n - 1) []) (slice_index_or (stops s) n []) (stop-even s c (n - 1) n (omega arith) l) in
          rw (height-between p l) (λ f. inr (r.0 f), ⊎_elim (λ e. absurd (omega arith)) r.1)

  -- the height is at most one above the dimensions
  pub height-high : Covers s.dims s.coupling → height s n ≤ suc s.dims
  unfolding height
  height-high c = go (dec_le (length (stops s)) n) (dec_le n 0)
    where
      go : Dec (length (stops s) ≤ n) → Dec (n ≤ 0) → height s n ≤ suc s.dims
      go (yes h) q = omega (arith, height-end h)
      go (no h) (yes q) = rw (lt-leb (length (stops s)) n (omega arith), eq-eqb n 0 (omega arith)) (omega arith)
      go (no h) (no q) =
          omega (
            arith,
            height-between (omega arith) (omega arith),
            differ-length (slice_index_or (stops s) (n - 1) []) (slice_index_or (stops s) n []),
            stop-length s c (n - 1) (omega arith),
          )

-- "Before any element moves, the flags of an open stream are clear"
pub flag-clear : (s : Shape) (i : ℕ) → 0 < length (stops s) → flag (height s 0) i ≡ false
unfolding height
flag-clear s i h = rw (lt-leb (length (stops s)) 0 h) (le-ltb i 0 (omega arith))

-- a flag that is set has all below it set
pub flag-below : (h i j : ℕ) → j ≤ i → flag h i ≡ true → flag h j ≡ true
flag-below h i j p f = lt-ltb j h (let q = ltb-true i h f in omega arith)

-- zeros behind both vectors change nothing
pub differ-pad : (u v : List ℕ) (n : ℕ) → length u ≡ length v → differ (u ++ replicate n 0) (v ++ replicate n 0) ≡ differ u v
unfolding differ
differ-pad [] [] n e = differ_self (replicate n 0)
differ-pad [] (j ∷ v) n e = absurd (omega arith)
differ-pad (i ∷ u) [] n e = absurd (omega arith)
differ-pad (i ∷ u) (j ∷ v) n e = ap (or_above (cond (i == j) 0 1)) (differ-pad u v n (omega arith))

-- vectors that are the same from place d on have no difference above dimension d, counted from 1
pub differ-from : (d : ℕ) (u v : List ℕ) → length u ≡ length v → drop d u ≡ drop d v → differ u v ≤ d
differ-from d u v e h = (differ-drop d u v e).1 h

-- vectors that are the same above place d, and not at it, have their highest difference there
pub differ-at : (d : ℕ) (u v : List ℕ) → length u ≡ length v → drop (suc d) u ≡ drop (suc d) v → (slice_index u d ≢ slice_index v d) → differ u v ≡ suc d
differ-at d u v e h k =
    let a : differ u v ≤ suc d = differ-from (suc d) u v e h in
    let b : ¬ (differ u v ≤ d) = λ q. k (same d u v ((differ-drop d u v e).0 q)) in
    omega arith
  where
    same : (d : ℕ) (u v : List ℕ) → drop d u ≡ drop d v → slice_index u d ≡ slice_index v d
    same d u v p =
        let z : d + 0 ≡ d = omega arith in
        sym (ap (λ j. slice_index u j) z) ∙ sym (get_or-drop d u 0 0) ∙ ap (λ l. slice_index l 0) p ∙ get_or-drop d v 0 0 ∙ ap (λ j. slice_index v j) z
