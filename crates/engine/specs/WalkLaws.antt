-- Laws of the walk.
--
--   at-down, at_up, at-end, at-found     one for each way that a turn of the search goes
--   at_after, start                      where a search goes on after a member, and where it starts
--   cost-down, cost-up                   each turn lowers the falling number
--   member                               the loops from any place on are the member there and what comes after it
--   standing                             the same of a stream's elements, zeros behind
use Rattle.std.specs.Prelude.{◌≡◌, ℕ, zero, suc, ◌+◌, ◌-◌, ◌<◌, ◌≤◌, cond, ◌&&◌, List, [], ◌∷◌, ◌++◌, map, length, get_or, take, drop, set, replicate, pos, ◌+ℤ◌, ◌==◌, slice_index, slice_index_or, slice_set, refl}
use Rattle.std.proofs.Common.{sym, ◌∙◌, ap₂, subst, length-set, length-drop, length-append, drop-cons, drop_at, drop-set-lt, get_or-set_same, add-one}
use Rattle.std.proofs.Math.Path.{ap}
use mathlib.Core.List.{append_assoc, map-append}
use Rattle.std.proofs.lemmas.List.{get_or-replicate, length-replicate, length-map}
use Rattle.std.proofs.Math.ListN.{get_or-append}
use Rattle.std.proofs.Math.Seq.{take-append-add}
use native.Mathlib.Omega.{arith}
use Rattle.std.proofs.Math.Decide.{dec_lt}
use Rattle.codec.specs.declared.operation.Parameter.{Parameter}
use Rattle.codec.specs.declared.operation.Parameter.TheVariants.{Size}
use Rattle.engine.specs.Loops.{modifiers_of, same_parameter, reach, added, natural, size_at, span, loops, elements}
use Rattle.engine.specs.Registers.{index_of}
use Rattle.engine.specs.Members.{get_d_map}
use Rattle.engine.specs.Walk.{todo, sum, within, cost, at, after, cost_at}
use Rattle.engine.specs.declared.stream.Modifier.{Modifier}
use Rattle.engine.specs.declared.stream.Shape.{Shape}

-- no part in a row is nothing
span_none : {A : Type 0} (f : ℕ → List A) (k n : ℕ) → n ≡ 0 → span f k n ≡ []
unfolding span
span_none f k n e = rw e

-- parts in a row are the first and the others
span-next : {A : Type 0} (f : ℕ → List A) (k n m : ℕ) → n ≡ suc m → span f k n ≡ f k ++ span f (suc k) m
unfolding span
span-next f k n m e = rw e

-- a sum of no terms is 0
sum-none : (f : ℕ → ℕ) (k n : ℕ) → n ≡ 0 → sum f k n ≡ 0
unfolding sum
sum-none f k n e = rw e

-- a sum is its first term and the others
sum-next : (f : ℕ → ℕ) (k n m : ℕ) → n ≡ suc m → sum f k n ≡ f k + sum f (suc k) m
unfolding sum
sum-next f k n m e = rw e

module _ (size : ℕ → List ℕ → ℕ) (b : ℕ) where
  -- what dimension d still loops from index i on
  tail : ℕ → ℕ → List ℕ → List (List ℕ)
  tail d i env = span (λ k. loops size b (d - b) (k ∷ env)) i (size d env - i)

  -- from index 0 on that is all its loops
  whole : (d : ℕ) (env : List ℕ) → b ≤ d → loops size b (suc d - b) env ≡ tail d 0 env
  unfolding loops tail
  whole d env h =
      let n : suc d - b ≡ suc (d - b) = omega arith in
      let z : b + (d - b) ≡ d = omega arith in
      let o : size d env ≡ size d env - 0 = omega arith in
      ap (λ j. loops size b j env) n
      ∙ ap (λ j. span (λ k. loops size b (d - b) (k ∷ env)) 0 (size j env)) z
      ∙ ap (span (λ k. loops size b (d - b) (k ∷ env)) 0) o

  -- below the size it is the loops at index i, then what is left from i + 1 on
  tail-next : (d i : ℕ) (env : List ℕ) → i < size d env → tail d i env ≡ loops size b (d - b) (i ∷ env) ++ tail d (suc i) env
  unfolding tail
  tail-next d i env h = span-next (λ k. loops size b (d - b) (k ∷ env)) i (size d env - i) (size d env - suc i) (omega arith)

  -- of dimension b that is the index itself
  tail-found : (i : ℕ) (env : List ℕ) → i < size b env → tail b i env ≡ (i ∷ env) ∷ tail b (suc i) env
  unfolding loops
  tail-found i env h =
      let z : b - b ≡ 0 = omega arith in
      tail-next b i env h ∙ ap (λ n. loops size b n (i ∷ env) ++ tail b (suc i) env) z

  -- from the size on it is nothing
  tail_none : (d i : ℕ) (env : List ℕ) → size d env ≤ i → tail d i env ≡ []
  unfolding tail
  tail_none d i env h = span_none _ i _ (omega arith)

  -- down: dimension d + 1 loops index i, so dimension d starts
  pub down : (m d i : ℕ) (env : List ℕ) → b ≤ d → i < size (suc d) env → todo size b m (suc d) i env ≡ todo size b (suc m) d 0 (i ∷ env)
  unfolding todo tail
  down zero d i env q h = tail-next (suc d) i env h ∙ ap (λ l. l ++ tail (suc d) (suc i) env) (whole d (i ∷ env) q)
  down (suc m) d i env q h =
      ap (λ l. l ++ todo size b m (suc (suc d)) (suc (slice_index env 0)) (drop 1 env)) (tail-next (suc d) i env h ∙ ap (λ l. l ++ tail (suc d) (suc i) env) (whole d (i ∷ env) q))
      ∙ append_assoc (tail d 0 (i ∷ env)) (tail (suc d) (suc i) env) _

  -- up: dimension d is done, so the one outside it goes on
  pub up : (m d i : ℕ) (env : List ℕ) → size d env ≤ i → todo size b (suc m) d i env ≡ todo size b m (suc d) (suc (slice_index env 0)) (drop 1 env)
  unfolding todo tail
  up m d i env h = ap (λ l. l ++ todo size b m (suc d) (suc (slice_index env 0)) (drop 1 env)) (tail_none d i env h)

  -- the end: the outermost dimension is done, so nothing is to come
  pub ends : (d i : ℕ) (env : List ℕ) → size d env ≤ i → todo size b 0 d i env ≡ []
  unfolding todo tail
  ends d i env h = tail_none d i env h

  -- found: dimension b loops index i
  pub found : (m i : ℕ) (env : List ℕ) → i < size b env → todo size b m b i env ≡ (i ∷ env) ∷ todo size b m b (suc i) env
  unfolding todo tail
  found zero i env h = tail-found i env h
  found (suc m) i env h = ap (λ l. l ++ todo size b m (suc b) (suc (slice_index env 0)) (drop 1 env)) (tail-found i env h)

  -- the turns of dimension d from index i on
  left : ℕ → ℕ → List ℕ → ℕ
  left d i env = suc (sum (λ k. suc (within size b (d - b) (k ∷ env))) i (size d env - i))

  -- below the size they are those at index i, then those from i + 1 on
  left-next : (d i : ℕ) (env : List ℕ) → i < size d env → left d i env ≡ suc (within size b (d - b) (i ∷ env)) + left d (suc i) env
  unfolding left
  left-next d i env h = omega (arith, sum-next (λ k. suc (within size b (d - b) (k ∷ env))) i (size d env - i) (size d env - suc i) (omega arith))

  -- from index 0 on they are those of a whole pass
  within-left : (d : ℕ) (env : List ℕ) → b ≤ d → within size b (suc d - b) env ≡ left d 0 env
  unfolding within left
  within-left d env h =
      let n : suc d - b ≡ suc (d - b) = omega arith in
      let z : b + (d - b) ≡ d = omega arith in
      let o : size d env ≡ size d env - 0 = omega arith in
      ap (λ j. within size b j env) n
      ∙ ap (λ j. suc (sum (λ k. suc (within size b (d - b) (k ∷ env))) 0 (size j env))) z
      ∙ ap (λ j. suc (sum (λ k. suc (within size b (d - b) (k ∷ env))) 0 j)) o

  -- the way down lowers the cost
  pub down-cost : (m d i : ℕ) (env : List ℕ) → b ≤ d → i < size (suc d) env → cost size b (suc m) d 0 (i ∷ env) < cost size b m (suc d) i env
  unfolding cost left
  down-cost zero d i env q h = omega (arith, left-next (suc d) i env h, within-left d (i ∷ env) q)
  down-cost (suc m) d i env q h = omega (arith, left-next (suc d) i env h, within-left d (i ∷ env) q)

  -- the way up lowers the cost
  pub up-cost : (m d i : ℕ) (env : List ℕ) → cost size b m (suc d) (suc (slice_index env 0)) (drop 1 env) < cost size b (suc m) d i env
  unfolding cost
  up-cost m d i env = omega arith

-- The laws at an index vector, one for each way a turn of the search goes.
module _ (size : ℕ → List ℕ → ℕ) (b n : ℕ) where
  -- with index d set to 0, index d + 1 and those outside it are as they were
  lowered : (d : ℕ) (v : List ℕ) → suc d < length v → drop (suc d) (slice_set v d 0) ≡ slice_index v (suc d) ∷ drop (suc (suc d)) v
  lowered d v h = drop-set-lt (suc d) v d 0 (omega arith) ∙ drop-cons v (suc d) 0 h

  -- down: index d + 1 is below its size, so dimension d starts at 0
  pub at-down : (d : ℕ) (v : List ℕ) → b ≤ d → suc d < n → suc d < length v → slice_index v (suc d) < size (suc d) (drop (suc (suc d)) v)
      → at size b n (suc d) v ≡ at size b n d (slice_set v d 0)
  at-down d v q p h k =
      let e : n - suc d ≡ suc (n - suc (suc d)) = omega arith in
      let l : d < length v = omega arith in
      rw (e, get_or-set_same v d 0 0 l, lowered d v h) (down size b (n - suc (suc d)) d (slice_index v (suc d)) (drop (suc (suc d)) v) q k)

  -- the way down lowers the falling number
  pub cost-down : (d : ℕ) (v : List ℕ) → b ≤ d → suc d < n → suc d < length v → slice_index v (suc d) < size (suc d) (drop (suc (suc d)) v)
      → cost_at size b n d (slice_set v d 0) < cost_at size b n (suc d) v
  cost-down d v q p h k =
      let e : n - suc d ≡ suc (n - suc (suc d)) = omega arith in
      let l : d < length v = omega arith in
      rw (e, get_or-set_same v d 0 0 l, lowered d v h) (down-cost size b (n - suc (suc d)) d (slice_index v (suc d)) (drop (suc (suc d)) v) q k)

  -- up: index d has reached its size, so dimension d + 1 goes on
  pub at_up : (d : ℕ) (v : List ℕ) → suc d < n → suc d < length v → size d (drop (suc d) v) ≤ slice_index v d → at size b n d v ≡ at size b n (suc d) (slice_set v (suc d) (suc (slice_index v (suc d))))
  at_up d v p h k =
      let e : n - suc d ≡ suc (n - suc (suc d)) = omega arith in
      rw (e, get_or-set_same v (suc d) (suc (slice_index v (suc d))) 0 h, drop-set-lt (suc (suc d)) v (suc d) (suc (slice_index v (suc d))) (omega arith))
      (up size b (n - suc (suc d)) d (slice_index v d) (drop (suc d) v) k ∙ rw (drop-cons v (suc d) 0 h))

  -- the way up lowers the falling number
  pub cost-up : (d : ℕ) (v : List ℕ) → suc d < n → suc d < length v → cost_at size b n (suc d) (slice_set v (suc d) (suc (slice_index v (suc d)))) < cost_at size b n d v
  cost-up d v p h =
      let e : n - suc d ≡ suc (n - suc (suc d)) = omega arith in
      rw (e, get_or-set_same v (suc d) (suc (slice_index v (suc d))) 0 h, drop-set-lt (suc (suc d)) v (suc d) (suc (slice_index v (suc d))) (omega arith), drop-cons v (suc d) 0 h)
      (up-cost size b (n - suc (suc d)) d (slice_index v d) (slice_index v (suc d) ∷ drop (suc (suc d)) v))

  -- the end: the outermost index has reached its size, so nothing is to come
  pub at-end : (d : ℕ) (v : List ℕ) → n ≤ suc d → size d (drop (suc d) v) ≤ slice_index v d → at size b n d v ≡ []
  at-end d v p k =
      let e : n - suc d ≡ 0 = omega arith in
      rw e (ends size b d (slice_index v d) (drop (suc d) v) k)

  -- found: index b is below its size, so the indices from there on are a member
  pub at-found : (v : List ℕ) → b < length v → slice_index v b < size b (drop (suc b) v) → at size b n b v ≡ drop b v ∷ after size b n (drop b v)
  at-found v h k =
      found size b (n - suc b) (slice_index v b) (drop (suc b) v) k
      ∙ ap (λ w. w ∷ after size b n w) (sym (drop-cons v b 0 h))

  -- with index b one further, what comes after the indices from there on is to come
  pub at_after : (v : List ℕ) → b < length v → at size b n b (slice_set v b (slice_index v b + 1)) ≡ after size b n (drop b v)
  at_after v h =
      rw (get_or-set_same v b (slice_index v b + 1) 0 h, drop-set-lt (suc b) v b (slice_index v b + 1) (omega arith), add-one (slice_index v b))
      (ap (after size b n) (sym (drop-cons v b 0 h)))

  -- where the outermost dimension is about to run index 0, all the loops are to come
  pub start : (v : List ℕ) → b < n → slice_index v (n - 1) ≡ 0 → loops size b (n - b) (drop n v) ≡ at size b n (n - 1) v
  unfolding todo tail
  start v h e =
      let a : n ≡ suc (n - 1) = omega arith in
      let z : n - suc (n - 1) ≡ 0 = omega arith in
      ap (λ j. loops size b (j - b) (drop j v)) a
      ∙ whole size b (n - 1) (drop (suc (n - 1)) v) (omega arith)
      ∙ (λ i. todo size b (sym z i) (n - 1) (sym e i) (drop (suc (n - 1)) v))

-- ---- where a search ends

-- a search ends at nothing, or at a member and what comes after it
pub data Sought (size : ℕ → List ℕ → ℕ) (b n : ℕ) (l : List (List ℕ)) : Type 0 where
  ended : l ≡ [] → Sought size b n l
  stands : (v : List ℕ) → length v ≡ 7 → l ≡ drop b v ∷ after size b n (drop b v) → Sought size b n l

-- the search for the same list ends alike
pub moved-to : (size : ℕ → List ℕ → ℕ) (b n : ℕ) (l m : List (List ℕ)) → l ≡ m → Sought size b n m → Sought size b n l
moved-to size b n l m e (ended p) = ended (e ∙ p)
moved-to size b n l m e (stands v p q) = stands v p (e ∙ q)

-- there is always a turn to take
some-cost : (size : ℕ → List ℕ → ℕ) (b m d i : ℕ) (env : List ℕ) → cost size b m d i env ≤ 0 → ⊥
unfolding cost
some-cost size b zero d i env h = omega arith
some-cost size b (suc m) d i env h = omega arith

-- every search ends so: each turn lowers the falling number
pub seek : (size : ℕ → List ℕ → ℕ) (b n f d : ℕ) (v : List ℕ) → b ≤ d → d < n → n ≤ 7 → length v ≡ 7 → cost_at size b n d v ≤ f → Sought size b n (at size b n d v)
seek size b n zero d v o p q l h = absurd (some-cost size b (n - suc d) d (slice_index v d) (drop (suc d) v) h)
seek size b n (suc f) d v o p q l h = go d (dec_lt (slice_index v d) (size d (drop (suc d) v))) (dec_lt b d) (dec_lt (suc d) n) o p h (seek size b n f)
  where
    go : (d : ℕ) → Dec (slice_index v d < size d (drop (suc d) v)) → Dec (b < d) → Dec (suc d < n) → b ≤ d → d < n → cost_at size b n d v ≤ suc f
        → ((d : ℕ) (v : List ℕ) → b ≤ d → d < n → n ≤ 7 → length v ≡ 7 → cost_at size b n d v ≤ f → Sought size b n (at size b n d v)) → Sought size b n (at size b n d v)
    go d (yes k) (no u) w o p h ih =
        let e : d ≡ b = omega arith in
        subst (λ j. Sought size b n (at size b n j v)) (sym e) (stands v l (at-found size b n v (omega arith) (subst (λ j. slice_index v j < size j (drop (suc j) v)) e k)))
    go zero (yes k) (yes u) w o p h ih = absurd (omega arith)
    go (suc d) (yes k) (yes u) w o p h ih =
        moved-to size b n _ _ (at-down size b n d v (omega arith) p (omega arith) k)
        (ih d (slice_set v d 0) (omega arith) (omega arith) q (length-set v d 0 ∙ l) (let c = cost-down size b n d v (omega arith) p (omega arith) k in omega arith))
    go d (no k) u (yes w) o p h ih =
        moved-to size b n _ _ (at_up size b n d v w (omega arith) (omega arith))
        (ih (suc d) (slice_set v (suc d) (suc (slice_index v (suc d)))) (omega arith) w q (length-set v (suc d) (suc (slice_index v (suc d))) ∙ l) (let c = cost-up size b n d v w (omega arith) in omega arith))
    go d (no k) u (no w) o p h ih = ended (at-end size b n d v (omega arith) (omega arith))

-- so the list from a member on is that member and what comes after it: by the place in the list
pub record From (size : ℕ → List ℕ → ℕ) (b n : ℕ) (l : List (List ℕ)) (k : ℕ) : Type 0 where
  pub long : length (slice_index_or l k []) ≡ 7 - b
  pub from : drop k l ≡ slice_index_or l k [] ∷ after size b n (slice_index_or l k [])

module _ (size : ℕ → List ℕ → ℕ) (b n : ℕ) where
  -- so it is at the first place, where a search ends at a member
  from-head : (l : List (List ℕ)) → Sought size b n l → 0 < length l → From size b n l 0
  from-head l (ended e) h = absurd (omega (arith, ap length e))
  from-head l (stands v p e) h =
      let z : get_or l 0 [] ≡ drop b v = ap (λ y. get_or y 0 []) e in
      record { long = ap length z ∙ length-drop b v ∙ ap (λ m. m - b) p; from = e ∙ ap (λ y. y ∷ after size b n y) (sym z) }

  -- so it is one place further on, if it is so behind the first
  from_tail : (l t : List (List ℕ)) (v : List ℕ) (k : ℕ) → l ≡ v ∷ t → From size b n t k → From size b n l (suc k)
  from_tail l t v k e f = subst (λ y. From size b n y (suc k)) (sym e) (record { long = f.long; from = f.from })

  -- what follows a member is such a list again
  pub position : b < n → n ≤ 7 → (k : ℕ) (l : List (List ℕ)) → Sought size b n l → k < length l → From size b n l k
  position p q zero l s h = from-head l s h
  position p q (suc k) l (ended e) h = absurd (omega (arith, ap length e))
  position p q (suc k) l (stands v m e) h =
      let u : List ℕ = set v b (slice_index v b + 1) in
      let t : List (List ℕ) = after size b n (drop b v) in
      from_tail l t (drop b v) k e
      (position p q k t
      (moved-to size b n _ _ (sym (at_after size b n v (omega arith))) (seek size b n (cost_at size b n b u) b u (omega arith) p q (length-set v b (slice_index v b + 1) ∙ m) (omega arith)))
      (omega (arith, ap length e)))

  -- the loops of dimensions b to n - 1 inside outer loops that stand at outer, from a member on
  pub member : (outer : List ℕ) → b < n → n ≤ 7 → length outer ≡ 7 - n → (k : ℕ) → k < length (loops size b (n - b) outer) → From size b n (loops size b (n - b) outer) k
  member outer p q e k h =
      let v : List ℕ = replicate n 0 ++ outer in
      let z : length (replicate {A = ℕ} n 0) ≡ n = length-replicate {A = ℕ} n 0 in
      let l : length v ≡ 7 = omega (arith, length-append (replicate n 0) outer, z) in
      let o : get_or v (n - 1) 0 ≡ 0 = get_or-append (replicate n 0) outer 0 (n - 1) (omega arith) ∙ get_or-replicate n (n - 1) 0 0 (omega arith) in
      let st : loops size b (n - b) outer ≡ at size b n (n - 1) v = ap (loops size b (n - b)) (sym (drop_at (replicate n 0) outer n z)) ∙ start size b n v p o in
      position p q k (loops size b (n - b) outer) (moved-to size b n _ _ st (seek size b n (cost_at size b n (n - 1) v) (n - 1) v (omega arith) (omega arith) q l (omega arith))) h

-- all but the first k of n times the same
pub drop-replicate : {A : Type 0} (z : A) (k n : ℕ) → drop k (replicate n z) ≡ replicate (n - k) z
drop-replicate z zero n = let e : n ≡ n - 0 = omega arith in ap (λ j. replicate j z) e
drop-replicate z (suc k) zero = let e : 0 ≡ 0 - suc k = omega arith in ap (λ j. replicate j z) e
drop-replicate z (suc k) (suc n) = let e : n - k ≡ suc n - suc k = omega arith in drop-replicate z k n ∙ ap (λ j. replicate j z) e

-- what f makes of parts in a row is what it makes of each part, in a row
map-span : {A B : Type 0} (f : A → B) (g : ℕ → List A) (h : ℕ → List B) (k n : ℕ) → ((i : ℕ) → map f (g i) ≡ h i) → map f (span g k n) ≡ span h k n
unfolding span
map-span f g h k zero e = refl
map-span f g h k (suc n) e = map-append f (g k) (span g (suc k) n) ∙ ap₂ ◌++◌ (e k) (map-span f g h (suc k) n e)

-- zeros behind an index vector change no size, and so no loop
pub loops-padded : (size : ℕ → List ℕ → ℕ) (z : List ℕ) → ((d : ℕ) (outer : List ℕ) → size d (outer ++ z) ≡ size d outer)
    → (b n : ℕ) (outer : List ℕ) → map (λ v. v ++ z) (loops size b n outer) ≡ loops size b n (outer ++ z)
unfolding loops
loops-padded size z h b zero outer = refl
loops-padded size z h b (suc n) outer =
    map-span (λ v. v ++ z) (λ k. loops size b n (k ∷ outer)) (λ k. loops size b n (k ∷ (outer ++ z))) 0 (size (b + n) outer) (λ k. loops-padded size z h b n (k ∷ outer))
    ∙ ap (span (λ k. loops size b n (k ∷ (outer ++ z))) 0) (sym (h (b + n) outer))

-- each place of a list of zeros has 0, and past it there is 0
pub get_d-zeros : (n i : ℕ) → ◌≡◌ {A = ℕ} (slice_index (replicate n 0) i) 0
get_d-zeros zero i = refl
get_d-zeros (suc n) zero = refl
get_d-zeros (suc n) (suc i) = get_d-zeros n i

-- zeros behind an index vector change no index
pub get_d-pad : (xs : List ℕ) (n i : ℕ) → slice_index (xs ++ replicate n 0) i ≡ slice_index xs i
get_d-pad [] n i = get_d-zeros n i
get_d-pad (x ∷ xs) n zero = refl
get_d-pad (x ∷ xs) n (suc i) = get_d-pad xs n i

-- zeros behind the outer indices change nothing that modifiers add
pub added-pad : (q : Parameter) (d : ℕ) (outer : List ℕ) (n : ℕ) (ms : List Modifier) → added q d (outer ++ replicate n 0) ms ≡ added q d outer ms
unfolding added
added-pad q d outer n [] = refl
added-pad q d outer n (m ∷ ms) =
    ap₂ ◌+ℤ◌ (ap (λ k. cond (same_parameter m.parameter q && m.target == d) (reach m k) (pos 0)) (get_d-pad outer n (m.owner - suc d))) (added-pad q d outer n ms)

-- zeros behind the outer indices change no size
pub size-pad : (s : Shape) (n d : ℕ) (outer : List ℕ) → size_at s d (outer ++ replicate n 0) ≡ size_at s d outer
unfolding size_at
size-pad s n d outer = ap (λ y. natural (pos (slice_index s.sizes d) +ℤ y)) (added-pad Size d outer n (modifiers_of s))

-- the first k of n zeros are k zeros
take-zeros : (k n : ℕ) → k ≤ n → ◌≡◌ {A = List ℕ} (take k (replicate n 0)) (replicate k 0)
take-zeros zero n h = refl
take-zeros (suc k) zero h = absurd (omega arith)
take-zeros (suc k) (suc n) h = ap (λ l. 0 ∷ l) (take-zeros k n (omega arith))

-- the seven indices of an element of d dimensions are its own, then 7 - d zeros
pub index-pad : (v : List ℕ) (d : ℕ) → length v ≡ d → d ≤ 7 → index_of v ≡ v ++ replicate (7 - d) 0
index-pad v d e h =
    let z : 7 ≡ length v + (7 - d) = omega arith in
    ap (λ k. take k (v ++ replicate 7 0)) z ∙ take-append-add v (replicate 7 0) (7 - d) ∙ ap (λ l. v ++ l) (take-zeros (7 - d) 7 (omega arith))

-- at every position what is to come, with zeros behind, is the element there and what the walk finds after it
pub standing : (s : Shape) → 1 ≤ s.dims → s.dims ≤ 7 → (k : ℕ) → k < length (elements s)
    → (length (slice_index_or (elements s) k []) ≡ s.dims)
    × (drop k (map (λ v. v ++ replicate (7 - s.dims) 0) (elements s)) ≡ index_of (slice_index_or (elements s) k []) ∷ after (size_at s) 0 s.dims (index_of (slice_index_or (elements s) k [])))
unfolding elements
standing s p h k q =
    let n : ℕ = s.dims in
    let z : List ℕ = replicate (7 - n) 0 in
    let vs : List (List ℕ) = map (λ v. v ++ z) (elements s) in
    let o : n ≡ n - 0 = omega arith in
    let st : vs ≡ loops (size_at s) 0 (n - 0) z = loops-padded (size_at s) z (size-pad s (7 - n)) 0 n [] ∙ ap (λ j. loops (size_at s) 0 j z) o in
    let m : length vs ≡ length (elements s) = length-map (elements s) (λ v. v ++ z) in
    let f : From (size_at s) 0 n vs k = subst (λ l. From (size_at s) 0 n l k) (sym st) (member (size_at s) 0 n z p h (length-replicate (7 - n) 0) k (omega (arith, ap length st))) in
    let v : List ℕ = get_or (elements s) k [] in
    let g : get_or vs k [] ≡ v ++ z = get_d_map (λ v. v ++ z) (elements s) k [] [] q in
    let l : length v ≡ n = omega (arith, f.long, ap length g, length-append v z, length-replicate {A = ℕ} (7 - n) 0) in
    let i : get_or vs k [] ≡ index_of v = g ∙ sym (index-pad v n l h) in
    (l, f.from ∙ ap (λ y. y ∷ after (size_at s) 0 n y) i)
