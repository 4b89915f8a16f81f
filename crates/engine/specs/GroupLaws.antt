-- Groups of any elements: what is left of them after some, position by position.
--
--   join-none, join-next, join-append   lists joined: none, one and others, in two parts
--   join-with_elements         empty groups add nothing
--   left_after-join            what is left of groups, joined, is what is left of their elements
--   left_in_group               how many elements are left of the group that a position stands in
--   left-head, left-tail      in the first group; behind it
--   left-some, left-most      at least one; at most all that are left
--   left_step                 one less at the next position, if there is more than one
--   left-with_elements         empty groups change nothing
--   next_group-front           the next group is the front of all
--   key-same, key-other       where members tell their group: the next one is of the same group, or of another
use Rattle.std.specs.Prelude.{◌≡◌, ℕ, suc, ◌+◌, ◌-◌, ◌<◌, ◌≤◌, List, [], ◌∷◌, ◌++◌, map, length, take, drop, slice_index_or}
use Rattle.std.proofs.Math.Path.{refl, sym, ap}
use Rattle.std.proofs.Common.{◌∙◌, append_assoc, length-take, length-drop, lt-ltb, le-ltb}
use native.Mathlib.Omega.{arith}
use Rattle.std.proofs.Math.Nat.{sub-zero}
use Rattle.std.proofs.Math.Decide.{dec_lt}
use Rattle.std.proofs.Math.ListN.{length-append, get_or-append}
use Rattle.std.proofs.lemmas.List.{drop-append-le}
use Rattle.std.proofs.Math.Seq.{drop-append-add, drop-nil, take-append_seam}
use Rattle.engine.specs.Members.{Each, Member, Ordered, get_d_past, each_append}
use Rattle.engine.specs.Loops.{join}
use Rattle.engine.specs.Chunks.{with_elements, left_after, next_group}

-- none
pub join-none : {A : Type 0} → join {A = A} [] ≡ []
unfolding join
join-none = refl

-- one, then others
pub join-next : {A : Type 0} (g : List A) (gs : List (List A)) → join (g ∷ gs) ≡ g ++ join gs
unfolding join
join-next g gs = refl

-- joined in two parts
pub join-append : {A : Type 0} (gs hs : List (List A)) → join (gs ++ hs) ≡ join gs ++ join hs
unfolding join
join-append [] hs = refl
join-append (g ∷ gs) hs = ap (λ l. g ++ l) (join-append gs hs) ∙ sym (append_assoc g (join gs) (join hs))

-- empty groups add nothing
pub join-with_elements : {A : Type 0} (gs : List (List A)) → join (with_elements gs) ≡ join gs
unfolding join with_elements
join-with_elements [] = refl
join-with_elements ([] ∷ gs) = join-with_elements gs
join-with_elements ((x ∷ g) ∷ gs) = ap (λ l. x ∷ (g ++ l)) (join-with_elements gs)

-- how many elements are left of the group that position n stands in
abbrev pub left_in_group : {A : Type 0} → List (List A) → ℕ → ℕ
left_in_group gs n = length (next_group (left_after n gs))

module _ {A : Type 0} where
  -- inside the first group: what is left of it, and the others
  after-head : (n : ℕ) (g : List A) (gs : List (List A)) → n < length g → left_after n (g ∷ gs) ≡ drop n g ∷ gs
  unfolding left_after
  after-head n g gs h = rw (lt-ltb n (length g) h)

  -- behind the first group: what is left of the others
  after_tail : (n : ℕ) (g : List A) (gs : List (List A)) → length g ≤ n → left_after n (g ∷ gs) ≡ left_after (n - length g) gs
  unfolding left_after
  after_tail n g gs h = rw (le-ltb n (length g) h)

  -- what is left of groups, joined, is what is left of their elements
  pub left_after-join : (n : ℕ) (gs : List (List A)) → join (left_after n gs) ≡ drop n (join gs)
  unfolding left_after join
  left_after-join n [] = sym (drop-nil n)
  left_after-join n (g ∷ gs) = go (left_after-join (n - length g) gs) (dec_lt n (length g))
    where
      go : join (left_after (n - length g) gs) ≡ drop (n - length g) (join gs) → Dec (n < length g) → join (left_after n (g ∷ gs)) ≡ drop n (g ++ join gs)
      go r (yes h) = ap join (after-head n g gs h) ∙ sym (drop-append-le n g (join gs) (omega arith))
      go r (no h) =
          let e : length g + (n - length g) ≡ n = omega arith in
          ap join (after_tail n g gs (omega arith)) ∙ r ∙ sym (drop-append-add g (join gs) (n - length g)) ∙ ap (λ k. drop k (g ++ join gs)) e

  -- in the first group: what is left of it
  pub left-head : (n : ℕ) (g : List A) (gs : List (List A)) → n < length g → left_in_group (g ∷ gs) n ≡ length g - n
  left-head n g gs h = ap (λ l. length (next_group l)) (after-head n g gs h) ∙ length-drop n g

  -- behind the first group: as in the others
  pub left-tail : (n : ℕ) (g : List A) (gs : List (List A)) → length g ≤ n → left_in_group (g ∷ gs) n ≡ left_in_group gs (n - length g)
  left-tail n g gs h = ap (λ l. length (next_group l)) (after_tail n g gs h)

  -- of the group that a position stands in at least one element is left
  pub left-some : (gs : List (List A)) (n : ℕ) → n < length (join gs) → 1 ≤ left_in_group gs n
  unfolding join
  left-some [] n h = absurd (omega arith)
  left-some (g ∷ gs) n h = go (left-some gs (n - length g)) (dec_lt n (length g))
    where
      go : (n - length g < length (join gs) → 1 ≤ left_in_group gs (n - length g)) → Dec (n < length g) → 1 ≤ left_in_group (g ∷ gs) n
      go r (yes p) = omega (arith, left-head n g gs p)
      go r (no p) = omega (arith, left-tail n g gs (omega arith), r (omega (arith, length-append g (join gs))))

  -- the next group is the front of all
  pub next_group-front : (gs : List (List A)) → next_group gs ≡ take (length (next_group gs)) (join gs)
  unfolding join
  next_group-front [] = refl
  next_group-front (g ∷ gs) = sym (take-append_seam g (join gs))

  -- of the group that a position stands in at most all that are left are left
  pub left-most : (gs : List (List A)) (n : ℕ) → left_in_group gs n ≤ length (join gs) - n
  left-most gs n =
      omega
      (arith, ap length (next_group-front (left_after n gs)) ∙ length-take (left_in_group gs n) (join (left_after n gs)), ap length (left_after-join n gs), length-drop n (join gs))

  -- one less at the next position, if there is more than one
  pub left_step : (gs : List (List A)) (n : ℕ) → 1 < left_in_group gs n → left_in_group gs n ≡ suc (left_in_group gs (suc n))
  unfolding left_after
  left_step [] n h = absurd (omega arith)
  left_step (g ∷ gs) n h = go (left_step gs (n - length g)) (dec_lt n (length g))
    where
      go : (1 < left_in_group gs (n - length g) → left_in_group gs (n - length g) ≡ suc (left_in_group gs (suc (n - length g))))
          → Dec (n < length g) → left_in_group (g ∷ gs) n ≡ suc (left_in_group (g ∷ gs) (suc n))
      go r (yes p) = let e = left-head n g gs p in omega (arith, left-head (suc n) g gs (omega arith))
      go r (no p) =
          let e = left-tail n g gs (omega arith) in
          let f : suc n - length g ≡ suc (n - length g) = omega arith in
          e ∙ r (omega arith) ∙ ap (λ k. suc (left_in_group gs k)) (sym f) ∙ ap suc (sym (left-tail (suc n) g gs (omega arith)))

  -- empty groups change nothing
  pub left-with_elements : (gs : List (List A)) (n : ℕ) → left_in_group (with_elements gs) n ≡ left_in_group gs n
  unfolding with_elements
  left-with_elements [] n = refl
  left-with_elements ([] ∷ gs) n = left-with_elements gs n ∙ ap (left_in_group gs) (sym (sub-zero n)) ∙ sym (left-tail n [] gs (omega arith))
  left-with_elements ((x ∷ g) ∷ gs) n = go (left-with_elements gs (n - suc (length g))) (dec_lt n (suc (length g)))
    where
      go : left_in_group (with_elements gs) (n - suc (length g)) ≡ left_in_group gs (n - suc (length g)) → Dec (n < suc (length g))
          → left_in_group ((x ∷ g) ∷ with_elements gs) n ≡ left_in_group ((x ∷ g) ∷ gs) n
      go r (yes p) = left-head n (x ∷ g) (with_elements gs) p ∙ sym (left-head n (x ∷ g) gs p)
      go r (no p) = left-tail n (x ∷ g) (with_elements gs) (omega arith) ∙ r ∙ sym (left-tail n (x ∷ g) gs (omega arith))

-- groups f o, f o', .. whose members tell by their key which group they are of
module _ {A K : Type 0} (a : A) (b : K) (f : K → List A) (key : A → K) (keyed : (o : K) → Each a (λ x. key x ≡ o) (f o)) where
  -- each member's key is that of one of the groups
  keys : (os : List K) → Each a (λ x. Member b (key x) os) (join (map f os))
  unfolding join
  keys [] = λ j h. absurd (omega arith)
  keys (o ∷ os) =
      each_append a (λ x. Member b (key x) (o ∷ os)) (f o) (join (map f os)) (λ j h. (0, omega arith, sym (keyed o j h)))
      (λ j h. let (k, p, e) = keys os j h in (suc k, omega arith, e))

  -- more than one left: the next is of the same group
  pub key-same : (os : List K) (n : ℕ) → 1 < left_in_group (map f os) n → key (slice_index_or (join (map f os)) n a) ≡ key (slice_index_or (join (map f os)) (suc n) a)
  unfolding join left_after
  key-same [] n h = absurd (omega arith)
  key-same (o ∷ os) n h = go (key-same os (n - length (f o))) (dec_lt n (length (f o)))
    where
      go : (1 < left_in_group (map f os) (n - length (f o)) → key (slice_index_or (join (map f os)) (n - length (f o)) a) ≡ key (slice_index_or (join (map f os)) (suc (n - length (f o))) a))
          → Dec (n < length (f o)) → key (slice_index_or (f o ++ join (map f os)) n a) ≡ key (slice_index_or (f o ++ join (map f os)) (suc n) a)
      go r (yes p) =
          let e = left-head n (f o) (map f os) p in
          let q : suc n < length (f o) = omega arith in
          rw (get_or-append (f o) (join (map f os)) a n p, get_or-append (f o) (join (map f os)) a (suc n) q)
          (keyed o n p ∙ sym (keyed o (suc n) q))
      go r (no p) =
          let e = left-tail n (f o) (map f os) (omega arith) in
          let s : suc n - length (f o) ≡ suc (n - length (f o)) = omega arith in
          rw (get_d_past a (f o) (join (map f os)) n (omega arith), get_d_past a (f o) (join (map f os)) (suc n) (omega arith), s) (r (omega arith))

  -- where no two groups have the same key, a member of the first has another key than one of the others
  apart : (o : K) (os : List K) → Ordered b (λ x y. ¬ (x ≡ y)) (o ∷ os) → (x y : A) → key x ≡ o → Member b (key y) os → ¬ (key x ≡ key y)
  apart o os d x y e (k, q, m) t = d 0 (suc k) (omega arith) (omega arith) (sym e ∙ t ∙ sym m)

  -- the last of its group: the next is of another
  pub key-other : (os : List K) → Ordered b (λ x y. ¬ (x ≡ y)) os → (n : ℕ) → suc n < length (join (map f os)) → left_in_group (map f os) n ≡ 1
      → ¬ (key (slice_index_or (join (map f os)) n a) ≡ key (slice_index_or (join (map f os)) (suc n) a))
  unfolding join left_after
  key-other [] d n h g = absurd (omega arith)
  key-other (o ∷ os) d n h g = go (key-other os (λ j k p q. d (suc j) (suc k) (omega arith) (omega arith)) (n - length (f o))) (dec_lt n (length (f o)))
    where
      go : (suc (n - length (f o)) < length (join (map f os)) → left_in_group (map f os) (n - length (f o)) ≡ 1
          → ¬ (key (slice_index_or (join (map f os)) (n - length (f o)) a) ≡ key (slice_index_or (join (map f os)) (suc (n - length (f o))) a)))
          → Dec (n < length (f o)) → ¬ (key (slice_index_or (f o ++ join (map f os)) n a) ≡ key (slice_index_or (f o ++ join (map f os)) (suc n) a))
      go r (yes p) =
          let e = left-head n (f o) (map f os) p in
          rw (get_or-append (f o) (join (map f os)) a n p, get_d_past a (f o) (join (map f os)) (suc n) (omega arith))
          (apart o os d _ _ (keyed o n p) (keys os (suc n - length (f o)) (omega (arith, length-append (f o) (join (map f os))))))
      go r (no p) =
          let e = left-tail n (f o) (map f os) (omega arith) in
          let s : suc n - length (f o) ≡ suc (n - length (f o)) = omega arith in
          rw (get_d_past a (f o) (join (map f os)) n (omega arith), get_d_past a (f o) (join (map f os)) (suc n) (omega arith), s)
          (r (omega (arith, length-append (f o) (join (map f os)))) (omega arith))
