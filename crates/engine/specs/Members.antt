-- Members of lists by their places.
--
--   Each, Member, Ordered     every member of a list; a member; any two members, the earlier first
--   get_d_past, get_d_map       the place of a member behind the first of two lists; the image of a member
--   each-one, each_append, each-span             every member of one element, of two lists, of a span
--   member-left, member_right, member-span       a member of two lists, of a span
--   ordered-append, ordered-span                 two lists in order, a span in order
--   front-all                 a front as long as the whole
use Rattle.std.specs.Prelude.{◌≡◌, ℕ, zero, suc, ◌+◌, ◌-◌, ◌<◌, ◌≤◌, ◌⊎◌, List, [], ◌∷◌, ◌++◌, map, length, get_or, slice_index_or, refl}
use Rattle.std.proofs.Common.{sym, ◌∙◌, ap, append-nil, inl, inr, arith, eq-or-lt_of_le, length-append, get_or-append-add}
use Rattle.std.proofs.Math.Decide.{dec_lt}
use Rattle.std.proofs.Math.ListN.{get_or-append}
use Rattle.engine.specs.Loops.{span}

module _ {A : Type 0} (z : A) where
  -- every member of a list
  abbrev pub Each : (A → Type 0) → List A → Type 0
  Each P l = (j : ℕ) → j < length l → P (slice_index_or l j z)

  -- a member
  abbrev pub Member : A → List A → Type 0
  Member x l = (j : ℕ) × (j < length l) × (slice_index_or l j z ≡ x)

  -- any two members, the earlier first
  abbrev pub Ordered : (A → A → Type 0) → List A → Type 0
  Ordered R l = (j k : ℕ) → j < k → k < length l → R (slice_index_or l j z) (slice_index_or l k z)

  -- the place of a member behind the first of two lists
  pub get_d_past : (l m : List A) (j : ℕ) → length l ≤ j → slice_index_or (l ++ m) j z ≡ slice_index_or m (j - length l) z
  get_d_past l m j h =
      let e : length l + (j - length l) ≡ j = omega arith in
      ap (λ i. get_or (l ++ m) i z) (sym e) ∙ get_or-append-add l m (j - length l) z

  -- every member of a list of one
  pub each-one : (P : A → Type 0) (x : A) → P x → Each P (x ∷ [])
  each-one P x h zero p = h
  each-one P x h (suc j) p = absurd (omega arith)

  -- every member of two lists joined
  pub each_append : (P : A → Type 0) (l m : List A) → Each P l → Each P m → Each P (l ++ m)
  each_append P l m f g j h = go (dec_lt j (length l))
    where
      go : Dec (j < length l) → P (slice_index_or (l ++ m) j z)
      go (yes p) = rw (get_or-append l m z j p) (f j p)
      go (no p) = rw (get_d_past l m j (omega arith)) (g (j - length l) (omega (arith, length-append l m)))

  -- every member of a span
  pub each-span : (P : A → Type 0) (f : ℕ → List A) (k n : ℕ) → ((i : ℕ) → k ≤ i → i < k + n → Each P (f i)) → Each P (span f k n)
  unfolding span
  each-span P f k zero h = λ j p. absurd (omega arith)
  each-span P f k (suc n) h = each_append P (f k) (span f (suc k) n) (h k (omega arith) (omega arith)) (each-span P f (suc k) n (λ i p q. h i (omega arith) (omega arith)))

  -- a member of the first of two lists
  pub member-left : (x : A) (l m : List A) → Member x l → Member x (l ++ m)
  member-left x l m (j, h, e) = (j, omega (arith, length-append l m), get_or-append l m z j h ∙ e)

  -- a member of the second
  pub member_right : (x : A) (l m : List A) → Member x m → Member x (l ++ m)
  member_right x l m (j, h, e) = (length l + j, omega (arith, length-append l m), get_or-append-add l m j z ∙ e)

  -- a member of a span
  pub member-span : (x : A) (f : ℕ → List A) (k n i : ℕ) → k ≤ i → i < k + n → Member x (f i) → Member x (span f k n)
  unfolding span
  member-span x f k zero i p q h = absurd (omega arith)
  member-span x f k (suc n) i p q h = go (member-span x f (suc k) n i) (eq-or-lt_of_le p)
    where
      go : (suc k ≤ i → i < suc k + n → Member x (f i) → Member x (span f (suc k) n)) → (k ≡ i) ⊎ (k < i) → Member x (f k ++ span f (suc k) n)
      go r (inl e) = member-left x (f k) (span f (suc k) n) (rw e h)
      go r (inr l) = member_right x (f k) (span f (suc k) n) (r l (omega arith) h)

  -- two lists in order, each of the first before each of the second
  pub ordered-append : (R : A → A → Type 0) (l m : List A) → Ordered R l → Ordered R m → Each (λ x. Each (R x) m) l → Ordered R (l ++ m)
  ordered-append R l m f g c j k p h = go (dec_lt j (length l)) (dec_lt k (length l))
    where
      go : Dec (j < length l) → Dec (k < length l) → R (slice_index_or (l ++ m) j z) (slice_index_or (l ++ m) k z)
      go (yes a) (yes b) = rw (get_or-append l m z j a, get_or-append l m z k b) (f j k p b)
      go (yes a) (no b) = rw (get_or-append l m z j a, get_d_past l m k (omega arith)) (c j a (k - length l) (omega (arith, length-append l m)))
      go (no a) (yes b) = absurd (omega arith)
      go (no a) (no b) =
          rw (get_d_past l m j (omega arith), get_d_past l m k (omega arith))
          (g (j - length l) (k - length l) (omega arith) (omega (arith, length-append l m)))

  -- a span in order, each part before the later ones
  pub ordered-span : (R : A → A → Type 0) (f : ℕ → List A) (k n : ℕ) → ((i : ℕ) → Ordered R (f i)) → ((i j : ℕ) → i < j → Each (λ x. Each (R x) (f j)) (f i))
      → Ordered R (span f k n)
  unfolding span
  ordered-span R f k zero o c = λ i j p h. absurd (omega arith)
  ordered-span R f k (suc n) o c =
      ordered-append R (f k) (span f (suc k) n) (o k) (ordered-span R f (suc k) n o c)
      (λ i h. each-span (R (slice_index_or (f k) i z)) f (suc k) n (λ j p q. c k j p i h))

-- what stands at a place of the images is the image of what stands there
pub get_d_map : {A B : Type 0} (f : A → B) (l : List A) (k : ℕ) (z : A) (y : B) → k < length l → slice_index_or (map f l) k y ≡ f (slice_index_or l k z)
get_d_map f [] k z y h = absurd (omega arith)
get_d_map f (x ∷ l) zero z y h = refl
get_d_map f (x ∷ l) (suc k) z y h = get_d_map f l k z y (omega arith)

-- a front as long as the whole is the whole
pub front-all : {A : Type 0} (xs ys all : List A) → xs ++ ys ≡ all → length all ≤ length xs → xs ≡ all
front-all xs [] all e h = sym (append-nil xs) ∙ e
front-all xs (y ∷ ys) all e h = absurd (omega (arith, ap length e, length-append xs (y ∷ ys)))
