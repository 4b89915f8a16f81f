-- What is done at a list of addresses: one address more, and a whole row.
use Rattle.std.proofs.Common.{◌≡◌, ℕ, zero, suc, ◌+◌, ◌-◌, ◌*◌, ◌<◌, ◌≤◌, Bool, true, false, cond, ◌&&◌, leb, List, [], ◌∷◌, ◌++◌, map, length, get_or, take, drop, set, ℤ, pos, negsuc, ◌+ℤ◌, ◌*ℤ◌, neg_ℤ, nat_abs, sym, refl, ap, ◌∙◌, suc-mul, mul_comm, mul-le-mul_left, add-one, arith, length-drop, length-take-le, get_or-drop, take_all, take-suc, le-leb, leb-true}
use native.Mathlib.Decide.{dec_lt}
use lib.Seq.{sets}
use lib.IntN.{one, *ℤ-one, *ℤ-zero, +ℤ_idr, +ℤ_assoc}
use lib.Signed.{non_neg}
use Rattle.codec.specs.TestLaws.{never, both, and_both, and_left, and_right}
use Rattle.engine.specs.Loops.{natural}
use Rattle.engine.specs.Addresses.{inside}
use Rattle.engine.specs.AddressLaws.{mul-add-right}
use Rattle.engine.specs.Gains.{sub-less, sub-pos}
use Rattle.engine.specs.Memory.{value_at, little_endian, lanes_from, joined, packed}
use Rattle.engine.specs.ByteLaws.{Bytewise, length-little}
use Rattle.engine.specs.PackedLaws.{length-lanes, zeros, joined-lanes, packed-lanes}
use Rattle.engine.specs.Lanes.{lanewise}
use Rattle.engine.specs.EffectLaws.{lanewise-length}
use Rattle.engine.specs.ContentLaws.{lanewise-at}
use Rattle.engine.specs.Stretches.{progression, all_within, lane_without, fetched_at, stored_at}
use Rattle.engine.proofs.ByteSteps.{sets-append}
use Rattle.engine.proofs.PlaceSteps.{inside-room}
use Rattle.engine.proofs.LaneSteps.{packed_more, lane-from, lane-at}

-- ---- whether addresses lie inside

-- all inside: each is
pub within-at : (len w : ℕ) (l : List ℤ) (k : ℕ) → all_within len w l ≡ true → k < length l → inside len w (get_or l k (pos 0)) ≡ true
unfolding all_within
within-at len w [] k e h = absurd (omega arith)
within-at len w (a ∷ l) zero e h = (both (inside len w a) (all_within len w l) e).0
within-at len w (a ∷ l) (suc k) e h = within-at len w l k (both (inside len w a) (all_within len w l) e).1 (omega arith)

-- each inside: all are
within_all : (len w : ℕ) (l : List ℤ) → ((k : ℕ) → k < length l → inside len w (get_or l k (pos 0)) ≡ true) → all_within len w l ≡ true
unfolding all_within
within_all len w [] h = refl
within_all len w (a ∷ l) h = and_both (inside len w a) (all_within len w l) (h 0 (omega arith)) (within_all len w l (λ k p. h (suc k) (omega arith)))

-- one outside: not all are inside
outside-at : (len w : ℕ) (l : List ℤ) (k : ℕ) → k < length l → inside len w (get_or l k (pos 0)) ≡ false → all_within len w l ≡ false
unfolding all_within
outside-at len w [] k h e = absurd (omega arith)
outside-at len w (a ∷ l) zero h e = and_left (inside len w a) (all_within len w l) e
outside-at len w (a ∷ l) (suc k) h e = and_right (inside len w a) (all_within len w l) (outside-at len w l k (omega arith) e)

-- ---- rows

pub row-none : (len w : ℕ) (a step : ℤ) (n : ℕ) → n ≡ 0 → all_within len w (progression a step n) ≡ true
unfolding progression all_within
row-none len w a step n e = rw e

pub length-progression : (a step : ℤ) (n : ℕ) → length (progression a step n) ≡ n
unfolding progression
length-progression a step zero = refl
length-progression a step (suc n) = ap suc (length-progression (a +ℤ step) step n)

-- no step, and one step more
pub further-none : (a step : ℤ) → a +ℤ step *ℤ pos 0 ≡ a
further-none a step = ap (λ z. a +ℤ z) (*ℤ-zero step) ∙ +ℤ_idr a

pub further-more : (a step : ℤ) (k : ℕ) → (a +ℤ step *ℤ pos k) +ℤ step ≡ a +ℤ step *ℤ pos (k + 1)
unfolding one
further-more a step k =
    +ℤ_assoc a (step *ℤ pos k) step ∙ ap (λ z. a +ℤ z) (ap (λ z. step *ℤ pos k +ℤ z) (sym (*ℤ-one step)) ∙ sym (mul-add-right step k 1))

-- address k of a row lies k steps on
pub row_at : (a step : ℤ) (n k : ℕ) → k < n → get_or (progression a step n) k (pos 0) ≡ a +ℤ step *ℤ pos k
unfolding progression one
row_at a step zero k h = absurd (omega arith)
row_at a step (suc n) zero h = sym (further-none a step)
row_at a step (suc n) (suc k) h =
    let e : 1 + k ≡ suc k = omega arith in
    row_at (a +ℤ step) step n k (omega arith)
    ∙ +ℤ_assoc a step (step *ℤ pos k)
    ∙ ap (λ z. a +ℤ z) (ap (λ z. z +ℤ step *ℤ pos k) (sym (*ℤ-one step)) ∙ sym (mul-add-right step 1 k) ∙ ap (λ i. step *ℤ pos i) e)

minus-place : (x p : ℕ) → p ≤ x → pos x +ℤ neg_ℤ (pos p) ≡ pos (x - p)
minus-place x zero h = let e : x + 0 ≡ x - 0 = omega arith in ap pos e
minus-place x (suc p) h = sub-pos x (suc p) h

minus-up : (x p : ℕ) → non_neg (pos x +ℤ neg_ℤ (pos p)) ≡ true → p ≤ x
minus-up x zero e = omega arith
minus-up x (suc p) e = go (dec_lt x (suc p))
  where
    go : Dec (x < suc p) → suc p ≤ x
    go (yes h) = never (sym (ap non_neg (sub-less x (suc p) h)) ∙ e)
    go (no h) = omega arith

-- between two addresses inside, all of a row are
between : (len w : ℕ) (a step : ℤ) (m k : ℕ) → k ≤ m → inside len w a ≡ true → inside len w (a +ℤ step *ℤ pos m) ≡ true → inside len w (a +ℤ step *ℤ pos k) ≡ true
between len w (negsuc x) step m k h p q = never p
between len w (pos x) (pos y) m k h p q =
    let v : y * k ≤ y * m = mul-le-mul_left y h in
    le-leb (x + y * k + w) len (omega (arith, leb-true (x + y * m + w) len q))
between len w (pos x) (negsuc y) m k h p q =
    let last = pos x +ℤ neg_ℤ (pos (suc y * m)) in
    let u : suc y * m ≤ x = minus-up x (suc y * m) (both (non_neg last) (leb (nat_abs last + w) len) q).0 in
    let v : suc y * k ≤ suc y * m = mul-le-mul_left (suc y) h in
    rw (minus-place x (suc y * k) (omega arith)) (le-leb (x - suc y * k + w) len (omega (arith, leb-true (x + w) len p)))

-- address k of a row that lies inside, reckoned by steps
pub within-row : (len w : ℕ) (a step : ℤ) (n k : ℕ) {b : ℤ} → k < n → b ≡ a +ℤ step *ℤ pos k → all_within len w (progression a step n) ≡ true → inside len w b ≡ true
within-row len w a step n k h e i =
    ap (inside len w) (e ∙ sym (row_at a step n k h)) ∙ within-at len w (progression a step n) k i (omega (arith, length-progression a step n))

-- a row whose first address lies inside lies inside exactly if its last does
pub row_inside : (len w : ℕ) (a step : ℤ) (n : ℕ) → 1 ≤ n → inside len w a ≡ true
    → inside len w (a +ℤ step *ℤ pos (n - 1)) ≡ all_within len w (progression a step n)
row_inside len w a step n h p = go (inside len w (a +ℤ step *ℤ pos (n - 1))) refl
  where
    m : length (progression a step n) ≡ n
    m = length-progression a step n

    go : (t : Bool) → inside len w (a +ℤ step *ℤ pos (n - 1)) ≡ t → t ≡ all_within len w (progression a step n)
    go true e =
        sym
        (within_all len w (progression a step n)
        (λ k q. ap (inside len w) (row_at a step n k (omega (arith, m))) ∙ between len w a step (n - 1) k (omega (arith, m)) p e))
    go false e = sym (outside-at len w (progression a step n) (n - 1) (omega (arith, m)) (ap (inside len w) (row_at a step n (n - 1) (omega arith)) ∙ e))

-- .. and lies outside if its first does
pub row-outside : (len w : ℕ) (a step : ℤ) (n : ℕ) → 1 ≤ n → inside len w a ≡ false → all_within len w (progression a step n) ≡ false
row-outside len w a step n h e =
    outside-at len w (progression a step n) 0 (omega (arith, length-progression a step n)) (ap (inside len w) (row_at a step n 0 h ∙ further-none a step) ∙ e)

-- ---- the first lane outside

-- of a row with no element, of one whose first element lies outside, and of one whose first lies inside
pub lane-none : (len w : ℕ) (a step : ℤ) (n : ℕ) → n ≡ 0 → lane_without len w (progression a step n) ≡ 0
unfolding progression lane_without
lane-none len w a step n e = rw e

pub lane_here : (len w : ℕ) (a step : ℤ) (n : ℕ) → 0 < n → inside len w a ≡ false → lane_without len w (progression a step n) ≡ 0
unfolding progression lane_without
lane_here len w a step zero h e = absurd (omega arith)
lane_here len w a step (suc n) h e = rw e

pub lane-on : (len w : ℕ) (a step : ℤ) (n : ℕ) → 0 < n → inside len w a ≡ true → lane_without len w (progression a step n) ≡ 1 + lane_without len w (progression (a +ℤ step) step (n - 1))
unfolding progression lane_without
lane-on len w a step zero h e = absurd (omega arith)
lane-on len w a step (suc n) h e = let m : suc n - 1 ≡ n = omega arith in rw (e, m) (omega arith)

-- behind addresses that all lie inside
pub lane-behind : (len w : ℕ) (l m : List ℤ) → all_within len w l ≡ true → lane_without len w (l ++ m) ≡ length l + lane_without len w m
unfolding all_within lane_without
lane-behind len w [] m e = omega arith
lane-behind len w (a ∷ l) m e =
    let h = both (inside len w a) (all_within len w l) e in
    rw h.0 (omega (arith, lane-behind len w l m h.1))

-- in front of any others, where not all lie inside
pub lane-before : (len w : ℕ) (l m : List ℤ) → all_within len w l ≡ false → lane_without len w (l ++ m) ≡ lane_without len w l
unfolding all_within lane_without
lane-before len w [] m e = never (sym e)
lane-before len w (a ∷ l) m e = go (inside len w a) (λ f. lane-before len w l m f) e
  where
    go : (b : Bool) → (all_within len w l ≡ false → lane_without len w (l ++ m) ≡ lane_without len w l) → (b && all_within len w l) ≡ false
        → cond b (suc (lane_without len w (l ++ m))) 0 ≡ cond b (suc (lane_without len w l)) 0
    go true ih f = ap suc (ih f)
    go false ih f = refl

-- ---- one address more

within-snoc : (len w : ℕ) (l : List ℤ) (a : ℤ) → all_within len w l ≡ true → inside len w a ≡ true → all_within len w (l ++ (a ∷ [])) ≡ true
unfolding all_within
within-snoc len w [] a e f = and_both (inside len w a) true f refl
within-snoc len w (b ∷ l) a e f =
    let p = both (inside len w b) (all_within len w l) e in
    and_both (inside len w b) (all_within len w (l ++ (a ∷ []))) p.0 (within-snoc len w l a p.1 f)

-- one address more lies inside
pub within_more : (len w : ℕ) (l : List ℤ) (k : ℕ) → k < length l → all_within len w (take k l) ≡ true → inside len w (get_or l k (pos 0)) ≡ true
    → all_within len w (take (k + 1) l) ≡ true
within_more len w l k h e f = rw (add-one k, take-suc l k (pos 0) h) (within-snoc len w (take k l) (get_or l k (pos 0)) e f)

-- what a function makes of element k
pub map_at : (f : ℤ → ℕ) (l : List ℤ) (k : ℕ) → k < length l → get_or (map f l) k 0 ≡ f (get_or l k (pos 0))
map_at f [] k h = absurd (omega arith)
map_at f (a ∷ l) zero h = refl
map_at f (a ∷ l) (suc k) h = map_at f l k (omega arith)

-- one lane more
packed-next : (w : ℕ) (xs : List ℕ) (k : ℕ) {x : ℕ} {lanes after : List ℕ} → k < length xs → k * w + w ≤ 64
    → x ≡ get_or xs k 0 → lanes ≡ packed w (take k xs) → after ≡ sets lanes (k * w) (little_endian w x) → after ≡ packed w (take (k + 1) xs)
packed-next w xs k {x} {lanes} {after} h room p q r =
    r
    ∙ ap (λ m. sets m (k * w) (little_endian w x)) q
    ∙ ap (λ y. sets (packed w (take k xs)) (k * w) (little_endian w y)) p
    ∙ sym (packed_more w xs k h room)

stored-snoc : (memory : List ℕ) (w : ℕ) (l : List ℤ) (xs : List ℕ) (a : ℤ) (x : ℕ) → length l ≡ length xs
    → stored_at memory w (l ++ (a ∷ [])) (xs ++ (x ∷ [])) ≡ sets (stored_at memory w l xs) (natural a) (little_endian w x)
unfolding stored_at
stored-snoc memory w [] [] a x e = refl
stored-snoc memory w [] (y ∷ xs) a x e = absurd (omega arith)
stored-snoc memory w (b ∷ l) [] a x e = absurd (omega arith)
stored-snoc memory w (b ∷ l) (y ∷ xs) a x e = stored-snoc (sets memory (natural b) (little_endian w y)) w l xs a x (omega arith)

pub stored-none : (memory : List ℕ) (w : ℕ) (l : List ℤ) (xs : List ℕ) → stored_at memory w (take 0 l) xs ≡ memory
unfolding stored_at
stored-none memory w l xs = refl

-- one lane more, of those from byte s on, is written to one address more
module _ (memory : List ℕ) (w : ℕ) (l : List ℤ) (bytes : List ℕ) (s n k : ℕ) (h : length l ≡ n) (m : k < n) {a : ℤ} {i : ℕ} {before after : List ℕ} where
  pub stored-further : a ≡ get_or l k (pos 0) → i ≡ s + k * w → before ≡ stored_at memory w (take k l) (take k (lanes_from bytes w s n))
      → after ≡ sets before (natural a) (little_endian w (value_at bytes i w))
      → after ≡ stored_at memory w (take (k + 1) l) (take (k + 1) (lanes_from bytes w s n))
  stored-further p e q r =
      let xs = lanes_from bytes w s n in
      let c : length xs ≡ n = length-lanes bytes w s n in
      r
      ∙ ap (λ m. sets m (natural a) (little_endian w (value_at bytes i w))) q
      ∙ ap (λ b. sets (stored_at memory w (take k l) (take k xs)) (natural b) (little_endian w (value_at bytes i w))) p
      ∙ ap (λ x. sets (stored_at memory w (take k l) (take k xs)) (natural (get_or l k (pos 0))) (little_endian w x)) (ap (λ j. value_at bytes j w) e ∙ sym (lane-from bytes w s n k m))
      ∙ sym
      (rw (add-one k, take-suc l k (pos 0) (omega arith), take-suc xs k 0 (omega arith))
      (stored-snoc memory w (take k l) (take k xs) (get_or l k (pos 0)) (get_or xs k 0)
      (length-take-le k l (omega arith) ∙ sym (length-take-le k xs (omega arith)))))

-- .. until there are as many as addresses
pub all-stored-further : (memory : List ℕ) (w : ℕ) (l : List ℤ) (bytes : List ℕ) (s n k : ℕ) → length l ≡ n → k ≡ n
    → stored_at memory w (take k l) (take k (lanes_from bytes w s n)) ≡ stored_at memory w l (lanes_from bytes w s n)
all-stored-further memory w l bytes s n k h e =
    ap (λ m. stored_at memory w m (take k (lanes_from bytes w s n))) (take_all k l (omega arith))
    ∙ ap (stored_at memory w l) (take_all k (lanes_from bytes w s n) (omega (arith, length-lanes bytes w s n)))

-- ---- a row side by side

upright : (a : ℤ) → non_neg a ≡ true → a ≡ pos (natural a)
upright (pos x) e = refl
upright (negsuc x) e = never e

fetched-row : (memory : List ℕ) (w x n : ℕ) → fetched_at memory w (progression (pos x) (pos w) n) ≡ lanes_from memory w x n
unfolding progression lanes_from
fetched-row memory w x zero = refl
fetched-row memory w x (suc n) = ap (λ l. value_at memory x w ∷ l) (fetched-row memory w (x + w) n)

-- one byte more is copied
pub copied_more : (from to : List ℕ) (a b k : ℕ) → a + k < length from → set (sets to b (take k (drop a from))) (b + k) (get_or from (a + k) 0) ≡ sets to b (take (k + 1) (drop a from))
copied_more from to a b k h =
    let l = drop a from in
    let m : length l ≡ length from - a = length-drop a from in
    sym
    (rw (add-one k, take-suc l k 0 (omega arith))
    (sets-append to b (take k l) (get_or l k 0 ∷ [])
    ∙ ap (λ i. set (sets to b (take k l)) (b + i) (get_or l k 0)) (length-take-le k l (omega arith))
    ∙ ap (set (sets to b (take k l)) (b + k)) (get_or-drop a from k 0)))

stored_row : (memory : List ℕ) (w x : ℕ) (xs : List ℕ) → stored_at memory w (progression (pos x) (pos w) (length xs)) xs ≡ sets memory x (joined w xs)
unfolding progression stored_at joined
stored_row memory w x [] = refl
stored_row memory w x (y ∷ ys) =
    stored_row (sets memory x (little_endian w y)) w (x + w) ys
    ∙ ap (λ i. sets (sets memory x (little_endian w y)) (x + i) (joined w ys)) (sym (length-little w y))
    ∙ sym (sets-append memory x (little_endian w y) (joined w ys))

-- a row of n elements side by side, all inside
module _ (len w : ℕ) (a step : ℤ) (n : ℕ) (h : 1 ≤ n) (e : step ≡ pos w) (i : all_within len w (progression a step n) ≡ true) where
  first : inside len w a ≡ true
  first = ap (inside len w) (sym (row_at a step n 0 h ∙ further-none a step)) ∙ within-at len w (progression a step n) 0 i (omega (arith, length-progression a step n))

  pub row-place : non_neg a ≡ true
  row-place = (inside-room len w a first).0

  -- it ends inside
  pub row_room : natural a + n * w ≤ len
  row_room =
      let x = natural a in
      let l : inside len w (a +ℤ step *ℤ pos (n - 1)) ≡ true = row_inside len w a step n h first ∙ i in
      let t : leb (x + w * (n - 1) + w) len ≡ true = rw (upright a row-place, e) at l in
      let p : n * w ≡ (n - 1) * w + w = ap (λ k. k * w) (omega arith) ∙ suc-mul (n - 1) w in
      omega (arith, leb-true (x + w * (n - 1) + w) len t, mul_comm w (n - 1))

  row_is : progression a step n ≡ progression (pos (natural a)) (pos w) n
  row_is = ap (λ b. progression b step n) (upright a row-place) ∙ ap (λ s. progression (pos (natural a)) s n) e

  -- .. its bytes are those of its lanes
  pub row-bytes : (memory : List ℕ) → len ≡ length memory → Bytewise memory → take (n * w) (drop (natural a) memory) ≡ joined w (fetched_at memory w (progression a step n))
  row-bytes memory m b =
      sym (joined-lanes w memory (natural a) n (λ p. b) (omega (arith, row_room)))
      ∙ ap (joined w) (sym (ap (fetched_at memory w) row_is ∙ fetched-row memory w (natural a) n))

  -- .. and lanes, from byte k on, are written so
  pub row-written-from : (memory bytes : List ℕ) (k : ℕ) → Bytewise bytes → k + n * w ≤ length bytes
      → sets memory (natural a) (take (n * w) (drop k bytes)) ≡ stored_at memory w (progression a step n) (lanes_from bytes w k n)
  row-written-from memory bytes k b q =
      let xs = lanes_from bytes w k n in
      ap (sets memory (natural a)) (sym (joined-lanes w bytes k n (λ p. b) q))
      ∙ sym (stored_row memory w (natural a) xs)
      ∙ ap (λ i. stored_at memory w (progression (pos (natural a)) (pos w) i) xs) (length-lanes bytes w k n)
      ∙ ap (λ l. stored_at memory w l xs) (sym row_is)

-- ---- lanes combined

lanewise-first : (f : ℕ → ℕ → ℕ) → ((x y : ℕ) → f x y ≡ x) → (xs ys : List ℕ) → length xs ≡ length ys → lanewise f xs ys ≡ xs
unfolding lanewise
lanewise-first f h [] ys e = refl
lanewise-first f h (x ∷ xs) [] e = absurd (omega arith)
lanewise-first f h (x ∷ xs) (y ∷ ys) e = rw (h x y, lanewise-first f h xs ys (omega arith))

-- lanes of two registers, combined by f
module _ (f : ℕ → ℕ → ℕ) (first second : List ℕ) (w n : ℕ) where
  abbrev pub combined : List ℕ
  combined = lanewise f (lanes_from first w 0 n) (lanes_from second w 0 n)

  same_count : length (lanes_from first w 0 n) ≡ length (lanes_from second w 0 n)
  same_count = length-lanes first w 0 n ∙ sym (length-lanes second w 0 n)

  length-combined : length combined ≡ n
  length-combined = lanewise-length f (lanes_from first w 0 n) (lanes_from second w 0 n) same_count ∙ length-lanes first w 0 n

  -- one lane more
  pub combined-more : (k : ℕ) {x : ℕ} {lanes after : List ℕ} → k < n → k * w + w ≤ 64 → x ≡ f (value_at first (k * w) w) (value_at second (k * w) w)
      → lanes ≡ packed w (take k combined) → after ≡ sets lanes (k * w) (little_endian w x) → after ≡ packed w (take (k + 1) combined)
  combined-more k {x} h room p q r =
      let e : get_or combined k 0 ≡ f (value_at first (k * w) w) (value_at second (k * w) w) =
      lanewise-at f (lanes_from first w 0 n) (lanes_from second w 0 n) k (omega (arith, length-lanes first w 0 n)) (omega (arith, length-lanes second w 0 n))
      ∙ ap (λ y. f y (get_or (lanes_from second w 0 n) k 0)) (lane-at first w n k h)
      ∙ ap (f (value_at first (k * w) w)) (lane-at second w n k h) in
      packed-next w combined k {x = x} (omega (arith, length-combined)) room (p ∙ sym e) q r

  -- .. until there are n
  pub all-combined : (k : ℕ) → k ≡ n → packed w (take k combined) ≡ packed w combined
  all-combined k e = ap (packed w) (take_all k combined (omega (arith, length-combined)))

  -- a copy of the first register's lanes
  pub copied : ((x y : ℕ) → f x y ≡ x) → (0 < n → Bytewise first) → n * w ≤ length first → n * w ≤ 64 → sets (zeros 64) 0 (take (n * w) (drop 0 first)) ≡ packed w combined
  copied h b p q =
      sym (packed-lanes w first 0 n b (omega arith) q) ∙ ap (packed w) (sym (lanewise-first f h (lanes_from first w 0 n) (lanes_from second w 0 n) same_count))
