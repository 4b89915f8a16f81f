-- The parts of a chunk: what is done at the addresses of one part more, and one lane more of a part.
--
--   joined-append, within-append, stored-append, lanes-append, packed-append   in two pieces
--   length-stored                 what is written leaves memory as long as it was
--   parts_more, length_part       the addresses of one part more; how many a part has
--   parts-room, lanes-room        a part ends where all parts do, or before
--   part-inside, part-outside     all parts lie inside exactly if each does
--   part-lane, check-inside, check-outside   the first lane outside; the address check
use Rattle.std.proofs.Common.{◌≡◌, ℕ, zero, suc, ◌+◌, ◌*◌, ◌<◌, ◌≤◌, Bool, true, false, ◌&&◌, List, [], ◌∷◌, ◌++◌, map, length, get_or, take, ℤ, pos, sym, refl, ap, ◌∙◌, append_assoc, append-nil, mul-le-mul_right, suc-mul, add-mul, add-one, arith, length-append, length-take-le, take_all, take-suc, Some, None}
use mathlib.Core.List.{map-append}
use lib.ListN.{length-map}
use lib.Seq.{sets, length-sets}
use Rattle.codec.specs.TestLaws.{both, and_both, and_left, and_right}
use Rattle.engine.specs.Loops.{natural}
use Rattle.engine.specs.Addresses.{inside}
use Rattle.engine.specs.Memory.{value_at, little_endian, lanes_from, joined, packed}
use Rattle.engine.specs.PackedLaws.{length-lanes, length-joined, zeros, packed-front}
use Rattle.engine.specs.Stretches.{addresses_in, joined_in, all_within, lane_without, checked_at, fetched_at, stored_at}
use Rattle.engine.specs.declared.part.Part.{Part}
use Rattle.engine.proofs.ByteSteps.{sets-append}
use Rattle.engine.proofs.LaneSteps.{lane_room}
use Rattle.engine.proofs.StretchSteps.{length-progression, map_at, lane-behind, lane-before}

-- ---- in two pieces

and_assoc : (a b c : Bool) → (a && (b && c)) ≡ ((a && b) && c)
and_assoc true b c = refl
and_assoc false b c = refl

-- addresses in two pieces lie inside if both pieces do
pub within-append : (len w : ℕ) (xs ys : List ℤ) → all_within len w (xs ++ ys) ≡ (all_within len w xs && all_within len w ys)
unfolding all_within
within-append len w [] ys = refl
within-append len w (a ∷ xs) ys =
    ap (λ t. inside len w a && t) (within-append len w xs ys) ∙ and_assoc (inside len w a) (all_within len w xs) (all_within len w ys)

-- the bytes of lanes in two pieces
pub joined-append : (w : ℕ) (xs ys : List ℕ) → joined w (xs ++ ys) ≡ joined w xs ++ joined w ys
unfolding joined
joined-append w [] ys = refl
joined-append w (x ∷ xs) ys = ap (λ l. little_endian w x ++ l) (joined-append w xs ys) ∙ sym (append_assoc (little_endian w x) (joined w xs) (joined w ys))

-- what is written in two pieces
pub stored-append : (memory : List ℕ) (w : ℕ) (l m : List ℤ) (xs ys : List ℕ) → length l ≡ length xs
    → stored_at memory w (l ++ m) (xs ++ ys) ≡ stored_at (stored_at memory w l xs) w m ys
unfolding stored_at
stored-append memory w [] m [] ys e = refl
stored-append memory w [] m (x ∷ xs) ys e = absurd (omega arith)
stored-append memory w (a ∷ l) m [] ys e = absurd (omega arith)
stored-append memory w (a ∷ l) m (x ∷ xs) ys e = stored-append (sets memory (natural a) (little_endian w x)) w l m xs ys (omega arith)

-- memory is as long as it was
pub length-stored : (memory : List ℕ) (w : ℕ) (l : List ℤ) (xs : List ℕ) → length (stored_at memory w l xs) ≡ length memory
unfolding stored_at
length-stored memory w [] xs = refl
length-stored memory w (a ∷ l) [] = refl
length-stored memory w (a ∷ l) (x ∷ xs) = length-stored (sets memory (natural a) (little_endian w x)) w l xs ∙ length-sets memory (natural a) (little_endian w x)

-- lanes in two pieces
pub lanes-append : (bytes : List ℕ) (w k m n : ℕ) → lanes_from bytes w k (m + n) ≡ lanes_from bytes w k m ++ lanes_from bytes w (k + m * w) n
unfolding lanes_from
lanes-append bytes w k zero n =
    let e : 0 + n ≡ n = omega arith in
    let f : k ≡ k + 0 * w = omega arith in
    ap (lanes_from bytes w k) e ∙ ap (λ i. lanes_from bytes w i n) f
lanes-append bytes w k (suc m) n =
    let e : suc m + n ≡ suc (m + n) = omega arith in
    let f : k + w + m * w ≡ k + suc m * w = omega (arith, suc-mul m w) in
    ap (lanes_from bytes w k) e
    ∙ ap (λ l. value_at bytes k w ∷ l) (lanes-append bytes w (k + w) m n ∙ ap (λ i. lanes_from bytes w (k + w) m ++ lanes_from bytes w i n) f)

-- lanes in two pieces, packed
pub packed-append : (w : ℕ) (xs ys : List ℕ) → length xs * w + length ys * w ≤ 64 → packed w (xs ++ ys) ≡ sets (packed w xs) (length xs * w) (joined w ys)
packed-append w xs ys h =
    let n : length (xs ++ ys) * w ≡ length xs * w + length ys * w = ap (λ i. i * w) (length-append xs ys) ∙ add-mul (length xs) (length ys) w in
    let j : 0 + length (joined w xs) ≡ length xs * w = omega (arith, length-joined w xs) in
    packed-front w (xs ++ ys) (omega arith)
    ∙ ap (sets (zeros 64) 0) (joined-append w xs ys)
    ∙ sets-append (zeros 64) 0 (joined w xs) (joined w ys)
    ∙ ap (λ i. sets (sets (zeros 64) 0 (joined w xs)) i (joined w ys)) j
    ∙ ap (λ l. sets l (length xs * w) (joined w ys)) (sym (packed-front w xs (omega arith)))

-- ---- the addresses of parts

-- parts in two pieces
pub parts-append : (xs ys : List Part) → joined_in (xs ++ ys) ≡ joined_in xs ++ joined_in ys
unfolding joined_in
parts-append [] ys = refl
parts-append (part ∷ xs) ys = ap (λ l. addresses_in part ++ l) (parts-append xs ys) ∙ sym (append_assoc (addresses_in part) (joined_in xs) (joined_in ys))

-- one part
pub part-alone : (part : Part) → joined_in (part ∷ []) ≡ addresses_in part
unfolding joined_in
part-alone part = append-nil (addresses_in part)

-- one part more
pub parts_more : (parts : List Part) (k : ℕ) (part : Part) → part ≡ get_or parts k part → k < length parts → joined_in (take (k + 1) parts) ≡ joined_in (take k parts) ++ addresses_in part
parts_more parts k part e h =
    rw (add-one k, take-suc parts k part h)
    (parts-append (take k parts) (get_or parts k part ∷ [])
    ∙ ap (λ l. joined_in (take k parts) ++ l) (part-alone (get_or parts k part) ∙ ap (λ p. addresses_in p) (sym e)))

-- a part has as many addresses as it says
pub length_part : (part : Part) → length (addresses_in part) ≡ part.count
length_part part = length-progression part.start.0 part.step.0 part.count

-- a part ends where all parts do, or before
pub parts-room : (parts : List Part) (k : ℕ) (part : Part) → part ≡ get_or parts k part → k < length parts
    → length (joined_in (take k parts)) + length (addresses_in part) ≤ length (joined_in parts)
unfolding joined_in
parts-room [] k part e h = absurd (omega arith)
parts-room (p ∷ parts) zero part e h = omega (arith, length-append (addresses_in p) (joined_in parts), ap (λ p. length (addresses_in p)) e)
parts-room (p ∷ parts) (suc k) part e h =
    omega (
      arith,
      length-append (addresses_in p) (joined_in (take k parts)),
      length-append (addresses_in p) (joined_in parts),
      parts-room parts k part e (omega arith),
    )

-- .. and so do its lanes
pub lanes-room : (parts : List Part) (k w : ℕ) (part : Part) → part ≡ get_or parts k part → {at : ℕ} → k < length parts → at ≡ length (joined_in (take k parts))
    → length (joined_in parts) * w ≤ 64 → at * w + part.count * w ≤ 64
lanes-room parts k w part e {at} h f q =
    let r : at + part.count ≤ length (joined_in parts) = omega (arith, parts-room parts k part e h, length_part part) in
    omega (arith, mul-le-mul_right w r, add-mul at part.count w)

-- ---- whether parts lie inside

pub parts_none : (len w : ℕ) → all_within len w (joined_in []) ≡ true
unfolding all_within joined_in
parts_none len w = refl

pub parts-none-long : 0 ≡ length (joined_in [])
unfolding joined_in
parts-none-long = refl

-- all parts inside: each is
pub part-inside : (len w : ℕ) (parts : List Part) (k : ℕ) (part : Part) → part ≡ get_or parts k part → k < length parts → all_within len w (joined_in parts) ≡ true
    → all_within len w (addresses_in part) ≡ true
unfolding joined_in
part-inside len w [] k part g h e = absurd (omega arith)
part-inside len w (p ∷ parts) zero part g h e =
    ap (λ p. all_within len w (addresses_in p)) g
    ∙ (both (all_within len w (addresses_in p)) (all_within len w (joined_in parts)) (sym (within-append len w (addresses_in p) (joined_in parts)) ∙ e)).0
part-inside len w (p ∷ parts) (suc k) part g h e =
    part-inside len w parts k part g (omega arith)
    (both (all_within len w (addresses_in p)) (all_within len w (joined_in parts)) (sym (within-append len w (addresses_in p) (joined_in parts)) ∙ e)).1

-- one part outside: not all are inside
pub part-outside : (len w : ℕ) (parts : List Part) (k : ℕ) (part : Part) → part ≡ get_or parts k part → k < length parts → all_within len w (addresses_in part) ≡ false
    → all_within len w (joined_in parts) ≡ false
unfolding joined_in
part-outside len w [] k part g h e = absurd (omega arith)
part-outside len w (p ∷ parts) zero part g h e =
    within-append len w (addresses_in p) (joined_in parts)
    ∙ and_left (all_within len w (addresses_in p)) (all_within len w (joined_in parts)) (ap (λ p. all_within len w (addresses_in p)) (sym g) ∙ e)
part-outside len w (p ∷ parts) (suc k) part g h e =
    within-append len w (addresses_in p) (joined_in parts)
    ∙ and_right (all_within len w (addresses_in p)) (all_within len w (joined_in parts)) (part-outside len w parts k part g (omega arith) e)

-- one part more inside
pub part-within : (len w : ℕ) (parts : List Part) (k : ℕ) (part : Part) → part ≡ get_or parts k part → k < length parts → all_within len w (joined_in (take k parts)) ≡ true
    → all_within len w (addresses_in part) ≡ true → all_within len w (joined_in (take (k + 1) parts)) ≡ true
part-within len w parts k part g h e f =
    let l = joined_in (take k parts) in
    let m = addresses_in part in
    ap (all_within len w) (parts_more parts k part g h) ∙ within-append len w l m ∙ and_both (all_within len w l) (all_within len w m) e f

-- the first lane outside is in the first part that does not lie inside
pub part-lane : (len w : ℕ) (parts : List Part) (k : ℕ) (part : Part) → part ≡ get_or parts k part → k < length parts → all_within len w (joined_in (take k parts)) ≡ true
    → all_within len w (addresses_in part) ≡ false
    → lane_without len w (joined_in parts) ≡ length (joined_in (take k parts)) + lane_without len w (addresses_in part)
unfolding joined_in
part-lane len w [] k part g h e f = absurd (omega arith)
part-lane len w (p ∷ parts) zero part g h e f =
    lane-before len w (addresses_in p) (joined_in parts) (ap (λ p. all_within len w (addresses_in p)) (sym g) ∙ f)
    ∙ omega (arith, ap (λ p. lane_without len w (addresses_in p)) g)
part-lane len w (p ∷ parts) (suc k) part g h e f =
    let l = addresses_in p in
    let i = both (all_within len w l) (all_within len w (joined_in (take k parts))) (sym (within-append len w l (joined_in (take k parts))) ∙ e) in
    let n : length (l ++ joined_in (take k parts)) ≡ length l + length (joined_in (take k parts)) = length-append l (joined_in (take k parts)) in
    lane-behind len w l (joined_in parts) i.0
    ∙ omega (arith, n, part-lane len w parts k part g (omega arith) i.1 f)

-- the address check by these
pub check-inside : (len w : ℕ) (l : List ℤ) → all_within len w l ≡ true → None ≡ checked_at len w l
check-inside len w l e = rw e

pub check-outside : (len w : ℕ) (l : List ℤ) (n : ℕ) → all_within len w l ≡ false → lane_without len w l ≡ n → Some n ≡ checked_at len w l
check-outside len w l n e f = rw (e, f)

-- ---- lanes of a part

-- where lane k of those from lane `at` on ends
pub lane-room-at : (at k n w m : ℕ) → k < n → at * w + n * w ≤ m → (at + k) * w + w ≤ m
lane-room-at at k n w m h p = lane_room (at + k) (at + n) w m (omega arith) (omega (arith, add-mul at n w))

joined-next : (w : ℕ) (xs : List ℕ) (k : ℕ) → k < length xs → joined w (take (k + 1) xs) ≡ joined w (take k xs) ++ little_endian w (get_or xs k 0)
unfolding joined
joined-next w xs k h =
    rw (add-one k, take-suc xs k 0 h)
    (joined-append w (take k xs) (get_or xs k 0 ∷ []) ∙ ap (λ l. joined w (take k xs) ++ l) (append-nil (little_endian w (get_or xs k 0))))

-- what is at one address more becomes one lane more
pub lane-read : (memory : List ℕ) (w : ℕ) (l : List ℤ) (k at : ℕ) (lanes₀ : List ℕ) {a : ℤ} {lanes after : List ℕ} → k < length l → a ≡ get_or l k (pos 0)
    → lanes ≡ sets lanes₀ (at * w) (joined w (take k (fetched_at memory w l))) → after ≡ sets lanes ((at + k) * w) (little_endian w (value_at memory (natural a) w))
    → after ≡ sets lanes₀ (at * w) (joined w (take (k + 1) (fetched_at memory w l)))
lane-read memory w l k at lanes₀ {a} {lanes} {after} h p q r =
    let f : ℤ → ℕ = λ a. value_at memory (natural a) w in
    let xs = map f l in
    let n : length xs ≡ length l = length-map l f in
    let front = joined w (take k xs) in
    let j : length front ≡ k * w = length-joined w (take k xs) ∙ ap (λ i. i * w) (length-take-le k xs (omega arith)) in
    let e : (at + k) * w ≡ at * w + length front = omega (arith, add-mul at k w) in
    r
    ∙ ap (λ m. sets m ((at + k) * w) (little_endian w (f a))) q
    ∙ ap (λ x. sets (sets lanes₀ (at * w) front) ((at + k) * w) (little_endian w x)) (ap f p ∙ sym (map_at f l k h))
    ∙ ap (λ i. sets (sets lanes₀ (at * w) front) i (little_endian w (get_or xs k 0))) e
    ∙ sym (ap (sets lanes₀ (at * w)) (joined-next w xs k (omega arith)) ∙ sets-append lanes₀ (at * w) front (little_endian w (get_or xs k 0)))

-- .. until there are as many as addresses
pub part-read : (memory : List ℕ) (w : ℕ) (l : List ℤ) (k : ℕ) → length l ≡ k → joined w (take k (fetched_at memory w l)) ≡ joined w (fetched_at memory w l)
part-read memory w l k e = ap (joined w) (take_all k (fetched_at memory w l) (omega (arith, length-map l (λ a. value_at memory (natural a) w))))

pub no-lane : (w : ℕ) (lanes : List ℕ) (i : ℕ) → sets lanes i (joined w []) ≡ lanes
unfolding joined
no-lane w lanes i = refl

-- ---- one part more, read or written

-- the lanes of one part more, behind those of k parts
module _ (memory : List ℕ) (w : ℕ) (parts : List Part) (k : ℕ) (part : Part) (e : part ≡ get_or parts k part) (h : k < length parts) {at : ℕ} (p : at ≡ length (joined_in (take k parts))) where
  pub parts-count : at + part.count ≡ length (joined_in (take (k + 1) parts))
  parts-count =
      sym (ap length (parts_more parts k part e h) ∙ length-append (joined_in (take k parts)) (addresses_in part) ∙ omega (arith, length_part part))

  pub parts-read : {lanes after : List ℕ} → at * w + part.count * w ≤ 64 → lanes ≡ packed w (fetched_at memory w (joined_in (take k parts)))
      → after ≡ sets lanes (at * w) (joined w (fetched_at memory w (addresses_in part))) → after ≡ packed w (fetched_at memory w (joined_in (take (k + 1) parts)))
  parts-read {lanes} {after} room r s =
      let f : ℤ → ℕ = λ a. value_at memory (natural a) w in
      let xs = joined_in (take k parts) in
      let row = addresses_in part in
      let x : length (map f xs) ≡ at = length-map xs f ∙ sym p in
      let y : length (map f row) ≡ part.count = length-map row f ∙ length_part part in
      let z : length (map f xs) * w + length (map f row) * w ≤ 64 = rw (x, y) room in
      s
      ∙ ap (λ m. sets m (at * w) (joined w (map f row))) r
      ∙ ap (λ i. sets (packed w (map f xs)) (i * w) (joined w (map f row))) (sym x)
      ∙ sym (ap (λ m. packed w (map f m)) (parts_more parts k part e h) ∙ ap (packed w) (map-append f xs row) ∙ packed-append w (map f xs) (map f row) z)

  pub parts-written : (bytes : List ℕ) {before after : List ℕ} → before ≡ stored_at memory w (joined_in (take k parts)) (lanes_from bytes w 0 at)
      → after ≡ stored_at before w (addresses_in part) (lanes_from bytes w (at * w) part.count)
      → after ≡ stored_at memory w (joined_in (take (k + 1) parts)) (lanes_from bytes w 0 (at + part.count))
  parts-written bytes {before} {after} r s =
      let xs = joined_in (take k parts) in
      let row = addresses_in part in
      let n : ℕ = part.count in
      let i : at * w ≡ 0 + at * w = omega arith in
      s
      ∙ ap (λ m. stored_at m w row (lanes_from bytes w (at * w) n)) r
      ∙ ap (λ j. stored_at (stored_at memory w xs (lanes_from bytes w 0 at)) w row (lanes_from bytes w j n)) i
      ∙ sym
      (ap (λ m. stored_at memory w m (lanes_from bytes w 0 (at + n))) (parts_more parts k part e h)
      ∙ ap (stored_at memory w (xs ++ row)) (lanes-append bytes w 0 at n)
      ∙ stored-append memory w xs row (lanes_from bytes w 0 at) (lanes_from bytes w (0 + at * w) n) (sym p ∙ sym (length-lanes bytes w 0 at)))

pub none-packed : (memory : List ℕ) (w : ℕ) → packed w (fetched_at memory w (joined_in [])) ≡ zeros 64
unfolding joined joined_in
none-packed memory w = refl

pub none-stored : (memory : List ℕ) (w : ℕ) (xs : List ℕ) → stored_at memory w (joined_in []) xs ≡ memory
unfolding joined_in stored_at
none-stored memory w xs = refl

pub no-parts : length (joined_in []) ≡ 0
unfolding joined_in
no-parts = refl
