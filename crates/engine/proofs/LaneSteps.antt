-- A lane among the others: where it ends, what it holds, and one more packed.
use Rattle.std.proofs.Common.{◌≡◌, ℕ, zero, suc, ◌+◌, ◌-◌, ◌*◌, ◌<◌, ◌≤◌, List, [], ◌∷◌, ◌++◌, length, get_or, take, drop, sym, refl, ap, ◌∙◌, ap₂, append_assoc, append-nil, mul-le-mul_right, suc-mul, add-one, arith, length-append, length-take-le, take-suc, take_at}
use lib.ListN.{length-replicate}
use lib.Seq.{sets, sets-eq, drop-append-add}
use Rattle.engine.specs.Memory.{value_at, little_endian, lanes_from, joined, packed}
use Rattle.engine.specs.ByteLaws.{length-little}
use Rattle.engine.specs.PackedLaws.{length-joined, zeros, drop-zeros, packed-is}

-- lane k of n lanes of w bytes ends within them
pub lane_room : (k n w m : ℕ) → k < n → n * w ≤ m → k * w + w ≤ m
lane_room k n w m h p =
    let q : suc k * w ≤ n * w = mul-le-mul_right w h in
    let e : suc k * w ≡ k * w + w = suc-mul k w in
    omega arith

-- lane k of n lanes from byte s on
pub lane-from : (bytes : List ℕ) (w s n k : ℕ) → k < n → get_or (lanes_from bytes w s n) k 0 ≡ value_at bytes (s + k * w) w
unfolding lanes_from
lane-from bytes w s zero k h = absurd (omega arith)
lane-from bytes w s (suc n) zero h = let e : s ≡ s + 0 * w = omega arith in ap (λ i. value_at bytes i w) e
lane-from bytes w s (suc n) (suc k) h =
    let e : s + w + k * w ≡ s + suc k * w = omega (arith, suc-mul k w) in
    lane-from bytes w (s + w) n k (omega arith) ∙ ap (λ i. value_at bytes i w) e

-- one of n lanes
pub lane-at : (bytes : List ℕ) (w n k : ℕ) → k < n → get_or (lanes_from bytes w 0 n) k 0 ≡ value_at bytes (k * w) w
lane-at bytes w n k h = let e : 0 + k * w ≡ k * w = omega arith in lane-from bytes w 0 n k h ∙ ap (λ i. value_at bytes i w) e

joined_snoc : (w : ℕ) (xs : List ℕ) (x : ℕ) → joined w (xs ++ (x ∷ [])) ≡ joined w xs ++ little_endian w x
unfolding joined
joined_snoc w [] x = append-nil (little_endian w x)
joined_snoc w (y ∷ xs) x = ap (λ l. little_endian w y ++ l) (joined_snoc w xs x) ∙ sym (append_assoc (little_endian w y) (joined w xs) (little_endian w x))

packed-snoc : (w : ℕ) (xs : List ℕ) (x : ℕ) → length xs * w + w ≤ 64 → packed w (xs ++ (x ∷ [])) ≡ sets (packed w xs) (length xs * w) (little_endian w x)
packed-snoc w xs x h =
    let n : length (xs ++ (x ∷ [])) * w ≡ length xs * w + w = ap (λ i. i * w) (length-append xs (x ∷ []) ∙ add-one (length xs)) ∙ suc-mul (length xs) w in
    let j = length-joined w xs in
    let z = zeros (64 - length xs * w) in
    let len : length (joined w xs ++ z) ≡ 64 = length-append (joined w xs) z ∙ rw (length-replicate {A = ℕ} (64 - length xs * w) 0) (omega (arith, j)) in
    let fits : length xs * w + length (little_endian w x) ≤ length (joined w xs ++ z) = omega (arith, len, length-little w x) in
    let m : 64 - length xs * w - w ≡ 64 - (length xs * w + w) = omega arith in
    let d : drop (length xs * w + length (little_endian w x)) (joined w xs ++ z) ≡ zeros (64 - (length xs * w + w)) =
    ap (λ i. drop (length xs * w + i) (joined w xs ++ z)) (length-little w x)
    ∙ ap (λ i. drop (i + w) (joined w xs ++ z)) (sym j)
    ∙ drop-append-add (joined w xs) z w
    ∙ drop-zeros w (64 - length xs * w)
    ∙ ap zeros m in
    packed-is w (xs ++ (x ∷ [])) (omega arith)
    ∙ rw (n, joined_snoc w xs x)
    (sym
    (ap (λ l. sets l (length xs * w) (little_endian w x)) (packed-is w xs (omega arith))
    ∙ sets-eq (little_endian w x) (joined w xs ++ z) (length xs * w) fits
    ∙ rw (take_at (joined w xs) z (length xs * w) j, d)))

-- lanes packed into a register's bytes
pub packed_more : (w : ℕ) (xs : List ℕ) (k : ℕ) → k < length xs → k * w + w ≤ 64
    → packed w (take (k + 1) xs) ≡ sets (packed w (take k xs)) (k * w) (little_endian w (get_or xs k 0))
packed_more w xs k p h =
    let n : length (take k xs) ≡ k = length-take-le k xs (omega arith) in
    rw (add-one k, take-suc xs k 0 p)
    (packed-snoc w (take k xs) (get_or xs k 0) (rw n h) ∙ ap (λ i. sets (packed w (take k xs)) (i * w) (little_endian w (get_or xs k 0))) n)

pub packed_none : (w : ℕ) → packed w [] ≡ zeros 64
unfolding joined
packed_none w = refl

-- a single lane
pub packed-one : (w x : ℕ) → w ≤ 64 → packed w (x ∷ []) ≡ sets (zeros 64) 0 (little_endian w x)
packed-one w x h =
    let e : 0 * w ≡ 0 = omega arith in
    packed-snoc w [] x (omega arith) ∙ ap₂ (λ l i. sets l i (little_endian w x)) (packed_none w) e
