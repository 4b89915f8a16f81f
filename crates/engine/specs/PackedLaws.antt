-- Lanes in a register's 64 bytes.
--
--   length-lanes    n lanes are n
--   length-joined   lanes of w bytes, joined, are as many times w bytes
--   zeros           n zeros
--   front, packed-is, packed-front   at most 64 bytes, and zeros behind
--   joined-lanes, packed-lanes   the bytes of the lanes that bytes are
--   lanes-packed    lanes put into a register's bytes are read back
use Rattle.std.specs.Prelude.{◌≡◌, ℕ, zero, suc, ◌+◌, ◌-◌, ◌*◌, ◌^◌, ◌<◌, ◌≤◌, List, [], ◌∷◌, ◌++◌, length, take, drop, replicate, slice_index, refl}
use Rattle.std.proofs.Common.{sym, ◌∙◌, ap, append_assoc, arith, suc-mul, length-append, take-add, drop-drop, drop_at}
use Rattle.std.proofs.Math.Nat.{sub-zero}
use Rattle.std.proofs.lemmas.List.Edits.{sets, sets-eq}
use Rattle.std.proofs.Math.Seq.{take-append-add}
use Rattle.engine.specs.Memory.{value_at, little_endian, lanes_from, joined, packed}
use Rattle.engine.specs.ByteLaws.{Bytewise, length-little, value-drop, value-little-small, little-value}

-- n lanes are n
pub length-lanes : (bytes : List ℕ) (w k n : ℕ) → length (lanes_from bytes w k n) ≡ n
unfolding lanes_from
length-lanes bytes w k zero = refl
length-lanes bytes w k (suc n) = ap suc (length-lanes bytes w (k + w) n)

-- lanes of w bytes, joined, are as many times w bytes
pub length-joined : (w : ℕ) (xs : List ℕ) → length (joined w xs) ≡ length xs * w
unfolding joined
length-joined w [] = omega arith
length-joined w (x ∷ xs) = rw (length-append, length-little w x, length-joined w xs) (omega (arith, suc-mul (length xs) w))

-- n zeros
abbrev pub zeros : ℕ → List ℕ
zeros n = replicate n 0

-- the first of them
take-zeros : (n m : ℕ) → n ≤ m → take n (zeros m) ≡ zeros n
take-zeros zero m h = refl
take-zeros (suc n) zero h = absurd (omega arith)
take-zeros (suc n) (suc m) h = ap (λ l. 0 ∷ l) (take-zeros n m (omega arith))

-- the others
pub drop-zeros : (n m : ℕ) → drop n (zeros m) ≡ zeros (m - n)
drop-zeros zero m = ap zeros (sym (sub-zero m))
drop-zeros (suc n) zero = let e : 0 ≡ 0 - suc n = omega arith in ap zeros e
drop-zeros (suc n) (suc m) = let e : m - n ≡ suc m - suc n = omega arith in drop-zeros n m ∙ ap zeros e

-- at most 64 bytes, and zeros behind
front : (bytes : List ℕ) → length bytes ≤ 64 → take 64 (bytes ++ zeros 64) ≡ bytes ++ zeros (64 - length bytes)
front bytes h =
    let e : 64 ≡ length bytes + (64 - length bytes) = omega arith in
    ap (λ n. take n (bytes ++ zeros 64)) e
    ∙ take-append-add bytes (zeros 64) (64 - length bytes)
    ∙ ap (λ l. bytes ++ l) (take-zeros (64 - length bytes) 64 (omega arith))

-- .. of lanes
pub packed-is : (w : ℕ) (xs : List ℕ) → length xs * w ≤ 64 → packed w xs ≡ joined w xs ++ zeros (64 - length xs * w)
packed-is w xs h = front (joined w xs) (omega (arith, length-joined w xs)) ∙ ap (λ n. joined w xs ++ zeros (64 - n)) (length-joined w xs)

-- .. which is 64 zeros with the lanes' bytes in front
pub packed-front : (w : ℕ) (xs : List ℕ) → length xs * w ≤ 64 → packed w xs ≡ sets (zeros 64) 0 (joined w xs)
packed-front w xs h =
    let n = length-joined w xs in
    let z : 0 + length (joined w xs) ≡ length (joined w xs) = omega arith in
    front (joined w xs) (omega (arith, n))
    ∙ sym (sets-eq (joined w xs) (zeros 64) 0 (omega (arith, n)) ∙ ap (λ l. joined w xs ++ l) (ap (λ i. drop i (zeros 64)) z ∙ drop-zeros (length (joined w xs)) 64))

-- the bytes of the lanes that bytes are
pub joined-lanes : (w : ℕ) (bytes : List ℕ) (k n : ℕ) → (0 < n → Bytewise bytes) → k + n * w ≤ length bytes → joined w (lanes_from bytes w k n) ≡ take (n * w) (drop k bytes)
unfolding joined lanes_from
joined-lanes w bytes k zero h p = let e : 0 * w ≡ 0 = omega arith in rw e
joined-lanes w bytes k (suc n) h p =
    let e : suc n * w ≡ w + n * w = omega (arith, suc-mul n w) in
    let b = h (omega arith) in
    rw (e, little-value w bytes k b (omega arith), joined-lanes w bytes (k + w) n (λ q. b) (omega arith), take-add w (n * w) (drop k bytes), drop-drop w k bytes)

-- .. in front of zeros
pub packed-lanes : (w : ℕ) (bytes : List ℕ) (k n : ℕ) → (0 < n → Bytewise bytes) → k + n * w ≤ length bytes → n * w ≤ 64
    → packed w (lanes_from bytes w k n) ≡ sets (zeros 64) 0 (take (n * w) (drop k bytes))
packed-lanes w bytes k n h p q =
    packed-front w (lanes_from bytes w k n) (rw (length-lanes bytes w k n) q) ∙ ap (sets (zeros 64) 0) (joined-lanes w bytes k n h p)

-- a number behind the first j bytes, and k further
value-further : (bytes : List ℕ) (j k w : ℕ) → value_at bytes (j + k) w ≡ value_at (drop j bytes) k w
value-further bytes j k w = value-drop bytes (j + k) w ∙ ap (λ l. value_at l 0 w) (sym (drop-drop k j bytes)) ∙ sym (value-drop (drop j bytes) k w)

-- lanes behind the first j bytes
lanes-further : (bytes : List ℕ) (w j k n : ℕ) → lanes_from bytes w (j + k) n ≡ lanes_from (drop j bytes) w k n
unfolding lanes_from
lanes-further bytes w j k zero = refl
lanes-further bytes w j k (suc n) =
    let e : j + k + w ≡ j + (k + w) = omega arith in
    rw (value-further bytes j k w, e, lanes-further bytes w j (k + w) n)

-- lanes in front of other bytes are read back
lanes-joined : (w : ℕ) (xs rest : List ℕ) → ((k : ℕ) → slice_index xs k < 2 ^ (8 * w)) → lanes_from (joined w xs ++ rest) w 0 (length xs) ≡ xs
unfolding joined lanes_from
lanes-joined w [] rest h = refl
lanes-joined w (x ∷ xs) rest h =
    let bytes = little_endian w x ++ (joined w xs ++ rest) in
    let e : joined w (x ∷ xs) ++ rest ≡ bytes = append_assoc (little_endian w x) (joined w xs) rest in
    let z : 0 + w ≡ w + 0 = omega arith in
    ap (λ l. lanes_from l w 0 (suc (length xs))) e
    ∙ rw (z, value-little-small w x (joined w xs ++ rest) (h 0), lanes-further bytes w w 0 (length xs), drop_at (little_endian w x) (joined w xs ++ rest) w (length-little w x))
    (ap (λ l. x ∷ l) (lanes-joined w xs rest (λ k. h (suc k))))

-- lanes put into a register's bytes are read back
pub lanes-packed : (w : ℕ) (xs : List ℕ) → ((k : ℕ) → slice_index xs k < 2 ^ (8 * w)) → length xs * w ≤ 64 → lanes_from (packed w xs) w 0 (length xs) ≡ xs
lanes-packed w xs h p = ap (λ bytes. lanes_from bytes w 0 (length xs)) (packed-is w xs p) ∙ lanes-joined w xs (zeros (64 - length xs * w)) h
