-- Numbers joined as bytes, one behind the other.
--
--   joined-append, length-joined    the bytes of numbers behind numbers; how many there are
--   joined-read                     a number read back
--   joined-lanes                    bytes read as numbers and written again
--   sets-beyond                     what lies behind bytes that are written stays
use Rattle.std.specs.Prelude.{ℕ, zero, suc, ◌+◌, ◌*◌, ◌%◌, ◌^◌, ◌≤◌, ◌<◌, ◌≡◌, refl, List, [], ◌∷◌, ◌++◌, length, get_or, take, drop, set}
use Rattle.std.proofs.Common.{sym, ◌∙◌, ap, append_assoc, arith, length-append, take-add, drop-drop, get_or-set_other}
use Rattle.std.proofs.lemmas.List.Edits.{sets}
use Rattle.std.proofs.Math.Seq.{drop-append-add}
use Rattle.engine.specs.Memory.{value_at, little_endian, lanes_from, joined}
use Rattle.engine.specs.ByteLaws.{Bytewise, length-little, value-drop, value-little, little-value}

-- the bytes of numbers behind numbers
pub joined-append : (w : ℕ) (xs ys : List ℕ) → joined w (xs ++ ys) ≡ joined w xs ++ joined w ys
unfolding joined
joined-append w [] ys = refl
joined-append w (x ∷ xs) ys = rw (joined-append w xs ys) (sym (append_assoc (little_endian w x) (joined w xs) (joined w ys)))

-- w bytes each
pub length-joined : (w : ℕ) (xs : List ℕ) → length (joined w xs) ≡ length xs * w
unfolding joined
length-joined w [] = omega arith
length-joined w (x ∷ xs) = length-append (little_endian w x) (joined w xs) ∙ omega (arith, length-little w x, length-joined w xs)

-- a number that lies behind other bytes
value-behind : (w : ℕ) (l r : List ℕ) (k : ℕ) → value_at (l ++ r) (length l + k) w ≡ value_at r k w
value-behind w l r k = value-drop (l ++ r) (length l + k) w ∙ ap (λ z. value_at z 0 w) (drop-append-add l r k) ∙ sym (value-drop r k w)

-- the number at place k, read back from the bytes, cut to its w
pub joined-read : (w : ℕ) (xs rest : List ℕ) (k : ℕ) → k < length xs → value_at (joined w xs ++ rest) (k * w) w ≡ get_or xs k 0 % 2 ^ (8 * w)
unfolding joined
joined-read w [] rest k h = absurd (omega arith)
joined-read w (x ∷ xs) rest zero h =
    let e : 0 * w ≡ 0 = omega arith in
    rw (append_assoc, e) (value-little w x (joined w xs ++ rest))
joined-read w (x ∷ xs) rest (suc k) h =
    let e : suc k * w ≡ length (little_endian w x) + k * w = omega (arith, length-little w x) in
    rw (append_assoc, e) (value-behind w (little_endian w x) (joined w xs ++ rest) (k * w) ∙ joined-read w xs rest k (omega arith))

-- bytes read as numbers and written again are the bytes
pub joined-lanes : (w : ℕ) (bytes : List ℕ) (k n : ℕ) → Bytewise bytes → k + n * w ≤ length bytes
    → joined w (lanes_from bytes w k n) ≡ take (n * w) (drop k bytes)
unfolding joined lanes_from
joined-lanes w bytes k zero h p = let e : 0 * w ≡ 0 = omega arith in rw e
joined-lanes w bytes k (suc n) h p =
    let e : suc n * w ≡ w + n * w = omega arith in
    rw (e, little-value w bytes k h (omega arith), joined-lanes w bytes (k + w) n h (omega arith), take-add, drop-drop)

-- what lies behind bytes that are written stays
pub sets-beyond : (l : List ℕ) (i : ℕ) (xs : List ℕ) (k : ℕ) → i + length xs ≤ k → get_or (sets l i xs) k 0 ≡ get_or l k 0
sets-beyond l i [] k h = refl
sets-beyond l i (x ∷ xs) k h = sets-beyond (set l i x) (suc i) xs k (omega arith) ∙ get_or-set_other l i k x 0 (λ e. omega arith)
