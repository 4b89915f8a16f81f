-- Numbers and their bytes, lowest first.
--
--   Bytewise                        a list of bytes
--   length-little, bytewise-little  w bytes of a number are w bytes
--   value-cons, value-drop          a number further back in a list
--   value-little, value-little-small   the number of a number's bytes
--   little-value                    the bytes of bytes' number
--   value-small                     w bytes are a number below 2^(8w)
--   value-stored                    a number that was stored is there
--   value-sets                      a number apart from what was written is as it was
use Rattle.std.specs.Prelude.{◌≡◌, ℕ, zero, suc, ◌+◌, ◌*◌, ◌/◌, ◌%◌, ◌^◌, ◌<◌, ◌≤◌, ◌⊎◌, List, [], ◌∷◌, ◌++◌, length, take, drop, slice_index, slice_index_or, slice_set, refl}
use Rattle.std.proofs.Common.{sym, ◌∙◌, ap, inl, inr, ⊎_elim, append_assoc, arith, mod-eq_of_lt, drop-cons, drop_at, length-take-le, get_or-set_other, pow-add}
use Rattle.std.proofs.lemmas.List.Edits.{sets, sets-eq}
use Rattle.std.proofs.lemmas.Nat.{mod-pow-add}
use Rattle.engine.specs.Memory.{value_at, little_endian}

-- every element is a byte
abbrev pub Bytewise : List ℕ → Type 0
Bytewise bytes = (k : ℕ) → slice_index bytes k < 256

-- w bytes of a number are w
pub length-little : (w x : ℕ) → length (little_endian w x) ≡ w
unfolding little_endian
length-little zero x = refl
length-little (suc w) x = ap suc (length-little w (x / 256))

-- .. and are bytes
pub bytewise-little : (w x : ℕ) → Bytewise (little_endian w x)
unfolding little_endian
bytewise-little zero x k = omega arith
bytewise-little (suc w) x zero = omega arith
bytewise-little (suc w) x (suc k) = bytewise-little w (x / 256) k

-- a number behind a first byte
pub value-cons : (b : ℕ) (bytes : List ℕ) (k w : ℕ) → value_at (b ∷ bytes) (suc k) w ≡ value_at bytes k w
unfolding value_at
value-cons b bytes k zero = refl
value-cons b bytes k (suc w) = ap (λ x. slice_index bytes k + 256 * x) (value-cons b bytes (suc k) w)

-- no bytes are 0
value_none : (k w : ℕ) → value_at [] k w ≡ 0
unfolding value_at
value_none k zero = refl
value_none k (suc w) = rw (value_none (suc k) w)

-- a number behind the first j bytes
pub value-drop : (bytes : List ℕ) (j w : ℕ) → value_at bytes j w ≡ value_at (drop j bytes) 0 w
value-drop [] zero w = refl
value-drop [] (suc j) w = value_none (suc j) w ∙ sym (value_none 0 w)
value-drop (b ∷ bytes) zero w = refl
value-drop (b ∷ bytes) (suc j) w = value-cons b bytes j w ∙ value-drop bytes j w

-- "Bytes are little-endian": the number of the w bytes of x is x, cut to them
pub value-little : (w x : ℕ) (rest : List ℕ) → value_at (little_endian w x ++ rest) 0 w ≡ x % 2 ^ (8 * w)
unfolding value_at little_endian
value-little zero x rest = omega arith
value-little (suc w) x rest =
    let e : 8 * suc w ≡ 8 * w + 8 = omega arith in
    let f : value_at (x % 256 ∷ (little_endian w (x / 256) ++ rest)) 1 w ≡ x / 256 % 2 ^ (8 * w) =
    value-cons (x % 256) (little_endian w (x / 256) ++ rest) 0 w ∙ value-little w (x / 256) rest in
    let g : x % 2 ^ (8 * w + 8) ≡ x / 256 % 2 ^ (8 * w) * 256 + x % 256 = mod-pow-add x (8 * w) 8 in
    rw (f, e, g) (omega arith)

-- .. and x itself if it fits
pub value-little-small : (w x : ℕ) (rest : List ℕ) → x < 2 ^ (8 * w) → value_at (little_endian w x ++ rest) 0 w ≡ x
value-little-small w x rest h = value-little w x rest ∙ mod-eq_of_lt h

-- the other way round: the bytes of the number that w bytes are
pub little-value : (w : ℕ) (bytes : List ℕ) (k : ℕ) → Bytewise bytes → k + w ≤ length bytes → little_endian w (value_at bytes k w) ≡ take w (drop k bytes)
unfolding value_at little_endian
little-value zero bytes k h p = refl
little-value (suc w) bytes k h p =
    let b = slice_index_or bytes k 0 in
    let v = value_at bytes (suc k) w in
    let e : (b + 256 * v) % 256 ≡ b = omega (arith, h k) in
    let f : (b + 256 * v) / 256 ≡ v = omega (arith, h k) in
    rw (e, f, little-value w bytes (suc k) h (omega arith), drop-cons bytes k 0 (omega arith))

-- w bytes are a number below 2^(8w)
pub value-small : (w : ℕ) (bytes : List ℕ) (k : ℕ) → Bytewise bytes → value_at bytes k w < 2 ^ (8 * w)
unfolding value_at
value-small zero bytes k h = omega arith
value-small (suc w) bytes k h =
    let e : 8 * suc w ≡ 8 * w + 8 = omega arith in
    let g : 2 ^ (8 * w + 8) ≡ 2 ^ (8 * w) * 256 = pow-add 2 (8 * w) 8 in
    rw (e, g) (omega (arith, h k, value-small w bytes (suc k) h))

-- a number that was stored inside memory is there, cut to its bytes
pub value-stored : (memory : List ℕ) (k w x : ℕ) → k + w ≤ length memory → value_at (sets memory k (little_endian w x)) k w ≡ x % 2 ^ (8 * w)
value-stored memory k w x h =
    let l : k + length (little_endian w x) ≤ length memory = rw length-little h in
    let e : sets memory k (little_endian w x) ≡ take k memory ++ (little_endian w x ++ drop (k + length (little_endian w x)) memory) =
    sets-eq (little_endian w x) memory k l ∙ simp append_assoc in
    value-drop (sets memory k (little_endian w x)) k w
    ∙ ap (λ m. value_at (drop k m) 0 w) e
    ∙ ap (λ m. value_at m 0 w) (drop_at (take k memory) (little_endian w x ++ drop (k + length (little_endian w x)) memory) k (length-take-le k memory (omega arith)))
    ∙ value-little w x (drop (k + length (little_endian w x)) memory)

-- a byte apart from what was written
get_d_sets : (bytes memory : List ℕ) (j i : ℕ) → (i < j) ⊎ (j + length bytes ≤ i) → slice_index (sets memory j bytes) i ≡ slice_index memory i
get_d_sets [] memory j i h = refl
get_d_sets (x ∷ bytes) memory j i h =
    get_d_sets bytes (slice_set memory j x) (suc j) i (⊎_elim (λ p. inl (omega arith)) (λ p. inr (omega arith)) h)
    ∙ get_or-set_other memory j i x 0 (⊎_elim (λ p e. omega arith) (λ p e. omega arith) h)

-- a number apart from it
pub value-sets : (w k : ℕ) (bytes memory : List ℕ) (j : ℕ) → (k + w ≤ j) ⊎ (j + length bytes ≤ k) → value_at (sets memory j bytes) k w ≡ value_at memory k w
unfolding value_at
value-sets zero k bytes memory j h = refl
value-sets (suc w) k bytes memory j h =
    rw (
      get_d_sets bytes memory j k (⊎_elim (λ p. inl (omega arith)) (λ p. inr (omega arith)) h),
      value-sets w (suc k) bytes memory j (⊎_elim (λ p. inl (omega arith)) (λ p. inr (omega arith)) h),
    )
