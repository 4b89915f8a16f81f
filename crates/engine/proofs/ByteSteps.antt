-- One byte more, stored or loaded; two, four and eight at once; bytes stored in two parts.
use Rattle.std.proofs.Common.{◌≡◌, ℕ, zero, suc, ◌+◌, ◌-◌, ◌*◌, ◌/◌, ◌%◌, ◌^◌, ◌<◌, ◌≤◌, List, [], ◌∷◌, ◌++◌, length, get_or, set, take, drop, sym, refl, ap, ◌∙◌, append_assoc, arith, pow_mono, pow-add, pow-suc}
use Rattle.std.proofs.Math.Nat.{div-div-eq-div-mul}
use Rattle.std.proofs.lemmas.List.{get_or-take}
use Rattle.std.proofs.lemmas.List.Edits.{sets, sets-eq}
use Rattle.std.proofs.lemmas.Nat.{mod-pow-add}
use borrow.Rule.Slice.PartMut.{put_mid, Post-is}
use Rattle.std.specs.Int.{w16, w32, w64, byte_at, bytes_low_first, from_le_bytes, to_le_bytes}
use Rattle.engine.specs.Memory.{value_at, little_endian}
use Rattle.engine.specs.ByteLaws.{value-drop}

little-next : (n m x : ℕ) → n ≡ suc m → little_endian n x ≡ x % 256 ∷ little_endian m (x / 256)
unfolding little_endian
little-next n m x e = rw e

-- the lowest byte is stored, and the rest is to be stored behind it
pub byte-stored : (l : List ℕ) (at k w x : ℕ) → k < w
    → sets l (at + k) (little_endian (w - k) x) ≡ sets (set l (at + k) (x % 256)) (at + (k + 1)) (little_endian (w - (k + 1)) (x / 256))
byte-stored l at k w x h =
    let e : at + (k + 1) ≡ suc (at + k) = omega arith in
    rw (little-next (w - k) (w - (k + 1)) x (omega arith), e)

pub none-to-store : (l : List ℕ) (i n x : ℕ) → n ≡ 0 → sets l i (little_endian n x) ≡ l
unfolding little_endian
none-to-store l i n x e = rw e

-- one byte below those that were loaded
pub byte-loaded : (l : List ℕ) (at k w : ℕ) → 0 < k → k ≤ w
    → value_at l (at + (k - 1)) (w - (k - 1)) ≡ get_or l (at + (k - 1)) 0 + 256 * value_at l (at + k) (w - k)
unfolding value_at
byte-loaded l at k w p h =
    let e : w - (k - 1) ≡ suc (w - k) = omega arith in
    let f : suc (at + (k - 1)) ≡ at + k = omega arith in
    rw (e, f)

pub none-loaded : (l : List ℕ) (k n : ℕ) → n ≡ 0 → value_at l k n ≡ 0
unfolding value_at
none-loaded l k n e = rw e

-- seven bytes leave room for one more
pub room : (x n : ℕ) → x < 2 ^ (8 * n) → n ≤ 7 → x < 2 ^ 56
room x n h p = omega (arith, pow_mono {i = 8 * n} {j = 56} (omega arith))

pub grown : (b x n m : ℕ) → b < 256 → x < 2 ^ (8 * n) → m ≡ suc n → b + 256 * x < 2 ^ (8 * m)
grown b x n m p h e =
    let f : 8 * m ≡ 8 * n + 8 = omega arith in
    let g : 2 ^ (8 * n + 8) ≡ 2 ^ (8 * n) * 256 = pow-add 2 (8 * n) 8 in
    rw (f, g) (omega arith)

-- a number of one byte
pub one-loaded : (l : List ℕ) (at n : ℕ) → n ≡ 1 → value_at l at n ≡ get_or l at 0
unfolding value_at
one-loaded l at n e = rw e (omega arith)

-- ---- two, four and eight bytes

-- a number among the first n bytes
value-take : (l : List ℕ) (n k w : ℕ) → k + w ≤ n → value_at (take n l) k w ≡ value_at l k w
unfolding value_at
value-take l n k zero h = refl
value-take l n k (suc w) h = rw (get_or-take n l k 0 (omega arith), value-take l n (suc k) w (omega arith))

-- the number of w bytes that were taken from byte k on
value_taken : (l : List ℕ) (k w : ℕ) {bytes : List ℕ} → bytes ≡ take w (drop k l) → value_at bytes 0 w ≡ value_at l k w
value_taken l k w e = ap (λ m. value_at m 0 w) e ∙ value-take (drop k l) w 0 w (omega arith) ∙ sym (value-drop l k w)

pub loaded_2 : (l : List ℕ) (k : ℕ) {bytes : List ℕ} → bytes ≡ take 2 (drop k l) → from_le_bytes w16 bytes ≡ value_at l k 2
unfolding value_at
loaded_2 l k e = let v = value_taken l k 2 e in omega (arith, v)

pub loaded_4 : (l : List ℕ) (k : ℕ) {bytes : List ℕ} → bytes ≡ take 4 (drop k l) → from_le_bytes w32 bytes ≡ value_at l k 4
unfolding value_at
loaded_4 l k e = let v = value_taken l k 4 e in omega (arith, v)

pub loaded_8 : (l : List ℕ) (k : ℕ) {bytes : List ℕ} → bytes ≡ take 8 (drop k l) → from_le_bytes w64 bytes ≡ value_at l k 8
unfolding value_at
loaded_8 l k e = let v = value_taken l k 8 e in omega (arith, v)

byte-is : (k x : ℕ) → byte_at k x ≡ x / 256 ^ k % 256
byte-is zero x = omega arith
byte-is (suc k) x = refl

-- n bytes from byte k on, lowest first
low-first : (k n x : ℕ) → bytes_low_first k n x ≡ little_endian n (x / 256 ^ k)
unfolding little_endian
low-first k zero x = refl
low-first k (suc n) x =
    let p : 256 ^ suc k ≡ 256 ^ k * 256 = pow-suc 256 k in
    let e : x / 256 ^ k / 256 ≡ x / 256 ^ suc k = rw p (div-div-eq-div-mul x (256 ^ k) 256) in
    rw (byte-is k x, low-first (suc k) n x, e)

-- the n lowest bytes of a number are those of what it is cut to n bytes
little-cut : (n x : ℕ) → little_endian n (x % 2 ^ (8 * n)) ≡ little_endian n x
unfolding little_endian
little-cut zero x = refl
little-cut (suc n) x =
    let m : 8 * suc n ≡ 8 * n + 8 = omega arith in
    let e : x % 2 ^ (8 * n + 8) ≡ x / 256 % 2 ^ (8 * n) * 256 + x % 256 = mod-pow-add x (8 * n) 8 in
    let f : x % 2 ^ (8 * n + 8) % 256 ≡ x % 256 = omega (arith, e) in
    let g : x % 2 ^ (8 * n + 8) / 256 ≡ x / 256 % 2 ^ (8 * n) = omega (arith, e) in
    rw (m, f, g, little-cut n (x / 256))

low-bytes : (n x : ℕ) → bytes_low_first 0 n (x % 2 ^ (8 * n)) ≡ little_endian n x
low-bytes n x =
    let e : x % 2 ^ (8 * n) / 1 ≡ x % 2 ^ (8 * n) = omega arith in
    low-first 0 n (x % 2 ^ (8 * n)) ∙ ap (little_endian n) e ∙ little-cut n x

pub stored_1 : (x : ℕ) → x % 256 ∷ [] ≡ little_endian 1 x
unfolding little_endian
stored_1 x = refl

pub stored_2 : (x : ℕ) → to_le_bytes w16 (x % 65536) ≡ little_endian 2 x
stored_2 x = low-bytes 2 x

pub stored_4 : (x : ℕ) → to_le_bytes w32 (x % 4294967296) ≡ little_endian 4 x
stored_4 x = low-bytes 4 x

pub stored_8 : (x : ℕ) → to_le_bytes w64 x ≡ little_endian 8 x
stored_8 x =
    let e : x / 1 ≡ x = omega arith in
    low-first 0 8 x ∙ ap (little_endian 8) e

-- ---- in two parts

-- what is stored in two parts
pub sets-append : (l : List ℕ) (i : ℕ) (xs ys : List ℕ) → sets l i (xs ++ ys) ≡ sets (sets l i xs) (i + length xs) ys
sets-append l i [] ys = let e : i ≡ i + 0 = omega arith in ap (λ j. sets l j ys) e
sets-append l i (x ∷ xs) ys =
    let e : suc i + length xs ≡ i + suc (length xs) = omega arith in
    sets-append (set l i x) (suc i) xs ys ∙ ap (λ j. sets (sets (set l i x) (suc i) xs) j ys) e

-- a part of a slice written over
pub placed : (l bytes : List ℕ) (from to : ℕ) → from ≤ to → to ≤ length l → length bytes ≡ to - from → put_mid from (to - from) l bytes ≡ sets l from bytes
placed l bytes from to h p e =
    let n : to ≡ from + length bytes = omega arith in
    ap (λ m. take from l ++ (bytes ++ m)) (Post-is from to l h ∙ ap (λ i. drop i l) n)
    ∙ sym (sets-eq bytes l from (omega arith) ∙ append_assoc (take from l) bytes (drop (from + length bytes) l))
