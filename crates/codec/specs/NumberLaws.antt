-- Laws of numbers: what was written is read back, and what was read is what is written.
--
--   AreBytes                       every element is below 256
--   Stands                         bytes stand in a sheet between two places
--   stands-join                    what stands side by side
--   last-group, more-groups        the groups of a number, one by one
--   number-some                    a number has at least one byte
--   number-below                   a number that was read is below 2^32
--   number-written, number_read    written then read, read then written
--   number-one                     one encoding for each number
--   unsigned_signed, signed-unsigned  signed numbers and what stands for them
--   unsigned-range, signed_range   which signed numbers are below 2^32 as written
--   signed-number                  a signed number is read where a number is
--   signed-written, signed-read    the same for signed numbers
use Rattle.std.specs.Prelude.{ℕ, zero, suc, ◌+◌, ◌-◌, ◌*◌, ◌%◌, ◌/◌, ◌^◌, ◌≤◌, ◌<◌, ◌≡◌, refl, ◌↔◌, List, [], ◌∷◌, ◌++◌, Bool, true, false, Some, None, cond, length, drop, take, get_or, ltb, eqb, ℤ, pos, negsuc}
use Rattle.std.proofs.Common.{sym, ◌∙◌, arith, length-drop, length-append, take-add, drop-drop, get_or-drop}
use Rattle.std.proofs.Math.Nat.{pow-succ'}
use Rattle.std.proofs.Math.Seq.{drop-append_seam}
use Rattle.std.specs.Int.Signed.{mag}
use borrow.Author.Tests.{ltb-true, ltb-false, lt-ltb, le-ltb, eq-eqb, ne_eqb, eqb-true, eqb-false}
use Rattle.codec.specs.declared.number.Cursor.{Cursor}
use Rattle.codec.specs.Pairs.{some-pair}
use Rattle.codec.specs.Numbers.{Number, above, groups_at, not_too_long, number_at, groups_of, number_bytes, unsigned_of, signed_of, as_signed, signed_at}

-- every element is a byte
abbrev pub AreBytes : List ℕ → Type 0
AreBytes s = (i : ℕ) → get_or s i 0 < 256

-- the bytes l stand in s from at on, up to to
pub record Stands (s : List ℕ) (at : ℕ) (l : List ℕ) (to : ℕ) : Type 0 where
  pub bytes : take (to - at) (drop at s) ≡ l
  pub behind : to ≡ at + length l
  pub within : to ≤ length s

-- what stands side by side stands as one
pub stands-join : {s l k : List ℕ} {a m to : ℕ} → Stands s a l m → Stands s m k to → Stands s a (l ++ k) to
stands-join {s} {l} {k} {a} {m} {to} p q =
    let e : to - a ≡ (m - a) + (to - m) = omega (arith, p.behind, q.behind) in
    let f : a + (m - a) ≡ m = omega (arith, p.behind) in
    record {
      bytes =
          rw (e, take-add (m - a) (to - m) (drop a s), drop-drop (m - a) a s, f, p.bytes, q.bytes);
      behind = rw length-append (omega (arith, p.behind, q.behind));
      within = q.within;
    }

-- a number that is not too long is below 2^32, and is the one that the groups give
short : (n : Number) (v : ℕ) (c : Cursor) → not_too_long n ≡ Some (v, c) → (v < 4294967296) × (n ≡ Some (v, c))
short None v c e = absurd (let z : ◌≡◌ {A = ℕ} 0 1 = cc in omega arith)
short (Some (w, d)) v c e = go (ltb w 4294967296) refl e
  where
    go : (b : Bool) → ltb w 4294967296 ≡ b → cond {A = Number} b (Some (w, d)) None ≡ Some (v, c) → (v < 4294967296) × (◌≡◌ {A = Number} (Some (w, d)) (Some (v, c)))
    go true t q = (rw (← (some-pair q).0) (ltb-true _ _ t), q)
    go false t q = absurd (let z : ◌≡◌ {A = ℕ} 0 1 = cc in omega arith)

-- a number that was read is below 2^32
pub number-below : (s : List ℕ) (at v : ℕ) (c : Cursor) → number_at s at ≡ Some (v, c) → v < 4294967296
unfolding number_at
number-below s at v c e = (short (groups_at 5 at (drop at s)) v c e).0

-- ---- written, then read

-- a number below 128 is its only group
pub last-group : (n v : ℕ) → v < 128 → groups_of n v ≡ v ∷ []
unfolding groups_of
last-group zero v h = refl
last-group (suc n) v h = rw (lt-ltb v 128 h)

-- the lowest group of a number from 128 on, with its high bit
pub more-groups : (n v : ℕ) → 128 ≤ v → groups_of (suc n) v ≡ (v % 128 + 128) ∷ groups_of n (v / 128)
unfolding groups_of
more-groups n v h = rw (le-ltb v 128 h)

-- a number has at least one group
groups-some : (n v : ℕ) → 0 < length (groups_of n v)
unfolding groups_of
groups-some zero v = omega arith
groups-some (suc n) v = go (ltb v 128)
  where
    go : (t : Bool) → 0 < length (cond t (v ∷ []) ((v % 128 + 128) ∷ groups_of n (v / 128)))
    go true = omega arith
    go false = omega arith

-- a number has at least one byte
pub number-some : (v : ℕ) → 0 < length (number_bytes v)
number-some v = groups-some 4 v

-- a number below 128 is read back from its one group, before anything
one-read : (n at v : ℕ) (l : List ℕ) → v < 128 → groups_at (suc n) at (groups_of n v ++ l) ≡ Some (v, record { at = at + length (groups_of n v) })
unfolding groups_at
one-read n at v l h = rw (last-group n v h, lt-ltb v 128 h)

-- a number from 128 on is read back from its groups, if the number above its lowest group is
more-read : (n at v : ℕ) (l : List ℕ) → 128 ≤ v
    → groups_at (suc n) (at + 1) (groups_of n (v / 128) ++ l) ≡ Some (v / 128, record { at = at + 1 + length (groups_of n (v / 128)) })
    → groups_at (suc (suc n)) at (groups_of (suc n) v ++ l) ≡ Some (v, record { at = at + length (groups_of (suc n) v) })
unfolding groups_at
more-read n at v l k ih =
    let s : v % 128 + 128 - 128 + 128 * (v / 128) ≡ v = omega arith in
    let e : at + 1 + length (groups_of n (v / 128)) ≡ at + suc (length (groups_of n (v / 128))) = omega arith in
    rw (more-groups n v k, le-ltb (v % 128 + 128) 128 (omega arith), ih, ne_eqb (v / 128) 0 (λ q. omega arith), s, e)

-- a number below 128^(n + 1) is read back from its groups, before anything
groups-written : (n at v : ℕ) (l : List ℕ) → v < 128 ^ suc n → groups_at (suc n) at (groups_of n v ++ l) ≡ Some (v, record { at = at + length (groups_of n v) })
groups-written zero at v l h = one-read zero at v l (omega arith)
groups-written (suc n) at v l h = go (ltb v 128) refl (groups-written n (at + 1) (v / 128) l (omega (arith, pow-succ' 128 (suc n))))
  where
    go : (b : Bool) → ltb v 128 ≡ b
        → groups_at (suc n) (at + 1) (groups_of n (v / 128) ++ l) ≡ Some (v / 128, record { at = at + 1 + length (groups_of n (v / 128)) })
        → groups_at (suc (suc n)) at (groups_of (suc n) v ++ l) ≡ Some (v, record { at = at + length (groups_of (suc n) v) })
    go true t ih = one-read (suc n) at v l (ltb-true _ _ t)
    go false t ih = more-read n at v l (ltb-false _ _ t) ih

-- a number that was written is read back, after anything and before anything
pub number-written : (s pre post : List ℕ) (v : ℕ) → v < 4294967296 → s ≡ pre ++ (number_bytes v ++ post)
    → number_at s (length pre) ≡ Some (v, record { at = length pre + length (number_bytes v) })
number-written s pre post v h e =
    unfold number_at in
    rw (e, drop-append_seam pre (groups_of 4 v ++ post), groups-written 4 (length pre) v post (omega arith), lt-ltb v 4294967296 h)

-- ---- read, then written

-- some groups are at the front of a list, and the place behind them
record Front (n at v : ℕ) (c : Cursor) (l : List ℕ) : Type 0 where
  front : take (length (groups_of n v)) l ≡ groups_of n v
  behind : c.at ≡ at + length (groups_of n v)
  enough : length (groups_of n v) ≤ length l

-- behind the first element of a list of bytes stand bytes
tail-bytes : (b : ℕ) (l : List ℕ) → AreBytes (b ∷ l) → AreBytes l
tail-bytes b l p i = p (suc i)

-- a byte below 128 in front is the one group of the number that it gives
front-last : (n at v b : ℕ) (c : Cursor) (l : List ℕ) → b < 128 → ◌≡◌ {A = Number} (Some (b, record { at = at + 1 })) (Some (v, c)) → Front n at v c (b ∷ l)
front-last n at v b c l h e =
    let z : v ≡ b = sym (some-pair e).0 in
    let y : c ≡ record { at = at + 1 } = sym (some-pair e).1 in
    let g : groups_of n v ≡ b ∷ [] = rw z (last-group n b h) in
    record {
      front = rw g;
      behind = rw (g, y) (omega arith);
      enough = rw g (omega arith);
    }

-- a byte with its high bit set, before the groups of a number that is not 0, begins the groups of the two together
front-more : (n at v w b : ℕ) (c d : Cursor) (l : List ℕ) → 128 ≤ b → b < 256 → (w ≡ 0 → ⊥) → Front n (at + 1) w d l
    → ◌≡◌ {A = Number} (Some (b - 128 + 128 * w, d)) (Some (v, c)) → Front (suc n) at v c (b ∷ l)
front-more n at v w b c d l h k p f e =
    let z : b - 128 + 128 * w ≡ v = (some-pair e).0 in
    let y : c ≡ d = sym (some-pair e).1 in
    let q : v / 128 ≡ w = omega arith in
    let r : v % 128 + 128 ≡ b = omega arith in
    let g : groups_of (suc n) v ≡ b ∷ groups_of n w = more-groups n v (omega arith) ∙ rw (q, r) in
    record {
      front = rw (g, f.front);
      behind = rw (g, y) (omega (arith, f.behind));
      enough = rw g (omega (arith, f.enough));
    }

-- the group with its high bit set and what was read behind it
front_above : (n at v b : ℕ) (c : Cursor) (l : List ℕ) → 128 ≤ b → b < 256 → (r : Number) → ((w : ℕ) (d : Cursor) → r ≡ Some (w, d) → Front n (at + 1) w d l)
    → above b r ≡ Some (v, c) → Front (suc n) at v c (b ∷ l)
front_above n at v b c l h k None f e = absurd (let z : ◌≡◌ {A = ℕ} 0 1 = cc in omega arith)
front_above n at v b c l h k (Some (w, d)) f e = go (eqb w 0) refl e
  where
    go : (t : Bool) → eqb w 0 ≡ t → cond {A = Number} t None (Some (b - 128 + 128 * w, d)) ≡ Some (v, c) → Front (suc n) at v c (b ∷ l)
    go true t q = absurd (let z : ◌≡◌ {A = ℕ} 0 1 = cc in omega arith)
    go false t q = front-more n at v w b c d l h k (eqb-false _ _ t) (f w d refl) q

-- the groups of the number that was read stand in front, and the place is behind them
groups-read : (n at v : ℕ) (c : Cursor) (l : List ℕ) → AreBytes l → groups_at (suc n) at l ≡ Some (v, c) → Front n at v c l
unfolding groups_at
groups-read zero at v c [] p e = absurd (let z : ◌≡◌ {A = ℕ} 0 1 = cc in omega arith)
groups-read zero at v c (b ∷ l) p e = go (ltb b 128) refl e
  where
    go : (t : Bool) → ltb b 128 ≡ t → cond {A = Number} t (Some (b, record { at = at + 1 })) None ≡ Some (v, c) → Front zero at v c (b ∷ l)
    go true t q = front-last zero at v b c l (ltb-true _ _ t) q
    go false t q = absurd (let z : ◌≡◌ {A = ℕ} 0 1 = cc in omega arith)
groups-read (suc n) at v c [] p e = absurd (let z : ◌≡◌ {A = ℕ} 0 1 = cc in omega arith)
groups-read (suc n) at v c (b ∷ l) p e = go (ltb b 128) refl e (λ w d. groups-read n (at + 1) w d l (tail-bytes b l p))
  where
    go : (t : Bool) → ltb b 128 ≡ t → cond {A = Number} t (Some (b, record { at = at + 1 })) (above b (groups_at (suc n) (at + 1) l)) ≡ Some (v, c)
        → ((w : ℕ) (d : Cursor) → groups_at (suc n) (at + 1) l ≡ Some (w, d) → Front n (at + 1) w d l)
        → Front (suc n) at v c (b ∷ l)
    go true t q f = front-last (suc n) at v b c l (ltb-true _ _ t) q
    go false t q f = front_above n at v b c l (ltb-false _ _ t) (p 0) (groups_at (suc n) (at + 1) l) f q

-- the bytes of a number that was read are those that are written for it
pub number_read : (s : List ℕ) (at v : ℕ) (c : Cursor) → AreBytes s → number_at s at ≡ Some (v, c) → Stands s at (number_bytes v) c.at
unfolding number_at
number_read s at v c p e =
    let f = groups-read 4 at v c (drop at s) (λ i. rw (get_or-drop at s i 0) (p (at + i))) (short (groups_at 5 at (drop at s)) v c e).1 in
    let z : c.at - at ≡ length (groups_of 4 v) = omega (arith, f.behind) in
    record {
      bytes = rw z f.front;
      behind = f.behind;
      within = omega (arith, f.behind, number-some v, f.enough, length-drop at s);
    }

-- one encoding: where the same number is read, the same bytes stand
pub number-one : (s t : List ℕ) (at to v : ℕ) (c d : Cursor) → AreBytes s → AreBytes t → number_at s at ≡ Some (v, c) → number_at t to ≡ Some (v, d)
    → take (c.at - at) (drop at s) ≡ take (d.at - to) (drop to t)
number-one s t at to v c d p q e f = (number_read s at v c p e).bytes ∙ sym (number_read t to v d q f).bytes

-- ---- signed numbers

-- a number read as signed is written as itself
pub unsigned_signed : (n : ℕ) → unsigned_of (signed_of n) ≡ n
unfolding signed_of
unsigned_signed n = go (eqb (n % 2) 0) refl
  where
    go : (t : Bool) → eqb (n % 2) 0 ≡ t → unsigned_of (cond t (pos (n / 2)) (negsuc (n / 2))) ≡ n
    go true t = omega (arith, eqb-true (n % 2) 0 t)
    go false t = omega (arith, eqb-false (n % 2) 0 t)

-- a signed number that was written is read as itself
pub signed-unsigned : (z : ℤ) → signed_of (unsigned_of z) ≡ z
unfolding signed_of
signed-unsigned (pos m) = let e : 2 * m / 2 ≡ m = omega arith in rw (eq-eqb (2 * m % 2) 0 (omega arith), e)
signed-unsigned (negsuc k) = let e : (2 * k + 1) / 2 ≡ k = omega arith in rw (ne_eqb ((2 * k + 1) % 2) 0 (λ q. omega arith), e)

-- below 2^32 as written exactly from -2^31 to 2^31 - 1: mag is n for n and for -(n + 1)
pub unsigned-range : (z : ℤ) → unsigned_of z < 4294967296 ↔ mag z < 2147483648
unsigned-range (pos m) = (λ h. omega arith, λ h. omega arith)
unsigned-range (negsuc k) = (λ h. omega arith, λ h. omega arith)

-- a number below 2^32 exactly if what it stands for is from -2^31 to 2^31 - 1
pub signed_range : (n : ℕ) → n < 4294967296 ↔ mag (signed_of n) < 2147483648
signed_range n = (
  λ h. (unsigned-range (signed_of n)).0 (rw unsigned_signed h),
  λ h. rw unsigned_signed at ((unsigned-range (signed_of n)).1 h),
)

-- a signed number that was written is read back
pub signed-written : (s pre post : List ℕ) (z : ℤ) → mag z < 2147483648 → s ≡ pre ++ (number_bytes (unsigned_of z) ++ post)
    → signed_at s (length pre) ≡ Some (z, record { at = length pre + length (number_bytes (unsigned_of z)) })
signed-written s pre post z h e = rw (number-written s pre post (unsigned_of z) ((unsigned-range z).1 h) e, signed-unsigned z)

-- where a signed number was read, the number that stands for it was read
whole : (n : Number) (z : ℤ) (c : Cursor) → as_signed n ≡ Some (z, c) → n ≡ Some (unsigned_of z, c)
whole None z c e = absurd (let z : ◌≡◌ {A = ℕ} 0 1 = cc in omega arith)
whole (Some (v, d)) z c e =
    let p = some-pair e in
    rw (← p.0, unsigned_signed v, p.1)

-- a signed number was read where the number that stands for it was
pub signed-number : (s : List ℕ) (at : ℕ) (z : ℤ) (c : Cursor) → signed_at s at ≡ Some (z, c) → number_at s at ≡ Some (unsigned_of z, c)
signed-number s at z c e = whole (number_at s at) z c e

-- the bytes of a signed number that was read are those that are written for it
pub signed-read : (s : List ℕ) (at : ℕ) (z : ℤ) (c : Cursor) → AreBytes s → signed_at s at ≡ Some (z, c) → Stands s at (number_bytes (unsigned_of z)) c.at
signed-read s at z c p e = number_read s at (unsigned_of z) c p (signed-number s at z c e)
