-- Laws of header words: a header that was written is read back, and a word that was read is the one written, free bits aside.
--
--   IsFree, free-none, free-bits  a value of the free bits: 0, and those of any word
--   coupled-range, header-range   what it says that a field is in range
--   width_back, width-there       widths and their codes
--   header-written, word_below    written then read
--   header_read                   read then written
use Rattle.std.specs.Prelude.{ℕ, zero, suc, ◌+◌, ◌-◌, ◌*◌, ◌/◌, ◌≤◌, ◌<◌, ◌≡◌, refl, Bool, true, false, Ok, Err, cond, not, ◌&&◌, ◌||◌, leb, eqb, Option, Some, None}
use Rattle.std.proofs.Common.{ap, arith, leb-true, eqb-true, ne_eqb, le-leb}
use Rattle.std.proofs.lemmas.Bool.{eqb-false, not-true}
use Rattle.codec.specs.declared.header.Kind.{Kind}
use Rattle.codec.specs.declared.header.Kind.TheVariants.{Load, Store}
use Rattle.codec.specs.declared.header.Width.{Width}
use Rattle.codec.specs.declared.header.Width.TheVariants.{B, H, W, D}
use Rattle.codec.specs.declared.header.Header.{Header}
use Rattle.codec.specs.declared.refusal.Refusal.TheVariants.{FixedBits, NotCarried}
use Rattle.codec.specs.TestLaws.{both, either}
use Rattle.codec.specs.Headers.{bits_of, fixed_bits, clear_bits, width_coded, header_said, header_of, coupling_in_range, header_in_range, kind_code, width_code, coupling_code, word_of, free_bits}

-- a coupled dimension in range
pub coupled-range : (d : ℕ) → (leb 1 d && leb d 7) ≡ true → (1 ≤ d) × (d ≤ 7)
coupled-range d e = (leb-true _ _ (both (leb 1 d) (leb d 7) e).0, leb-true _ _ (both (leb 1 d) (leb d 7) e).1)

-- a header in range
pub header-range : (h : Header) → header_in_range h ≡ true → (h.register ≤ 31) × (coupling_in_range h.coupling ≡ true)
header-range h e = (leb-true _ _ (both (leb h.register 31) (coupling_in_range h.coupling) e).0, (both (leb h.register 31) (coupling_in_range h.coupling) e).1)

-- what bits 19-15 and 23-22 of a word can be worth
pub record IsFree (free : ℕ) : Type 0 where
  pub low : ℕ
  pub cache : ℕ
  pub low-range : low < 32
  pub cache-range : cache < 4
  pub worth : free ≡ low * 32768 + cache * 4194304

-- writers put 0 there
pub free-none : IsFree 0
free-none = record { low = 0; cache = 0; low-range = omega arith; cache-range = omega arith; worth = omega arith }

-- the free bits of a word are such a value
pub free-bits : (w : ℕ) → IsFree (free_bits w)
unfolding free_bits
free-bits w = record { low = bits_of 15 5 w; cache = bits_of 22 2 w; low-range = omega arith; cache-range = omega arith; worth = refl }

-- a word put together of its fields
record Laid (w r width kind d coupled : ℕ) : Type 0 where
  low : ℕ
  cache : ℕ
  r-range : r < 32
  width-range : width < 4
  kind-range : kind < 2
  low-range : low < 32
  cache-range : cache < 4
  d-range : d < 7
  coupled-range : coupled < 2
  worth : w ≡ 11 + r * 128 + width * 4096 + kind * 16384 + low * 32768 + cache * 4194304 + d * 134217728 + coupled * 1073741824

module _ (w r width kind d coupled : ℕ) (l : Laid w r width kind d coupled) where
  -- bits 6-0 are 0001011
  fixed-0 : bits_of 0 7 w ≡ 11
  fixed-0 = omega arith

  -- bits 11-7 are the register
  register-7 : bits_of 7 5 w ≡ r
  register-7 = omega arith

  -- bits 13-12 are the width
  width-12 : bits_of 12 2 w ≡ width
  width-12 = omega arith

  -- bit 14 is the kind
  kind-14 : bits_of 14 1 w ≡ kind
  kind-14 = omega arith

  -- bits 21-20 are 00
  fixed-20 : bits_of 20 2 w ≡ 0
  fixed-20 = omega arith

  -- bit 24, inds, is not set
  inds-24 : bits_of 24 1 w ≡ 0
  inds-24 = omega arith

  -- bits 26-25 are 00
  fixed-25 : bits_of 25 2 w ≡ 0
  fixed-25 = omega arith

  -- bits 29-27 are the coupled dimension less one
  coupled-27 : bits_of 27 3 w ≡ d
  coupled-27 = omega arith

  -- bit 30 says whether it is coupled
  coupled-30 : bits_of 30 1 w ≡ coupled
  coupled-30 = omega arith

  -- bit 31, m, is not set
  m-31 : bits_of 31 1 w ≡ 0
  m-31 = omega arith

  -- the word is below 2^32
  word_small : w < 4294967296
  word_small = omega arith

-- ---- written, then read

-- bits 29-27 of a coupling: "coupled dimension less one", 000 if uncoupled
abbrev dimension_bits : Option ℕ → ℕ
dimension_bits None = 0
dimension_bits (Some d) = d - 1

-- bit 30 of a coupling: 1 if it is coupled
abbrev coupled_bit : Option ℕ → ℕ
coupled_bit None = 0
coupled_bit (Some d) = 1

-- the code of a coupling in range is its bits 29-27, below 111, and its bit 30
coupling-bits : (c : Option ℕ) → coupling_in_range c ≡ true
    → (coupling_code c ≡ dimension_bits c * 134217728 + coupled_bit c * 1073741824) × (dimension_bits c < 7) × (coupled_bit c < 2)
coupling-bits None e = (omega arith, omega arith, omega arith)
coupling-bits (Some d) e = let r = coupled-range d e in (omega arith, omega arith, omega arith)

-- "Uncoupled needs 29-27 = 000": so it is with the bits of any coupling
coupling-fixed : (c : Option ℕ) → (eqb (coupled_bit c) 1 || eqb (dimension_bits c) 0) ≡ true
coupling-fixed None = refl
coupling-fixed (Some d) = refl

-- a coupling in range is read back from its bits
coupling-back : (c : Option ℕ) → coupling_in_range c ≡ true → cond (eqb (coupled_bit c) 1) (Some (dimension_bits c + 1)) None ≡ c
coupling-back None e = refl
coupling-back (Some d) e = let r = coupled-range d e in let z : d - 1 + 1 ≡ d = omega arith in ap Some z

-- a kind is read back from its code
kind-back : (k : Kind) → cond (eqb (kind_code k) 0) Store Load ≡ k
kind-back Load = refl
kind-back Store = refl

-- a width and its code
pub width_back : (w : Width) → width_coded (width_code w) ≡ w
width_back B = refl
width_back H = refl
width_back W = refl
width_back D = refl

-- the code of a kind fits one bit
kind-small : (k : Kind) → kind_code k < 2
kind-small Load = omega arith
kind-small Store = omega arith

-- the code of a width fits two bits
width_small : (w : Width) → width_code w < 4
width_small B = omega arith
width_small H = omega arith
width_small W = omega arith
width_small D = omega arith

-- the word of a header in range, with any free bits, is put together of the header's fields
laid : (h : Header) (free : ℕ) → header_in_range h ≡ true → IsFree free
    → Laid (word_of h + free) h.register (width_code h.width) (kind_code h.kind) (dimension_bits h.coupling) (coupled_bit h.coupling)
unfolding word_of
laid h free e f =
    let r = header-range h e in
    let c = coupling-bits h.coupling r.1 in
    record {
      low = f.low;
      cache = f.cache;
      r-range = omega arith;
      width-range = width_small h.width;
      kind-range = kind-small h.kind;
      low-range = f.low-range;
      cache-range = f.cache-range;
      d-range = c.1;
      coupled-range = c.2;
      worth = rw (c.0, f.worth) (omega arith);
    }

-- the word of a header in range is below 2^32
pub word_below : (h : Header) (free : ℕ) → header_in_range h ≡ true → IsFree free → word_of h + free < 4294967296
word_below h free e f = word_small _ _ _ _ _ _ (laid h free e f)

-- a word put together of its fields has its fixed bits right
fixed-laid : (w r width kind : ℕ) (c : Option ℕ) → Laid w r width kind (dimension_bits c) (coupled_bit c) → fixed_bits w ≡ true
fixed-laid w r width kind c l =
    rw (
      fixed-0 w r width kind (dimension_bits c) (coupled_bit c) l,
      fixed-20 w r width kind (dimension_bits c) (coupled_bit c) l,
      fixed-25 w r width kind (dimension_bits c) (coupled_bit c) l,
      coupled-27 w r width kind (dimension_bits c) (coupled_bit c) l,
      coupled-30 w r width kind (dimension_bits c) (coupled_bit c) l,
      ne_eqb (dimension_bits c) 7 (λ q. omega arith),
      coupling-fixed c,
    )

-- a word put together of its fields has neither m nor inds set
clear-laid : (w r width kind d coupled : ℕ) → Laid w r width kind d coupled → clear_bits w ≡ true
clear-laid w r width kind d coupled l = rw (inds-24 w r width kind d coupled l, m-31 w r width kind d coupled l)

-- a word put together of a header's fields says that header
said-laid : (w : ℕ) (h : Header) → header_in_range h ≡ true
    → Laid w h.register (width_code h.width) (kind_code h.kind) (dimension_bits h.coupling) (coupled_bit h.coupling)
    → header_said w ≡ h
unfolding header_said
said-laid w h e l =
    rw (
      kind-14 w _ _ _ _ _ l,
      width-12 w _ _ _ _ _ l,
      register-7 w _ _ _ _ _ l,
      coupled-27 w _ _ _ _ _ l,
      coupled-30 w _ _ _ _ _ l,
      kind-back h.kind,
      width_back h.width,
      coupling-back h.coupling (header-range h e).1,
    )

-- a header in range is read back from its word, whatever the free bits
pub header-written : (h : Header) (free : ℕ) → header_in_range h ≡ true → IsFree free → header_of (word_of h + free) ≡ Ok h
unfolding header_of
header-written h free e f =
    let l = laid h free e f in
    rw (fixed-laid (word_of h + free) _ _ _ h.coupling l, clear-laid (word_of h + free) _ _ _ _ _ l, said-laid (word_of h + free) h e l)

-- ---- read, then written

-- a word that was not refused has its fixed bits right, neither m nor inds set, and says its header
said : (w : ℕ) (h : Header) → header_of w ≡ Ok h → (fixed_bits w ≡ true) × (clear_bits w ≡ true) × (header_said w ≡ h)
unfolding header_of
said w h e = go (fixed_bits w) (clear_bits w) refl refl e
  where
    go : (f c : Bool) → fixed_bits w ≡ f → clear_bits w ≡ c → cond f (cond c (Ok (header_said w)) (Err NotCarried)) (Err FixedBits) ≡ Ok h
        → (fixed_bits w ≡ true) × (clear_bits w ≡ true) × (header_said w ≡ h)
    go true true p q z = (p, q, (cc))
    go true false p q z = absurd (let z : ◌≡◌ {A = ℕ} 0 1 = cc in omega arith)
    go false c p q z = absurd (let z : ◌≡◌ {A = ℕ} 0 1 = cc in omega arith)

-- a code and its width
pub width-there : (n : ℕ) → n < 4 → width_code (width_coded n) ≡ n
width-there zero h = refl
width-there (suc zero) h = refl
width-there (suc (suc zero)) h = refl
width-there (suc (suc (suc n))) h = omega arith

-- the kind that bit 14 says has that bit as its code
kind-there : (n : ℕ) → n < 2 → kind_code (cond (eqb n 0) Store Load) ≡ n
kind-there zero h = refl
kind-there (suc n) h = rw (ne_eqb (suc n) 0 (λ q. omega arith)) (omega arith)

-- bits 30 and 29-27 that are not refused are the code of the coupling that they say, which is in range
coupling-there : (d e : ℕ) → d < 8 → e < 2 → not (eqb d 7) ≡ true → (eqb e 1 || eqb d 0) ≡ true
    → (coupling_code (cond (eqb e 1) (Some (d + 1)) None) ≡ d * 134217728 + e * 1073741824)
    × (coupling_in_range (cond (eqb e 1) (Some (d + 1)) None) ≡ true)
coupling-there d e h k n f = go (eqb e 1) refl
  where
    go : (t : Bool) → eqb e 1 ≡ t
        → (coupling_code (cond t (Some (d + 1)) None) ≡ d * 134217728 + e * 1073741824) × (coupling_in_range (cond t (Some (d + 1)) None) ≡ true)
    go true t =
        let z : e ≡ 1 = eqb-true e 1 t in
        let y : d ≡ 7 → ⊥ = eqb-false d 7 (not-true (eqb d 7) n) in
        (omega arith, rw (le-leb 1 (d + 1) (omega arith), le-leb (d + 1) 7 (omega (arith, y))))
    go false t = (omega (arith, eqb-false e 1 t, eqb-true d 0 (either (eqb e 1) (eqb d 0) f t)), refl)

-- a word is the sum of its bits, one step for each field: bits 6-0, and the bits above them
at_7 : (w : ℕ) → w ≡ bits_of 0 7 w + w / 128 * 128
at_7 w = omega arith

-- bits 11-7, and the bits above them
at-12 : (w : ℕ) → w / 128 ≡ bits_of 7 5 w + w / 4096 * 32
at-12 w = omega arith

-- bits 13-12, and the bits above them
at-14 : (w : ℕ) → w / 4096 ≡ bits_of 12 2 w + w / 16384 * 4
at-14 w = omega arith

-- bit 14, and the bits above it
at-15 : (w : ℕ) → w / 16384 ≡ bits_of 14 1 w + w / 32768 * 2
at-15 w = omega arith

-- bits 19-15, and the bits above them
at-20 : (w : ℕ) → w / 32768 ≡ bits_of 15 5 w + w / 1048576 * 32
at-20 w = omega arith

-- bits 21-20, and the bits above them
at-22 : (w : ℕ) → w / 1048576 ≡ bits_of 20 2 w + w / 4194304 * 4
at-22 w = omega arith

-- bits 23-22, and the bits above them
at-24 : (w : ℕ) → w / 4194304 ≡ bits_of 22 2 w + w / 16777216 * 4
at-24 w = omega arith

-- bit 24, and the bits above it
at-25 : (w : ℕ) → w / 16777216 ≡ bits_of 24 1 w + w / 33554432 * 2
at-25 w = omega arith

-- bits 26-25, and the bits above them
at-27 : (w : ℕ) → w / 33554432 ≡ bits_of 25 2 w + w / 134217728 * 4
at-27 w = omega arith

-- bits 29-27, and the bits above them
at-30 : (w : ℕ) → w / 134217728 ≡ bits_of 27 3 w + w / 1073741824 * 8
at-30 w = omega arith

-- bit 30, and the bits above it
at-31 : (w : ℕ) → w / 1073741824 ≡ bits_of 30 1 w + w / 2147483648 * 2
at-31 w = omega arith

-- bit 31, above which a word below 2^32 has none
at-32 : (w : ℕ) → w < 4294967296 → w / 2147483648 ≡ bits_of 31 1 w
at-32 w h = omega arith

-- the steps summed: a word with its fixed bits right, neither m nor inds set, is the sum of its other fields
summed : (w q7 q12 q14 q15 q20 q22 q24 q25 q27 q30 q31 a0 a7 a12 a14 a15 a20 a22 a24 a25 a27 a30 a31 : ℕ)
    → w ≡ a0 + q7 * 128 → q7 ≡ a7 + q12 * 32 → q12 ≡ a12 + q14 * 4 → q14 ≡ a14 + q15 * 2 → q15 ≡ a15 + q20 * 32 → q20 ≡ a20 + q22 * 4
    → q22 ≡ a22 + q24 * 4 → q24 ≡ a24 + q25 * 2 → q25 ≡ a25 + q27 * 4 → q27 ≡ a27 + q30 * 8 → q30 ≡ a30 + q31 * 2 → q31 ≡ a31
    → a0 ≡ 11 → a20 ≡ 0 → a24 ≡ 0 → a25 ≡ 0 → a31 ≡ 0
    → w ≡ 11 + a7 * 128 + a12 * 4096 + a14 * 16384 + (a27 * 134217728 + a30 * 1073741824) + (a15 * 32768 + a22 * 4194304)
summed w q7 q12 q14 q15 q20 q22 q24 q25 q27 q30 q31 a0 a7 a12 a14 a15 a20 a22 a24 a25 a27 a30 a31 e7 e12 e14 e15 e20 e22 e24 e25 e27 e30 e31 e32 z0 z20 z24 z25 z31 =
    omega arith

-- the fixed bits, inds and m, one by one
record Fixed (w : ℕ) : Type 0 where
  op : bits_of 0 7 w ≡ 11
  z20 : bits_of 20 2 w ≡ 0
  z24 : bits_of 24 1 w ≡ 0
  z25 : bits_of 25 2 w ≡ 0
  z31 : bits_of 31 1 w ≡ 0
  not7 : not (eqb (bits_of 27 3 w) 7) ≡ true
  uncoupled : (eqb (bits_of 30 1 w) 1 || eqb (bits_of 27 3 w) 0) ≡ true

-- a word that neither 3 nor 4 refuses has each of these bits right
fixed-parts : (w : ℕ) → fixed_bits w ≡ true → clear_bits w ≡ true → Fixed w
fixed-parts w f c =
    let p4 = both _ _ f in
    let p3 = both _ _ p4.0 in
    let p2 = both _ _ p3.0 in
    let p1 = both _ _ p2.0 in
    let q = both _ _ c in
    record {
      op = eqb-true _ _ p1.0;
      z20 = eqb-true _ _ p1.1;
      z24 = eqb-true _ _ q.0;
      z25 = eqb-true _ _ p2.1;
      z31 = eqb-true _ _ q.1;
      not7 = p3.1;
      uncoupled = p4.1;
    }

-- a word that was read is the word of what it says, with its free bits
pub header_read : (w : ℕ) (h : Header) → w < 4294967296 → header_of w ≡ Ok h → (w ≡ word_of h + free_bits w) × (header_in_range h ≡ true)
unfolding header_said word_of free_bits
header_read w h k e =
    let p = said w h e in
    let f = fixed-parts w p.0 p.1 in
    let c = coupling-there (bits_of 27 3 w) (bits_of 30 1 w) (omega arith) (omega arith) f.not7 f.uncoupled in (
      rw (← p.2, width-there (bits_of 12 2 w) (omega arith), kind-there (bits_of 14 1 w) (omega arith), c.0)
          (summed w _ _ _ _ _ _ _ _ _ _ _ _ _ _ _ _ _ _ _ _ _ _ _ (at_7 w) (at-12 w) (at-14 w) (at-15 w) (at-20 w) (at-22 w) (at-24 w) (at-25 w) (at-27 w) (at-30 w) (at-31 w) (at-32 w k)
          f.op f.z20 f.z24 f.z25 f.z31),
      rw (← p.2, le-leb (bits_of 7 5 w) 31 (omega arith), c.1),
    )
