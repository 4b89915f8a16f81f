-- Header words (document 001, as 01 has them).
--
--   bits_of                       some bits of a word
--   fixed_bits, clear_bits         what refusals 3 and 4 look at
--   kind_of, width_of, coupling_of  what the bits say
--   header_of                     a word read
--   header_in_range                what can be written
--   word_of, free_bits             a header as a word, and the bits that its reader does not look at
use Rattle.std.specs.Prelude.{ℕ, zero, suc, ◌+◌, ◌-◌, ◌*◌, ◌/◌, ◌%◌, ◌^◌, Bool, true, Result, Ok, Err, cond, not, ◌&&◌, ◌||◌, leb, eqb, Option, Some, None}
use Rattle.codec.specs.declared.header.Kind.{Kind}
use Rattle.codec.specs.declared.header.Kind.TheVariants.{Load, Store}
use Rattle.codec.specs.declared.header.Width.{Width}
use Rattle.codec.specs.declared.header.Width.TheVariants.{B, H, W, D}
use Rattle.codec.specs.declared.header.Header.{Header}
use Rattle.codec.specs.declared.refusal.Refusal.{Refusal}
use Rattle.codec.specs.declared.refusal.Refusal.TheVariants.{FixedBits, NotCarried}

-- bits lo to lo + n - 1 of a word
abbrev pub bits_of : ℕ → ℕ → ℕ → ℕ
bits_of lo n w = w / 2 ^ lo % 2 ^ n

-- "bits 6-0 = 0001011", "21-20 = 00", "26-25 = 00", "Uncoupled needs 29-27 = 000; this and 111 there count as fixed bits"
abbrev pub fixed_bits : ℕ → Bool
fixed_bits w =
    eqb (bits_of 0 7 w) 11
    && eqb (bits_of 20 2 w) 0
    && eqb (bits_of 25 2 w) 0
    && not (eqb (bits_of 27 3 w) 7)
    && (eqb (bits_of 30 1 w) 1 || eqb (bits_of 27 3 w) 0)

-- "24 inds", "31 m": both are clear
abbrev pub clear_bits : ℕ → Bool
clear_bits w = eqb (bits_of 24 1 w) 0 && eqb (bits_of 31 1 w) 0

-- "14-12 kind and width (000 to 011 store B, H, W, D; 100 to 111 load)": bit 14
abbrev pub kind_of : ℕ → Kind
kind_of w = cond (eqb (bits_of 14 1 w) 0) Store Load

-- the width of a code: "1, 2, 4 or 8 bytes, codes 0 to 3"
abbrev pub width_coded : ℕ → Width
width_coded zero = B
width_coded (suc zero) = H
width_coded (suc (suc zero)) = W
width_coded (suc (suc (suc n))) = D

-- "14-12 kind and width": the width that bits 13-12 code
abbrev pub width_of : ℕ → Width
width_of w = width_coded (bits_of 12 2 w)

-- the bytes of a width
abbrev pub bytes_of : Width → ℕ
bytes_of B = 1
bytes_of H = 2
bytes_of W = 4
bytes_of D = 8

-- "29-27 coupled dimension less one, 30 coupled"
abbrev pub coupling_of : ℕ → Option ℕ
coupling_of w = cond (eqb (bits_of 30 1 w) 1) (Some (bits_of 27 3 w + 1)) None

-- what a word says: its kind, its width, "11-7 the register" and its coupling
unfoldable pub header_said : ℕ → Header
header_said w = record { kind = kind_of w; width = width_of w; register = bits_of 7 5 w; coupling = coupling_of w }

-- 3 for the fixed bits, then 4 for m or inds
unfoldable pub header_of : ℕ → Result Header Refusal
header_of w = cond (fixed_bits w) (cond (clear_bits w) (Ok (header_said w)) (Err NotCarried)) (Err FixedBits)

-- a coupled dimension is 1 to 7
abbrev pub coupling_in_range : Option ℕ → Bool
coupling_in_range None = true
coupling_in_range (Some d) = leb 1 d && leb d 7

-- the fields that a word has room for
abbrev pub header_in_range : Header → Bool
header_in_range h = leb h.register 31 && coupling_in_range h.coupling

-- "000 to 011 store B, H, W, D; 100 to 111 load": bit 14 of a kind
abbrev pub kind_code : Kind → ℕ
kind_code Store = 0
kind_code Load = 1

-- "1, 2, 4 or 8 bytes, codes 0 to 3": the code of a width
abbrev pub width_code : Width → ℕ
width_code B = 0
width_code H = 1
width_code W = 2
width_code D = 3

-- "29-27 coupled dimension less one, 30 coupled": what these bits are worth in the word of a coupling
abbrev pub coupling_code : Option ℕ → ℕ
coupling_code None = 0
coupling_code (Some d) = 1073741824 + (d - 1) * 134217728

-- the word of a header, bits 19-15 and 23-22 zero
unfoldable pub word_of : Header → ℕ
word_of h = 11 + h.register * 128 + width_code h.width * 4096 + kind_code h.kind * 16384 + coupling_code h.coupling

-- "19-15 any", "23-22 cache level (read, without effect)": what these bits are worth in a word
unfoldable pub free_bits : ℕ → ℕ
free_bits w = bits_of 15 5 w * 32768 + bits_of 22 2 w * 4194304
