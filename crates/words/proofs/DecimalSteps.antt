-- Reading a decimal number, a digit at a time: what was read, and what is left to read.
--   digits-some  == text with a byte in it is read from the value 0
--   digits_more  == a digit is put behind the value, which is cut at 4,294,967,295
--   digits-stop  == a byte that is no digit makes it no number
--   digits-done  == no byte is left
use Rattle.std.proofs.Common.{◌≡◌, ℕ, ◌+◌, ◌-◌, ◌*◌, ◌<◌, ◌≤◌, min, Bool, true, false, cond, leb, List, [], ◌∷◌, length, get_or, drop, refl, ap, ◌∙◌, le_trans, add-one, arith, drop-cons, leb-false, leb-true}
use lib.Seq.{drop-length}
use Rattle.std.specs.Prelude.{Some, None}
use Rattle.words.specs.Decimals.{is_digit, are_digits, value_of, digits_from, decimal_of}

pub digits-some : (s : List ℕ) → 0 < length s → decimal_of s ≡ digits_from 0 s
unfolding decimal_of
digits-some [] h = absurd (omega arith)
digits-some (b ∷ l) h = refl

pub digits-none : (s : List ℕ) → length s ≡ 0 → decimal_of s ≡ None
unfolding decimal_of
digits-none [] h = refl
digits-none (b ∷ l) h = absurd (omega arith)

-- a value does not shrink
value_grows : (v : ℕ) (l : List ℕ) → v ≤ value_of v l
unfolding value_of
value_grows v [] = omega arith
value_grows v (b ∷ l) = le_trans (omega arith) (value_grows (v * 10 + (b - 48)) l)

-- a value may be cut before its last digits are read
cut : (v : ℕ) (l : List ℕ) (t : Bool) → leb v 4294967295 ≡ t → min (value_of (min v 4294967295) l) 4294967295 ≡ min (value_of v l) 4294967295
cut v l true e =
    let h : min v 4294967295 ≡ v = omega (arith, leb-true v 4294967295 e) in
    ap (λ k. min (value_of k l) 4294967295) h
cut v l false e =
    let h : min v 4294967295 ≡ 4294967295 = omega (arith, leb-false v 4294967295 e) in
    ap (λ k. min (value_of k l) 4294967295) h ∙ omega (arith, value_grows 4294967295 l, value_grows v l, leb-false v 4294967295 e)

cut-digits : (v : ℕ) (l : List ℕ) → digits_from (min v 4294967295) l ≡ digits_from v l
unfolding digits_from
cut-digits v l = ap (λ k. cond (are_digits l) (Some k) None) (cut v l (leb v 4294967295) refl)

module _ (s : List ℕ) (value at : ℕ) (so_far : digits_from value (drop at s) ≡ digits_from 0 s) where
  pub digits_more : (next : ℕ) → at < length s → is_digit (get_or s at 0) ≡ true → next ≡ min (value * 10 + (get_or s at 0 - 48)) 4294967295 → digits_from next (drop (at + 1) s) ≡ digits_from 0 s
  unfolding digits_from are_digits value_of
  digits_more next h d e =
      rw (e, add-one, cut-digits) (rw (drop-cons s at 0 h, d) at so_far)

  pub digits-stop : at < length s → is_digit (get_or s at 0) ≡ false → None ≡ digits_from 0 s
  unfolding digits_from are_digits
  digits-stop h d = rw (drop-cons s at 0 h, d) at so_far

  pub digits-done : at ≡ length s → value ≤ 4294967295 → Some value ≡ digits_from 0 s
  unfolding digits_from are_digits value_of
  digits-done e h =
      let k : min value 4294967295 ≡ value = omega arith in
      rw (ap (λ k. drop k s) e ∙ drop-length s, k) at so_far
