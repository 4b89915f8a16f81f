-- Laws of reading a nest part by part.
--
--   read_none, read-over, read_next       one number: none, out of range, in range
--   in-range, under, over                 the test of a range
--   read-then                             some fields, then others
--   term-none, term-over, term-next       one term
--   loop-fields, loops-end                one loop, then those outside it; none
--   stride-none, stride-over, stride-next, access-none, access-over, access-next   the numbers of an access
--   read-access                           an access read by itself is its numbers put into the nest
use Prim.Native.Nat.{ℕ, zero, suc, ◌+◌, ◌-◌, ◌≤◌, ◌<◌}
use Rattle.std.specs.Prelude.{◌≡◌, refl, List, [], ◌∷◌, ◌++◌, Bool, true, false, cond, ◌&&◌, ℤ, leb, Option, Some, None, Result, Ok, Err}
use Rattle.std.proofs.Common.{sym, ◌∙◌, le-leb}
use native.Mathlib.Omega.{arith}
use Rattle.std.proofs.lemmas.Bool.{lt-leb}
use Rattle.codec.specs.Numbers.{Number, number_at, signed_at, signed_of, as_signed}
use Rattle.codec.specs.Operations.{field, is_reach}
use Rattle.codec.specs.Refusals.{err_at}
use Rattle.codec.specs.declared.number.Cursor.{Cursor}
use Rattle.codec.specs.declared.refusal.Refusal.{Refusal}
use Rattle.codec.specs.declared.refusal.Refusal.TheVariants.{BadNumber, OutOfRange}
use Rattle.codec.specs.declared.refusal.Refused.{Refused}
use Rattle.translator.specs.Fields.{Role, first, second, destination, Field, count, term_fields, loop_fields, stride_fields, access_fields, between, range_of, holds, put, access_of, with_access, with_base, with_stride, with_term}
use Rattle.translator.specs.Reading.{Read, up_to, refused, read_from, on_read}
use Rattle.translator.specs.Parts.{within, number_within, signed_within, part_of, side_of, ReadAccess, read, unread, strides_at, access_at}
use Rattle.translator.specs.declared.nest.Access.{Access}
use Rattle.translator.specs.declared.nest.Nest.{Nest}

-- ---- one number

module _ (s : List ℕ) (f : Field) (fs : List Field) (at : ℕ) (m : Nest) where
  -- no number: refused with 1
  pub read_none : number_at s at ≡ None → read_from s (f ∷ fs) at m ≡ refused BadNumber at
  unfolding read_from
  read_none e = rw e

  -- out of range: refused with 2
  pub read-over : {v : ℕ} {c : Cursor} → number_at s at ≡ Some (v, c) → holds (range_of m.loops f) v ≡ false → read_from s (f ∷ fs) at m ≡ refused OutOfRange at
  unfolding read_from
  read-over e h = rw (e, h)

  -- in range: it is put in, and the next numbers are read
  pub read_next : {v : ℕ} {c : Cursor} → number_at s at ≡ Some (v, c) → holds (range_of m.loops f) v ≡ true → read_from s (f ∷ fs) at m ≡ read_from s fs c.at (put f v m)
  unfolding read_from
  read_next e h = rw (e, h)

-- a number in a range passes its test
pub in-range : (least n most : ℕ) → least ≤ n → n ≤ most → (leb least n && leb n most) ≡ true
in-range least n most h k = rw (le-leb least n h, le-leb n most k)

-- a number below a range fails its test
pub under : (least n most : ℕ) → n < least → (leb least n && leb n most) ≡ false
under least n most h = rw (lt-leb least n h)

-- a number above a range fails its test
pub over : (least n most : ℕ) → least ≤ n → most < n → (leb least n && leb n most) ≡ false
over least n most h k = rw (le-leb least n h, lt-leb n most k)

-- ---- as the code reads it

-- what follows on a number with the place behind it; a refusal stays
abbrev pub on_number : {N A : Type 0} → (Refusal → ℕ → A) → Result (N × Cursor) Refused → (N → ℕ → A) → A
on_number refuse (Ok (n, c)) next = next n c.at
on_number refuse (Err r) next = refuse r.refusal r.place

-- a test decides alike at once, or on the number as the code has it
on-test : {N A : Type 0} (b : Bool) (n : N) (c : Cursor) (at : ℕ) (refuse : Refusal → ℕ → A) (next : N → ℕ → A)
    → cond b (next n c.at) (refuse OutOfRange at) ≡ on_number refuse (cond b (Ok (n, c)) (err_at at OutOfRange)) next
on-test true n c at refuse next = refl
on-test false n c at refuse next = refl

-- a number is read, checked and gone on with alike at once, or as the code has it
pub within-then : {N A : Type 0} (n : Option (N × Cursor)) (allowed : N → Bool) (at : ℕ) (refuse : Refusal → ℕ → A) (next : N → ℕ → A)
    → field (λ x. refuse x at) n allowed next ≡ on_number refuse (within n allowed at) next
within-then None allowed at refuse next = refl
within-then (Some (n, c)) allowed at refuse next = on-test (allowed n) n c at refuse next

-- the number of a field, then the others
module _ (s : List ℕ) (f : Field) (fs : List Field) (at : ℕ) (m : Nest) where
  number-step : read_from s (f ∷ fs) at m ≡ on_number refused (number_within s at (holds (range_of m.loops f))) (λ n to. read_from s fs to (put f n m))
  unfolding read_from
  number-step = within-then (number_at s at) (holds (range_of m.loops f)) at refused (λ n to. read_from s fs to (put f n m))

  -- refused: so are all the fields
  pub number-stays : {r : Refused} → Err r ≡ number_within s at (holds (range_of m.loops f)) → part_of (Err r) ≡ read_from s (f ∷ fs) at m
  number-stays e = sym (number-step ∙ rw (sym e))

  -- in range: it is put in, and the next numbers are read
  pub number-goes : {n : ℕ} {c : Cursor} → Ok (n, c) ≡ number_within s at (holds (range_of m.loops f)) → read_from s (f ∷ fs) at m ≡ read_from s fs c.at (put f n m)
  number-goes e = number-step ∙ rw (sym e)

-- ---- some fields, then others

-- a test before some fields, or before these and others: the refusal is the same
cond-then : (b : Bool) (r r' : Read) (x : Refusal) (at : ℕ) (k : Nest → ℕ → Read) → r ≡ on_read refused r' k
    → cond b r (refused x at) ≡ on_read refused (cond b r' (refused x at)) k
cond-then true r r' x at k e = e
cond-then false r r' x at k e = refl

-- a number before some fields, or before these and others: it is read alike
field-then : (n : Number) (allowed : ℕ → Bool) (at : ℕ) (next next' : ℕ → ℕ → Read) (k : Nest → ℕ → Read)
    → ((v to : ℕ) → next v to ≡ on_read refused (next' v to) k)
    → field (λ x. refused x at) n allowed next ≡ on_read refused (field (λ x. refused x at) n allowed next') k
field-then None allowed at next next' k e = refl
field-then (Some (v, c)) allowed at next next' k e = cond-then (allowed v) (next v c.at) (next' v c.at) OutOfRange at k (e v c.at)

-- some fields, then others
pub read-then : (s : List ℕ) (fs gs : List Field) (at : ℕ) (m : Nest)
    → read_from s (fs ++ gs) at m ≡ on_read refused (read_from s fs at m) (λ n to. read_from s gs to n)
unfolding read_from
read-then s [] gs at m = refl
read-then s (f ∷ fs) gs at m =
    field-then (number_at s at) (holds (range_of m.loops f)) at (λ v to. read_from s (fs ++ gs) to (put f v m)) (λ v to. read_from s fs to (put f v m))
    (λ n to. read_from s gs to n)
    (λ v to. read-then s fs gs to (put f v m))

-- as the code reads it: what was read of some fields is refused, or leads on to the others
module _ (s : List ℕ) (fs gs : List Field) (at : ℕ) (m : Nest) where
  -- refused: so are all the fields
  pub then-stays : {r : Refused} → part_of (Err r) ≡ read_from s fs at m → part_of (Err r) ≡ read_from s (fs ++ gs) at m
  then-stays e = sym (read-then s fs gs at m ∙ rw (sym e))

  -- not refused: the others are read behind them
  pub then-goes : {n : Nest} {c : Cursor} → part_of (Ok (n, c)) ≡ read_from s fs at m → read_from s (fs ++ gs) at m ≡ read_from s gs c.at n
  then-goes e = read-then s fs gs at m ∙ rw (sym e)

-- ---- signed numbers

-- a number read and then taken as signed
pub as-signed : {A : Type 0} (n : Number) (refuse : Refusal → A) (next : ℤ → ℕ → A)
    → field refuse n (λ v. is_reach (signed_of v)) (λ v to. next (signed_of v) to) ≡ field refuse (as_signed n) is_reach next
as-signed None refuse next = refl
as-signed (Some (v, c)) refuse next = refl

-- the term of loop t for loop o, and those for the loops outside it, up to loop n
module _ (s : List ℕ) (t o n : ℕ) (at : ℕ) (m : Nest) (h : o < n) where
  -- one term is read, checked and put in, then the others
  term-step : read_from s (term_fields t o (n - o)) at m
      ≡ field (λ x. refused x at) (signed_at s at) is_reach (λ z to. read_from s (term_fields t (o + 1) (n - (o + 1))) to (with_term t o z m))
  unfolding read_from term_fields
  term-step =
      let e : n - o ≡ suc (n - (o + 1)) = omega arith in
      let f : o + 1 ≡ suc o = omega arith in
      rw (e, f)
      (as-signed (number_at s at) (λ x. refused x at) (λ z to. read_from s (term_fields t (suc o) (n - suc o)) to (with_term t o z m)))

  -- no number: refused with 1
  pub term-none : signed_at s at ≡ None → read_from s (term_fields t o (n - o)) at m ≡ refused BadNumber at
  term-none e = term-step ∙ rw e

  -- out of range: refused with 2
  pub term-over : {z : ℤ} {c : Cursor} → signed_at s at ≡ Some (z, c) → is_reach z ≡ false → read_from s (term_fields t o (n - o)) at m ≡ refused OutOfRange at
  term-over e k = term-step ∙ rw (e, k)

  -- in range: it is put in, and the next terms are read
  pub term-next : {z : ℤ} {c : Cursor} → signed_at s at ≡ Some (z, c) → is_reach z ≡ true
      → read_from s (term_fields t o (n - o)) at m ≡ read_from s (term_fields t (o + 1) (n - (o + 1))) c.at (with_term t o z m)
  term-next e k = term-step ∙ rw (e, k)

  -- as the code reads it: refused
  pub term-stays : {r : Refused} → Err r ≡ signed_within s at → part_of (Err r) ≡ read_from s (term_fields t o (n - o)) at m
  term-stays e = sym (term-step ∙ within-then (signed_at s at) is_reach at refused _ ∙ rw (sym e))

  -- as the code reads it: it is put in, and the next terms are read
  pub term-goes : {z : ℤ} {c : Cursor} → Ok (z, c) ≡ signed_within s at
      → read_from s (term_fields t o (n - o)) at m ≡ read_from s (term_fields t (o + 1) (n - (o + 1))) c.at (with_term t o z m)
  term-goes e = term-step ∙ within-then (signed_at s at) is_reach at refused _ ∙ rw (sym e)

-- no term is left: nothing more is read
pub terms-end : (s : List ℕ) (t o n at : ℕ) (m : Nest) → n ≤ o → read_from s (term_fields t o (n - o)) at m ≡ up_to m at
unfolding read_from term_fields
terms-end s t o n at m h = let e : n - o ≡ 0 = omega arith in rw e

-- ---- loops

-- one loop, then those outside it, up to loop n
pub loop-fields : (t n : ℕ) → t < n → loop_fields t (n - t) ≡ (count t ∷ term_fields t (t + 1) (n - (t + 1))) ++ loop_fields (t + 1) (n - (t + 1))
unfolding loop_fields
loop-fields t n h =
    let e : n - t ≡ suc (n - (t + 1)) = omega arith in
    let f : t + 1 ≡ suc t = omega arith in
    rw (e, f)

-- no loop is left: nothing more is read
pub loops-end : (s : List ℕ) (t n at : ℕ) (m : Nest) → n ≤ t → read_from s (loop_fields t (n - t)) at m ≡ up_to m at
unfolding read_from loop_fields
loops-end s t n at m h = let e : n - t ≡ 0 = omega arith in rw e

-- ---- accesses

-- one stride, and those of the loops outside it, up to loop n
module _ (s : List ℕ) (d n : ℕ) (at : ℕ) (a : Access) (h : d < n) where
  -- one stride is read, checked and put in, then the others
  stride-step : strides_at s d (n - d) at a
      ≡ field (λ x. unread x at) (signed_at s at) is_reach (λ z to. strides_at s (d + 1) (n - (d + 1)) to (with_stride d z a))
  unfolding strides_at
  stride-step =
      let e : n - d ≡ suc (n - (d + 1)) = omega arith in
      let f : d + 1 ≡ suc d = omega arith in
      rw (e, f)

  -- no number: refused with 1
  pub stride-none : signed_at s at ≡ None → strides_at s d (n - d) at a ≡ unread BadNumber at
  stride-none e = stride-step ∙ rw e

  -- out of range: refused with 2
  pub stride-over : {z : ℤ} {c : Cursor} → signed_at s at ≡ Some (z, c) → is_reach z ≡ false → strides_at s d (n - d) at a ≡ unread OutOfRange at
  stride-over e k = stride-step ∙ rw (e, k)

  -- in range: it is put in, and the next strides are read
  pub stride-next : {z : ℤ} {c : Cursor} → signed_at s at ≡ Some (z, c) → is_reach z ≡ true
      → strides_at s d (n - d) at a ≡ strides_at s (d + 1) (n - (d + 1)) c.at (with_stride d z a)
  stride-next e k = stride-step ∙ rw (e, k)

  -- as the code reads it: refused
  pub stride-stays : {r : Refused} → Err r ≡ signed_within s at → side_of (Err r) ≡ strides_at s d (n - d) at a
  stride-stays e = sym (stride-step ∙ within-then (signed_at s at) is_reach at unread _ ∙ rw (sym e))

  -- as the code reads it: it is put in, and the next strides are read
  pub stride-goes : {z : ℤ} {c : Cursor} → Ok (z, c) ≡ signed_within s at
      → strides_at s d (n - d) at a ≡ strides_at s (d + 1) (n - (d + 1)) c.at (with_stride d z a)
  stride-goes e = stride-step ∙ within-then (signed_at s at) is_reach at unread _ ∙ rw (sym e)

-- no stride is left: nothing more is read
pub strides-end : (s : List ℕ) (d n at : ℕ) (a : Access) → n ≤ d → strides_at s d (n - d) at a ≡ read a at
unfolding strides_at
strides-end s d n at a h = let e : n - d ≡ 0 = omega arith in rw e

-- an access read, put into a nest
abbrev pub on_access : Role → Nest → ReadAccess → Read
on_access r m (read a at) = up_to (with_access r a m) at
on_access r m (unread x at) = refused x at

-- the access put in is the nest's
access-put : (r : Role) (a : Access) (m : Nest) → access_of r (with_access r a m) ≡ a
access-put first a m = refl
access-put second a m = refl
access-put destination a m = refl

-- a nest's own access put in changes nothing
put-access : (r : Role) (m : Nest) → with_access r (access_of r m) m ≡ m
put-access first m = refl
put-access second m = refl
put-access destination m = refl

-- only the last access that is put in counts
put_last : (r : Role) (a : Access) (m : Nest) (x : ReadAccess) → on_access r (with_access r a m) x ≡ on_access r m x
put_last first a m (read b at) = refl
put_last first a m (unread x at) = refl
put_last second a m (read b at) = refl
put_last second a m (unread x at) = refl
put_last destination a m (read b at) = refl
put_last destination a m (unread x at) = refl

-- a test decides alike on an access by itself and on it put into the nest
on-cond : (r : Role) (m : Nest) (b : Bool) (x : ReadAccess) (y : Refusal) (at : ℕ)
    → cond b (on_access r m x) (refused y at) ≡ on_access r m (cond b x (unread y at))
on-cond r m true x y at = refl
on-cond r m false x y at = refl

-- a signed number of an access: read by itself, then put into the nest
on-signed : (n : Number) (r : Role) (m : Nest) (at : ℕ) (k : ℤ → ℕ → Read) (next : ℤ → ℕ → ReadAccess)
    → ((z : ℤ) (to : ℕ) → k z to ≡ on_access r m (next z to))
    → field (λ x. refused x at) n (λ v. is_reach (signed_of v)) (λ v to. k (signed_of v) to) ≡ on_access r m (field (λ x. unread x at) (as_signed n) is_reach next)
on-signed None r m at k next e = refl
on-signed (Some (v, c)) r m at k next e = rw (e (signed_of v) c.at) (on-cond r m (is_reach (signed_of v)) (next (signed_of v) c.at) OutOfRange at)

-- a number of an access: read by itself, then put into the nest
on-field : (n : Number) (r : Role) (m : Nest) (at : ℕ) (allowed : ℕ → Bool) (k : ℕ → ℕ → Read) (next : ℕ → ℕ → ReadAccess)
    → ((v to : ℕ) → k v to ≡ on_access r m (next v to))
    → field (λ x. refused x at) n allowed k ≡ on_access r m (field (λ x. unread x at) n allowed next)
on-field None r m at allowed k next e = refl
on-field (Some (v, c)) r m at allowed k next e = rw (e v c.at) (on-cond r m (allowed v) (next v c.at) OutOfRange at)

-- strides read by themselves are their numbers put into the nest
read-strides : (s : List ℕ) (r : Role) (d n at : ℕ) (m : Nest) → read_from s (stride_fields r d n) at m ≡ on_access r m (strides_at s d n at (access_of r m))
unfolding read_from stride_fields strides_at
read-strides s r d zero at m = rw (put-access r m)
read-strides s r d (suc n) at m =
    on-signed (number_at s at) r m at
    (λ z to. read_from s (stride_fields r (suc d) n) to (with_access r (with_stride d z (access_of r m)) m))
    (λ z to. strides_at s (suc d) n to (with_stride d z (access_of r m)))
    (λ z to.
    let a = with_stride d z (access_of r m) in
    read-strides s r (suc d) n to (with_access r a m) ∙ rw (access-put r a m) (put_last r a m (strides_at s (suc d) n to a)))

-- an access read by itself is its numbers put into the nest
pub read-access : (s : List ℕ) (r : Role) (n at : ℕ) (m : Nest) → read_from s (access_fields r n) at m ≡ on_access r m (access_at s n at (access_of r m))
unfolding read_from access_at
read-access s r n at m =
    on-field (number_at s at) r m at (holds (between 0 1048576))
    (λ v to. read_from s (stride_fields r 0 n) to (with_access r (with_base v (access_of r m)) m))
    (λ v to. strides_at s 0 n to (with_base v (access_of r m)))
    (λ v to.
    let a = with_base v (access_of r m) in
    read-strides s r 0 n to (with_access r a m) ∙ rw (access-put r a m) (put_last r a m (strides_at s 0 n to a)))

module _ (s : List ℕ) (n at : ℕ) (a : Access) where
  -- no base: refused with 1
  pub access-none : number_at s at ≡ None → access_at s n at a ≡ unread BadNumber at
  unfolding access_at
  access-none e = rw e

  -- a base out of range: refused with 2
  pub access-over : {v : ℕ} {c : Cursor} → number_at s at ≡ Some (v, c) → holds (between 0 1048576) v ≡ false → access_at s n at a ≡ unread OutOfRange at
  unfolding access_at
  access-over e h = rw (e, h)

  -- a base in range: it is put in, and the strides are read
  pub access-next : {v : ℕ} {c : Cursor} → number_at s at ≡ Some (v, c) → holds (between 0 1048576) v ≡ true → access_at s n at a ≡ strides_at s 0 n c.at (with_base v a)
  unfolding access_at
  access-next e h = rw (e, h)

  -- as the code reads it: refused
  pub access-stays : {r : Refused} → Err r ≡ number_within s at (holds (between 0 1048576)) → side_of (Err r) ≡ access_at s n at a
  unfolding access_at
  access-stays e = sym (within-then (number_at s at) (holds (between 0 1048576)) at unread _ ∙ rw (sym e))

  -- as the code reads it: the base is put in, and the strides are read
  pub access-goes : {v : ℕ} {c : Cursor} → Ok (v, c) ≡ number_within s at (holds (between 0 1048576)) → access_at s n at a ≡ strides_at s 0 n c.at (with_base v a)
  unfolding access_at
  access-goes e = within-then (number_at s at) (holds (between 0 1048576)) at unread _ ∙ rw (sym e)

-- an access read by itself, put into the nest, is its numbers read into the nest
pub side-read : (s : List ℕ) (r : Role) (n at : ℕ) (m : Nest) (p : Result (Access × Cursor) Refused) → side_of p ≡ access_at s n at (access_of r m)
    → on_access r m (side_of p) ≡ read_from s (access_fields r n) at m
side-read s r n at m p e = rw e (sym (read-access s r n at m))
