-- Two nests of the same numbers are the same.
--
--   Based, put-based             an access whose base is 0 or more; it stays so
--   signed_same                  two signed numbers that are written as one are one
--   Long, sized-long             the lengths of a nest's lists
--   Proper, nests-same           a number for loops among the seven; nests by these numbers
use Rattle.std.specs.Prelude.{ℕ, ◌/◌, ◌%◌, ◌<◌, ◌≡◌, refl, List, length, get_or, set, ℤ, pos, nat_abs}
use Rattle.std.proofs.Common.{sym, ◌∙◌, ap, arith, ext_get_or}
use Rattle.std.proofs.lemmas.List.{length-map}
use Rattle.codec.specs.Numbers.{signed_of, unsigned_of}
use Rattle.codec.specs.NumberLaws.{signed-unsigned}
use Rattle.codec.specs.Headers.{width_coded}
use Rattle.codec.specs.HeaderLaws.{width_back}
use Rattle.codec.specs.Operations.{action_coded}
use Rattle.codec.specs.OperationLaws.{action-back}
use Rattle.codec.specs.declared.header.Width.{Width}
use Rattle.codec.specs.declared.operation.Action.{Action}
use Rattle.engine.specs.Addresses.{no_elements}
use Rattle.translator.specs.Fields.{Role, first, second, destination, Field, width, loops, coupled, operation, count, term, base, stride, term_place, access_of, nest_of, with_access, with_base, with_stride, put, number_in}
use Rattle.translator.specs.declared.nest.Access.{Access}
use Rattle.translator.specs.declared.nest.Nest.{Nest}
use Rattle.translator.specs.PlaceLaws.{Sized, access_numbers, stride_number}

-- ---- bases

-- an access whose base is 0 or more
abbrev pub Based : Access → Type 0
Based a = pos (nat_abs a.base.0) ≡ a.base.0

-- an access of a nest whose other numbers change
access-kept : (a : Role) (w : Width) (D c : ℕ) (o : Action) (counts : List ℕ) (terms : List ℤ) (m : Nest)
    → access_of a (nest_of w D c o counts terms m.first m.second m.destination) ≡ access_of a m
access-kept first w D c o counts terms m = refl
access-kept second w D c o counts terms m = refl
access-kept destination w D c o counts terms m = refl

-- of a nest in which an access is put
with-based : (b a : Role) (x : Access) (m : Nest) → Based x → Based (access_of a m) → Based (access_of a (with_access b x m))
with-based first first x m h k = h
with-based first second x m h k = k
with-based first destination x m h k = k
with-based second first x m h k = k
with-based second second x m h k = h
with-based second destination x m h k = k
with-based destination first x m h k = k
with-based destination second x m h k = k
with-based destination destination x m h k = h

-- bases stay 0 or more when a number is put in
pub put-based : (f : Field) (n : ℕ) (m : Nest) → ((a : Role) → Based (access_of a m)) → (a : Role) → Based (access_of a (put f n m))
put-based width n m h a = rw (access-kept a (width_coded n) m.loops m.coupled m.action m.counts m.terms m) (h a)
put-based loops n m h a = rw (access-kept a m.width n m.coupled m.action m.counts m.terms m) (h a)
put-based coupled n m h a = rw (access-kept a m.width m.loops n m.action m.counts m.terms m) (h a)
put-based operation n m h a = rw (access-kept a m.width m.loops m.coupled (action_coded n) m.counts m.terms m) (h a)
put-based (count t) n m h a = rw (access-kept a m.width m.loops m.coupled m.action (set m.counts t n) m.terms m) (h a)
put-based (term t o) n m h a =
    rw (access-kept a m.width m.loops m.coupled m.action m.counts (set m.terms (term_place t o) (signed_of n)) m) (h a)
put-based (base b) n m h a = with-based b a (with_base n (access_of b m)) m refl (h a)
put-based (stride b d) n m h a = with-based b a (with_stride d (signed_of n) (access_of b m)) m (h b) (h a)

-- ---- nests by their numbers

-- two signed numbers that are written as one are one
pub signed_same : (x y : ℤ) → unsigned_of x ≡ unsigned_of y → x ≡ y
signed_same x y e = sym (signed-unsigned x) ∙ ap signed_of e ∙ signed-unsigned y

-- two accesses of the same numbers are the same
access-same : (x y : Access) → Based x → Based y → length x.strides ≡ 7 → length y.strides ≡ 7 → nat_abs x.base.0 ≡ nat_abs y.base.0
    → ((d : ℕ) → d < 7 → unsigned_of (get_or x.strides d no_elements).0 ≡ unsigned_of (get_or y.strides d no_elements).0) → x ≡ y
access-same x y b c l k e h = λ i. record { base = record { 0 = base_same i }; strides = strides-same i }
  where
    base_same : x.base.0 ≡ y.base.0
    base_same = sym b ∙ ap pos e ∙ c

    strides-same : x.strides ≡ y.strides
    strides-same =
        ext_get_or no_elements x.strides y.strides (l ∙ sym k)
        (λ d u. λ i. record { 0 = signed_same (get_or x.strides d no_elements).0 (get_or y.strides d no_elements).0 (h d (omega arith)) i })

-- a nest whose lists have the right lengths
pub record Long (m : Nest) : Type 0 where
  pub counts : length m.counts ≡ 7
  pub terms : length m.terms ≡ 49
  pub strides : (a : Role) → length (access_of a m).strides ≡ 7

-- a field for loops among the seven
abbrev pub Proper : Field → Type 0
Proper width = Unit {0}
Proper loops = Unit {0}
Proper coupled = Unit {0}
Proper operation = Unit {0}
Proper (count t) = t < 7
Proper (term t o) = (t < 7) × (o < 7)
Proper (base a) = Unit {0}
Proper (stride a d) = d < 7

-- two nests of the same numbers are the same
pub nests-same : (m n : Nest) → Long m → Long n → ((a : Role) → Based (access_of a m)) → ((a : Role) → Based (access_of a n))
    → ((f : Field) → Proper f → number_in f m ≡ number_in f n) → m ≡ n
nests-same m n l k b c h = λ i. record {
  width = width_same i;
  loops = h loops tt i;
  coupled = h coupled tt i;
  action = action-same i;
  counts = counts_same i;
  terms = terms-same i;
  first = same first i;
  second = same second i;
  destination = same destination i;
}
  where
    width_same : m.width ≡ n.width
    width_same = sym (width_back m.width) ∙ ap width_coded (h width tt) ∙ width_back n.width

    action-same : m.action ≡ n.action
    action-same = sym (action-back m.action) ∙ ap action_coded (h operation tt) ∙ action-back n.action

    counts_same : m.counts ≡ n.counts
    counts_same = ext_get_or 0 m.counts n.counts (l.counts ∙ sym k.counts) (λ t u. h (count t) (omega (arith, l.counts)))

    terms-same : m.terms ≡ n.terms
    terms-same =
        ext_get_or (pos 0) m.terms n.terms (l.terms ∙ sym k.terms)
        (λ i u.
        let e : term_place (i / 7) (i % 7) ≡ i = omega arith in
        let q : i < 49 = omega (arith, l.terms) in
        signed_same (get_or m.terms i (pos 0)) (get_or n.terms i (pos 0))
        (rw e at (h (term (i / 7) (i % 7)) (omega arith, omega arith))))

    same : (a : Role) → access_of a m ≡ access_of a n
    same a = access-same (access_of a m) (access_of a n) (b a) (c a) (l.strides a) (k.strides a) (h (base a) tt) (λ d. h (stride a d))

-- parts of the right lengths, and the lists' lengths
pub sized-long : (m : Nest) → Sized m → Long m
sized-long m s = record { counts = s 1; terms = sym (length-map m.terms unsigned_of) ∙ s 2; strides = strides }
  where
    of : (x : Access) → length (access_numbers x) ≡ 8 → length x.strides ≡ 7
    of x e = omega (arith, length-map x.strides stride_number)

    strides : (a : Role) → length (access_of a m).strides ≡ 7
    strides first = of m.first (s 3)
    strides second = of m.second (s 4)
    strides destination = of m.destination (s 5)
