-- Every number of a nest has a place of its own.
--
--   parts_of, part_number, index_of a nest's numbers in six parts; in which of them a number stands, and where
--   place                        both as one number
--   number-there                 the number that is in stands at its place
--   put-parts                    to put a number in changes what stands at its place, and nothing else
--   Sized, HasPlace, put-sized   parts of the right lengths, a number that has a place
--   number_put, number-kept      the number that was put in; any other number
use Rattle.std.specs.Prelude.{ℕ, zero, suc, ◌+◌, ◌*◌, ◌<◌, ◌≡◌, refl, List, [], ◌∷◌, map, length, get_or, set, ℤ, pos, nat_abs}
use Rattle.std.proofs.Common.{sym, ◌∙◌, ap, arith, length-set, get_or-set_same, get_or-set_other, le-leb}
use Rattle.std.proofs.Math.ListN.{get_or-map}
use Rattle.codec.specs.Numbers.{signed_of, unsigned_of}
use Rattle.codec.specs.NumberLaws.{unsigned_signed}
use Rattle.codec.specs.Headers.{width_code}
use Rattle.codec.specs.HeaderLaws.{width-there}
use Rattle.codec.specs.Operations.{action_code}
use Rattle.codec.specs.OperationLaws.{action-there}
use Rattle.codec.specs.declared.amounts.Elements.{Elements}
use Rattle.engine.specs.Addresses.{no_elements}
use Rattle.translator.specs.Fields.{Role, first, second, destination, Field, width, loops, coupled, operation, count, term, base, stride, range_of, Holds, term_place, put, number_in}
use Rattle.translator.specs.declared.nest.Access.{Access}
use Rattle.translator.specs.declared.nest.Nest.{Nest}

-- ---- places

-- a stride as it is written
abbrev pub stride_number : Elements → ℕ
stride_number e = unsigned_of e.0

-- the numbers of an access: its base, then its strides
abbrev pub access_numbers : Access → List ℕ
access_numbers a = nat_abs a.base.0 ∷ map stride_number a.strides

-- a nest's numbers: the first four, the counts, the terms, each access
abbrev pub parts_of : Nest → List (List ℕ)
parts_of m =
    (width_code m.width ∷ m.loops ∷ m.coupled ∷ action_code m.action ∷ [])
    ∷ m.counts
    ∷ map unsigned_of m.terms
    ∷ access_numbers m.first
    ∷ access_numbers m.second
    ∷ access_numbers m.destination
    ∷ []

-- the part of an access
abbrev pub access_part : Role → ℕ
access_part first = 3
access_part second = 4
access_part destination = 5

-- the part in which a number stands
abbrev pub part_number : Field → ℕ
part_number width = 0
part_number loops = 0
part_number coupled = 0
part_number operation = 0
part_number (count t) = 1
part_number (term t o) = 2
part_number (base a) = access_part a
part_number (stride a d) = access_part a

-- where a number stands in its part
abbrev pub index_of : Field → ℕ
index_of width = 0
index_of loops = 1
index_of coupled = 2
index_of operation = 3
index_of (count t) = t
index_of (term t o) = term_place t o
index_of (base a) = 0
index_of (stride a d) = suc d

-- the place of a number: its part and where it stands there, as one number
abbrev pub place : Field → ℕ
place f = 64 * part_number f + index_of f

-- the number that stands at the place of a field
abbrev there : Nest → Field → ℕ
there m f = get_or (get_or (parts_of m) (part_number f) []) (index_of f) 0

-- the number in a field stands at its place
pub number-there : (f : Field) (m : Nest) → there m f ≡ number_in f m
number-there width m = refl
number-there loops m = refl
number-there coupled m = refl
number-there operation m = refl
number-there (count t) m = refl
number-there (term t o) m = get_or-map unsigned_of m.terms (term_place t o) (pos 0)
number-there (base first) m = refl
number-there (base second) m = refl
number-there (base destination) m = refl
number-there (stride first d) m = get_or-map stride_number m.first.strides d no_elements
number-there (stride second d) m = get_or-map stride_number m.second.strides d no_elements
number-there (stride destination d) m = get_or-map stride_number m.destination.strides d no_elements

-- ---- a number put in

-- a number put into one of several lists
abbrev set_in : List (List ℕ) → ℕ → ℕ → ℕ → List (List ℕ)
set_in l p i n = set l p (set (get_or l p []) i n)

-- a mapped list with a member changed
map-set : {A B : Type 0} (f : A → B) (l : List A) (i : ℕ) (a : A) → map f (set l i a) ≡ set (map f l) i (f a)
map-set f [] i a = refl
map-set f (x ∷ l) zero a = refl
map-set f (x ∷ l) (suc i) a = ap (λ k. f x ∷ k) (map-set f l i a)

-- a term put in, as a number
terms-put : (ts : List ℤ) (i n : ℕ) → map unsigned_of (set ts i (signed_of n)) ≡ set (map unsigned_of ts) i n
terms-put ts i n = map-set unsigned_of ts i (signed_of n) ∙ ap (set (map unsigned_of ts) i) (unsigned_signed n)

-- a stride put in, as a number
strides-put : (es : List Elements) (i n : ℕ) → map stride_number (set es i (record { 0 = signed_of n })) ≡ set (map stride_number es) i n
strides-put es i n = map-set stride_number es i (record { 0 = signed_of n }) ∙ ap (set (map stride_number es) i) (unsigned_signed n)

-- to put a number in changes what stands at its place, and nothing else
pub put-parts : (f : Field) (n : ℕ) (m : Nest) (D : ℕ) → Holds (range_of D f) n → parts_of (put f n m) ≡ set_in (parts_of m) (part_number f) (index_of f) n
put-parts width n m D h = ap (λ k. set (parts_of m) 0 (set (get_or (parts_of m) 0 []) 0 k)) (width-there n (omega (arith, h.1)))
put-parts loops n m D h = refl
put-parts coupled n m D h = refl
put-parts operation n m D h = ap (λ k. set (parts_of m) 0 (set (get_or (parts_of m) 0 []) 3 k)) (action-there n (le-leb n 7 h.1))
put-parts (count t) n m D h = refl
put-parts (term t o) n m D h = ap (set (parts_of m) 2) (terms-put m.terms (term_place t o) n)
put-parts (base first) n m D h = refl
put-parts (base second) n m D h = refl
put-parts (base destination) n m D h = refl
put-parts (stride first d) n m D h = ap (λ l. set (parts_of m) 3 (nat_abs m.first.base.0 ∷ l)) (strides-put m.first.strides d n)
put-parts (stride second d) n m D h = ap (λ l. set (parts_of m) 4 (nat_abs m.second.base.0 ∷ l)) (strides-put m.second.strides d n)
put-parts (stride destination d) n m D h = ap (λ l. set (parts_of m) 5 (nat_abs m.destination.base.0 ∷ l)) (strides-put m.destination.strides d n)

-- ---- lengths

-- the lengths of the six parts
abbrev pub sizes : List ℕ
sizes = 4 ∷ 7 ∷ 49 ∷ 8 ∷ 8 ∷ 8 ∷ []

-- a nest whose parts have the right lengths
abbrev pub Sized : Nest → Type 0
Sized m = (p : ℕ) → length (get_or (parts_of m) p []) ≡ get_or sizes p 0

-- a field that has a place in its part
abbrev pub HasPlace : Field → Type 0
HasPlace f = index_of f < get_or sizes (part_number f) 0

-- every list stays as long as it was
in-length : (l : List (List ℕ)) (p i n q : ℕ) → length (get_or (set_in l p i n) q []) ≡ length (get_or l q [])
in-length [] p i n q = refl
in-length (x ∷ l) zero i n zero = length-set x i n
in-length (x ∷ l) zero i n (suc q) = refl
in-length (x ∷ l) (suc p) i n zero = refl
in-length (x ∷ l) (suc p) i n (suc q) = in-length l p i n q

-- the number stands where it was put
in-same : (l : List (List ℕ)) (p i n : ℕ) → i < length (get_or l p []) → get_or (get_or (set_in l p i n) p []) i 0 ≡ n
in-same [] p i n h = absurd (omega arith)
in-same (x ∷ l) zero i n h = get_or-set_same x i n 0 h
in-same (x ∷ l) (suc p) i n h = in-same l p i n h

-- all others stand where they stood
in-other : (l : List (List ℕ)) (p i n q j : ℕ) → (p ≡ q → i ≡ j → ⊥) → get_or (get_or (set_in l p i n) q []) j 0 ≡ get_or (get_or l q []) j 0
in-other [] p i n q j h = refl
in-other (x ∷ l) zero i n zero j h = get_or-set_other x i j n 0 (λ e. h refl (sym e))
in-other (x ∷ l) zero i n (suc q) j h = refl
in-other (x ∷ l) (suc p) i n zero j h = refl
in-other (x ∷ l) (suc p) i n (suc q) j h = in-other l p i n q j (λ e f. h (ap suc e) f)

-- a number that is put in leaves the parts as long as they were
pub put-sized : (f : Field) (n : ℕ) (m : Nest) (D : ℕ) → Holds (range_of D f) n → Sized m → Sized (put f n m)
put-sized f n m D h s p =
    ap (λ l. length (get_or l p [])) (put-parts f n m D h) ∙ in-length (parts_of m) (part_number f) (index_of f) n p ∙ s p

-- the number in a field is the one that was put in
pub number_put : (f : Field) (n : ℕ) (m : Nest) (D : ℕ) → Holds (range_of D f) n → Sized m → HasPlace f → number_in f (put f n m) ≡ n
number_put f n m D h s u =
    let l : index_of f < length (get_or (parts_of m) (part_number f) []) = omega (arith, s (part_number f)) in
    sym (number-there f (put f n m))
    ∙ ap (λ l. get_or (get_or l (part_number f) []) (index_of f) 0) (put-parts f n m D h)
    ∙ in-same (parts_of m) (part_number f) (index_of f) n l

-- a number that is put in leaves every other as it was
pub number-kept : (f g : Field) (n : ℕ) (m : Nest) (D : ℕ) → Holds (range_of D f) n → (place f ≡ place g → ⊥) → number_in g (put f n m) ≡ number_in g m
number-kept f g n m D h u =
    sym (number-there g (put f n m))
    ∙ ap (λ l. get_or (get_or l (part_number g) []) (index_of g) 0) (put-parts f n m D h)
    ∙ in-other (parts_of m) (part_number f) (index_of f) n (part_number g) (index_of g) (λ e i. u (λ j. 64 * e j + i j))
    ∙ number-there g m
