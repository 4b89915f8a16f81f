-- The numbers of a nest, in order.
--
--   Role                      first source, second source, destination
--   Field, fields_of           a number of a nest; all of them, in order
--   Range, range_of            the range of each
--   holds, Holds              a number in its range, as a test and in plain terms
--   access_of, term_of          an access and a term of a nest
--   no_nest                    a nest with no number yet
--   with_access, with_base, with_stride, with_term   an access, a base, a stride, a term put in
--   put, number_in             a number put into its field; the number in a field
--
-- Loops are counted from 0 here, innermost first.
use Rattle.std.specs.Prelude.{ℕ, zero, suc, ◌+◌, ◌*◌, ◌≤◌, List, [], ◌∷◌, ◌++◌, Bool, ◌&&◌, get_or, set, replicate, leb, ℤ, pos, nat_abs}
use Rattle.codec.specs.Numbers.{signed_of, unsigned_of}
use Rattle.codec.specs.Headers.{width_coded, width_code}
use Rattle.codec.specs.Operations.{action_coded, action_code, is_reach}
use Rattle.codec.specs.declared.header.Width.{Width}
use Rattle.codec.specs.declared.header.Width.TheVariants.{B}
use Rattle.codec.specs.declared.operation.Action.{Action}
use Rattle.codec.specs.declared.operation.Action.TheVariants.{Copy}
use Rattle.engine.specs.Addresses.{no_bytes, no_elements}
use Rattle.translator.specs.declared.nest.Access.{Access}
use Rattle.translator.specs.declared.nest.Nest.{Nest}

-- "first source, second source, destination"
pub data Role : Type 0 where
  first : Role
  second : Role
  destination : Role

-- a number of a nest: a count of loop t, its term for loop o, the base of an access, its stride for loop d
pub data Field : Type 0 where
  width : Field
  loops : Field
  coupled : Field
  operation : Field
  count : ℕ → Field
  term : ℕ → ℕ → Field
  base : Role → Field
  stride : Role → ℕ → Field

-- "width code, loops D .., coupled loop .., operation"
abbrev pub head_fields : List Field
head_fields = width ∷ loops ∷ coupled ∷ operation ∷ []

-- "a signed term .. for each loop outside it, nearest first": of loop t, for n loops from o on
unfoldable pub term_fields : ℕ → ℕ → ℕ → List Field
term_fields t o zero = []
term_fields t o (suc n) = term t o ∷ term_fields t (suc o) n

-- "for each loop, innermost first, a count .. and a signed term .. for each loop outside it": n loops from t on
unfoldable pub loop_fields : ℕ → ℕ → List Field
loop_fields t zero = []
loop_fields t (suc n) = (count t ∷ term_fields t (suc t) n) ++ loop_fields (suc t) n

-- the strides of an access for n loops from d on
unfoldable pub stride_fields : Role → ℕ → ℕ → List Field
stride_fields a d zero = []
stride_fields a d (suc n) = stride a d ∷ stride_fields a (suc d) n

-- "each a base (bytes) and D signed strides (elements), innermost first"
abbrev pub access_fields : Role → ℕ → List Field
access_fields a D = base a ∷ stride_fields a 0 D

-- "then first source, second source, destination"
abbrev pub rest_fields : ℕ → List Field
rest_fields D = loop_fields 0 D ++ (access_fields first D ++ (access_fields second D ++ access_fields destination D))

-- all numbers of a nest of D loops
abbrev pub fields_of : ℕ → List Field
fields_of D = head_fields ++ rest_fields D

-- ---- ranges

-- the range of a number: between two numbers, or "stride range" for a signed one
pub data Range : Type 0 where
  between : ℕ → ℕ → Range
  reach : Range

-- "width code" 0 to 3, "loops D (1 to 7), coupled loop 0 to D (0 none), operation 1 to 7", "a count (0 to 4,096) and a signed term
-- (stride range)", base 0 to 1,048,576, stride -1,048,576 to 1,048,576
abbrev pub range_of : ℕ → Field → Range
range_of D width = between 0 3
range_of D loops = between 1 7
range_of D coupled = between 0 D
range_of D operation = between 1 7
range_of D (count t) = between 0 4096
range_of D (term t o) = reach
range_of D (base a) = between 0 1048576
range_of D (stride a d) = reach

-- whether a number is in its range
abbrev pub holds : Range → ℕ → Bool
holds (between least most) n = leb least n && leb n most
holds reach n = is_reach (signed_of n)

-- a number in its range, in plain terms
abbrev pub Holds : Range → ℕ → Type 0
Holds (between least most) n = (least ≤ n) × (n ≤ most)
Holds reach n = nat_abs (signed_of n) ≤ 1048576

-- ---- a nest's numbers

-- the access of a role
abbrev pub access_of : Role → Nest → Access
access_of first m = m.first
access_of second m = m.second
access_of destination m = m.destination

-- the place of the term of loop t for loop o
abbrev pub term_place : ℕ → ℕ → ℕ
term_place t o = 7 * t + o

-- the term of loop t for loop o
abbrev pub term_of : Nest → ℕ → ℕ → ℤ
term_of m t o = get_or m.terms (term_place t o) (pos 0)

-- an access with no number yet
abbrev pub no_access : Access
no_access = record { base = no_bytes; strides = replicate 7 no_elements }

-- a nest with no number yet
abbrev pub no_nest : Nest
no_nest = record {
  width = B;
  loops = 0;
  coupled = 0;
  action = Copy;
  counts = replicate 7 0;
  terms = replicate 49 (pos 0);
  first = no_access;
  second = no_access;
  destination = no_access;
}

-- a nest of these numbers
abbrev pub nest_of : Width → ℕ → ℕ → Action → List ℕ → List ℤ → Access → Access → Access → Nest
nest_of w D c o counts terms f s d =
    record { width = w; loops = D; coupled = c; action = o; counts = counts; terms = terms; first = f; second = s; destination = d }

-- the nest with access a put in
abbrev pub with_access : Role → Access → Nest → Nest
with_access first a m = nest_of m.width m.loops m.coupled m.action m.counts m.terms a m.second m.destination
with_access second a m = nest_of m.width m.loops m.coupled m.action m.counts m.terms m.first a m.destination
with_access destination a m = nest_of m.width m.loops m.coupled m.action m.counts m.terms m.first m.second a

-- the access with base n put in
abbrev pub with_base : ℕ → Access → Access
with_base n a = record { base = record { 0 = pos n }; strides = a.strides }

-- the access with stride z for loop d put in
abbrev pub with_stride : ℕ → ℤ → Access → Access
with_stride d z a = record { base = a.base; strides = set a.strides d (record { 0 = z }) }

-- the nest with term z of loop t for loop o put in
abbrev pub with_term : ℕ → ℕ → ℤ → Nest → Nest
with_term t o z m =
    nest_of m.width m.loops m.coupled m.action m.counts (set m.terms (term_place t o) z) m.first m.second m.destination

-- the nest with number n put into a field
abbrev pub put : Field → ℕ → Nest → Nest
put width n m = nest_of (width_coded n) m.loops m.coupled m.action m.counts m.terms m.first m.second m.destination
put loops n m = nest_of m.width n m.coupled m.action m.counts m.terms m.first m.second m.destination
put coupled n m = nest_of m.width m.loops n m.action m.counts m.terms m.first m.second m.destination
put operation n m = nest_of m.width m.loops m.coupled (action_coded n) m.counts m.terms m.first m.second m.destination
put (count t) n m =
    nest_of m.width m.loops m.coupled m.action (set m.counts t n) m.terms m.first m.second m.destination
put (term t o) n m = with_term t o (signed_of n) m
put (base a) n m = with_access a (with_base n (access_of a m)) m
put (stride a d) n m = with_access a (with_stride d (signed_of n) (access_of a m)) m

-- the number in a field of a nest, as it is written
abbrev pub number_in : Field → Nest → ℕ
number_in width m = width_code m.width
number_in loops m = m.loops
number_in coupled m = m.coupled
number_in operation m = action_code m.action
number_in (count t) m = get_or m.counts t 0
number_in (term t o) m = unsigned_of (term_of m t o)
number_in (base a) m = nat_abs (access_of a m).base.0
number_in (stride a d) m = unsigned_of (get_or (access_of a m).strides d no_elements).0
