-- Numbers that stand in bytes give a nest in range and tidy, and the bytes are its own.
--
--   none-sized, none-based, none-term, none-stride   the nest with no number yet
--   NumberInRange    a number of a nest in its range
--   stood            the nest that numbers give
use Rattle.std.specs.Prelude.{ℕ, zero, suc, ◌≤◌, ◌<◌, ◌≡◌, refl, ◌⊎◌, List, ◌∷◌, get_or, leb, ℤ, pos, nat_abs}
use Rattle.std.proofs.Common.{sym, ◌∙◌, ap, subst, inl, inr, arith, le-leb}
use Rattle.std.proofs.Math.Decide.{dec_lt}
use Rattle.std.proofs.lemmas.List.{get_or-replicate}
use Rattle.std.proofs.Math.ListN.{get_or-eq_default}
use Rattle.codec.specs.Numbers.{signed_of, unsigned_of}
use Rattle.codec.specs.NumberLaws.{Stands, signed-unsigned}
use Rattle.codec.specs.declared.amounts.Elements.{Elements}
use Rattle.engine.specs.AllowedLaws.{test_plain, nonneg-plain}
use Rattle.engine.specs.Addresses.{no_elements}
use Rattle.translator.specs.Fields.{Role, first, second, destination, term_place, Field, width, loops, coupled, operation, count, term, stride, head_fields, rest_fields, fields_of, range_of, Holds, access_of, term_of, no_nest, put, number_in}
use Rattle.translator.specs.FieldLists.{All, EachField, OfAccess, all_rest}
use Rattle.translator.specs.PlaceLaws.{place, put-sized, Sized, stride_number}
use Rattle.translator.specs.SameNests.{Based, Long, signed_same, sized-long}
use Rattle.translator.specs.FieldPlaces.{Fresh, Distinct, fields-distinct, fields-placed, count-fresh, term_fresh, stride-fresh, loops-fresh}
use Rattle.translator.specs.NestNumbers.{stand-append, stand-sized, stand-based, stand-kept, stand-bytes, stand-holds}
use Rattle.translator.specs.Reading.{numbers_bytes, nest_bytes}
use Rattle.translator.specs.Acceptance.{AccessInRange, InRange, Tidy, Stand}
use Rattle.translator.specs.declared.nest.Nest.{Nest}

-- the nest with no number yet has parts of the right lengths
pub none-sized : Sized no_nest
none-sized zero = refl
none-sized (suc zero) = refl
none-sized (suc (suc zero)) = refl
none-sized (suc (suc (suc zero))) = refl
none-sized (suc (suc (suc (suc zero)))) = refl
none-sized (suc (suc (suc (suc (suc zero))))) = refl
none-sized (suc (suc (suc (suc (suc (suc p)))))) = refl

-- the nest with no number yet has bases of 0
pub none-based : (a : Role) → Based (access_of a no_nest)
none-based first = refl
none-based second = refl
none-based destination = refl

-- the number of a field of a nest is in its range
abbrev pub NumberInRange : Nest → ℕ → Field → Type 0
NumberInRange n D f = Holds (range_of D f) (number_in f n)

-- a signed number in its range, from how it is written
reached : (z : ℤ) → nat_abs (signed_of (unsigned_of z)) ≤ 1048576 → nat_abs z ≤ 1048576
reached z h = rw signed-unsigned at h

-- the numbers of an access
access-ranged : (n : Nest) (D : ℕ) (a : Role) → Based (access_of a n) → OfAccess (NumberInRange n D) D a → AccessInRange D (access_of a n)
access-ranged n D a b h = record {
  base-least = rw (← b) ((nonneg-plain (pos (nat_abs (access_of a n).base.0))).0 refl);
  base-most = rw (← b) (record { le = (test_plain (leb (nat_abs (access_of a n).base.0) 1048576)).0 (le-leb _ _ h.base.1) });
  strides = λ d u. reached (get_or (access_of a n).strides d no_elements).0 (h.strides d u);
}

-- every stride of the nest with no number yet is 0
pub none-stride : (a : Role) (d : ℕ) → d < 7 → number_in (stride a d) no_nest ≡ 0
none-stride first d h = ap stride_number (get_or-replicate 7 d no_elements no_elements h)
none-stride second d h = ap stride_number (get_or-replicate 7 d no_elements no_elements h)
none-stride destination d h = ap stride_number (get_or-replicate 7 d no_elements no_elements h)

-- every term of the nest with no number yet is 0
pub none-term : (t o : ℕ) → t < 7 → o < 7 → number_in (term t o) no_nest ≡ 0
none-term t o h k = ap unsigned_of (get_or-replicate 49 (term_place t o) (pos 0) (pos 0) (omega arith))

-- the places that no loop uses hold 0
stood-tidy : (s : List ℕ) (D to : ℕ) (n : Nest) → Stand s (fields_of D) 0 no_nest to n → n.loops ≡ D → D ≤ 7 → Tidy n
stood-tidy s D to n h e most = record {
  counts-long = long.counts;
  counts = counts;
  terms-long = long.terms;
  terms = terms;
  first-long = long.strides first;
  first = strides first;
  second-long = long.strides second;
  second = strides second;
  destination-long = long.strides destination;
  destination = strides destination;
}
  where
    long : Long n
    long = sized-long n (stand-sized s (fields_of D) 0 to no_nest n h none-sized)

    kept : (g : Field) → Fresh (place g) (fields_of D) → number_in g n ≡ number_in g no_nest
    kept = stand-kept s (fields_of D) 0 to no_nest n h

    counts : (t : ℕ) → n.loops ≤ t → get_or n.counts t 0 ≡ 0
    counts t l = go (dec_lt t 7)
      where
        go : Dec (t < 7) → get_or n.counts t 0 ≡ 0
        go (yes q) = kept (count t) (count-fresh D t (omega arith) q) ∙ get_or-replicate 7 t 0 0 q
        go (no q) = get_or-eq_default n.counts 0 (omega (arith, long.counts))

    terms : (t o : ℕ) → t < 7 → o < 7 → (o ≤ t) ⊎ (n.loops ≤ o) → term_of n t o ≡ pos 0
    terms t o u v q = signed_same (term_of n t o) (pos 0) (kept (term t o) (term_fresh D t o most u v (go q)) ∙ none-term t o u v)
      where
        go : (o ≤ t) ⊎ (n.loops ≤ o) → (o ≤ t) ⊎ (D ≤ o)
        go (inl x) = inl x
        go (inr x) = inr (omega arith)

    strides : (a : Role) (d : ℕ) → n.loops ≤ d → get_or (access_of a n).strides d no_elements ≡ no_elements
    strides a d l = go (dec_lt d 7)
      where
        zero-stride : (e : Elements) → stride_number e ≡ 0 → e ≡ no_elements
        zero-stride e q = λ i. record { 0 = signed_same e.0 (pos 0) q i }

        go : Dec (d < 7) → get_or (access_of a n).strides d no_elements ≡ no_elements
        go (yes q) =
            zero-stride (get_or (access_of a n).strides d no_elements)
            (kept (stride a d) (stride-fresh a D d (omega arith) q) ∙ none-stride a d q)
        go (no q) = get_or-eq_default (access_of a n).strides no_elements (omega (arith, long.strides a))

-- numbers that stand there: the nest in range and tidy, and its bytes
pub stood : (s : List ℕ) (mid to : ℕ) (k n : Nest) → Stand s head_fields 0 no_nest mid k → Stand s (rest_fields k.loops) mid k to n
    → InRange n × Tidy n × Stands s 0 (nest_bytes n) to
unfolding Stand All Distinct nest_bytes
stood s mid to k n h l = (in-range, stood-tidy s D to n all loops-are most, bytes)
  where
    D : ℕ
    D = k.loops

    all : Stand s (fields_of D) 0 no_nest to n
    all = stand-append s head_fields (rest_fields D) 0 mid to no_nest k n h l

    loops-are : n.loops ≡ D
    loops-are = stand-kept s (rest_fields D) mid to k n l loops (loops-fresh D).1.1

    headed : Nest
    headed = put loops all.4.0 (put width all.0 no_nest)

    read : headed.loops ≡ D
    read = sym (stand-kept s (coupled ∷ operation ∷ rest_fields D) all.4.1 to headed n all.4.4 loops (loops-fresh D)) ∙ loops-are

    most : D ≤ 7
    most = omega (arith, read, all.4.3)

    bytes : Stands s 0 (nest_bytes n) to
    bytes =
        subst (λ d. Stands s 0 (numbers_bytes n (fields_of d)) to) (sym loops-are)
        (stand-bytes s (fields_of D) 0 to no_nest n all (omega arith) none-sized (fields-distinct D most) (fields-placed D most))

    sized : Sized headed
    sized = put-sized loops all.4.0 (put width all.0 no_nest) D all.4.3 (put-sized width all.0 no_nest D all.3 none-sized)

    held : All (NumberInRange n D) (coupled ∷ operation ∷ rest_fields D)
    held =
        subst (λ d. All (NumberInRange n d) (coupled ∷ operation ∷ rest_fields D)) read
        (stand-holds s (coupled ∷ operation ∷ rest_fields D) all.4.1 to headed n all.4.4 sized (fields-distinct D most).1.1 (fields-placed D most).1.1 (loops-fresh D))

    each : EachField (NumberInRange n D) D
    each = (all_rest (NumberInRange n D) D).0 held.1.1

    access : (a : Role) → AccessInRange n.loops (access_of a n)
    access a =
        subst (λ d. AccessInRange d (access_of a n)) (sym loops-are)
        (access-ranged n D a (stand-based s (fields_of D) 0 to no_nest n all none-based a) (each.accesses a))

    in-range : InRange n
    in-range = record {
      loops-least = omega (arith, read, loops-are, all.4.3);
      loops-most = omega (arith, loops-are, most);
      coupled = omega (arith, loops-are, held.0);
      operation = held.1.0.0;
      counts = λ t u. (each.loops t (omega (arith, loops-are))).count.1;
      terms = λ t o u v. reached (term_of n t o) ((each.loops t (omega (arith, loops-are))).terms o u (omega (arith, loops-are)));
      first = access first;
      second = access second;
      destination = access destination;
    }
