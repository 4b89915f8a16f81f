-- The numbers of a nest in range and tidy are read where its bytes stand.
--
--   action-small     actions have codes from 0 to 7
--   ranged-all       every number of a nest in range is in its range
--   standing         they stand there, number by number, and give the nest
use Rattle.std.specs.Prelude.{ℕ, ◌+◌, ◌≤◌, ◌<◌, ◌≡◌, refl, ◌⊎◌, List, ◌∷◌, ◌++◌, length, get_or, leb, pos, nat_abs, ◌≤ℤ◌}
use Rattle.std.proofs.Common.{sym, ◌∙◌, ap, subst, inl, inr, arith, leb-true}
use Rattle.std.proofs.Math.Decide.{dec_lt}
use Rattle.std.proofs.lemmas.List.{get_or-replicate}
use Rattle.std.specs.Int.Signed.{pos-nat_abs, yes_non_neg}
use Rattle.codec.specs.StandingLaws.{stands-front, stands-back}
use Rattle.codec.specs.Numbers.{number_bytes, unsigned_of}
use Rattle.codec.specs.NumberLaws.{Stands, signed-unsigned}
use Rattle.codec.specs.Headers.{width_code}
use Rattle.codec.specs.Operations.{action_code}
use Rattle.codec.specs.declared.header.Width.{Width}
use Rattle.codec.specs.declared.header.Width.TheVariants as letter
use Rattle.codec.specs.declared.operation.Action.{Action}
use Rattle.codec.specs.declared.operation.Action.TheVariants as action
use Rattle.engine.specs.AllowedLaws.{test_plain}
use Rattle.engine.specs.Addresses.{no_elements}
use Rattle.translator.specs.Fields.{Role, first, second, destination, Field, width, loops, coupled, operation, count, term, base, stride, head_fields, rest_fields, fields_of, access_of, term_of, no_nest, put, number_in}
use Rattle.translator.specs.FieldLists.{All, EachField, OfAccess, all_rest}
use Rattle.translator.specs.PlaceLaws.{place, stride_number}
use Rattle.translator.specs.SameNests.{Based, Long, Proper, sized-long, nests-same}
use Rattle.translator.specs.FieldPlaces.{Fresh, fields-distinct, fields-placed, count-fresh, term_fresh, stride-fresh, loops-fresh}
use Rattle.translator.specs.NestNumbers.{stand-cut, holds-small, stand-sized, stand-based, stand-kept, copied, copied-stands, copied-kept, copied-there}
use Rattle.translator.specs.Reading.{numbers_bytes, nest_bytes}
use Rattle.translator.specs.Acceptance.{AccessInRange, InRange, Tidy, Stand}
use Rattle.translator.specs.declared.nest.Access.{Access}
use Rattle.translator.specs.declared.nest.Nest.{Nest}
use Rattle.translator.specs.NestStands.{none-sized, none-based, none-term, none-stride, NumberInRange}

-- widths have codes from 0 to 3
width_small : (w : Width) → width_code w ≤ 3
width_small letter.B = omega arith
width_small letter.H = omega arith
width_small letter.W = omega arith
width_small letter.D = omega arith

-- actions have codes from 0 to 7
pub action-small : (a : Action) → action_code a ≤ 7
action-small action.Copy = omega arith
action-small action.Add = omega arith
action-small action.Subtract = omega arith
action-small action.And = omega arith
action-small action.Or = omega arith
action-small action.Xor = omega arith
action-small action.Smaller = omega arith
action-small action.Larger = omega arith

-- a base in its range is 0 or more
based : (D : ℕ) (x : Access) → AccessInRange D x → Based x
based D x h = pos-nat_abs x.base.0 (yes_non_neg h.base-least)

-- the numbers of an access are in their ranges
of-access : (n : Nest) (D : ℕ) (a : Role) → AccessInRange D (access_of a n) → OfAccess (NumberInRange n D) D a
of-access n D a h =
    let b : pos (nat_abs (access_of a n).base.0) ≤ℤ pos 1048576 = subst (λ z. z ≤ℤ pos 1048576) (sym (based D (access_of a n) h)) h.base-most in
    record {
      base = (omega arith, leb-true (nat_abs (access_of a n).base.0) 1048576 ((test_plain (leb (nat_abs (access_of a n).base.0) 1048576)).1 b.le));
      strides = λ d u. rw (signed-unsigned (get_or (access_of a n).strides d no_elements).0) (h.strides d u);
    }

-- each access of a nest in range
access-in : (n : Nest) → InRange n → (a : Role) → AccessInRange n.loops (access_of a n)
access-in n r first = r.first
access-in n r second = r.second
access-in n r destination = r.destination

-- every number of a nest in range is in its range
pub ranged-all : (n : Nest) → InRange n → All (NumberInRange n n.loops) (fields_of n.loops)
unfolding All
ranged-all n r = (
  (omega arith, width_small n.width),
  (
    (r.loops-least, r.loops-most),
    (
      (omega arith, r.coupled),
      (
        (r.operation, action-small n.action),
        (all_rest (NumberInRange n n.loops) n.loops).1
            (record {
              loops = λ t u. record { count = (omega arith, r.counts t u); terms = λ o v w. rw (signed-unsigned (term_of n t o)) (r.terms t o v w) };
              accesses = λ a. of-access n n.loops a (access-in n r a);
            }),
      ),
    ),
  ),
)

-- the lists of a tidy nest
tidy-long : (n : Nest) → Tidy n → Long n
tidy-long n d = record { counts = d.counts-long; terms = d.terms-long; strides = strides }
  where
    strides : (a : Role) → length (access_of a n).strides ≡ 7
    strides first = d.first-long
    strides second = d.second-long
    strides destination = d.destination-long

-- a nest in range and tidy is its numbers, put into none
module _ (s : List ℕ) (to : ℕ) (n : Nest) (r : InRange n) (d : Tidy n) where
  -- its fields
  abbrev fields : List Field
  fields = fields_of n.loops

  -- the nest that its numbers give
  abbrev again : Nest
  again = copied fields no_nest n

  -- what they leave
  kept : (g : Field) → Fresh (place g) fields → number_in g again ≡ number_in g no_nest
  kept = copied-kept n n.loops fields no_nest (ranged-all n r)

  -- what they give
  there : All (λ f. number_in f again ≡ number_in f n) fields
  there = copied-there n n.loops fields no_nest (ranged-all n r) none-sized (fields-distinct n.loops r.loops-most) (fields-placed n.loops r.loops-most)

  -- by loops and accesses
  each : EachField (λ f. number_in f again ≡ number_in f n) n.loops
  unfolding All
  each = (all_rest (λ f. number_in f again ≡ number_in f n) n.loops).0 there.1.1.1.1

  -- a count: of a loop that is there, or 0
  count_same : (t : ℕ) → t < 7 → Dec (t < n.loops) → number_in (count t) again ≡ number_in (count t) n
  count_same t u (yes q) = (each.loops t q).count
  count_same t u (no q) =
      kept (count t) (count-fresh n.loops t (omega arith) u) ∙ get_or-replicate 7 t 0 0 u ∙ sym (d.counts t (omega arith))

  -- a term that no loop uses is 0
  term-unused : (t o : ℕ) → t < 7 → o < 7 → (o ≤ t) ⊎ (n.loops ≤ o) → number_in (term t o) again ≡ number_in (term t o) n
  term-unused t o u v x =
      kept (term t o) (term_fresh n.loops t o r.loops-most u v x) ∙ none-term t o u v ∙ sym (ap unsigned_of (d.terms t o u v x))

  -- a term
  term-same : (t o : ℕ) → t < 7 → o < 7 → Dec (t < o) → Dec (o < n.loops) → number_in (term t o) again ≡ number_in (term t o) n
  term-same t o u v (yes p) (yes q) = (each.loops t (omega arith)).terms o p q
  term-same t o u v (yes p) (no q) = term-unused t o u v (inr (omega arith))
  term-same t o u v (no p) q = term-unused t o u v (inl (omega arith))

  -- a stride that no loop uses
  tidy-stride : (a : Role) (k : ℕ) → n.loops ≤ k → get_or (access_of a n).strides k no_elements ≡ no_elements
  tidy-stride first = d.first
  tidy-stride second = d.second
  tidy-stride destination = d.destination

  -- a stride
  stride-same : (a : Role) (k : ℕ) → k < 7 → Dec (k < n.loops) → number_in (stride a k) again ≡ number_in (stride a k) n
  stride-same a k u (yes q) = (each.accesses a).strides k q
  stride-same a k u (no q) =
      kept (stride a k) (stride-fresh a n.loops k (omega arith) u) ∙ none-stride a k u ∙ sym (ap stride_number (tidy-stride a k (omega arith)))

  -- the numbers of its fields are the nest's own
  numbers-same : (f : Field) → Proper f → number_in f again ≡ number_in f n
  unfolding All
  numbers-same width p = there.0
  numbers-same loops p = there.1.0
  numbers-same coupled p = there.1.1.0
  numbers-same operation p = there.1.1.1.0
  numbers-same (count t) p = count_same t p (dec_lt t n.loops)
  numbers-same (term t o) p = term-same t o p.0 p.1 (dec_lt t o) (dec_lt o n.loops)
  numbers-same (base a) p = (each.accesses a).base
  numbers-same (stride a k) p = stride-same a k p (dec_lt k n.loops)

  -- so it is the nest
  again-same : Stand s fields 0 no_nest to again → again ≡ n
  again-same h =
      nests-same again n (sized-long again (stand-sized s fields 0 to no_nest again h none-sized)) (tidy-long n d)
      (stand-based s fields 0 to no_nest again h none-based) (λ a. based n.loops (access_of a n) (access-in n r a)) numbers-same

-- the numbers of a nest in range and tidy, where its bytes stand
pub standing : (s : List ℕ) (to : ℕ) (n : Nest) → InRange n → Tidy n → Stands s 0 (nest_bytes n) to
    → (mid : ℕ) × (k : Nest) × Stand s head_fields 0 no_nest mid k × Stand s (rest_fields k.loops) mid k to n
unfolding Stand All nest_bytes numbers_bytes copied
standing s to n r d h =
    let D : ℕ = n.loops in
    let held = ranged-all n r in
    let a : List ℕ = number_bytes (width_code n.width) in
    let b : List ℕ = number_bytes D in
    let c : List ℕ = numbers_bytes n (coupled ∷ operation ∷ rest_fields D) in
    let h1 : Stands s (0 + length a) (b ++ c) to = stands-back s a (b ++ c) 0 to h in
    let rest =
    copied-stands s n D r.loops-most (coupled ∷ operation ∷ rest_fields D) (0 + length a + length b) to
    (put loops D (put width (width_code n.width) no_nest))
    (stands-back s b c (0 + length a) to h1) refl (loops-fresh D) held.1.1 in
    let whole : Stand s (fields_of D) 0 no_nest to (copied (fields_of D) no_nest n) = (
      width_code n.width,
      0 + length a,
      record { small = holds-small D width (width_code n.width) r.loops-most held.0; stands = stands-front s a (b ++ c) 0 to h },
      held.0,
      (
        D,
        0 + length a + length b,
        record { small = holds-small D loops D r.loops-most held.1.0; stands = stands-front s b c (0 + length a) to h1 },
        held.1.0,
        rest,
      ),
    ) in
    let all : Stand s (fields_of D) 0 no_nest to n = subst (Stand s (fields_of D) 0 no_nest to) (again-same s to n r d whole) whole in
    let cut = stand-cut s head_fields (rest_fields D) 0 to no_nest n all in
    let e : D ≡ cut.1.loops = stand-kept s (rest_fields D) cut.0 to cut.1 n cut.3 loops (loops-fresh D).1.1 in
    (cut.0, cut.1, cut.2, subst (λ x. Stand s (rest_fields x) cut.0 cut.1 to n) e cut.3)
