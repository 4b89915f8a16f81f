-- The numbers of a nest stand at different places.
--
--   Fresh, Distinct              no field of a list at a place; no two of them at one place
--   fields-distinct, fields-placed   the fields of a nest stand at different places, and each has a place
--   count-fresh, term_fresh, stride-fresh, loops-fresh   places at which none of them stands
use Rattle.std.specs.Prelude.{ℕ, zero, suc, ◌+◌, ◌*◌, ◌≤◌, ◌<◌, ◌≡◌, refl, ◌⊎◌, List, [], ◌∷◌, ◌++◌, get_or}
use Rattle.std.proofs.Common.{inl, inr, arith}
use Rattle.translator.specs.Fields.{Role, first, second, destination, Field, loops, coupled, operation, count, term, base, stride, head_fields, term_fields, loop_fields, stride_fields, access_fields, rest_fields, fields_of}
use Rattle.translator.specs.FieldLists.{All, all_append, all-terms, all-strides, all-loops, all-access, all_rest}
use Rattle.translator.specs.PlaceLaws.{access_part, place, sizes, HasPlace}

-- no field of a list stands at place k
abbrev pub Fresh : ℕ → List Field → Type 0
Fresh k fs = All (λ f. place f ≡ k → ⊥) fs

-- no two fields of a list stand at one place
unfoldable pub Distinct : List Field → Type 0
Distinct [] = Unit {0}
Distinct (f ∷ fs) = Fresh (place f) fs × Distinct fs

-- what follows from what holds of each field of a list holds of each too
all_map : (P Q : Field → Type 0) → ((f : Field) → P f → Q f) → (fs : List Field) → All P fs → All Q fs
unfolding All
all_map P Q h [] k = tt
all_map P Q h (f ∷ fs) k = (h f k.0, all_map P Q h fs k.1)

-- two lists joined are distinct if both are, and no place of the first is one of the second
distinct_append : (xs ys : List Field) → Distinct xs → Distinct ys → All (λ f. Fresh (place f) ys) xs → Distinct (xs ++ ys)
unfolding All Distinct
distinct_append [] ys a b h = b
distinct_append (x ∷ xs) ys a b h = (all_append (λ f. place f ≡ place x → ⊥) xs ys a.0 h.0, distinct_append xs ys a.1 b h.1)

-- two lists joined are distinct if both are, the places of the first below a number and those of the second from it on
distinct-join : (k : ℕ) (xs ys : List Field) → Distinct xs → Distinct ys → All (λ f. place f < k) xs → All (λ f. k ≤ place f) ys → Distinct (xs ++ ys)
distinct-join k xs ys a b h l =
    distinct_append xs ys a b
    (all_map (λ f. place f < k) (λ f. Fresh (place f) ys)
    (λ f u. all_map (λ g. k ≤ place g) (λ g. place g ≡ place f → ⊥) (λ g v e. omega arith) ys l) xs h)

-- ---- the fields of a nest

-- the terms of a loop stand at different places
terms-distinct : (t o n : ℕ) → Distinct (term_fields t o n)
unfolding All Distinct term_fields
terms-distinct t o zero = tt
terms-distinct t o (suc n) = ((all-terms (λ f. place f ≡ place (term t o) → ⊥) t (suc o) n).1 (λ k l u e. omega arith), terms-distinct t (suc o) n)

-- the strides of an access stand at different places
strides-distinct : (a : Role) (d n : ℕ) → Distinct (stride_fields a d n)
unfolding All Distinct stride_fields
strides-distinct a d zero = tt
strides-distinct a d (suc n) =
    ((all-strides (λ f. place f ≡ place (stride a d) → ⊥) a (suc d) n).1 (λ k l u e. omega arith), strides-distinct a (suc d) n)

-- the numbers of an access stand at different places
access-distinct : (a : Role) (D : ℕ) → Distinct (access_fields a D)
unfolding All Distinct
access-distinct a D = ((all-strides (λ f. place f ≡ place (base a) → ⊥) a 0 D).1 (λ k l u e. omega arith), strides-distinct a 0 D)

-- the numbers of the loops stand at different places
loops-distinct : (t n : ℕ) → t + n ≤ 7 → Distinct (loop_fields t n)
unfolding All Distinct loop_fields
loops-distinct t zero h = tt
loops-distinct t (suc n) h =
    distinct_append (count t ∷ term_fields t (suc t) n) (loop_fields (suc t) n)
    ((all-terms (λ f. place f ≡ place (count t) → ⊥) t (suc t) n).1 (λ k l u e. omega arith), terms-distinct t (suc t) n)
    (loops-distinct (suc t) n (omega arith)) (
      others (count t) (λ k l u e. omega arith) (λ k o l v u e. omega arith),
      (all-terms (λ f. Fresh (place f) (loop_fields (suc t) n)) t (suc t) n).1
          (λ o l u. others (term t o) (λ k v w e. omega arith) (λ k p v w x e. omega arith)),
    )
  where
    others : (f : Field) → ((k : ℕ) → t < k → k < 7 → place (count k) ≡ place f → ⊥)
        → ((k o : ℕ) → t < k → k < o → o < 7 → place (term k o) ≡ place f → ⊥) → Fresh (place f) (loop_fields (suc t) n)
    others f c d =
        (all-loops (λ g. place g ≡ place f → ⊥) (suc t) n (suc t + n) refl).1
        (λ k l u. record { count = c k l (omega arith); terms = λ o v w. d k o l v (omega arith) })

-- the parts of accesses are the last three: at least 3
part-least : (a : Role) → 3 ≤ access_part a
part-least first = omega arith
part-least second = omega arith
part-least destination = omega arith

-- the parts of accesses are at most 5
part-most : (a : Role) → access_part a ≤ 5
part-most first = omega arith
part-most second = omega arith
part-most destination = omega arith

-- an access's places begin at a multiple of 64
access-places : (P : ℕ → Type 0) (a : Role) (D : ℕ) → ((i : ℕ) → i ≤ D → P (64 * access_part a + i)) → All (λ f. P (place f)) (access_fields a D)
access-places P a D k =
    (all-access (λ f. P (place f)) D a).1 (record { base = k 0 (omega arith); strides = λ d u. k (suc d) (omega arith) })

-- the numbers of all three accesses stand at different places
accesses-distinct : (D : ℕ) → D ≤ 7 → Distinct (access_fields first D ++ (access_fields second D ++ access_fields destination D))
accesses-distinct D h =
    distinct-join 256 (access_fields first D) (access_fields second D ++ access_fields destination D)
    (access-distinct first D)
    (distinct-join 320 (access_fields second D) (access_fields destination D) (access-distinct second D) (access-distinct destination D)
    (access-places (λ k. k < 320) second D (λ i u. omega arith))
    (access-places (λ k. 320 ≤ k) destination D (λ i u. omega arith)))
    (access-places (λ k. k < 256) first D (λ i u. omega arith))
    (all_append (λ f. 256 ≤ place f) (access_fields second D) (access_fields destination D)
    (access-places (λ k. 256 ≤ k) second D (λ i u. omega arith))
    (access-places (λ k. 256 ≤ k) destination D (λ i u. omega arith)))

-- the numbers behind the first four stand at different places
rest-distinct : (D : ℕ) → D ≤ 7 → Distinct (rest_fields D)
rest-distinct D h =
    distinct-join 192 (loop_fields 0 D) (access_fields first D ++ (access_fields second D ++ access_fields destination D))
    (loops-distinct 0 D (omega arith)) (accesses-distinct D h)
    ((all-loops (λ f. place f < 192) 0 D D (omega arith)).1 (λ t l u. record { count = omega arith; terms = λ o v w. omega arith }))
    (all_append (λ f. 192 ≤ place f) (access_fields first D) (access_fields second D ++ access_fields destination D)
    (access-places (λ k. 192 ≤ k) first D (λ i u. omega arith))
    (all_append (λ f. 192 ≤ place f) (access_fields second D) (access_fields destination D)
    (access-places (λ k. 192 ≤ k) second D (λ i u. omega arith))
    (access-places (λ k. 192 ≤ k) destination D (λ i u. omega arith))))

-- what holds at the places of all numbers behind the first four
rest-places : (P : ℕ → Type 0) (D : ℕ) → ((t : ℕ) → t < D → P (place (count t))) → ((t o : ℕ) → t < o → o < D → P (place (term t o)))
    → ((a : Role) (i : ℕ) → i ≤ D → P (64 * access_part a + i)) → All (λ f. P (place f)) (rest_fields D)
rest-places P D c t a =
    (all_rest (λ f. P (place f)) D).1
    (record {
      loops = λ k u. record { count = c k u; terms = λ o v w. t k o v w };
      accesses = λ r. record { base = a r 0 (omega arith); strides = λ d u. a r (suc d) (omega arith) };
    })

-- no two numbers of a nest stand at one place
pub fields-distinct : (D : ℕ) → D ≤ 7 → Distinct (fields_of D)
unfolding All Distinct
fields-distinct D h =
    distinct-join 4 head_fields (rest_fields D) head (rest-distinct D h) low
    (rest-places (λ k. 4 ≤ k) D (λ t u. omega arith) (λ t o u v. omega arith) (λ a i u. omega (arith, part-least a)))
  where
    head : Distinct head_fields
    head = (
      (λ e. omega arith, (λ e. omega arith, (λ e. omega arith, tt))),
      ((λ e. omega arith, (λ e. omega arith, tt)), ((λ e. omega arith, tt), (tt, tt))),
    )

    low : All (λ f. place f < 4) head_fields
    low = (omega arith, (omega arith, (omega arith, (omega arith, tt))))

-- an access has eight places
access-fits : (a : Role) (i : ℕ) → i < 8 → i < get_or sizes (access_part a) 0
access-fits first i h = h
access-fits second i h = h
access-fits destination i h = h

-- every number of a nest has a place
pub fields-placed : (D : ℕ) → D ≤ 7 → All HasPlace (fields_of D)
unfolding All
fields-placed D h = (omega arith, (omega arith, (omega arith, (omega arith, rest))))
  where
    rest : All HasPlace (rest_fields D)
    rest =
        (all_rest HasPlace D).1
        (record {
          loops = λ t u. record { count = omega arith; terms = λ o v w. omega arith };
          accesses = λ a. record { base = access-fits a 0 (omega arith); strides = λ d u. access-fits a (suc d) (omega arith) };
        })

-- ---- places of no number

-- the first four stand at none of the places behind them
head-fresh : (k : ℕ) → 4 ≤ k → Fresh k head_fields
unfolding All
head-fresh k h = (λ e. omega arith, (λ e. omega arith, (λ e. omega arith, (λ e. omega arith, tt))))

-- a place behind the first four at which none of the others stands
fields-fresh : (D k : ℕ) → 4 ≤ k → Fresh k (rest_fields D) → Fresh k (fields_of D)
fields-fresh D k h r = all_append (λ f. place f ≡ k → ⊥) head_fields (rest_fields D) (head-fresh k h) r

-- no field stands at the place of the count of a loop that is not there
pub count-fresh : (D t : ℕ) → D ≤ t → t < 7 → Fresh (place (count t)) (fields_of D)
count-fresh D t h l =
    fields-fresh D (place (count t)) (omega arith)
    (rest-places (λ k. k ≡ place (count t) → ⊥) D (λ k u e. omega arith) (λ k o u v e. omega arith) (λ a i u e. omega (arith, part-least a)))

-- no field stands at the place of a term for a loop that is not outside, or not there
pub term_fresh : (D t o : ℕ) → D ≤ 7 → t < 7 → o < 7 → (o ≤ t) ⊎ (D ≤ o) → Fresh (place (term t o)) (fields_of D)
term_fresh D t o h k l q =
    fields-fresh D (place (term t o)) (omega arith)
    (rest-places (λ k. k ≡ place (term t o) → ⊥) D (λ k u e. omega arith) (λ i p u v e. other q i p u v e) (λ a i u e. omega (arith, part-least a)))
  where
    other : (o ≤ t) ⊎ (D ≤ o) → (i p : ℕ) → i < p → p < D → place (term i p) ≡ place (term t o) → ⊥
    other (inl x) i p u v e = omega arith
    other (inr x) i p u v e = omega arith

-- no field stands at the place of the stride for a loop that is not there
pub stride-fresh : (a : Role) (D d : ℕ) → D ≤ d → d < 7 → Fresh (place (stride a d)) (fields_of D)
stride-fresh a D d h l =
    fields-fresh D (place (stride a d)) (omega (arith, part-least a))
    (rest-places (λ k. k ≡ place (stride a d) → ⊥) D (λ k u e. omega (arith, part-least a)) (λ k o u v e. omega (arith, part-least a)) (λ b i u e. omega arith))

-- the number of loops stands at none of the places behind it
pub loops-fresh : (D : ℕ) → Fresh (place loops) (coupled ∷ operation ∷ rest_fields D)
unfolding All
loops-fresh D = (
  λ e. omega arith,
  (
    λ e. omega arith,
    rest-places (λ k. k ≡ place loops → ⊥) D (λ k u e. omega arith) (λ k o u v e. omega arith) (λ a i u e. omega (arith, part-least a)),
  ),
)
