-- The pattern that the dimensions and modifiers of a nest's stream come to is the nest's.
--
--   filled_is          an array that holds a list in front
--   dimensions-long    as many dimensions as there are loops
--   TidyAccess, tidy-access   an access of an accepted nest
--   pattern-same       the pattern
use Prim.Native.Nat.{ℕ, zero, suc, ◌+◌, ◌-◌, ◌≤◌, ◌<◌}
use Rattle.std.specs.Prelude.{◌≡◌, List, map, length, get_or, replicate}
use Rattle.std.proofs.Math.Path.{refl, ap}
use Rattle.std.proofs.Common.{sym, ◌∙◌, length-append, ext_get_or}
use native.Mathlib.Omega.{arith}
use Rattle.std.proofs.Math.Decide.{dec_lt}
use Rattle.std.proofs.lemmas.List.{length-map, length-replicate}
use Rattle.std.proofs.Math.ListN.{get_or-append}
use Rattle.codec.specs.declared.header.Kind.{Kind}
use Rattle.codec.specs.declared.operation.Dimension.{Dimension}
use Rattle.engine.specs.Addresses.{no_bytes, no_elements}
use Rattle.engine.specs.Registers.{no_modifier}
use Rattle.engine.specs.Members.{get_d_past}
use Rattle.engine.specs.GoodLaws.{all_same}
use Rattle.engine.specs.Given.{filled, pattern_of}
use Rattle.translator.specs.Fields.{Role, first, second, destination, access_of}
use Rattle.translator.specs.Nests.{coupling_of}
use Rattle.translator.specs.NestSheets.{modifiers_of, dimension_of, dimensions_from, stream_of, pattern_for}
use Rattle.translator.specs.Acceptance.{AccessInRange, Accepted}
use Rattle.translator.specs.declared.nest.Access.{Access}
use Rattle.translator.specs.declared.nest.Nest.{Nest}

-- an array of seven that holds a list in front, and nothing behind
filled_is : {A : Type 0} (z : A) (xs ys : List A) (n : ℕ) → length xs ≡ n → n ≤ 7 → length ys ≡ 7 → ((k : ℕ) → k < n → get_or xs k z ≡ get_or ys k z)
    → ((k : ℕ) → n ≤ k → get_or ys k z ≡ z) → filled 7 z xs ≡ ys
filled_is z xs ys n e h l front behind =
    ext_get_or z (filled 7 z xs) ys
    (omega (arith, length-append xs (replicate (7 - length xs) z), length-replicate (7 - length xs) z))
    (λ k b. go k (dec_lt k n))
  where
    go : (k : ℕ) → Dec (k < n) → get_or (filled 7 z xs) k z ≡ get_or ys k z
    go k (yes q) = get_or-append xs (replicate (7 - length xs) z) z k (omega arith) ∙ front k q
    go k (no q) = get_d_past z xs (replicate (7 - length xs) z) k (omega arith) ∙ all_same (7 - length xs) (k - length xs) z ∙ sym (behind k (omega arith))

module _ (m : Nest) (i : ℕ) (a : Access) where
  -- as many dimensions as there are loops
  pub dimensions-long : (d n : ℕ) → length (dimensions_from m i a d n) ≡ n
  unfolding dimensions_from
  dimensions-long d zero = refl
  dimensions-long d (suc n) = ap suc (dimensions-long (suc d) n)

  -- one field of each
  dimensions-at : {A : Type 0} (z : A) (f : Dimension → A) (d n k : ℕ) → k < n → get_or (map f (dimensions_from m i a d n)) k z ≡ f (dimension_of m i a (d + k))
  unfolding dimensions_from
  dimensions-at z f d zero k h = absurd (omega arith)
  dimensions-at z f d (suc n) zero h = let e : d ≡ d + 0 = omega arith in ap (λ j. f (dimension_of m i a j)) e
  dimensions-at z f d (suc n) (suc k) h =
      let e : suc d + k ≡ d + suc k = omega arith in
      dimensions-at z f (suc d) n k (omega arith) ∙ ap (λ j. f (dimension_of m i a j)) e

  -- a field that stands in an array of the nest's
  field_is : {A : Type 0} (z : A) (f : Dimension → A) (ys : List A) → m.loops ≤ 7 → length ys ≡ 7 → ((k : ℕ) → f (dimension_of m i a k) ≡ get_or ys k z)
      → ((k : ℕ) → m.loops ≤ k → get_or ys k z ≡ z) → filled 7 z (map f (dimensions_from m i a 0 m.loops)) ≡ ys
  field_is z f ys h l same behind =
      let e : length (map f (dimensions_from m i a 0 m.loops)) ≡ m.loops = length-map (dimensions_from m i a 0 m.loops) f ∙ dimensions-long 0 m.loops in
      filled_is z (map f (dimensions_from m i a 0 m.loops)) ys m.loops e h l
      (λ k b. let q : 0 + k ≡ k = omega arith in dimensions-at z f 0 m.loops k b ∙ ap (λ j. f (dimension_of m i a j)) q ∙ same k) behind

-- an access in its ranges, 0 in the places that no loop uses
pub record TidyAccess (loops : ℕ) (a : Access) : Type 0 where
  pub range : AccessInRange loops a
  pub long : length a.strides ≡ 7
  pub behind : (d : ℕ) → loops ≤ d → get_or a.strides d no_elements ≡ no_elements

-- such are those of an accepted nest
pub tidy-access : (m : Nest) → Accepted m → (a : Role) → TidyAccess m.loops (access_of a m)
tidy-access m ac first = record { range = ac.range.first; long = ac.tidy.first-long; behind = ac.tidy.first }
tidy-access m ac second = record { range = ac.range.second; long = ac.tidy.second-long; behind = ac.tidy.second }
tidy-access m ac destination = record { range = ac.range.destination; long = ac.tidy.destination-long; behind = ac.tidy.destination }

-- the pattern that the operations of a stream come to
pub pattern-same : (m : Nest) → Accepted m → (i : ℕ) (kind : Kind) (a : Access) → TidyAccess m.loops a → pattern_of (stream_of m i kind a) ≡ pattern_for m a
pattern-same m ac i kind a t =
    let h : m.loops ≤ 7 = ac.range.loops-most in
    λ j. record {
      shape = record {
        dims = dimensions-long m i a 0 m.loops j;
        sizes = field_is m i a 0 (λ d. d.size) m.counts h ac.tidy.counts-long (λ k. refl) ac.tidy.counts j;
        mods = length (modifiers_of m);
        modifiers = filled 8 no_modifier (modifiers_of m);
        coupling = coupling_of m.coupled;
      };
      base = a.base;
      offsets = field_is m i a no_bytes (λ d. d.offset) (replicate 7 no_bytes) h refl (λ k. sym (all_same 7 k no_bytes)) (λ k b. all_same 7 k no_bytes) j;
      strides = field_is m i a no_elements (λ d. d.stride) a.strides h t.long (λ k. refl) t.behind j;
    }
