-- The first lane outside memory.
--
--   first_lane, only-lane          of elements that do not all lie inside: the first outside, and no other is
--   first-outside, outside-first   the same of what an open stream would move
use Rattle.std.specs.Prelude.{◌≡◌, ℕ, zero, suc, ◌<◌, Bool, true, false, not, ◌&&◌, List, [], ◌∷◌, length, slice_index_or}
use Rattle.std.proofs.Math.Path.{refl}
use Rattle.std.proofs.Common.{sym, ◌∙◌, ap}
use native.Mathlib.Omega.{arith}
use Rattle.std.proofs.lemmas.Bool.{not-true}
use Rattle.codec.specs.TestLaws.{never, never_true, both}
use Rattle.engine.specs.Addresses.{address, inside}
use Rattle.engine.specs.Registers.{is_open}
use Rattle.engine.specs.Calculate.{all_inside, lane_outside, outside}
use Rattle.engine.specs.AllowedLaws.{is-open}
use Rattle.engine.specs.CalculatesLaws.{inside-lies}
use Rattle.engine.specs.Reasons.{FirstOutside}
use Rattle.engine.specs.declared.stream.Pattern.{Pattern}
use Rattle.engine.specs.declared.register.Register.{Register}

-- ---- elements of a pattern

module _ (p : Pattern) (width len : ℕ) where
  -- whether element k lies inside
  abbrev here : List (List ℕ) → ℕ → Bool
  here vs k = inside len width (address p width (slice_index_or vs k []))

  -- the lane outside, and that it is the first
  abbrev IsFirst : List (List ℕ) → Type 0
  IsFirst vs =
      (lane_outside p width len vs < length vs)
      × (here vs (lane_outside p width len vs) ≡ false)
      × ((k : ℕ) → k < lane_outside p width len vs → here vs k ≡ true)

  -- an element in front
  one_more : (v : List ℕ) (vs : List (List ℕ)) (b : Bool) → inside len width (address p width v) ≡ b
      → (all_inside p width len vs ≡ false → IsFirst vs) → all_inside p width len (v ∷ vs) ≡ false → IsFirst (v ∷ vs)
  unfolding all_inside lane_outside
  one_more v vs true f ih e =
      let h = ih (rw f at e) in
      rw f (omega (arith, h.0), h.1, earlier h.2)
    where
      earlier : ((j : ℕ) → j < lane_outside p width len vs → here vs j ≡ true) → (k : ℕ) → k < suc (lane_outside p width len vs) → here (v ∷ vs) k ≡ true
      earlier g zero q = f
      earlier g (suc k) q = g k (omega arith)
  one_more v vs false f ih e = rw f (omega arith, f, λ k q. absurd (omega arith))

  -- they do not all lie inside: the one of lane `lane_outside` lies outside, those before it inside
  pub first_lane : (vs : List (List ℕ)) → all_inside p width len vs ≡ false → IsFirst vs
  unfolding all_inside lane_outside
  first_lane [] e = never_true e
  first_lane (v ∷ vs) e = one_more v vs (inside len width (address p width v)) refl (first_lane vs) e

  -- no other lane is so
  pub only-lane : (vs : List (List ℕ)) (k : ℕ) → k < length vs → here vs k ≡ false → ((j : ℕ) → j < k → here vs j ≡ true)
      → (lane_outside p width len vs ≡ k) × (all_inside p width len vs ≡ false)
  unfolding all_inside lane_outside
  only-lane [] k h e f = absurd (omega arith)
  only-lane (v ∷ vs) zero h e f = rw e (refl, refl)
  only-lane (v ∷ vs) (suc k) h e f =
      let z = only-lane vs k (omega arith) e (λ j q. f (suc j) (omega arith)) in
      rw (f 0 (omega arith)) (ap suc z.0, z.1)

-- ---- an open stream

-- one of them lies outside: the first lane that does
pub first-outside : (len : ℕ) (r : Register) (vs : List (List ℕ)) → outside len r vs ≡ true
    → FirstOutside len r vs (lane_outside r.pattern r.width len vs)
first-outside len r vs e =
    let h = both (is_open r.state) (not (all_inside r.pattern r.width len vs)) e in
    let f = first_lane r.pattern r.width len vs (not-true _ h.1) in
    record {
      opened = (is-open r.state).0 h.0;
      moves = f.0;
      lies = λ l. never (sym f.1 ∙ (inside-lies len r.width _).1 l);
      before = λ k q. (inside-lies len r.width _).0 (f.2 k q);
    }

-- a lane that is the first outside is that one
pub outside-first : (len : ℕ) (r : Register) (vs : List (List ℕ)) (lane : ℕ) → FirstOutside len r vs lane
    → (lane_outside r.pattern r.width len vs ≡ lane) × (outside len r vs ≡ true)
outside-first len r vs lane f =
    let i = inside len r.width (address r.pattern r.width (slice_index_or vs lane [])) in
    let h = only-lane r.pattern r.width len vs lane f.moves (fails i refl) (λ j q. (inside-lies len r.width _).1 (f.before j q)) in
    (h.0, λ k. is_open (f.opened k) && not (h.1 k))
  where
    fails : (b : Bool) → inside len r.width (address r.pattern r.width (slice_index_or vs lane [])) ≡ b → inside len r.width (address r.pattern r.width (slice_index_or vs lane [])) ≡ false
    fails true e = absurd (f.lies ((inside-lies len r.width _).0 e))
    fails false e = e
