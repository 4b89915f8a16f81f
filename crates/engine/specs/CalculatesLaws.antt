-- A calculation that is not refused, in plain terms: its checks against the conditions of Allowed.
--
--   inside-lies, outside-lie                 elements inside memory
--   source_clear, destination-clear, store-clear   a source, a destination, a destination that is open
--   some-clear                               18
--   calculates-passed, passed-calculates, calculates-clear   a calculation
use Rattle.std.specs.Prelude.{◌≡◌, ℕ, zero, suc, ◌+◌, ◌≤◌, Bool, true, false, not, ◌&&◌, ◌↔◌, List, [], ◌∷◌, take, ℤ, pos, negsuc, ◌==◌, nat_le, refl, Ok}
use Rattle.std.proofs.Common.{sym, ◌∙◌, ap, arith, ltb-false, le-ltb, eqb-true, eq-eqb, ne_eqb}
use Rattle.std.proofs.lemmas.Bool.{eqb-false, not-false}
use Rattle.codec.specs.TestLaws.{never, never_true, or-false, and-false, both, and_right, and_both}
use Rattle.codec.specs.declared.header.Kind.{Kind}
use Rattle.codec.specs.declared.header.Kind.TheVariants.{Load, Store}
use Rattle.codec.specs.declared.operation.Fold.TheVariants.{Sum, Smallest, Largest, FirstLargest}
use Rattle.codec.specs.declared.operation.Task.{Task}
use Rattle.codec.specs.declared.operation.Task.TheVariants.{Each, All}
use Rattle.codec.specs.declared.operation.Calculation.{Calculation}
use Rattle.engine.specs.Addresses.{address, inside}
use Rattle.engine.specs.Lanes.{outcome_count, wants_lanes}
use Rattle.engine.specs.Registers.{is_configuring, is_open, is_finished, is_load, open_load, open_store, next_chunk}
use Rattle.engine.specs.Calculate.{World, all_inside, outside, refusal_of}
use Rattle.engine.specs.CalculationLaws.{ChecksPassed, checked, not-refused}
use Rattle.engine.specs.Allowed.{Lies, AllLie, OpenLie, Source, Destination, SomeLanes, CalculatesOn, Calculates}
use Rattle.engine.specs.declared.stream.Pattern.{Pattern}
use Rattle.engine.specs.declared.register.State.{State}
use Rattle.engine.specs.declared.register.State.TheVariants.{Plain, Configuring, Open, Finished}
use Rattle.engine.specs.declared.register.Register.{Register}
use Rattle.engine.specs.AllowedLaws.{neither, test_plain, nonneg-plain, is-open}

-- an element inside memory
pub inside-lies : (len width : ℕ) (a : ℤ) → (inside len width a ≡ true) ↔ Lies len width a
inside-lies len width (pos n) = (
  λ e. record { least = (nonneg-plain (pos n)).0 refl; most = record { le = (test_plain (nat_le (n + width) len)).0 e } },
  λ h. (test_plain (nat_le (n + width) len)).1 h.most.le,
)
inside-lies len width (negsuc n) = (λ e. never e, λ h. absurd h.least.le)

-- every one, tested
all-inside : (p : Pattern) (width len : ℕ) (vs : List (List ℕ)) → (all_inside p width len vs ≡ true) ↔ AllLie len width p vs
unfolding all_inside
all-inside p width len [] = (λ e k h. absurd (omega arith), λ h. refl)
all-inside p width len (v ∷ vs) = (there (all-inside p width len vs).0, back (all-inside p width len vs).1)
  where
    there : (all_inside p width len vs ≡ true → AllLie len width p vs) → all_inside p width len (v ∷ vs) ≡ true → AllLie len width p (v ∷ vs)
    there ih e zero h = (inside-lies len width (address p width v)).0 (both (inside len width (address p width v)) (all_inside p width len vs) e).0
    there ih e (suc k) h = ih (both (inside len width (address p width v)) (all_inside p width len vs) e).1 k (omega arith)

    back : (AllLie len width p vs → all_inside p width len vs ≡ true) → AllLie len width p (v ∷ vs) → all_inside p width len (v ∷ vs) ≡ true
    back ih h = and_both _ _ ((inside-lies len width (address p width v)).1 (h 0 (omega arith))) (ih (λ k q. h (suc k) (omega arith)))

-- those that an open stream would move
pub outside-lie : (len : ℕ) (r : Register) (vs : List (List ℕ)) → (outside len r vs ≡ false) ↔ OpenLie len r vs
outside-lie len r vs = (there, λ h. back (is_open r.state) refl h)
  where
    there : outside len r vs ≡ false → OpenLie len r vs
    there e o =
        (all-inside r.pattern r.width len vs).0
        (not-false _ (and-false (is_open r.state) (not (all_inside r.pattern r.width len vs)) e ((is-open r.state).1 o)))

    back : (b : Bool) → is_open r.state ≡ b → OpenLie len r vs → (b && not (all_inside r.pattern r.width len vs)) ≡ false
    back true e h = ap not ((all-inside r.pattern r.width len vs).1 (h ((is-open r.state).0 e)))
    back false e h = refl

-- a source
pub source_clear : (r : Register) → ((is_configuring r.state ≡ false) × (is_finished r.state ≡ false) × (open_store r ≡ false)) ↔ Source r
source_clear r = (λ h. there r.state r.kind refl refl h.0 h.1 h.2, back)
  where
    there : (k : State) (l : Kind) → r.state ≡ k → r.kind ≡ l → is_configuring k ≡ false → is_finished k ≡ false → (is_open k && not (is_load l)) ≡ false → Source r
    there Plain l p q a b c = Source.plain p
    there Configuring l p q a b c = never_true a
    there Open Load p q a b c = Source.load p q
    there Open Store p q a b c = never_true c
    there Finished l p q a b c = never_true b

    back : Source r → (is_configuring r.state ≡ false) × (is_finished r.state ≡ false) × (open_store r ≡ false)
    back (Source.plain p) = (ap is_configuring p, ap is_finished p, ap (λ k. is_open k && not (is_load r.kind)) p)
    back (Source.load p q) = (ap is_configuring p, ap is_finished p, λ i. is_open (p i) && not (is_load (q i)))

-- a destination
pub destination-clear : (r : Register) → ((is_configuring r.state ≡ false) × (is_finished r.state ≡ false) × (open_load r ≡ false)) ↔ Destination r
destination-clear r = (λ h. there r.state r.kind refl refl h.0 h.1 h.2, back)
  where
    there : (k : State) (l : Kind) → r.state ≡ k → r.kind ≡ l → is_configuring k ≡ false → is_finished k ≡ false → (is_open k && is_load l) ≡ false → Destination r
    there Plain l p q a b c = Destination.plain p
    there Configuring l p q a b c = never_true a
    there Open Load p q a b c = never_true c
    there Open Store p q a b c = Destination.store p q
    there Finished l p q a b c = never_true b

    back : Destination r → (is_configuring r.state ≡ false) × (is_finished r.state ≡ false) × (open_load r ≡ false)
    back (Destination.plain p) = (ap is_configuring p, ap is_finished p, ap (λ k. is_open k && is_load r.kind) p)
    back (Destination.store p q) = (ap is_configuring p, ap is_finished p, λ i. is_open (p i) && is_load (q i))

-- a check of a store stream: one that is open
pub store-clear : (d : Register) (b : Bool) → Destination d → ((open_store d && b) ≡ false) ↔ (d.state ≡ Open → b ≡ false)
store-clear d b (Destination.plain p) = (
  λ e o. absurd (let z : ◌≡◌ {A = State} Plain Open = sym p ∙ o in let y : ◌≡◌ {A = ℕ} 0 1 = cc in omega arith),
  λ h. ap (λ k. (is_open k && not (is_load d.kind)) && b) p,
)
store-clear d b (Destination.store p q) =
    let t : open_store d ≡ true = λ i. is_open (p i) && not (is_load (q i)) in
    (λ e o. and-false (open_store d) b e t, λ h. and_right (open_store d) b (h p))

-- lanes where there are some
no-lanes : (n : ℕ) → ((n == 0) ≡ false) ↔ (1 ≤ n)
no-lanes n = (λ e. let k : n ≡ 0 → ⊥ = eqb-false n 0 e in omega arith, λ h. ne_eqb n 0 (λ e. omega arith))

-- what wants lanes has some
pub some-clear : (t : Task) (n : ℕ) → ((wants_lanes t && n == 0) ≡ false) ↔ SomeLanes t n
some-clear (Each action) n = (λ e. tt, λ h. refl)
some-clear (All Sum) n = (λ e. tt, λ h. refl)
some-clear (All Smallest) n = no-lanes n
some-clear (All Largest) n = no-lanes n
some-clear (All FirstLargest) n = no-lanes n

module _ (t : Task) (vl len n m : ℕ) (a b d : Register) where
  -- a calculation that passes its checks
  pub calculates-passed : ChecksPassed t vl len n m a b d → CalculatesOn t vl len n m a b d
  calculates-passed p =
      let s : Destination d = (destination-clear d).0 (p.destination-state, p.destination-ended, p.destination-kind) in
      let w = or-false (not (a.width == b.width)) _ p.widths in
      let l = or-false (not (n == m)) _ p.counts in
      record {
        first = (source_clear a).0 (p.first-state, p.first_ended, p.first_kind);
        second = (source_clear b).0 (p.second-state, p.second_ended, p.second-kind);
        destination = s;
        widths = eqb-true _ _ (not-false _ w.0);
        width = λ o. eqb-true _ _ (not-false _ ((store-clear d _ s).0 w.1 o));
        lanes = eqb-true _ _ (not-false _ l.0);
        room = λ o. ltb-false _ _ ((store-clear d _ s).0 l.1 o);
        some = (some-clear t n).0 p.some;
        first-inside = (outside-lie len a (next_chunk vl a)).0 p.first-inside;
        second-inside = (outside-lie len b (next_chunk vl b)).0 p.second-inside;
        destination-inside = (outside-lie len d (take (outcome_count t n) (next_chunk vl d))).0 p.destination-inside;
      }

  -- and the reverse
  pub passed-calculates : CalculatesOn t vl len n m a b d → ChecksPassed t vl len n m a b d
  passed-calculates c =
      let f = (source_clear a).1 c.first in
      let g = (source_clear b).1 c.second in
      let s = (destination-clear d).1 c.destination in
      record {
        first-state = f.0;
        first_ended = f.1;
        first_kind = f.2;
        second-state = g.0;
        second_ended = g.1;
        second-kind = g.2;
        destination-state = s.0;
        destination-ended = s.1;
        destination-kind = s.2;
        widths = neither _ _ (ap not (eq-eqb _ _ c.widths)) ((store-clear d _ c.destination).1 (λ o. ap not (eq-eqb _ _ (c.width o))));
        counts = neither _ _ (ap not (eq-eqb _ _ c.lanes)) ((store-clear d _ c.destination).1 (λ o. le-ltb _ _ (c.room o)));
        some = (some-clear t n).1 c.some;
        first-inside = (outside-lie len a (next_chunk vl a)).1 c.first-inside;
        second-inside = (outside-lie len b (next_chunk vl b)).1 c.second-inside;
        destination-inside = (outside-lie len d (take (outcome_count t n) (next_chunk vl d))).1 c.destination-inside;
      }

-- not refused exactly if the plain conditions hold
pub calculates-clear : (vl : ℕ) (c : Calculation) (w : World) → (refusal_of vl c w ≡ Ok tt) ↔ Calculates vl c w
calculates-clear vl c w =
    (λ e. calculates-passed _ _ _ _ _ _ _ _ (checked vl c w e), λ h. not-refused vl c w (passed-calculates _ _ _ _ _ _ _ _ h))
