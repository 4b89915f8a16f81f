-- What is refused, in plain terms: the first of the engine's ordered checks that applies is the first thing wanted that is lacking.
--
--   wanted, wanted-inside, none-wanted       one check, and what is wanted; 14 of an operand; no check
--   open-refused .. end_refused, operation-refused   each operation that configures, and any
--   source-refused, destination-refused      a source, a destination of a calculation
--   calculation-refused-on, calculation-refused   a calculation
--   untold-plain, flag-refused, end-of-stream-refused   the two questions
use Rattle.std.specs.Prelude.{◌≡◌, ℕ, ◌+◌, ◌<◌, ◌≤◌, Bool, true, false, not, ◌&&◌, ◌||◌, ◌⊎◌, ◌↔◌, List, [], ◌∷◌, ◌++◌, length, ◌==◌, ◌≢◌, nat_le, nat_lt, refl, Ok, Err}
use Rattle.std.proofs.Common.{sym, ◌∙◌, ap, subst, arith, leb-false, ltb-false, le-ltb, eqb-true, eq-eqb}
use Rattle.std.proofs.lemmas.Bool.{lt-leb, not-false}
use Rattle.codec.specs.TestLaws.{never, never_true, or-false, and-false}
use Rattle.codec.specs.Refusals.{number_of, lane_of, operand_of, role_number, numbered, one-role, one_number, is-numbered}
use Rattle.codec.specs.declared.header.Kind.{Kind}
use Rattle.codec.specs.declared.header.Kind.TheVariants.{Load, Store}
use Rattle.codec.specs.declared.operation.Operation.{Operation}
use Rattle.codec.specs.declared.operation.Operation.TheVariants as op
use Rattle.codec.specs.declared.operation.Task.{Task}
use Rattle.codec.specs.declared.operation.Calculation.{Calculation}
use Rattle.codec.specs.declared.refusal.Role.{Role}
use Rattle.codec.specs.declared.refusal.Role.TheVariants as role
use Rattle.codec.specs.declared.refusal.Refusal.{Refusal}
use Rattle.codec.specs.declared.refusal.Refusal.TheVariants.{OutOfRange, WrongState, TooMany, Misplaced, LowHigh, Product, WrongKind, StreamEnded, Widths, LaneCounts, NoLanes, Outside}
use Rattle.engine.specs.Rules.{highs_of, product}
use Rattle.engine.specs.Checks.{Check, ◌if◌, first_of, Why}
use Rattle.engine.specs.Registers.{is_configuring, is_open, is_finished, is_load, open_store, shape_of, next_chunk, reg}
use Rattle.engine.specs.Configure.{open_checks, dimension_checks, modifier_checks, end_checks, register_of, why_not}
use Rattle.engine.specs.Questions.{unless, ask_flag, ask_end}
use Rattle.engine.specs.Lanes.{outcome_count}
use Rattle.engine.specs.Calculate.{World, lane_outside, outside, source_checks, destination_checks, inside_check, checks_on, refusal_of}
use Rattle.engine.specs.GoodLaws.{next, more}
use Rattle.engine.specs.CalculationLaws.{nothing}
use Rattle.engine.specs.Allowed.{Opens, OpenLie, Source, Destination}
use Rattle.engine.specs.AllowedLaws.{neither, is-configuring, opens-clear, low-high, covers-clear, some-dimension, stream-plain}
use Rattle.engine.specs.CalculatesLaws.{outside-lie, source_clear, destination-clear, store-clear, some-clear}
use Rattle.engine.specs.OutsideLaws.{first-outside, outside-first}
use Rattle.engine.specs.Reasons.{Wanted, OpenRefused, DimensionRefused, ModifierRefused, EndRefused, OperationRefused, AsSource, AsDestination, FirstOutside, WantedInside, CalculationRefusedOn, CalculationRefused, FlagRefused, EndOfStreamRefused}
use Rattle.engine.specs.declared.register.State.{State}
use Rattle.engine.specs.declared.register.State.TheVariants.{Plain, Configuring, Open, Finished}
use Rattle.engine.specs.declared.register.Register.{Register}
use Rattle.engine.specs.declared.register.Machine.{Machine}

-- ---- one check

-- a check that applies gives its refusal
gives : (y : Refusal) (cs : List Check) (x : Refusal) → (first_of (y if true ∷ cs) ≡ Err x) ↔ (x ≡ y)
unfolding first_of
gives y cs x = (λ e. let z : y ≡ x = cc in sym z, λ e. ap Err (sym e))

-- any but 14 is the one that has its number
applies : (y : Refusal) (cs : List Check) (x : Refusal) → (number_of y == 14) ≡ false → (first_of (y if true ∷ cs) ≡ Err x) ↔ (number_of x ≡ number_of y)
applies y cs x f = (
  λ e. ap number_of ((gives y cs x).0 e),
  λ e. (gives y cs x).1 (is-numbered x (number_of y) e f ∙ sym (is-numbered y (number_of y) refl f)),
)

-- one that does not leaves it to those behind it
passes : (y : Refusal) (cs : List Check) → first_of (y if false ∷ cs) ≡ first_of cs
unfolding first_of
passes y cs = refl

-- what is wanted is lacking where the check applies
lacking-back : {P Later : Type 0} (y : Refusal) (cs : List Check) (x : Refusal) → (number_of y == 14) ≡ false → ¬ P → Wanted x (number_of y) P Later → first_of (y if true ∷ cs) ≡ Err x
lacking-back y cs x f n (Wanted.lacking e m) = (applies y cs x f).1 e
lacking-back y cs x f n (Wanted.later p l) = absurd (n p)

-- where it does not, what is wanted later decides
later-back : {P Later : Type 0} (y : Refusal) (cs : List Check) (x : Refusal) → P → (P → (first_of cs ≡ Err x) ↔ Later) → Wanted x (number_of y) P Later
    → first_of (y if false ∷ cs) ≡ Err x
later-back y cs x p l (Wanted.lacking e m) = absurd (m p)
later-back y cs x p l (Wanted.later q k) = passes y cs ∙ (l q).1 k

-- a check and those behind it: what it tests is wanted with its number, then what they test, which may take it for granted
pub wanted : {P Later : Type 0} (y : Refusal) (b : Bool) (cs : List Check) (x : Refusal) → (number_of y == 14) ≡ false → (b ≡ false) ↔ P → (P → (first_of cs ≡ Err x) ↔ Later)
    → (first_of (y if b ∷ cs) ≡ Err x) ↔ Wanted x (number_of y) P Later
wanted y true cs x f t l = (λ e. Wanted.lacking ((applies y cs x f).0 e) (λ p. never_true (t.1 p)), lacking-back y cs x f (λ p. never_true (t.1 p)))
wanted y false cs x f t l = (λ e. Wanted.later (t.0 refl) ((l (t.0 refl)).0 (sym (passes y cs) ∙ e)), later-back y cs x (t.0 refl) l)

-- 14 of an operand, and the checks behind it
module _ {Later : Type 0} (role : Role) (len : ℕ) (r : Register) (vs : List (List ℕ)) (cs : List Check) (x : Refusal)
    (l : OpenLie len r vs → (first_of cs ≡ Err x) ↔ Later) where
  abbrev lane : ℕ
  lane = lane_outside r.pattern r.width len vs

  -- what is wanted of this operand
  abbrev Inside : Type 0
  Inside = WantedInside x (role_number role) len r vs Later

  lacks : outside len r vs ≡ true → x ≡ Outside lane role → Inside
  lacks e f = WantedInside.lacking (ap number_of f) (ap operand_of f) (subst (FirstOutside len r vs) (sym (ap lane_of f)) (first-outside len r vs e))

  -- the refusal with these three numbers
  named : number_of x ≡ 14 → operand_of x ≡ role_number role → lane_of x ≡ lane → x ≡ Outside lane role
  named e f g = sym (one_number x) ∙ (λ i. numbered (e i) (g i) (f i)) ∙ ap (Outside lane) (one-role role)

  back-true : outside len r vs ≡ true → Inside → x ≡ Outside lane role
  back-true e (WantedInside.lacking f g h) = named f g (sym (outside-first len r vs (lane_of x) h).0)
  back-true e (WantedInside.later p k) = never_true (sym e ∙ (outside-lie len r vs).1 p)

  back-false : outside len r vs ≡ false → Inside → first_of (Outside lane role if false ∷ cs) ≡ Err x
  back-false e (WantedInside.lacking f g h) = never_true (sym (outside-first len r vs (lane_of x) h).1 ∙ e)
  back-false e (WantedInside.later p k) = passes (Outside _ role) cs ∙ (l p).1 k

  inside-by : (b : Bool) → outside len r vs ≡ b → (first_of (Outside lane role if b ∷ cs) ≡ Err x) ↔ Inside
  inside-by true e = (λ f. lacks e ((gives (Outside _ role) cs x).0 f), λ w. (gives (Outside _ role) cs x).1 (back-true e w))
  inside-by false e = (
    λ f. let p = (outside-lie len r vs).0 e in WantedInside.later p ((l p).0 (sym (passes (Outside _ role) cs) ∙ f)),
    back-false e,
  )

  pub wanted-inside : (first_of (inside_check role len r vs ∷ cs) ≡ Err x) ↔ WantedInside x (role_number role) len r vs Later
  wanted-inside = inside-by (outside len r vs) refl

-- no check refuses nothing
refused-nothing : (x : Refusal) → first_of [] ≢ Err x
unfolding first_of
refused-nothing x e = let z : ◌≡◌ {A = ℕ} 0 1 = cc in omega arith

-- no check: nothing is wanted
pub none-wanted : (x : Refusal) → (first_of [] ≡ Err x) ↔ ⊥
none-wanted x = (refused-nothing x, λ z. absurd z)

-- ---- tests that fail, in plain terms

-- less
below-test : (a b : ℕ) → (nat_le a b ≡ false) ↔ (b < a)
below-test a b = (leb-false a b, lt-leb a b)

-- at most
most-test : (a b : ℕ) → (nat_lt a b ≡ false) ↔ (b ≤ a)
most-test a b = (ltb-false a b, le-ltb a b)

-- the same number
same_test : (a b : ℕ) → (not (a == b) ≡ false) ↔ (a ≡ b)
same_test a b = (λ e. eqb-true a b (not-false (a == b) e), λ e. ap not (eq-eqb a b e))

-- neither of two
neither-test : {A B : Type 0} (a b : Bool) → (a ≡ false) ↔ A → (b ≡ false) ↔ B → ((a || b) ≡ false) ↔ (A × B)
neither-test a b f g = (λ e. let h = or-false a b e in (f.0 h.0, g.0 h.1), λ h. neither a b (f.1 h.0) (g.1 h.1))

-- being configured
configuring-test : (r : Register) → (not (is_configuring r.state) ≡ false) ↔ (r.state ≡ Configuring)
configuring-test r = (λ e. (is-configuring r.state).0 (not-false (is_configuring r.state) e), λ e. ap (λ k. not (is_configuring k)) e)

-- not being configured
unconfigured-test : (k : State) → (is_configuring k ≡ false) ↔ (¬ (k ≡ Configuring))
unconfigured-test k = (λ e p. never (sym e ∙ ap is_configuring p), back k)
  where
    back : (k : State) → ¬ (k ≡ Configuring) → is_configuring k ≡ false
    back Plain n = refl
    back Configuring n = absurd (n refl)
    back Open n = refl
    back Finished n = refl

-- not finished
unfinished-test : (k : State) → (is_finished k ≡ false) ↔ (¬ (k ≡ Finished))
unfinished-test k = (λ e p. never (sym e ∙ ap is_finished p), back k)
  where
    back : (k : State) → ¬ (k ≡ Finished) → is_finished k ≡ false
    back Plain n = refl
    back Configuring n = refl
    back Open n = refl
    back Finished n = absurd (n refl)

-- if open a load stream
load-test : (k : State) (l : Kind) → ((is_open k && not (is_load l)) ≡ false) ↔ (k ≡ Open → l ≡ Load)
load-test k l = (there k l, back k l)
  where
    there : (k : State) (l : Kind) → (is_open k && not (is_load l)) ≡ false → k ≡ Open → l ≡ Load
    there k Load e p = refl
    there k Store e p = never_true (and-false (is_open k) true e (ap is_open p))

    back : (k : State) (l : Kind) → (k ≡ Open → l ≡ Load) → (is_open k && not (is_load l)) ≡ false
    back Plain l h = refl
    back Configuring l h = refl
    back Open Load h = refl
    back Open Store h = never (ap is_load (h refl))
    back Finished l h = refl

-- if open a store stream
store-test : (k : State) (l : Kind) → ((is_open k && is_load l) ≡ false) ↔ (k ≡ Open → l ≡ Store)
store-test k l = (there k l, back k l)
  where
    there : (k : State) (l : Kind) → (is_open k && is_load l) ≡ false → k ≡ Open → l ≡ Store
    there k Load e p = never_true (and-false (is_open k) true e (ap is_open p))
    there k Store e p = refl

    back : (k : State) (l : Kind) → (k ≡ Open → l ≡ Store) → (is_open k && is_load l) ≡ false
    back Plain l h = refl
    back Configuring l h = refl
    back Open Load h = never_true (ap is_load (h refl))
    back Open Store h = refl
    back Finished l h = refl

-- a test that is made of an open destination alone
open-test : {P : Type 0} (d : Register) (b : Bool) → Destination d → (b ≡ false) ↔ P → ((open_store d && b) ≡ false) ↔ (d.state ≡ Open → P)
open-test d b s t = (λ e o. t.0 ((store-clear d b s).0 e o), λ h. (store-clear d b s).1 (λ o. t.1 (h o)))

-- ---- configuring

-- what open asks for
opens-test : (r : Register) → ((is_configuring r.state || is_open r.state) ≡ false) ↔ Opens r
opens-test r = (λ e. (opens-clear r).0 (more _ _ [] e nothing), λ o. (next _ _ _ ((opens-clear r).1 o)).0)

-- open
pub open-refused : (r : Register) (x : Refusal) → (first_of (open_checks r) ≡ Err x) ↔ OpenRefused r x
open-refused r x = wanted WrongState _ [] x refl (opens-test r) (λ p. none-wanted x)

-- a dimension
pub dimension-refused : (r : Register) (x : Refusal) → (first_of (dimension_checks r) ≡ Err x) ↔ DimensionRefused r x
dimension-refused r x =
    wanted WrongState _ _ x refl (configuring-test r) (λ p. wanted TooMany _ [] x refl (below-test 7 (shape_of r).dims) (λ q. none-wanted x))

-- a modifier
pub modifier-refused : (target : ℕ) (r : Register) (x : Refusal) → (first_of (modifier_checks target r) ≡ Err x) ↔ ModifierRefused target r x
modifier-refused target r x =
    wanted WrongState _ _ x refl (configuring-test r)
    (λ p. wanted TooMany _ _ x refl (below-test 8 (shape_of r).mods)
    (λ q. wanted Misplaced _ [] x refl (below-test (shape_of r).dims (target + 1)) (λ k. none-wanted x)))

-- end
pub end_refused : (r : Register) (x : Refusal) → (first_of (end_checks r) ≡ Err x) ↔ EndRefused r x
end_refused r x =
    wanted WrongState _ _ x refl (configuring-test r)
    (λ p. wanted Misplaced _ _ x refl (neither-test _ _ (some-dimension (shape_of r).dims) (covers-clear (shape_of r) (shape_of r).coupling))
    (λ q. wanted LowHigh _ _ x refl (low-high (shape_of r))
    (λ k. wanted Product _ [] x refl (most-test 1048576 (product (highs_of (shape_of r)))) (λ j. none-wanted x))))

-- any operation that configures, on its register
pub operation-refused : (o : Operation) (m : Machine) (x : Refusal) → (why_not o m ≡ Err x) ↔ OperationRefused o (reg m (register_of o)) x
unfolding why_not
operation-refused (op.Open h base) m x = open-refused (reg m h.register) x
operation-refused (op.Dimension d) m x = dimension-refused (reg m d.register) x
operation-refused (op.Modifier d) m x = modifier-refused d.target (reg m d.register) x
operation-refused (op.End i) m x = end_refused (reg m i) x
operation-refused (op.Run i n) m x = none-wanted x

-- ---- calculating

-- a source, and the checks behind it
pub source-refused : {Later : Type 0} (r : Register) (cs : List Check) (x : Refusal) → (Source r → (first_of cs ≡ Err x) ↔ Later)
    → (first_of (source_checks r ++ cs) ≡ Err x) ↔ AsSource r x Later
source-refused r cs x l =
    wanted WrongState _ _ x refl (unconfigured-test r.state)
    (λ p. wanted StreamEnded _ _ x refl (unfinished-test r.state)
    (λ q. wanted WrongKind _ cs x refl (load-test r.state r.kind)
    (λ k. l ((source_clear r).0 ((unconfigured-test r.state).1 p, (unfinished-test r.state).1 q, (load-test r.state r.kind).1 k)))))

-- a destination, and the checks behind it
pub destination-refused : {Later : Type 0} (r : Register) (cs : List Check) (x : Refusal) → (Destination r → (first_of cs ≡ Err x) ↔ Later)
    → (first_of (destination_checks r ++ cs) ≡ Err x) ↔ AsDestination r x Later
destination-refused r cs x l =
    wanted WrongState _ _ x refl (unconfigured-test r.state)
    (λ p. wanted StreamEnded _ _ x refl (unfinished-test r.state)
    (λ q. wanted WrongKind _ cs x refl (store-test r.state r.kind)
    (λ k. l ((destination-clear r).0 ((unconfigured-test r.state).1 p, (unfinished-test r.state).1 q, (store-test r.state r.kind).1 k)))))

-- a calculation, on its registers
pub calculation-refused-on : (t : Task) (vl len n m : ℕ) (a b d : Register) (x : Refusal)
    → (first_of (checks_on t vl len n m a b d) ≡ Err x) ↔ CalculationRefusedOn t vl len n m a b d x
calculation-refused-on t vl len n m a b d x =
    source-refused a _ x
    (λ p. source-refused b _ x
    (λ q. destination-refused d _ x
    (λ s. wanted Widths _ _ x refl (neither-test _ _ (same_test a.width b.width) (open-test d _ s (same_test a.width d.width)))
    (λ w. wanted LaneCounts _ _ x refl (neither-test _ _ (same_test n m) (open-test d _ s (most-test (length (next_chunk vl d)) (outcome_count t n))))
    (λ k. wanted NoLanes _ _ x refl (some-clear t n)
    (λ l. wanted-inside role.First len a _ _ x
    (λ f. wanted-inside role.Second len b _ _ x
    (λ g. wanted-inside role.Destination len d _ [] x (λ h. none-wanted x)))))))))

-- a calculation in a world
pub calculation-refused : (vl : ℕ) (c : Calculation) (w : World) (x : Refusal) → (refusal_of vl c w ≡ Err x) ↔ CalculationRefused vl c w x
unfolding refusal_of
calculation-refused vl c w x = calculation-refused-on c.task vl _ _ _ _ _ _ x

-- ---- asking

-- a question is not told exactly if there is a refusal
pub untold-plain : (y : Why) (b : Bool) (x : Refusal) → (unless y b ≡ Err x) ↔ (y ≡ Err x)
untold-plain (Ok _) true x = (λ e. absurd (let z : ◌≡◌ {A = ℕ} 0 1 = cc in omega arith), λ e. absurd (let z : ◌≡◌ {A = ℕ} 0 1 = cc in omega arith))
untold-plain (Ok _) false x = (λ e. absurd (let z : ◌≡◌ {A = ℕ} 0 1 = cc in omega arith), λ e. absurd (let z : ◌≡◌ {A = ℕ} 0 1 = cc in omega arith))
untold-plain (Err y) b x = (λ e. let z : y ≡ x = cc in ap Err z, λ e. let z : y ≡ x = cc in ap Err z)

-- one fact after another
chain : {A B D : Type 0} → A ↔ B → B ↔ D → A ↔ D
chain f g = (λ a. g.0 (f.0 a), λ d. f.1 (g.1 d))

-- an open or finished stream
stream-test : (k : State) → (not (is_open k || is_finished k) ≡ false) ↔ ((k ≡ Open) ⊎ (k ≡ Finished))
stream-test k = (λ e. (stream-plain k).0 (not-false (is_open k || is_finished k) e), λ h. ap not ((stream-plain k).1 h))

-- the question for a flag
pub flag-refused : (m : Machine) (i d : ℕ) (x : Refusal) → (ask_flag m i d ≡ Err x) ↔ FlagRefused i d (reg m i) x
unfolding ask_flag
flag-refused m i d x =
    chain (untold-plain _ _ x)
    (wanted OutOfRange _ _ x refl (neither-test _ _ (neither-test _ _ (most-test 31 i) (some-dimension d)) (most-test 7 d))
    (λ p. wanted WrongState _ _ x refl (stream-test (reg m i).state)
    (λ q. wanted OutOfRange _ [] x refl (most-test (shape_of (reg m i)).dims d) (λ k. none-wanted x))))

-- the question for the end of stream
pub end-of-stream-refused : (m : Machine) (i : ℕ) (x : Refusal) → (ask_end m i ≡ Err x) ↔ EndOfStreamRefused i (reg m i) x
unfolding ask_end
end-of-stream-refused m i x =
    chain (untold-plain _ _ x)
    (wanted OutOfRange _ _ x refl (most-test 31 i) (λ p. wanted WrongState _ [] x refl (stream-test (reg m i).state) (λ q. none-wanted x)))
