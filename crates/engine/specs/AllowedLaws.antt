-- What is not refused, in plain terms: the engine's tests against the conditions of Allowed; lengths, operations that configure, and 16.
--
--   leb-plain, eqb-plain, and-plain, fails, neither, test_plain, nonneg-plain   tests as the facts that they test
--   is-open, is-configuring, is-load         a state or a kind, by its test
--   fits-allowed                             the lengths
--   opens-clear, extends-clear, modifies-clear, ends-clear, accepts-clear   each operation that configures, and any
--   lasts-outside, low-high, covers-clear, some-dimension   what an end looks at: low and high, the coupled dimension
--   names-which, which-names, stream-plain, loops-on   16
use Rattle.std.specs.Prelude.{◌≡◌, ℕ, zero, suc, ◌+◌, ◌-◌, ◌%◌, ◌<◌, ◌≤◌, Bool, true, false, not, ◌&&◌, ◌||◌, T, ◌⊎◌, ◌↔◌, List, [], ◌∷◌, map, length, drop, ℤ, pos, negsuc, ◌≤ℤ◌, ◌==◌, ◌≢◌, nat_le, slice_index_or, refl, Ok, Option, Some, None}
use Rattle.std.proofs.Common.{sym, ◌∙◌, ap, inl, inr, arith, add-one, drop-drop, leb-true, le-leb, ltb-false, le-ltb, eqb-true, eq-eqb, ne_eqb}
use Rattle.std.specs.Int.Signed.{non_neg}
use Rattle.std.proofs.lemmas.Bool.{lt-leb, eqb-false, not-false}
use Rattle.codec.specs.TestLaws.{never, never_true, or-false, both, and_both}
use Rattle.codec.specs.declared.header.Kind.{Kind}
use Rattle.codec.specs.declared.header.Kind.TheVariants.{Load, Store}
use Rattle.codec.specs.declared.operation.Operation.{Operation}
use Rattle.codec.specs.declared.operation.Operation.TheVariants as op
use Rattle.engine.specs.Rules.{last_index, low_at, highs, highs_of, product, low_or_high_from, low_or_high}
use Rattle.engine.specs.Checks.{first_of}
use Rattle.engine.specs.Registers.{is_configuring, is_open, is_finished, is_load, shape_of, reg}
use Rattle.engine.specs.Configure.{open_checks, dimension_checks, modifier_checks, uncovered, Covers, end_checks, register_of, why_not}
use Rattle.engine.specs.Sheets.{names, is_loop_register, allowed}
use Rattle.engine.specs.BoundLaws.{lasts_from, InBounds, passed, highs-next}
use Rattle.engine.specs.GoodLaws.{next, more, dimension-passed, modifier-passed}
use Rattle.engine.specs.CalculationLaws.{nothing}
use Rattle.engine.specs.Allowed.{Fits, Opens, Extends, Modifies, lasts_outside, low_of, high_of, Ends, Accepts}
use Rattle.engine.specs.Histories.{no_placed}
use Rattle.engine.specs.Promise1.{Configures, LoopsOn}
use Rattle.engine.specs.declared.stream.Shape.{Shape}
use Rattle.engine.specs.declared.register.State.{State}
use Rattle.engine.specs.declared.register.State.TheVariants.{Plain, Configuring, Open, Finished}
use Rattle.engine.specs.declared.register.Register.{Register}
use Rattle.engine.specs.declared.register.Machine.{Machine}
use Rattle.engine.specs.declared.run.Placed.{Placed}

-- ---- tests in plain terms

-- at most
pub leb-plain : (a b : ℕ) → (nat_le a b ≡ true) ↔ (a ≤ b)
leb-plain a b = (leb-true a b, le-leb a b)

-- the same number
pub eqb-plain : (a b : ℕ) → ((a == b) ≡ true) ↔ (a ≡ b)
eqb-plain a b = (eqb-true a b, eq-eqb a b)

-- both
pub and-plain : {A B : Type 0} (a b : Bool) → (a ≡ true) ↔ A → (b ≡ true) ↔ B → ((a && b) ≡ true) ↔ (A × B)
and-plain a b f g = (λ e. (f.0 (both a b e).0, g.0 (both a b e).1), λ h. and_both a b (f.1 h.0) (g.1 h.1))

-- a test that fails where its fact does not hold
pub fails : {P : Type 0} (b : Bool) → (b ≡ true) ↔ P → ¬ P → b ≡ false
fails true t n = absurd (n (t.0 refl))
fails false t n = refl

-- a test that computes to a type
pub test_plain : (b : Bool) → (b ≡ true) ↔ T b
test_plain true = (λ e. tt, λ t. refl)
test_plain false = (λ e. never e, λ t. absurd t)

-- 0 or more
pub nonneg-plain : (z : ℤ) → (non_neg z ≡ true) ↔ (pos 0 ≤ℤ z)
nonneg-plain (pos n) = (λ e. record { le = (test_plain (nat_le 0 n)).0 (le-leb 0 n (omega arith)) }, λ h. refl)
nonneg-plain (negsuc n) = (λ e. never e, λ h. absurd h.le)

-- neither
pub neither : (a b : Bool) → a ≡ false → b ≡ false → (a || b) ≡ false
neither a b e f = rw (e, f)

-- open, by name
pub is-open : (k : State) → (is_open k ≡ true) ↔ (k ≡ Open)
is-open k = (go k, λ e. ap is_open e)
  where
    go : (k : State) → is_open k ≡ true → k ≡ Open
    go Plain e = never e
    go Configuring e = never e
    go Open e = refl
    go Finished e = never e

-- being configured, by name
pub is-configuring : (k : State) → (is_configuring k ≡ true) ↔ (k ≡ Configuring)
is-configuring k = (go k, λ e. ap is_configuring e)
  where
    go : (k : State) → is_configuring k ≡ true → k ≡ Configuring
    go Plain e = never e
    go Configuring e = refl
    go Open e = never e
    go Finished e = never e

-- a load, by name
pub is-load : (k : Kind) → (is_load k ≡ true) ↔ (k ≡ Load)
is-load k = (go k, λ e. ap is_load e)
  where
    go : (k : Kind) → is_load k ≡ true → k ≡ Load
    go Load e = refl
    go Store e = never e

-- ---- the lengths

-- what is allowed
pub fits-allowed : (vl len : ℕ) → (allowed vl len ≡ true) ↔ Fits vl len
fits-allowed vl len =
    let t = and-plain _ _ (and-plain _ _ (and-plain _ _ (leb-plain 8 vl) (leb-plain vl 64)) (eqb-plain (vl % 8) 0)) (leb-plain len 65536) in (
      λ e. let h = t.0 e in record { least = h.0.0.0; most = h.0.0.1; eights = h.0.1; memory = h.1 },
      λ f. t.1 (((f.least, f.most), f.eights), f.memory),
    )

-- ---- configuring

-- open
pub opens-clear : (r : Register) → (first_of (open_checks r) ≡ Ok tt) ↔ Opens r
opens-clear r = (λ e. go r.state refl (next _ _ _ e).0, back)
  where
    go : (k : State) → r.state ≡ k → (is_configuring k || is_open k) ≡ false → Opens r
    go Plain p e = Opens.plain p
    go Configuring p e = never_true e
    go Open p e = never_true e
    go Finished p e = Opens.finished p

    back : Opens r → first_of (open_checks r) ≡ Ok tt
    back (Opens.plain p) = more _ _ [] (ap (λ k. is_configuring k || is_open k) p) nothing
    back (Opens.finished p) = more _ _ [] (ap (λ k. is_configuring k || is_open k) p) nothing

-- a register being configured passes the check of its state
configuring-clear : (r : Register) → r.state ≡ Configuring → not (is_configuring r.state) ≡ false
configuring-clear r e = ap (λ k. not (is_configuring k)) e

-- a dimension
pub extends-clear : (r : Register) → (first_of (dimension_checks r) ≡ Ok tt) ↔ Extends r
extends-clear r = (
  λ e. let h = dimension-passed r e in record { configuring = (is-configuring r.state).0 h.0; room = h.1 },
  λ x. more _ _ _ (configuring-clear r x.configuring) (more _ _ [] (lt-leb 7 (shape_of r).dims x.room) nothing),
)

-- a modifier
pub modifies-clear : (target : ℕ) (r : Register) → (first_of (modifier_checks target r) ≡ Ok tt) ↔ Modifies target r
modifies-clear target r = (
  λ e. let h = modifier-passed target r e in record { configuring = (is-configuring r.state).0 h.0; room = h.1; below = h.2 },
  λ x. more _ _ _ (configuring-clear r x.configuring)
      (more _ _ _ (lt-leb 8 (shape_of r).mods x.room) (more _ _ [] (lt-leb (shape_of r).dims (target + 1) x.below) nothing)),
)

-- the highs of the dimensions from d on are the last ones of all
highs-from : (s : Shape) (d : ℕ) → d ≤ s.dims → drop d (highs_of s) ≡ highs s d (s.dims - d)
highs-from s zero h = let z : s.dims ≡ s.dims - 0 = omega arith in ap (highs s 0) z
highs-from s (suc d) h =
    ap (λ k. drop k (highs_of s)) (sym (add-one d)) ∙ sym (drop-drop 1 d (highs_of s)) ∙ ap (drop 1) (highs-from s d (omega arith) ∙ highs-next s d h)

-- so are their last indices
pub lasts-outside : (s : Shape) (d : ℕ) → d < s.dims → lasts_outside s d ≡ lasts_from s (suc d)
lasts-outside s d h = ap (map last_index) (highs-from s (suc d) h)

-- low and high of a dimension
abbrev LowHigh : Shape → ℕ → Type 0
LowHigh s d = (pos 0 ≤ℤ low_of s d) × (high_of s d ≤ 4096)

-- no dimension from d on is refused where each one's low and high are right
high-clear : (s : Shape) (d n : ℕ) → d + n ≡ s.dims → ((k : ℕ) → k < s.dims → LowHigh s k) → low_or_high_from s d n ≡ false
unfolding low_or_high_from
high-clear s d zero e h = refl
high-clear s d (suc n) e h =
    let q : d < s.dims = omega arith in
    let m : n ≡ s.dims - suc d = omega arith in
    let z : map last_index (highs s (suc d) n) ≡ lasts_outside s d = ap (λ k. map last_index (highs s (suc d) k)) m ∙ sym (lasts-outside s d q) in
    rw z
    (neither _ _
    (neither _ _ (ap not ((nonneg-plain (low_of s d)).1 (h d q).0)) (le-ltb 4096 (high_of s d) (h d q).1))
    (high-clear s (suc d) n (omega arith) h))

-- of every one
pub low-high : (s : Shape) → (low_or_high s ≡ false) ↔ ((d : ℕ) → d < s.dims → (pos 0 ≤ℤ low_of s d) × (high_of s d ≤ 4096))
low-high s = (there, λ h. high-clear s 0 s.dims (omega arith) h)
  where
    there : low_or_high s ≡ false → (d : ℕ) → d < s.dims → LowHigh s d
    there e d q =
        let p : InBounds s d = passed s e d q in
        rw (lasts-outside s d q) ((nonneg-plain (low_at s d (lasts_from s (suc d)))).0 p.low, p.high)

-- the coupled dimension
pub covers-clear : (s : Shape) (c : Option ℕ) → (uncovered s c ≡ false) ↔ Covers s.dims c
covers-clear s None = (λ e. tt, λ h. refl)
covers-clear s (Some c) = (ltb-false s.dims c, le-ltb s.dims c)

-- a dimension at least
pub some-dimension : (n : ℕ) → ((n == 0) ≡ false) ↔ (1 ≤ n)
some-dimension n = (λ e. there n (eqb-false n 0 e), λ h. ne_eqb n 0 (λ q. omega arith))
  where
    there : (n : ℕ) → (n ≢ 0) → 1 ≤ n
    there zero f = absurd (f refl)
    there (suc n) f = omega arith

-- end
pub ends-clear : (r : Register) → (first_of (end_checks r) ≡ Ok tt) ↔ Ends r
ends-clear r = (there, back)
  where
    s : Shape
    s = shape_of r

    there : first_of (end_checks r) ≡ Ok tt → Ends r
    there e =
        let a = next _ _ _ e in
        let b = next _ _ _ a.1 in
        let c = next _ _ _ b.1 in
        let d = next _ _ _ c.1 in
        let n = or-false (s.dims == 0) (uncovered s s.coupling) b.0 in
        record {
          configuring = (is-configuring r.state).0 (not-false (is_configuring r.state) a.0);
          some = (some-dimension s.dims).0 n.0;
          covers = (covers-clear s s.coupling).0 n.1;
          low = λ k h. ((low-high s).0 c.0 k h).0;
          high = λ k h. ((low-high s).0 c.0 k h).1;
          few = ltb-false 1048576 (product (highs_of s)) d.0;
        }

    back : Ends r → first_of (end_checks r) ≡ Ok tt
    back x =
        more _ _ _ (configuring-clear r x.configuring)
        (more _ _ _ (neither _ _ ((some-dimension s.dims).1 x.some) ((covers-clear s s.coupling).1 x.covers))
        (more _ _ _ ((low-high s).1 (λ k h. (x.low k h, x.high k h)))
        (more _ _ [] (le-ltb 1048576 (product (highs_of s)) x.few) nothing)))

-- any operation that configures, on its register
pub accepts-clear : (o : Operation) (m : Machine) → Configures o → (why_not o m ≡ Ok tt) ↔ Accepts o (reg m (register_of o))
unfolding why_not
accepts-clear (op.Open h base) m c = opens-clear (reg m h.register)
accepts-clear (op.Dimension d) m c = extends-clear (reg m d.register)
accepts-clear (op.Modifier d) m c = modifies-clear d.target (reg m d.register)
accepts-clear (op.End i) m c = ends-clear (reg m i)
accepts-clear (op.Run i n) m c = absurd c

-- ---- 16

-- a calculation of a body names a register as a source
abbrev NamedAt : ℕ → List Placed → ℕ → Type 0
NamedAt loop cs k =
    (k < length cs) × ((loop ≡ (slice_index_or cs k no_placed).calculation.first) ⊎ (loop ≡ (slice_index_or cs k no_placed).calculation.second))

-- which one it is that names it
pub names-which : (loop : ℕ) (cs : List Placed) → names loop cs ≡ true → (k : ℕ) × NamedAt loop cs k
unfolding names
names-which loop [] e = never e
names-which loop (c ∷ cs) e = go (loop == c.calculation.first) (loop == c.calculation.second) refl refl e (names-which loop cs)
  where
    go : (a b : Bool) → (loop == c.calculation.first) ≡ a → (loop == c.calculation.second) ≡ b → (a || b || names loop cs) ≡ true
        → (names loop cs ≡ true → (k : ℕ) × NamedAt loop cs k) → (k : ℕ) × NamedAt loop (c ∷ cs) k
    go true b p q e f = (0, (omega arith, inl (eqb-true loop c.calculation.first p)))
    go false true p q e f = (0, (omega arith, inr (eqb-true loop c.calculation.second q)))
    go false false p q e f = let r = f e in (suc r.0, (omega (arith, r.1.0), r.1.1))

-- and the reverse
pub which-names : (loop : ℕ) (cs : List Placed) (k : ℕ) → NamedAt loop cs k → names loop cs ≡ true
unfolding names
which-names loop [] k h = absurd (omega arith)
which-names loop (c ∷ cs) zero (h, inl e) = rw (eq-eqb loop c.calculation.first e)
which-names loop (c ∷ cs) zero (h, inr e) = go (loop == c.calculation.first) (eq-eqb loop c.calculation.second e)
  where
    go : (a : Bool) {b : Bool} → b ≡ true → (a || b || names loop cs) ≡ true
    go true p = refl
    go false p = rw p
which-names loop (c ∷ cs) (suc k) h = go (loop == c.calculation.first || loop == c.calculation.second) (which-names loop cs k (omega (arith, h.0), h.1))
  where
    go : (a : Bool) → names loop cs ≡ true → (a || names loop cs) ≡ true
    go true e = refl
    go false e = e

-- an open or finished stream
pub stream-plain : (k : State) → ((is_open k || is_finished k) ≡ true) ↔ ((k ≡ Open) ⊎ (k ≡ Finished))
stream-plain k = (there k, back)
  where
    there : (k : State) → (is_open k || is_finished k) ≡ true → (k ≡ Open) ⊎ (k ≡ Finished)
    there Plain e = never e
    there Configuring e = never e
    there Open e = inl refl
    there Finished e = inr refl

    back : (k ≡ Open) ⊎ (k ≡ Finished) → (is_open k || is_finished k) ≡ true
    back (inl e) = ap (λ k. is_open k || is_finished k) e
    back (inr e) = ap (λ k. is_open k || is_finished k) e

-- the loop register is right exactly if it has a load stream, open or finished, and a calculation names it as a source
pub loops-on : (loop : ℕ) (cs : List Placed) (m : Machine) → (is_loop_register loop cs m ≡ true) ↔ LoopsOn loop cs m
loops-on loop cs m =
    let t = and-plain _ _ (stream-plain (reg m loop).state) (is-load (reg m loop).kind) in (
      λ e.
          let b = both _ (names loop cs) e in
          let h = t.0 b.0 in
          let w = names-which loop cs b.1 in
          record { load = h.1; stream = h.0; which = w.0; below = w.1.0; named = w.1.1 },
      λ x. and_both _ _ (t.1 (x.stream, x.load)) (which-names loop cs x.which (x.below, x.named)),
    )
