-- The rules on a nest's numbers in plain terms.
--
--   low-high-kept                the rule of 8
--   rules-kept, rules-broken     a nest that no rule refuses; one that a rule refuses
--   coupling-in                  a coupled loop is a coupling in range
--   shape-checked, shape-accepted   the shape of an accepted nest passes the engine's checks
use Rattle.std.specs.Prelude.{ℕ, zero, suc, ◌+◌, ◌-◌, ◌≤◌, ◌<◌, ◌≡◌, refl, ◌⊎◌, ◌↔◌, map, Bool, true, false, ◌||◌, get_or, drop, ltb, Ok, Err}
use Rattle.std.proofs.Common.{sym, ◌∙◌, ap, subst, inl, inr, arith, ltb-true, ltb-false, lt-ltb, le-ltb, le-leb}
use Rattle.std.proofs.Math.Decide.{dec_lt}
use Rattle.codec.specs.Headers.{coupling_in_range}
use Rattle.codec.specs.TestLaws.{never, or-false}
use Rattle.codec.specs.Refusals.{is-numbered}
use Rattle.codec.specs.declared.refusal.Refusal.{Refusal}
use Rattle.codec.specs.declared.refusal.Refusal.TheVariants.{TooMany, LowHigh, Product}
use Rattle.engine.specs.Rules.{last_index, product}
use Rattle.engine.specs.Checks.{first_of}
use Rattle.engine.specs.Configure.{uncovered}
use Rattle.engine.specs.Good.{Ranged}
use Rattle.engine.specs.Good
use Rattle.engine.specs.ShapeCheck.{check_shape}
use Rattle.engine.specs.ShapeLaws.{shape-passed}
use Rattle.translator.specs.NestRules.{nonzero_of, highs_from, highs_of, lasts_outside, high_of, less_of, low_or_high_from, low_or_high, checks_of}
use Rattle.translator.specs.Acceptance.{Accepted, LowHighKept, Breaks, many, low-high, large}
use Rattle.translator.specs.declared.nest.Nest.{Nest}
use Rattle.translator.specs.RuleLaws.{lasts_from, shape-ranged, rules-first, checks-shape}
use Rattle.translator.specs.Nests.{coupling_of}
use Rattle.translator.specs.NestSheets.{shape_of}

-- the highs of the loops from t + k on are the last ones
drop-highs : (m : Nest) (k t n : ℕ) → k ≤ n → drop k (highs_from m t n) ≡ highs_from m (t + k) (n - k)
unfolding highs_from
drop-highs m zero t n h =
    let a : t ≡ t + 0 = omega arith in
    let b : n ≡ n - 0 = omega arith in
    λ i. highs_from m (a i) (b i)
drop-highs m (suc k) t zero h = absurd (omega arith)
drop-highs m (suc k) t (suc n) h =
    let a : suc t + k ≡ t + suc k = omega arith in
    let b : n - k ≡ suc n - suc k = omega arith in
    drop-highs m k (suc t) n (omega arith) ∙ rw (a, b)

-- the last indices of the loops outside t
outside-lasts : (m : Nest) (t n : ℕ) → t + suc n ≡ m.loops → lasts_from m (suc t) n ≡ lasts_outside m t
outside-lasts m t n e =
    let a : 0 + suc t ≡ suc t = omega arith in
    let b : m.loops - suc t ≡ n = omega arith in
    let e : drop (suc t) (highs_of m) ≡ highs_from m (suc t) n = drop-highs m (suc t) 0 m.loops (omega arith) ∙ rw (a, b) in
    ap (map last_index) (sym e)

-- the rule of 8 of loop t: its low is not below 0, its high not above 4,096
record LowHighAt (m : Nest) (t : ℕ) : Type 0 where
  low : less_of m t ≤ get_or m.counts t 0
  high : high_of m t ≤ 4096

-- the rule holds of the loops from t on exactly if it holds of loop t and of those outside it
kept_step : (m : Nest) (t n : ℕ) → t + suc n ≡ m.loops → (low_or_high_from m t (suc n) ≡ false) ↔ (LowHighAt m t × (low_or_high_from m (suc t) n ≡ false))
unfolding low_or_high_from
kept_step m t n e = rw (outside-lasts m t n e) (there, back)
  where
    low : Bool
    low = ltb (get_or m.counts t 0) (less_of m t)

    high : Bool
    high = ltb 4096 (high_of m t)

    there : (low || high || low_or_high_from m (suc t) n) ≡ false → LowHighAt m t × (low_or_high_from m (suc t) n ≡ false)
    there f =
        let p = or-false (low || high) (low_or_high_from m (suc t) n) f in
        let q = or-false low high p.0 in
        (record { low = ltb-false (get_or m.counts t 0) (less_of m t) q.0; high = ltb-false 4096 (high_of m t) q.1 }, p.1)

    back : LowHighAt m t × (low_or_high_from m (suc t) n ≡ false) → (low || high || low_or_high_from m (suc t) n) ≡ false
    back k = rw (le-ltb (get_or m.counts t 0) (less_of m t) k.0.low, le-ltb 4096 (high_of m t) k.0.high, k.1)

-- of each of them
kept_from : (m : Nest) (t n : ℕ) → t + n ≡ m.loops → low_or_high_from m t n ≡ false → (k : ℕ) → t ≤ k → k < m.loops → LowHighAt m k
kept_from m t zero e f k h l = absurd (omega arith)
kept_from m t (suc n) e f k h l = go (dec_lt t k) (kept_from m (suc t) n (omega arith) ((kept_step m t n e).0 f).1 k)
  where
    go : Dec (t < k) → (suc t ≤ k → k < m.loops → LowHighAt m k) → LowHighAt m k
    go (yes q) ih = ih q l
    go (no q) ih = let z : t ≡ k = omega arith in subst (LowHighAt m) z ((kept_step m t n e).0 f).0

-- and it is enough that it does
clear-from : (m : Nest) (t n : ℕ) → t + n ≡ m.loops → ((k : ℕ) → k < m.loops → LowHighAt m k) → low_or_high_from m t n ≡ false
unfolding low_or_high_from
clear-from m t zero e h = refl
clear-from m t (suc n) e h = (kept_step m t n e).1 (h t (omega arith), clear-from m (suc t) n (omega arith) h)

-- the rule of 8 in plain terms
pub low-high-kept : (m : Nest) → (low_or_high m ≡ false) ↔ LowHighKept m
low-high-kept m = (
  λ f.
      let kept : (k : ℕ) → k < m.loops → LowHighAt m k = λ k. kept_from m 0 m.loops (omega arith) f k (omega arith) in
      record { low = λ t l. (kept t l).low; high = λ t l. (kept t l).high },
  λ h. clear-from m 0 m.loops (omega arith) (λ k l. record { low = h.low k l; high = h.high k l }),
)

-- all rules are kept
abbrev AllKept : Nest → Type 0
AllKept m = (nonzero_of m ≤ 8) × LowHighKept m × (product (highs_of m) ≤ 1048576)

-- then no rule refuses the nest
kept-clear : (m : Nest) → AllKept m → first_of (checks_of m) ≡ Ok tt
kept-clear m h = rules-first m ∙ rw (le-ltb 8 (nonzero_of m) h.0, (low-high-kept m).1 h.1, le-ltb 1048576 (product (highs_of m)) h.2)

-- the rule of 8 refuses what it does not keep
not-kept : (m : Nest) → ¬ LowHighKept m → low_or_high m ≡ true
not-kept m h = go (low_or_high m) refl
  where
    go : (b : Bool) → low_or_high m ≡ b → b ≡ true
    go true e = refl
    go false e = absurd (h ((low-high-kept m).0 e))

-- a rule that is broken refuses the nest
broken-first : (m : Nest) (x : Refusal) → Breaks m x → first_of (checks_of m) ≡ Err x
broken-first m x (many e h) = rules-first m ∙ rw (lt-ltb 8 (nonzero_of m) h, is-numbered x 6 e refl)
broken-first m x (low-high e h k) = rules-first m ∙ rw (le-ltb 8 (nonzero_of m) h, not-kept m k, is-numbered x 8 e refl)
broken-first m x (large e h k l) = rules-first m ∙ rw (le-ltb 8 (nonzero_of m) h, (low-high-kept m).1 k, lt-ltb 1048576 (product (highs_of m)) l, is-numbered x 9 e refl)

-- all are kept, or one is the first that is broken
kept-or-broken : (m : Nest) → AllKept m ⊎ ((x : Refusal) × Breaks m x)
kept-or-broken m = go (ltb 8 (nonzero_of m)) (low_or_high m) (ltb 1048576 (product (highs_of m))) refl refl refl
  where
    go : (a b c : Bool) → ltb 8 (nonzero_of m) ≡ a → low_or_high m ≡ b → ltb 1048576 (product (highs_of m)) ≡ c → AllKept m ⊎ ((x : Refusal) × Breaks m x)
    go true b c e f g = inr (TooMany, many refl (ltb-true 8 (nonzero_of m) e))
    go false true c e f g = inr (LowHigh, low-high refl (ltb-false 8 (nonzero_of m) e) (λ k. never (sym ((low-high-kept m).1 k) ∙ f)))
    go false false true e f g =
        inr (Product, large refl (ltb-false 8 (nonzero_of m) e) ((low-high-kept m).0 f) (ltb-true 1048576 (product (highs_of m)) g))
    go false false false e f g =
        inl (ltb-false 8 (nonzero_of m) e, (low-high-kept m).0 f, ltb-false 1048576 (product (highs_of m)) g)

-- no rule refuses a nest exactly if all are kept
pub rules-kept : (m : Nest) → (first_of (checks_of m) ≡ Ok tt) ↔ ((nonzero_of m ≤ 8) × LowHighKept m × (product (highs_of m) ≤ 1048576))
rules-kept m = (λ e. go e (kept-or-broken m), kept-clear m)
  where
    go : first_of (checks_of m) ≡ Ok tt → AllKept m ⊎ ((x : Refusal) × Breaks m x) → AllKept m
    go e (inl k) = k
    go e (inr (x, k)) = absurd (let f = broken-first m x k in let z : ◌≡◌ {A = ℕ} 0 1 = cc in omega arith)

-- one refuses it exactly if it is the first that is broken
pub rules-broken : (m : Nest) (x : Refusal) → (first_of (checks_of m) ≡ Err x) ↔ Breaks m x
rules-broken m x = (λ e. go e (kept-or-broken m), broken-first m x)
  where
    go : first_of (checks_of m) ≡ Err x → AllKept m ⊎ ((y : Refusal) × Breaks m y) → Breaks m x
    go e (inl k) = absurd (let f = kept-clear m k in let z : ◌≡◌ {A = ℕ} 0 1 = cc in omega arith)
    go e (inr (y, k)) = let f = broken-first m y k in let z : y ≡ x = cc in subst (Breaks m) z k

-- ---- accepted

-- "coupled loop 0 to D (0 none)": it is a coupling in range
pub coupling-in : (c : ℕ) → c ≤ 7 → coupling_in_range (coupling_of c) ≡ true
coupling-in zero h = refl
coupling-in (suc c) h = rw (le-leb 1 (suc c) (omega arith), le-leb (suc c) 7 h)

-- the shape of an accepted nest passes the checks of shapes
pub shape-checked : (m : Nest) → Accepted m → check_shape (shape_of m) ≡ Ok tt
shape-checked m a = sym (checks-shape m a.range a.tidy) ∙ (rules-kept m).1 (a.few, a.low-high, a.small)

-- and end accepts it
pub shape-accepted : (m : Nest) → Accepted m → Good.Accepted (shape_of m)
shape-accepted m a =
    let r : Ranged (shape_of m) = shape-ranged m a.range a.tidy a.few in
    let p = shape-passed (shape_of m) r a.range.loops-least (shape-checked m a) in
    record {
      ranged = r;
      coupled = coupling-in m.coupled (omega (arith, a.range.coupled, a.range.loops-most));
      some = a.range.loops-least;
      covered = covered m.coupled a.range.coupled;
      bounded = p.0;
      few = p.1;
    }
  where
    covered : (c : ℕ) → c ≤ m.loops → uncovered (shape_of m) (coupling_of c) ≡ false
    covered zero h = refl
    covered (suc c) h = le-ltb m.loops (suc c) h
