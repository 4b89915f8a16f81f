-- The rules on a nest's numbers are the engine's checks of its shape.
--
--   lasts_from                    the last indices of loops
--   highs-same, low-high-same    high, low and the rule of 8, of the nest's numbers and of its shape
--   shape-ranged                 the shape of a nest in range that has at most eight nonzero terms
--   rules-first                  the rules of a nest, in order
--   checks-shape                 the rules of a nest in range are the checks of its shape
use Rattle.std.specs.Prelude.{ℕ, zero, suc, ◌+◌, ◌-◌, ◌≤◌, ◌<◌, ◌≡◌, refl, List, ◌∷◌, map, Bool, true, false, cond, not, ◌||◌, length, get_or, replicate, ltb, Ok, Err}
use Rattle.std.proofs.Common.{sym, ◌∙◌, ap, arith, length-append, ltb-true, ltb-false}
use Rattle.std.proofs.Math.Decide.{dec_lt}
use Rattle.std.proofs.lemmas.List.{length-replicate, length-map}
use Rattle.std.proofs.Math.ListN.{get_or-append}
use Rattle.std.proofs.Math.IntN.{sub_ℕ}
use Rattle.std.specs.Int.Signed.{non_neg}
use Rattle.codec.specs.declared.operation.Parameter.TheVariants.{Size}
use Rattle.codec.specs.declared.operation.Behaviour.TheVariants.{Add, Subtract}
use Rattle.codec.specs.declared.refusal.Refusal.TheVariants.{TooMany, LowHigh, Product}
use Rattle.engine.specs.Rules.{last_index, high_at, low_at, product}
use Rattle.engine.specs.Rules
use Rattle.engine.specs.Gains.{gain, high-nat, low-nat, sub-less, sub-pos}
use Rattle.engine.specs.Registers.{no_modifier}
use Rattle.engine.specs.Checks.{first_of}
use Rattle.engine.specs.CheckLaws.{first-of}
use Rattle.engine.specs.CalculationLaws.{nothing}
use Rattle.engine.specs.BoundLaws.{highs-none, highs-more, rule-none, rule-more}
use Rattle.engine.specs.Good.{RangedModifier, Ranged}
use Rattle.engine.specs.ShapeCheck.{check_shape}
use Rattle.engine.specs.ShapeLaws.{many-refused, ranged-fits}
use Rattle.translator.specs.NestRules.{nonzero_of, high_with, less_with, highs_from, highs_of, low_or_high_from, low_or_high, checks_of}
use Rattle.translator.specs.NestSheets.{modifiers_of, shape_of}
use Rattle.translator.specs.ModifierLaws.{total-gain, modifiers-count, modifiers-kept, modifiers-each}
use Rattle.translator.specs.Acceptance.{InRange, Tidy}
use Rattle.translator.specs.declared.nest.Nest.{Nest}

-- ---- high and low

-- there is one high for each loop
highs-length : (m : Nest) (t n : ℕ) → length (highs_from m t n) ≡ n
unfolding highs_from
highs-length m t zero = refl
highs-length m t (suc n) = ap suc (highs-length m (suc t) n)

-- last indices of n loops from t on
abbrev pub lasts_from : Nest → ℕ → ℕ → List ℕ
lasts_from m t n = map last_index (highs_from m t n)

-- the loops up to t and those outside it are all loops
outside : (m : Nest) (t n : ℕ) → t + suc n ≡ m.loops → suc t + length (lasts_from m (suc t) n) ≡ m.loops
outside m t n e = omega (arith, length-map (highs_from m (suc t) n) last_index, highs-length m (suc t) n)

-- a difference is negative exactly if more is taken than is there
negative : (a b : ℕ) → not (non_neg (sub_ℕ a b)) ≡ ltb a b
negative a b = go (ltb a b) refl
  where
    go : (t : Bool) → ltb a b ≡ t → not (non_neg (sub_ℕ a b)) ≡ t
    go true e = ap (λ z. not (non_neg z)) (sub-less a b (ltb-true a b e))
    go false e = ap (λ z. not (non_neg z)) (sub-pos a b (ltb-false a b e))

module _ (m : Nest) (t : ℕ) (lasts : List ℕ) (e : suc t + length lasts ≡ m.loops) where
  -- high of a loop is high of its dimension
  high_same : high_at (shape_of m) t lasts ≡ high_with m t lasts
  high_same =
      high-nat (shape_of m) t lasts
      ∙ ap (λ k. get_or m.counts t 0 + k) (ap (gain Size Add t lasts) (modifiers-kept m) ∙ total-gain m Add t lasts e)

  -- low is below 0 exactly if more is subtracted than is there
  low_same : not (non_neg (low_at (shape_of m) t lasts)) ≡ ltb (get_or m.counts t 0) (less_with m t lasts)
  low_same =
      ap (λ z. not (non_neg z)) (low-nat (shape_of m) t lasts)
      ∙ ap (λ k. not (non_neg (sub_ℕ (get_or m.counts t 0) k))) (ap (gain Size Subtract t lasts) (modifiers-kept m) ∙ total-gain m Subtract t lasts e)
      ∙ negative (get_or m.counts t 0) (less_with m t lasts)

-- high of each loop
pub highs-same : (m : Nest) (t n : ℕ) → t + n ≡ m.loops → Rules.highs (shape_of m) t n ≡ highs_from m t n
unfolding highs_from
highs-same m t zero e = highs-none (shape_of m) t
highs-same m t (suc n) e =
    highs-more (shape_of m) t n
    ∙ ap (λ l. high_at (shape_of m) t (map last_index l) ∷ l) (highs-same m (suc t) n (omega arith))
    ∙ ap (λ k. k ∷ highs_from m (suc t) n) (high_same m t (lasts_from m (suc t) n) (outside m t n e))

-- the rule of 8
pub low-high-same : (m : Nest) (t n : ℕ) → t + n ≡ m.loops → Rules.low_or_high_from (shape_of m) t n ≡ low_or_high_from m t n
unfolding low_or_high_from
low-high-same m t zero e = rule-none (shape_of m) t
low-high-same m t (suc n) e =
    let lasts : List ℕ = lasts_from m (suc t) n in
    rule-more (shape_of m) t n
    ∙ ap (λ l. not (non_neg (low_at (shape_of m) t (map last_index l))) || ltb 4096 (high_at (shape_of m) t (map last_index l)) || Rules.low_or_high_from (shape_of m) (suc t) n)
    (highs-same m (suc t) n (omega arith))
    ∙ (λ i. low_same m t lasts (outside m t n e) i || ltb 4096 (high_same m t lasts (outside m t n e) i) || low-high-same m (suc t) n (omega arith) i)

-- ---- the shape

-- a nest in range with at most eight nonzero terms has a shape in range
pub shape-ranged : (m : Nest) → InRange m → Tidy m → nonzero_of m ≤ 8 → Ranged (shape_of m)
shape-ranged m r d h =
    let few : length (modifiers_of m) ≤ 8 = omega (arith, modifiers-count m) in
    record {
      dims = r.loops-most;
      mods = few;
      sizes = d.counts-long;
      modifiers = rw (length-append, length-replicate) (omega arith);
      size = size;
      modifier = λ k l. rw (get_or-append (modifiers_of m) (replicate (8 - length (modifiers_of m)) no_modifier) no_modifier k l) (modifier k l);
    }
  where
    modifier : (k : ℕ) → k < length (modifiers_of m) → RangedModifier m.loops (get_or (modifiers_of m) k no_modifier)
    modifier = modifiers-each (RangedModifier m.loops) m (λ t o p q. record { below = p; owned = q; displaced = r.terms t o p q })

    size : (t : ℕ) → get_or m.counts t 0 ≤ 4096
    size t = go (dec_lt t m.loops)
      where
        go : Dec (t < m.loops) → get_or m.counts t 0 ≤ 4096
        go (yes l) = r.counts t l
        go (no l) = omega (arith, d.counts t (omega arith))

-- the rules of a nest, in order
pub rules-first : (m : Nest)
    → first_of (checks_of m)
    ≡ cond (ltb 8 (nonzero_of m)) (Err TooMany) (cond (low_or_high m) (Err LowHigh) (cond (ltb 1048576 (product (highs_of m))) (Err Product) (Ok tt)))
rules-first m =
    rw (first-of TooMany (ltb 8 (nonzero_of m)), first-of LowHigh (low_or_high m), first-of Product (ltb 1048576 (product (highs_of m))), nothing)

-- the rules of a nest in range are the checks of its shape
pub checks-shape : (m : Nest) → InRange m → Tidy m → first_of (checks_of m) ≡ check_shape (shape_of m)
checks-shape m r d = rules-first m ∙ go (ltb 8 (nonzero_of m)) refl
  where
    go : (b : Bool) → ltb 8 (nonzero_of m) ≡ b
        → cond b (Err TooMany) (cond (low_or_high m) (Err LowHigh) (cond (ltb 1048576 (product (highs_of m))) (Err Product) (Ok tt)))
        ≡ check_shape (shape_of m)
    go true e = sym (many-refused (shape_of m) (omega (arith, modifiers-count m, ltb-true 8 (nonzero_of m) e)))
    go false e =
        sym (ranged-fits (shape_of m) (shape-ranged m r d (ltb-false 8 (nonzero_of m) e)) r.loops-least
        ∙ (λ i. cond (low-high-same m 0 m.loops (omega arith) i) (Err LowHigh)
        (cond (ltb 1048576 (product (highs-same m 0 m.loops (omega arith) i))) (Err Product) (Ok tt))))
