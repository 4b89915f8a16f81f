-- The operations of a nest's sheet are accepted, stream by stream, and give the patterns of the nest.
--
--   at_gives, dimensions-give     the modifiers of a dimension; dimensions with their modifiers
--   Bounded, bounded              what an end looks at, of the nest's shape
--   stream-gives                  a whole stream
use Prim.Native.Nat.{ℕ, zero, suc, ◌+◌, ◌-◌, ◌≤◌, ◌<◌}
use Rattle.std.specs.Prelude.{◌≡◌, refl, Bool, true, false, cond, ◌||◌, eqb, ltb, ℤ, pos, negsuc, nat_abs, ◌≤ℤ◌}
use Rattle.std.proofs.Math.Path.{sym}
use Rattle.std.proofs.Common.{◌∙◌, ap, subst, arith, leb→le, eq-eqb, ne_eqb, le-ltb}
use mathlib.Core.List.{List, [], ◌∷◌, ◌++◌, map, append_assoc, append-nil}
use Rattle.std.proofs.Math.ListN.{length, length-append}
use Rattle.std.proofs.lemmas.Bool.{lt-leb}
use Rattle.codec.specs.declared.header.Kind.{Kind}
use Rattle.codec.specs.declared.operation.Dimension.{Dimension}
use Rattle.codec.specs.declared.operation.Operation.TheVariants as op
use Rattle.engine.specs.Rules.{low_or_high, highs_of, product}
use Rattle.engine.specs.GoodLaws.{more}
use Rattle.engine.specs.CalculationLaws.{nothing}
use Rattle.engine.specs.Configure.{uncovered}
use Rattle.engine.specs.AllowedLaws.{neither}
use Rattle.engine.specs.Given.{Stream, pattern_of, none, going, ended}
use Rattle.engine.specs.GivenLaws.{plus_dimension, plus_modifier}
use Rattle.engine.specs.Promise1.{CouplingInRange}
use Rattle.engine.specs.declared.stream.Modifier.{Modifier}
use Rattle.engine.specs.declared.stream.Pattern.{Pattern}
use Rattle.translator.specs.Fields.{term_of}
use Rattle.translator.specs.Nests.{coupling_of}
use Rattle.translator.specs.NestSheets.{modifier_of, modifiers_at, modifiers_from, modifiers_of, header_for, dimension_of, dimensions_from, stream_of, shape_of, pattern_for, modifier_op, dimension_ops, stream_ops}
use Rattle.translator.specs.Acceptance.{AccessInRange, InRange, Accepted}
use Rattle.translator.specs.ModifierLaws.{modifiers-count}
use Rattle.translator.specs.KeptRules.{low-high-kept}
use Rattle.translator.specs.RuleLaws.{highs-same, low-high-same}
use Rattle.translator.specs.DescriptorLaws.{couples}
use Rattle.translator.specs.PatternLaws.{dimensions-long, TidyAccess, pattern-same}
use Rattle.engine.specs.GivingLaws.{Offers, Leads, leads-none, leads-first, leads-append}
use Rattle.translator.specs.declared.nest.Access.{Access}
use Rattle.translator.specs.declared.nest.Nest.{Nest}

-- a stream with more dimensions and modifiers
abbrev extended : Stream → List Dimension → List Modifier → Stream
extended s ds qs = record { header = s.header; base = s.base; dimensions = s.dimensions ++ ds; modifiers = s.modifiers ++ qs }

-- with more modifiers only
abbrev plus_modifiers : Stream → List Modifier → Stream
plus_modifiers s qs = record { header = s.header; base = s.base; dimensions = s.dimensions; modifiers = s.modifiers ++ qs }

module _ (m : Nest) (range : InRange m) (i : ℕ) (low : i ≤ 31) where
  -- the modifier of one term
  modifier-offers : (o t : ℕ) (s : Stream) → t < o → o < m.loops → length s.dimensions ≡ suc o → length s.modifiers < 8
      → Offers i (going s) (modifier_op i (modifier_of m o t))
  modifier-offers o t s h k l f = record {
    register = refl;
    configures = tt;
    range = (low, (omega (arith, range.loops-most), range.terms t o h k));
    clear = more _ _ _ (lt-leb 8 (length s.modifiers) f) (more _ _ [] (lt-leb (length s.dimensions) (t + 1) (omega arith)) nothing);
  }

  -- the modifiers of dimension o, for n targets from t on
  at_gives : (o t n : ℕ) (s : Stream) → t + n ≡ o → o < m.loops → length s.dimensions ≡ suc o → length s.modifiers + length (modifiers_at m o t n) ≤ 8
      → Leads i (going s) (map (modifier_op i) (modifiers_at m o t n)) (going (plus_modifiers s (modifiers_at m o t n)))
  unfolding modifiers_at
  at_gives o t zero s e k l f =
      leads-none i _ _
      (ap (λ qs. going (record { header = s.header; base = s.base; dimensions = s.dimensions; modifiers = qs })) (sym (append-nil s.modifiers)))
  at_gives o t (suc n) s e k l f = go (eqb (nat_abs (term_of m t o)) 0) f (at_gives o (suc t) n)
    where
      rest : List Modifier
      rest = modifiers_at m o (suc t) n

      q : Modifier
      q = modifier_of m o t

      Goal : Stream → List Modifier → Type 0
      Goal s qs = Leads i (going s) (map (modifier_op i) qs) (going (plus_modifiers s qs))

      go : (b : Bool) → length s.modifiers + length (cond b rest (q ∷ rest)) ≤ 8
          → ((u : Stream) → suc t + n ≡ o → o < m.loops → length u.dimensions ≡ suc o → length u.modifiers + length rest ≤ 8 → Goal u rest)
          → Goal s (cond b rest (q ∷ rest))
      go true f more = more s (omega arith) k l f
      go false f more =
          let owner : length s.dimensions - 1 ≡ o = omega arith in
          leads-first i (going s) (going (plus_modifier q s)) (going (plus_modifiers s (q ∷ rest))) (modifier_op i q) (map (modifier_op i) rest)
          (modifier-offers o t s (omega arith) k l (omega arith))
          (rw (eq-eqb i i refl, owner))
          (subst (λ qs. Leads i (going (plus_modifier q s)) (map (modifier_op i) rest) (going (record { header = s.header; base = s.base; dimensions = s.dimensions; modifiers = qs })))
          (append_assoc s.modifiers (q ∷ []) rest)
          (more (plus_modifier q s) (omega arith) k l (omega (arith, length-append s.modifiers (q ∷ [])))))

  module _ (a : Access) (reach : AccessInRange m.loops a) where
    -- one dimension
    dimension-offers : (d : ℕ) (s : Stream) → d < m.loops → length s.dimensions ≡ d → Offers i (going s) (op.Dimension (dimension_of m i a d))
    dimension-offers d s h l = record {
      register = refl;
      configures = tt;
      range = (low, (omega arith, (range.counts d h, reach.strides d h)));
      clear = more _ _ [] (lt-leb 7 (length s.dimensions) (omega (arith, range.loops-most))) nothing;
    }

    -- n dimensions from d on, each with its modifiers
    dimensions-give : (d n : ℕ) (s : Stream) → d + n ≡ m.loops → length s.dimensions ≡ d → length s.modifiers + length (modifiers_from m d n) ≤ 8
        → Leads i (going s) (dimension_ops m i a d n) (going (extended s (dimensions_from m i a d n) (modifiers_from m d n)))
    unfolding dimension_ops dimensions_from modifiers_from
    dimensions-give d zero s e l f =
        leads-none i _ _
        (λ j. going (record { header = s.header; base = s.base; dimensions = sym (append-nil s.dimensions) j; modifiers = sym (append-nil s.modifiers) j }))
    dimensions-give d (suc n) s e l f =
        let x : Dimension = dimension_of m i a d in
        let mine : List Modifier = modifiers_at m d 0 d in
        let rest : List Modifier = modifiers_from m (suc d) n in
        let ds : List Dimension = dimensions_from m i a (suc d) n in
        let t : Stream = plus_modifiers (plus_dimension x s) mine in
        let long : length (s.dimensions ++ (x ∷ [])) ≡ suc d = omega (arith, length-append s.dimensions (x ∷ [])) in
        let sum : length (mine ++ rest) ≡ length mine + length rest = length-append mine rest in
        leads-append i (going s) (going t) _ (op.Dimension x ∷ map (modifier_op i) mine) (dimension_ops m i a (suc d) n)
        (leads-first i (going s) (going (plus_dimension x s)) (going t) (op.Dimension x) (map (modifier_op i) mine)
        (dimension-offers d s (omega arith) l)
        (rw (eq-eqb i i refl))
        (at_gives d 0 d (plus_dimension x s) (omega arith) (omega arith) long (omega arith)))
        (subst (λ y. Leads i (going t) (dimension_ops m i a (suc d) n) (going y))
        (λ j. record {
          header = s.header;
          base = s.base;
          dimensions = append_assoc s.dimensions (x ∷ []) ds j;
          modifiers = append_assoc s.modifiers mine rest j;
        })
        (dimensions-give (suc d) n t (omega arith) long (omega (arith, length-append s.modifiers mine))))

-- ---- a stream

-- what an end looks at, of the nest's shape
pub record Bounded (m : Nest) : Type 0 where
  pub few : length (modifiers_of m) ≤ 8
  pub low-high : low_or_high (shape_of m) ≡ false
  pub small : product (highs_of (shape_of m)) ≤ 1048576

-- such is that of an accepted nest
pub bounded : (m : Nest) → Accepted m → Bounded m
bounded m ac = record {
  few = omega (arith, modifiers-count m, ac.few);
  low-high = low-high-same m 0 m.loops (omega arith) ∙ (low-high-kept m).1 ac.low-high;
  small = subst (λ hs. product hs ≤ 1048576) (sym (highs-same m 0 m.loops (omega arith))) ac.small;
}

-- a base in its range
base-range : (z : ℤ) → pos 0 ≤ℤ z → z ≤ℤ pos 1048576 → (pos 0 ≤ℤ z) × (nat_abs z ≤ 1048576)
base-range (pos n) h l = (h, leb→le n 1048576 l.le)
base-range (negsuc n) h l = absurd h.le

-- a coupled loop in its range
coupling-range : (c : ℕ) → c ≤ 7 → CouplingInRange (coupling_of c)
coupling-range zero h = tt
coupling-range (suc c) h = (omega arith, h)

module _ (m : Nest) (ac : Accepted m) (i : ℕ) (low : i ≤ 31) (kind : Kind) (a : Access) (t : TidyAccess m.loops a) where
  -- the stream
  abbrev s : Stream
  s = stream_of m i kind a

  -- what its open gives
  abbrev opened : Stream
  opened = record { header = header_for m i kind; base = a.base; dimensions = []; modifiers = [] }

  -- the open is not refused
  open-offers : Offers i none (op.Open (header_for m i kind) a.base)
  open-offers = record {
    register = refl;
    configures = tt;
    range = (
      low,
      (coupling-range m.coupled (omega (arith, ac.range.coupled, ac.range.loops-most)), base-range a.base.0 t.range.base-least t.range.base-most),
    );
    clear = nothing;
  }

  -- its pattern is the nest's
  same : pattern_of s ≡ pattern_for m a
  same = pattern-same m ac i kind a t

  -- it has a dimension and the coupled one
  placed : (eqb (length s.dimensions) 0 || uncovered (pattern_of s).shape (coupling_of m.coupled)) ≡ false
  placed =
      neither _ _ (ne_eqb (length s.dimensions) 0 (λ e. omega (arith, dimensions-long m i a 0 m.loops, ac.range.loops-least)))
      (ap (λ (p : Pattern). uncovered p.shape (coupling_of m.coupled)) same ∙ couples (shape_of m) m.coupled ac.range.coupled)

  -- nor is the end
  end-offers : Offers i (going s) (op.End i)
  end-offers = record {
    register = refl;
    configures = tt;
    range = low;
    clear =
        more _ _ _ placed
        (more _ _ _ (ap (λ (p : Pattern). low_or_high p.shape) same ∙ (bounded m ac).low-high)
        (more _ _ [] (ap (λ (p : Pattern). ltb 1048576 (product (highs_of p.shape))) same ∙ le-ltb 1048576 _ (bounded m ac).small) nothing));
  }

  -- open, the dimensions with their modifiers, end: none is refused
  pub stream-gives : Leads i none (stream_ops m i kind a) (ended s)
  stream-gives =
      leads-append i none (going s) (ended s) (op.Open (header_for m i kind) a.base ∷ dimension_ops m i a 0 m.loops) (op.End i ∷ [])
      (leads-first i none (going opened) (going s) (op.Open (header_for m i kind) a.base) (dimension_ops m i a 0 m.loops) open-offers
      (rw (eq-eqb i i refl))
      (dimensions-give m ac.range i low a t.range 0 m.loops opened (omega arith) refl (omega (arith, (bounded m ac).few))))
      (leads-first i (going s) (ended s) (ended s) (op.End i) [] end-offers (rw (eq-eqb i i refl)) (leads-none i (ended s) (ended s) refl))
