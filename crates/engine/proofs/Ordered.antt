-- A calculation's checks on its operands, in document 01's order, and what it does once none applies.
use Rattle.std.proofs.Common.{◌≡◌, ℕ, ◌*◌, ◌/◌, ◌≤◌, Bool, true, false, cond, not, ◌&&◌, ◌||◌, eqb, ltb, List, [], ◌∷◌, ◌++◌, length, take, sym, refl, ap, ◌∙◌, subst, ap₂, le_refl, le-div_iff_mul-le, arith, eqb-true, Ok, Err}
use borrow.Author.Tests.{not-false}
use Rattle.codec.specs.TestLaws.{or-false, and-false}
use Rattle.codec.specs.declared.operation.Task.{Task}
use Rattle.codec.specs.declared.operation.Task.TheVariants.{Each, All}
use Rattle.codec.specs.declared.refusal.Role.{Role}
use Rattle.codec.specs.declared.refusal.Role.TheVariants as role
use Rattle.codec.specs.declared.refusal.Refusal.{Refusal}
use Rattle.codec.specs.declared.refusal.Refusal.TheVariants.{Widths, LaneCounts, NoLanes}
use Rattle.engine.specs.Loops.{size_at}
use Rattle.engine.specs.Chunks.{stream_groups, chunk}
use Rattle.engine.specs.StopLaws.{among-length}
use Rattle.engine.specs.ChunkLaws.{chunk-lanes}
use Rattle.engine.specs.Lanes.{outcome, outcome_count, wants_lanes}
use Rattle.engine.specs.Memory.{holding}
use Rattle.engine.specs.Checks.{Check, ◌if◌, first_of, Why}
use Rattle.engine.specs.CheckLaws.{first-behind, first_stops, first_goes}
use Rattle.engine.specs.Calculate.{given, source_checks, destination_checks, inside_check}
use Rattle.engine.specs.EffectLaws.{open-store, given-fits, outcome-length}
use Rattle.engine.specs.EffectGood.{outcome_fits}
use Rattle.engine.specs.Registers.{is_open, open_load, open_store, shape_of, next_chunk}
use Rattle.engine.specs.Good.{Good}
use Rattle.engine.specs.GoodLaws.{next, width_some}
use Rattle.engine.specs.Stretches.{stored_at}
use Rattle.engine.proofs.LaneCounts.{few-lanes}
use Rattle.engine.specs.Operands.{Operand, Operates, outside_at, results_on, why_on, Calculated, lanes_out, CarriedOut}
use Rattle.engine.specs.OperandLaws.{source-count, source-outside, source-lanes, source-after, target-count, target-outside, target-after, target-memory}
use Rattle.engine.specs.declared.register.Register.{Register}

abbrev pub states : Register → Register → Register → List Check
states a b d = source_checks a ++ source_checks b ++ destination_checks d

-- 12, 13, 18, and 14 of each register in turn
abbrev pub after : Bool → Bool → Bool → Check → Check → Check → List Check
after w l s x y z = Widths if w ∷ LaneCounts if l ∷ NoLanes if s ∷ x ∷ y ∷ z ∷ []

abbrev pub widths : Register → Register → Register → Bool
widths a b d = not (eqb a.width b.width) || open_store d && not (eqb a.width d.width)

abbrev pub counts : Task → Operand → Operand → Operand → Bool
counts t x y z = not (eqb x.count y.count) || z.live && ltb z.count (outcome_count t x.count)

abbrev pub lacking : Task → ℕ → Bool
lacking t n = wants_lanes t && eqb n 0

abbrev pub beyond : Role → ℕ → Register → Operand → Check
beyond role len r o = outside_at role len r.width o.live o.addresses

module _ (t : Task) (vl : ℕ) (memory : List ℕ) (a b d : Register) where
  -- the states refuse
  pub states-stop : (w : Why) {x : Refusal} → w ≡ first_of (states a b d) → w ≡ Err x → why_on t vl memory a b d ≡ w
  states-stop w e f = first_stops (states a b d) _ w (sym e) f

  -- they do not: the others decide
  pub states-pass : first_of (states a b d) ≡ Ok tt
      → why_on t vl memory a b d
      ≡ first_of (after (widths a b d)
      (not (eqb (length (given vl memory a)) (length (given vl memory b))) || open_store d && ltb (length (next_chunk vl d)) (outcome_count t (length (given vl memory a))))
      (lacking t (length (given vl memory a)))
      (inside_check role.First (length memory) a (next_chunk vl a)) (inside_check role.Second (length memory) b (next_chunk vl b)) (inside_check role.Destination (length memory) d (take (outcome_count t (length (given vl memory a))) (next_chunk vl d))))
  states-pass e = first_goes (states a b d) _ e

  -- the destination is no open load
  no-load : first_of (states a b d) ≡ Ok tt → open_load d ≡ false
  no-load e =
      let s = (next _ _ _ (next _ _ _ (next _ _ _ e).1).1).1 in
      let t = (next _ _ _ (next _ _ _ (next _ _ _ s).1).1).1 in
      (next _ _ _ (next _ _ _ (next _ _ _ t).1).1).0

  -- 12 refuses
  pub widths-stop : first_of (states a b d) ≡ Ok tt → widths a b d ≡ true → why_on t vl memory a b d ≡ Err Widths
  unfolding first_of
  widths-stop e f = states-pass e ∙ rw f

same_store : (d : Register) → open_load d ≡ false → open_store d ≡ is_open d.state
same_store d e = go (is_open d.state) refl
  where
    go : (t : Bool) → is_open d.state ≡ t → open_store d ≡ is_open d.state
    go true f = open-store d e f ∙ sym f
    go false f = rw f

module _ (t : Task) (vl : ℕ) (least : 8 ≤ vl) (memory : List ℕ) (a b d : Register) (ga : Good vl a) (gb : Good vl b) (x y z : Operand)
    (hx : Operates a (vl / a.width) a.valid x) (hy : Operates b (vl / b.width) b.valid y)
    (hz : Operates d (outcome_count t x.count) (outcome_count t x.count) z)
    (e : first_of (states a b d) ≡ Ok tt) (w : widths a b d ≡ false) where
  abbrev pub n : ℕ
  n = outcome_count t x.count

  first_count : x.count ≡ length (given vl memory a)
  first_count = source-count vl memory a x hx

  second-count : y.count ≡ length (given vl memory b)
  second-count = source-count vl memory b y hy

  store : open_store d ≡ is_open d.state
  store = same_store d (no-load t vl memory a b d e)

  -- both sources have one width, and so has a store
  pub one_width : b.width ≡ a.width
  one_width = sym (eqb-true _ _ (not-false _ (or-false _ _ w).0))

  pub store-width : is_open d.state ≡ true → d.width ≡ a.width
  store-width o = sym (eqb-true _ _ (not-false _ (and-false _ _ (or-false (not (eqb a.width b.width)) _ w).1 (store ∙ o))))

  -- there are no more lanes than the vector length has room for
  pub fits : x.count * a.width ≤ vl
  fits = rw first_count (given-fits vl memory a ga)

  -- nor lanes of the result
  pub outcome-room : n * a.width ≤ vl
  outcome-room = outcome_fits t vl x.count a.width least ga.width fits

  room : is_open d.state ≡ true → n ≤ vl / d.width
  room o = subst (λ j. n ≤ vl / j) (sym (store-width o)) ((le-div_iff_mul-le {k = a.width} (width_some a.width ga.width)).1 outcome-room)

  -- 13, 18 and 14 by the operands
  pub flags : why_on t vl memory a b d
      ≡ first_of (after false (counts t x y z) (lacking t x.count) (beyond role.First (length memory) a x) (beyond role.Second (length memory) b y) (beyond role.Destination (length memory) d z))
  flags =
      let m = outcome_count t (length (given vl memory a)) in
      let c : (z.live && ltb z.count n) ≡ (open_store d && ltb (length (next_chunk vl d)) m) =
      target-count vl n d z hz room ∙ ap₂ (λ s k. s && ltb (length (next_chunk vl d)) (outcome_count t k)) (sym store) first_count in
      let l : counts t x y z ≡ (not (eqb (length (given vl memory a)) (length (given vl memory b))) || open_store d && ltb (length (next_chunk vl d)) m) =
      ap₂ (λ s t. not s || t) (ap₂ eqb first_count second-count) c in
      let len = length memory in
      let o : first_of (beyond role.Destination len d z ∷ []) ≡ first_of (inside_check role.Destination len d (take m (next_chunk vl d)) ∷ []) =
      target-outside vl n d z hz room role.Destination len [] ∙ ap (λ k. first_of (inside_check role.Destination len d (take (outcome_count t k) (next_chunk vl d)) ∷ [])) first_count in
      states-pass t vl memory a b d e
      ∙ (λ i. first_of (after (w i) (sym l i) (lacking t (sym first_count i)) (inside_check role.First len a (next_chunk vl a)) (inside_check role.Second len b (next_chunk vl b)) (inside_check role.Destination len d (take m (next_chunk vl d)))))
      ∙ first-behind (Widths if false) _ _
      (first-behind (LaneCounts if counts t x y z) _ _
      (first-behind (NoLanes if lacking t x.count) _ _
      (sym (source-outside vl memory a x hx role.First len _)
      ∙ first-behind (beyond role.First len a x) _ _
      (sym (source-outside vl memory b y hy role.Second len _) ∙ first-behind (beyond role.Second len b y) _ _ (sym o)))))

-- a calculation that no check refuses
module _ (t : Task) (vl : ℕ) (least : 8 ≤ vl) (memory : List ℕ) (a b d : Register) (ga : Good vl a) (x y z : Operand)
    (hx : Operates a (vl / a.width) a.valid x) (hy : Operates b (vl / b.width) b.valid y)
    (hz : Operates d (outcome_count t x.count) (outcome_count t x.count) z)
    (widths : is_open d.state ≡ true → d.width ≡ a.width) (same : x.count ≡ y.count)
    (full : is_open d.state ≡ true → z.count ≡ outcome_count t x.count) (nothing : why_on t vl memory a b d ≡ Ok tt) where
  enough : is_open d.state ≡ true → outcome_count t x.count ≤ vl / d.width
  enough o =
      subst (λ j. outcome_count t x.count ≤ vl / j) (sym (widths o))
      ((le-div_iff_mul-le {k = a.width} (width_some a.width ga.width)).1
      (outcome_fits t vl x.count a.width least ga.width (rw (source-count vl memory a x hx) (given-fits vl memory a ga))))

  results-long : length (results_on vl t memory a b) ≡ outcome_count t x.count
  results-long =
      let p = source-count vl memory a x hx in
      outcome-length t _ (given vl memory a) (given vl memory b) (sym p ∙ same ∙ source-count vl memory b y hy) ∙ ap (outcome_count t) (sym p)

  pub carried : (why : Why) (r1 r2 r3 : Register) (m : List ℕ) → CarriedOut t memory a b d x y z why r1 r2 r3 m → Calculated vl t memory a b d why r1 r2 r3 m
  carried why r1 r2 r3 m c =
      let p = source-lanes vl memory a x hx in
      let q = source-lanes vl memory b y hy in
      let o : lanes_out t memory a b x y ≡ results_on vl t memory a b = ap₂ (outcome t (8 * a.width)) p q in
      let i = results_on vl t memory a b in
      record {
        refused = c.done ∙ sym nothing;
        read = λ n. (c.read ∙ ap (λ xs. cond x.live (holding a.width xs x.after) a) p ∙ source-after vl memory a x hx);
        other = λ n. (c.other ∙ ap (λ xs. cond y.live (holding b.width xs y.after) b) q ∙ source-after vl memory b y hy);
        written = λ n. (c.written ∙ ap (λ xs. cond z.live z.after (holding a.width xs d)) o ∙ target-after vl (outcome_count t x.count) d z hz enough i results-long full a.width);
        stored = rw nothing (c.stored ∙ ap (λ xs. cond z.live (stored_at memory d.width z.addresses xs) memory) o ∙ target-memory vl (outcome_count t x.count) d z hz enough i results-long full memory);
      }

-- a source has at most 64 lanes, and a destination no more than are asked for
pub source-few : (vl : ℕ) (memory : List ℕ) (r : Register) (o : Operand) → vl ≤ 64 → Good vl r → Operates r (vl / r.width) r.valid o → o.count ≤ 64
source-few vl memory r o h g p =
    few-lanes o.count r.width (width_some r.width g.width) (omega (arith, ap (λ k. k * r.width) (source-count vl memory r o p), given-fits vl memory r g))

-- so has a result of them
pub outcome-few : (t : Task) (n : ℕ) → n ≤ 64 → outcome_count t n ≤ 64
outcome-few (Each action) n h = h
outcome-few (All fold) n h = omega arith

pub target-few : (n : ℕ) (d : Register) (o : Operand) → Operates d n n o → o.count ≤ n
target-few n d o h = go (is_open d.state) refl
  where
    go : (t : Bool) → is_open d.state ≡ t → o.count ≤ n
    go true e =
        rw (rw e at h.counted)
        (omega (arith, among-length (size_at (shape_of d)) (chunk (shape_of d) n d.moved), chunk-lanes (stream_groups (shape_of d)) n d.moved))
    go false e = rw (rw e at h.counted) (le_refl n)

-- the ways that a check on the operands refuses
module _ (w : Why) (l s : Bool) (x y z : Check) (f : w ≡ first_of (after false l s x y z)) where
  pub counts-stop : l ≡ true → w ≡ Err LaneCounts
  unfolding first_of
  counts-stop e = f ∙ rw e

  pub lanes-stop : l ≡ false → s ≡ true → w ≡ Err NoLanes
  unfolding first_of
  lanes-stop e g = f ∙ rw (e, g)

  -- neither 13 nor 18 does: 14 decides
  counts-pass : l ≡ false → s ≡ false → w ≡ first_of (x ∷ y ∷ z ∷ [])
  unfolding first_of
  counts-pass e g = f ∙ rw (e, g)

  pub first-outside : {v : Refusal} → l ≡ false → s ≡ false → first_of (x ∷ []) ≡ Err v → w ≡ Err v
  first-outside e i g = counts-pass e i ∙ first_stops (x ∷ []) (y ∷ z ∷ []) _ g refl

  pub second-outside : {v : Refusal} → l ≡ false → s ≡ false → first_of (x ∷ []) ≡ Ok tt → first_of (y ∷ []) ≡ Err v → w ≡ Err v
  second-outside e i g h = counts-pass e i ∙ first_goes (x ∷ []) (y ∷ z ∷ []) g ∙ first_stops (y ∷ []) (z ∷ []) _ h refl

  -- the last decides where the first two do not refuse
  pub third-outside : l ≡ false → s ≡ false → first_of (x ∷ []) ≡ Ok tt → first_of (y ∷ []) ≡ Ok tt → w ≡ first_of (z ∷ [])
  third-outside e i g h = counts-pass e i ∙ first_goes (x ∷ []) (y ∷ z ∷ []) g ∙ first_goes (y ∷ []) (z ∷ []) h
