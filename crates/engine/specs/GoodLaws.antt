-- Checks that gave no refusal, and registers that stay good.
--
--   next, more, passed, clear          a list of checks that gives none
--   all_same, fresh-good, fresh-machine-good   what a sheet starts with
--   after-configuring                  an ended stream is not being configured
--   dimension-passed, modifier-passed, end-accepted, target-most   what an operation that is not refused finds
--   opened-good, dimensioned-good, modified-good, moved-good, ended-good, applied-good
--                                      a good register after an operation
--   in-machine, put_same, put_other, put-good   a register put back
--   put-back, configured-put, configured-kept, configured-by, configured-own, configured-other, configured-good   the machine after an operation
--   width-most            what the code takes for granted
use Rattle.std.specs.Prelude.{◌≡◌, ℕ, zero, suc, ◌+◌, ◌^◌, ◌<◌, ◌≤◌, Bool, true, false, cond, ◌≢◌, List, [], ◌∷◌, length, replicate, ◌==◌, nat_le, nat_lt, slice_index_or, slice_set, unsigned_abs, refl, Ok, Err, Result, Option, None}
use Rattle.std.proofs.Common.{sym, ◌∙◌, ap, subst, ⊎_elim, arith, length-set, get_or-set_same, get_or-set_other, pow_mono, pow_pos, leb-true, leb-false, ltb-true, ltb-false}
use mathlib.Core.List.Memᴰ
use mathlib.Core.List.{Memᴰ}
use Rattle.std.proofs.lemmas.List.{get_or-replicate, set-get_or}
use Rattle.std.specs.Int.Signed.{non_neg}
use Rattle.std.proofs.lemmas.Bool.{eqb-false, not-false}
use Rattle.codec.specs.TestLaws.{never, both, or-false}
use Rattle.codec.specs.HeaderLaws.{header-range}
use Rattle.codec.specs.RangeLaws.{dimension-range, modifier-range, run-range, open-range}
use Rattle.codec.specs.Headers.{bytes_of, coupling_in_range}
use Rattle.codec.specs.Operations.{is_base, dimension_in_range, modifier_in_range, operation_in_range}
use Rattle.codec.specs.declared.amounts.Bytes.{Bytes}
use Rattle.codec.specs.declared.header.Header.{Header}
use Rattle.codec.specs.declared.header.Width.{Width}
use Rattle.codec.specs.declared.header.Width.TheVariants.{B, H, W, D}
use Rattle.codec.specs.declared.operation.Dimension.{Dimension}
use Rattle.codec.specs.declared.operation.Modifier as given
use Rattle.codec.specs.declared.operation.Operation.{Operation}
use Rattle.codec.specs.declared.operation.Operation.TheVariants as op
use Rattle.codec.specs.declared.refusal.Refusal.{Refusal}
use Rattle.engine.specs.Chunks.{stops}
use Rattle.engine.specs.Rules.{highs_of, product}
use Rattle.engine.specs.Addresses.{no_bytes, no_elements}
use Rattle.engine.specs.Checks.{Check, ◌if◌, first_of, Why}
use Rattle.engine.specs.Registers.{is_configuring, is_open, is_finished, no_modifier, no_shape, no_pattern, fresh, no_register, shape_of, moved_to, fresh_machine, reg, put}
use Rattle.engine.specs.Configure.{dimension_checks, modifier_checks, uncovered, end_checks, opened, patterned, dimensioned, owned, modified, ended, register_of, checks_for, applied, unless_because, why_not, configured, or_refusal}
use Rattle.engine.specs.Good.{RangedModifier, Ranged, RangedPattern, Accepted, IsWidth, Standing, Good, AllGood}
use Rattle.engine.specs.IndexLaws.{index-length}
use Rattle.engine.specs.declared.stream.Modifier.{Modifier}
use Rattle.engine.specs.declared.stream.Shape.{Shape}
use Rattle.engine.specs.declared.stream.Pattern.{Pattern}
use Rattle.engine.specs.declared.register.State.{State}
use Rattle.engine.specs.declared.register.State.TheVariants.{Plain, Configuring, Open, Finished}
use Rattle.engine.specs.declared.register.Register.{Register}
use Rattle.engine.specs.declared.register.Machine.{Machine}

-- ---- checks

-- a list of checks gives none: its first does not apply, and the others give none
pub next : (x : Refusal) (b : Bool) (cs : List Check) → first_of (x if b ∷ cs) ≡ Ok tt → (b ≡ false) × (first_of cs ≡ Ok tt)
unfolding first_of
next x true cs e = absurd (let z : ◌≡◌ {A = ℕ} 0 1 = cc in omega arith)
next x false cs e = (refl, e)

-- and the reverse
pub more : (x : Refusal) (b : Bool) (cs : List Check) → b ≡ false → first_of cs ≡ Ok tt → first_of (x if b ∷ cs) ≡ Ok tt
unfolding first_of
more x b cs p e = rw p e

-- a list of checks gives none: no check of it applies
pub passed : (cs : List Check) → first_of cs ≡ Ok tt → (c : Check) → Memᴰ c cs → c.applies ≡ false
passed [] e c m = absurd (Memᴰ.not-nil m)
passed (b ∷ cs) e c m =
    let n = next b.refusal b.applies cs e in
    ⊎_elim (λ q. ap (λ d. d.applies) q ∙ n.0) (λ q. passed cs n.1 c q) (Memᴰ.cases_cons m)

-- and the reverse
pub clear : (cs : List Check) → ((c : Check) → Memᴰ c cs → c.applies ≡ false) → first_of cs ≡ Ok tt
unfolding first_of
clear [] h = refl
clear (b ∷ cs) h = more b.refusal b.applies cs (h b (Memᴰ.head refl)) (clear cs (λ c m. h c (Memᴰ.tail m)))

-- ---- what a sheet starts with

-- each place of a list of one value has it
pub all_same : {A : Type 0} (n d : ℕ) (a : A) → slice_index_or (replicate n a) d a ≡ a
all_same zero d a = refl
all_same (suc n) zero a = refl
all_same (suc n) (suc d) a = all_same n d a

-- a shape with no descriptors yet is in range
bare-shape : (coupling : Option ℕ) → Ranged (record { dims = 0; sizes = no_shape.sizes; mods = 0; modifiers = no_shape.modifiers; coupling = coupling })
bare-shape coupling = record {
  dims = omega arith;
  mods = omega arith;
  sizes = refl;
  modifiers = refl;
  size = λ d. omega (arith, all_same {A = ℕ} 7 d 0);
  modifier = λ k h. absurd (omega arith);
}

-- a pattern with no descriptors yet and a base in range is in range
bare : (coupling : Option ℕ) (base : Bytes) → coupling_in_range coupling ≡ true → unsigned_abs base.0 ≤ 1048576
    → RangedPattern (record {
      shape = record { dims = 0; sizes = no_shape.sizes; mods = 0; modifiers = no_shape.modifiers; coupling = coupling };
      base = base;
      offsets = no_pattern.offsets;
      strides = no_pattern.strides;
    })
bare coupling base c h = record {
  shape = bare-shape coupling;
  coupled = c;
  base = h;
  offsets = refl;
  strides = refl;
  offset = λ d. omega (arith, ap (λ x. unsigned_abs x.0) (all_same 7 d no_bytes));
  stride = λ d. omega (arith, ap (λ x. unsigned_abs x.0) (all_same 7 d no_elements));
}

-- a fresh register is good
pub fresh-good : (vl : ℕ) → Good vl fresh
fresh-good vl = record {
  width = (0, omega arith, refl);
  lanes = refl;
  valid = omega arith;
  pattern = bare None no_bytes refl (omega arith);
  indices = refl;
  unmoved = λ e. refl;
  opened = λ e. never e;
  finished = λ e. never e;
}

-- so are all that a sheet starts with
pub fresh-machine-good : (vl : ℕ) → AllGood vl fresh_machine
fresh-machine-good vl = record { all = refl; good = λ i h. subst (λ r. Good vl r) (sym (get_or-replicate 32 i fresh no_register h)) (fresh-good vl) }

-- ---- a good register after an operation

-- a width is 1, 2, 4 or 8 bytes
pub is-width : (w : Width) → IsWidth (bytes_of w)
is-width B = (0, omega arith, refl)
is-width H = (1, omega arith, refl)
is-width W = (2, omega arith, refl)
is-width D = (3, omega arith, refl)

-- after open
pub opened-good : (vl : ℕ) (h : Header) (b : Bytes) → operation_in_range (op.Open h b) ≡ true → Good vl (opened h b)
unfolding operation_in_range
opened-good vl h b e = record {
  width = is-width h.width;
  lanes = refl;
  valid = omega arith;
  pattern = bare h.coupling b (header-range h (open-range h b e).0).1 (leb-true (unsigned_abs b.0) 1048576 (both (non_neg b.0) (is_base (unsigned_abs b.0)) (open-range h b e).1).1);
  indices = refl;
  unmoved = λ e. refl;
  opened = λ e. never e;
  finished = λ e. never e;
}

-- what holds of each element and of the one that is put holds of each afterwards
pub set-each : {A : Type 0} (P : A → Type 0) (l : List A) (i j : ℕ) (a z : A) → P a → P (slice_index_or l j z) → P (slice_index_or (slice_set l i a) j z)
set-each P [] i j a z p q = q
set-each P (x ∷ l) zero zero a z p q = p
set-each P (x ∷ l) zero (suc j) a z p q = q
set-each P (x ∷ l) (suc i) zero a z p q = q
set-each P (x ∷ l) (suc i) (suc j) a z p q = set-each P l i j a z p q

-- a register that is being configured is neither open nor finished
configuring-only : (k : State) → is_configuring k ≡ true → (is_open k ≡ false) × (is_finished k ≡ false)
configuring-only Plain e = never e
configuring-only Configuring e = (refl, refl)
configuring-only Open e = never e
configuring-only Finished e = never e

-- another pattern in range, while the register is being configured
patterned-good : (vl : ℕ) (r : Register) (p : Pattern) → Good vl r → is_configuring r.state ≡ true → RangedPattern p → Good vl (patterned p r)
patterned-good vl r p g c h = record {
  width = g.width;
  lanes = g.lanes;
  valid = g.valid;
  pattern = h;
  indices = g.indices;
  unmoved = g.unmoved;
  opened = λ e. never (sym (configuring-only r.state c).0 ∙ e);
  finished = λ e. never (sym (configuring-only r.state c).1 ∙ e);
}

-- a modifier in range is so with one dimension more
wider : (n : ℕ) (m : Modifier) → RangedModifier n m → RangedModifier (n + 1) m
wider n m h = record { below = h.below; owned = omega (arith, h.owned); displaced = h.displaced }

-- a pattern in range, of fewer than seven dimensions, is so with one more
dimensioned-ranged : (d : Dimension) (p : Pattern) → RangedPattern p → dimension_in_range d ≡ true → p.shape.dims < 7 → RangedPattern (dimensioned d p)
dimensioned-ranged d p h e q =
    let r = dimension-range d e in
    record {
      shape = record {
        dims = omega arith;
        mods = h.shape.mods;
        sizes = length-set p.shape.sizes p.shape.dims d.size ∙ h.shape.sizes;
        modifiers = h.shape.modifiers;
        size = λ j. set-each (λ x. x ≤ 4096) p.shape.sizes p.shape.dims j d.size 0 r.2 (h.shape.size j);
        modifier = λ k t. wider p.shape.dims (slice_index_or p.shape.modifiers k no_modifier) (h.shape.modifier k t);
      };
      coupled = h.coupled;
      base = h.base;
      offsets = length-set p.offsets p.shape.dims d.offset ∙ h.offsets;
      strides = length-set p.strides p.shape.dims d.stride ∙ h.strides;
      offset = λ j. set-each (λ x. unsigned_abs x.0 ≤ 1048576) p.offsets p.shape.dims j d.offset no_bytes (leb-true (unsigned_abs d.offset.0) 1048576 r.1) (h.offset j);
      stride = λ j. set-each (λ x. unsigned_abs x.0 ≤ 1048576) p.strides p.shape.dims j d.stride no_elements (leb-true (unsigned_abs d.stride.0) 1048576 r.3) (h.stride j);
    }

-- what a dimension that is not refused finds
pub dimension-passed : (r : Register) → first_of (dimension_checks r) ≡ Ok tt → (is_configuring r.state ≡ true) × ((shape_of r).dims < 7)
dimension-passed r w =
    let a = next _ _ _ w in
    let b = next _ _ _ a.1 in
    (not-false (is_configuring r.state) a.0, leb-false 7 (shape_of r).dims b.0)

-- after a dimension that is not refused
pub dimensioned-good : (vl : ℕ) (d : Dimension) (r : Register) → Good vl r → operation_in_range (op.Dimension d) ≡ true → first_of (dimension_checks r) ≡ Ok tt
    → Good vl (patterned (dimensioned d r.pattern) r)
unfolding operation_in_range
dimensioned-good vl d r g e w =
    let a = dimension-passed r w in
    patterned-good vl r (dimensioned d r.pattern) g a.0 (dimensioned-ranged d r.pattern g.pattern e a.1)

-- a modifier whose target is below the dimension added last is in range
owned-ranged : (m : given.Modifier) (s : Shape) → modifier_in_range m ≡ true → m.target + 1 < s.dims → RangedModifier s.dims (owned m s)
owned-ranged m s e q = record { below = omega arith; owned = omega arith; displaced = (modifier-range m e).2 }

-- one modifier more, behind those that were given
one_more : (n dims : ℕ) (l : List Modifier) (m : Modifier) → n < length l → RangedModifier dims m
    → ((k : ℕ) → k < n → RangedModifier dims (slice_index_or l k no_modifier)) → (k : ℕ) → k < n + 1 → RangedModifier dims (slice_index_or (slice_set l n m) k no_modifier)
one_more n dims l m q h each k t = go (nat_lt k n) refl
  where
    go : (b : Bool) → nat_lt k n ≡ b → RangedModifier dims (slice_index_or (slice_set l n m) k no_modifier)
    go true e = set-each (RangedModifier dims) l n k m no_modifier h (each k (ltb-true k n e))
    go false e =
        let z : k ≡ n = omega (arith, ltb-false k n e) in
        subst (λ i. RangedModifier dims (slice_index_or (slice_set l n m) i no_modifier)) (sym z) (subst (RangedModifier dims) (sym (get_or-set_same l n m no_modifier q)) h)

-- a pattern in range, of fewer than eight modifiers, is so with one more whose target is below its owner
modified-ranged : (m : given.Modifier) (p : Pattern) → RangedPattern p → modifier_in_range m ≡ true → p.shape.mods < 8 → m.target + 1 < p.shape.dims
    → RangedPattern (modified m p)
modified-ranged m p h e q t = record {
  shape = record {
    dims = h.shape.dims;
    mods = omega arith;
    sizes = h.shape.sizes;
    modifiers = length-set p.shape.modifiers p.shape.mods (owned m p.shape) ∙ h.shape.modifiers;
    size = h.shape.size;
    modifier = one_more p.shape.mods p.shape.dims p.shape.modifiers (owned m p.shape) (omega (arith, h.shape.modifiers)) (owned-ranged m p.shape e t) h.shape.modifier;
  };
  coupled = h.coupled;
  base = h.base;
  offsets = h.offsets;
  strides = h.strides;
  offset = h.offset;
  stride = h.stride;
}

-- a modifier's target field
pub target-most : (m : given.Modifier) → operation_in_range (op.Modifier m) ≡ true → m.target < 7
unfolding operation_in_range
target-most m e = let r = modifier-range m e in omega (arith, r.1)

-- what a modifier that is not refused finds
pub modifier-passed : (target : ℕ) (r : Register) → first_of (modifier_checks target r) ≡ Ok tt
    → (is_configuring r.state ≡ true) × ((shape_of r).mods < 8) × (target + 1 < (shape_of r).dims)
modifier-passed target r w =
    let a = next _ _ _ w in
    let b = next _ _ _ a.1 in
    let c = next _ _ _ b.1 in
    (not-false (is_configuring r.state) a.0, leb-false 8 (shape_of r).mods b.0, leb-false (shape_of r).dims (target + 1) c.0)

-- after a modifier that is not refused
pub modified-good : (vl : ℕ) (m : given.Modifier) (r : Register) → Good vl r → operation_in_range (op.Modifier m) ≡ true → first_of (modifier_checks m.target r) ≡ Ok tt
    → Good vl (patterned (modified m r.pattern) r)
unfolding operation_in_range
modified-good vl m r g e w =
    let a = modifier-passed m.target r w in
    patterned-good vl r (modified m r.pattern) g a.0 (modified-ranged m r.pattern g.pattern e a.1 a.2)

-- an ended stream is no longer being configured
pub after-configuring : (b : Bool) → is_configuring (cond b Finished Open) ≡ false
after-configuring true = refl
after-configuring false = refl

-- an ended stream is open only if it has not gone past all its stops
after_open : (b : Bool) → is_open (cond b Finished Open) ≡ true → b ≡ false
after_open true e = sym e
after_open false e = refl

-- an ended stream is finished only if it has gone past all its stops
after-finished : (b : Bool) → is_finished (cond b Finished Open) ≡ true → b ≡ true
after-finished true e = refl
after-finished false e = e

-- after n stops in all
pub moved-good : (vl : ℕ) (r : Register) → Good vl r → Accepted (shape_of r) → (n : ℕ) → n ≤ length (stops (shape_of r)) → Good vl (moved_to n r)
moved-good vl r g a n h =
    let all : ℕ = length (stops (shape_of r)) in
    let stands : Standing (moved_to n r) = record { accepted = a; index = refl; height = refl } in
    record {
      width = g.width;
      lanes = g.lanes;
      valid = g.valid;
      pattern = g.pattern;
      indices = index-length (slice_index_or (stops (shape_of r)) n []);
      unmoved = λ e. never (sym (after-configuring (nat_le all n)) ∙ e);
      opened = λ e. (stands, leb-false all n (after_open (nat_le all n) e));
      finished = λ e. let q : all ≤ n = leb-true all n (after-finished (nat_le all n) e) in (stands, omega arith);
    }

-- a shape that end does not refuse
pub end-accepted : (r : Register) → Ranged (shape_of r) → coupling_in_range (shape_of r).coupling ≡ true → first_of (end_checks r) ≡ Ok tt → Accepted (shape_of r)
end-accepted r h k w =
    let s : Shape = shape_of r in
    let a = next _ _ _ w in
    let b = next _ _ _ a.1 in
    let c = next _ _ _ b.1 in
    let d = next _ _ _ c.1 in
    let n = or-false (s.dims == 0) (uncovered s s.coupling) b.0 in
    record {
      ranged = h;
      coupled = k;
      some = some s.dims (eqb-false s.dims 0 n.0);
      covered = n.1;
      bounded = c.0;
      few = ltb-false 1048576 (product (highs_of s)) d.0;
    }
  where
    some : (n : ℕ) → (n ≢ 0) → 1 ≤ n
    some zero f = absurd (f refl)
    some (suc n) f = omega arith

-- after end that is not refused
pub ended-good : (vl : ℕ) (r : Register) → Good vl r → first_of (end_checks r) ≡ Ok tt → Good vl (ended r)
ended-good vl r g w = moved-good vl r g (end-accepted r g.pattern.shape g.pattern.coupled w) 0 (omega arith)

-- after any operation that is not refused
pub applied-good : (vl : ℕ) (o : Operation) (r : Register) → Good vl r → operation_in_range o ≡ true → first_of (checks_for o r) ≡ Ok tt → Good vl (applied o r)
applied-good vl (op.Open h b) r g e w = opened-good vl h b e
applied-good vl (op.Dimension d) r g e w = dimensioned-good vl d r g e w
applied-good vl (op.Modifier m) r g e w = modified-good vl m r g e w
applied-good vl (op.End i) r g e w = ended-good vl r g w
applied-good vl (op.Run i n) r g e w = g

-- ---- the machine

-- an operation in range names one of the 32 registers
pub in-machine : (o : Operation) → operation_in_range o ≡ true → register_of o < 32
unfolding operation_in_range
in-machine (op.Open h b) e = let r = header-range h (open-range h b e).0 in omega (arith, r.0)
in-machine (op.Dimension d) e = let r = dimension-range d e in omega (arith, r.0)
in-machine (op.Modifier m) e = let r = modifier-range m e in omega (arith, r.0)
in-machine (op.End i) e = omega (arith, leb-true i 31 e)
in-machine (op.Run i n) e = let r = run-range i n e in omega (arith, r.0)

-- a register put back is found there
pub put_same : (m : Machine) (i : ℕ) (r : Register) → i < length m.registers → reg (put m i r) i ≡ r
put_same m i r h = get_or-set_same m.registers i r no_register h

-- all others are as they were
pub put_other : (m : Machine) (i j : ℕ) (r : Register) → j ≢ i → reg (put m i r) j ≡ reg m j
put_other m i j r h = get_or-set_other m.registers i j r no_register h

-- a good register put back
pub put-good : (vl : ℕ) (m : Machine) (i : ℕ) (r : Register) → AllGood vl m → Good vl r → AllGood vl (put m i r)
put-good vl m i r a g = record {
  all = length-set m.registers i r ∙ a.all;
  good = λ j h. set-each (Good vl) m.registers i j r no_register g (a.good j h);
}

-- an operation puts its register back: changed, or as it was if it is refused
pub configured-put : (o : Operation) (m : Machine)
    → configured o m ≡ put m (register_of o) (unless_because (why_not o m) (applied o (reg m (register_of o))) (reg m (register_of o)))
unfolding configured
configured-put o m = go (why_not o m)
  where
    go : (w : Why) → unless_because w (put m (register_of o) (applied o (reg m (register_of o)))) m ≡ put m (register_of o) (unless_because w (applied o (reg m (register_of o))) (reg m (register_of o)))
    go (Ok _) = refl
    go (Err x) = ap (λ l. record { registers = l }) (sym (set-get_or m.registers (register_of o) no_register))

-- a register put back as it was
pub put-back : (m : Machine) (i : ℕ) → put m i (reg m i) ≡ m
put-back m i = ap (λ l. record { registers = l }) (set-get_or m.registers i no_register)

-- a refused one leaves all as it was
pub configured-kept : (o : Operation) (m : Machine) (x : Refusal) → why_not o m ≡ Err x → configured o m ≡ m
unfolding configured
configured-kept o m x e = rw e

-- what code that finds the register was told of the operation there: why it is refused, and the register stays, or what to put back
pub configured-by : (o : Operation) (m : Machine) (i : ℕ) (a : Result Register Refusal) → i ≡ register_of o → a ≡ or_refusal (first_of (checks_for o (reg m i))) (applied o (reg m i))
    → ((x : Refusal) → a ≡ Err x → (why_not o m ≡ Err x) × (put m i (reg m i) ≡ configured o m)) × ((r : Register) → a ≡ Ok r → (why_not o m ≡ Ok tt) × (put m i r ≡ configured o m))
unfolding why_not configured
configured-by o m i a e p = go (first_of (checks_for o (reg m (register_of o)))) refl
  where
    told : a ≡ or_refusal (first_of (checks_for o (reg m (register_of o)))) (applied o (reg m (register_of o)))
    told = p ∙ (λ j. or_refusal (first_of (checks_for o (reg m (e j)))) (applied o (reg m (e j))))

    go : (w : Why) → first_of (checks_for o (reg m (register_of o))) ≡ w
        → ((x : Refusal) → a ≡ Err x → (first_of (checks_for o (reg m (register_of o))) ≡ Err x) × (put m i (reg m i) ≡ unless_because (first_of (checks_for o (reg m (register_of o)))) (put m (register_of o) (applied o (reg m (register_of o)))) m))
        × ((r : Register) → a ≡ Ok r → (first_of (checks_for o (reg m (register_of o))) ≡ Ok tt) × (put m i r ≡ unless_because (first_of (checks_for o (reg m (register_of o)))) (put m (register_of o) (applied o (reg m (register_of o)))) m))
    go (Ok u) f =
        let k : a ≡ Ok (applied o (reg m (register_of o))) = rw f at told in (
          λ x g. absurd cc,
          λ r g.
              let own : r ≡ applied o (reg m (register_of o)) = cc in
              (f, (λ j. put m (e j) (own j)) ∙ sym (ap (λ w. unless_because w (put m (register_of o) (applied o (reg m (register_of o)))) m) f)),
        )
    go (Err y) f =
        let k : a ≡ Err y = rw f at told in (
          λ x g.
              let same : y ≡ x = cc in
              (f ∙ ap Err same, put-back m i ∙ sym (ap (λ w. unless_because w (put m (register_of o) (applied o (reg m (register_of o)))) m) f)),
          λ r g. absurd cc,
        )

-- its own register afterwards
pub configured-own : (o : Operation) (m : Machine) → register_of o < length m.registers
    → reg (configured o m) (register_of o) ≡ unless_because (why_not o m) (applied o (reg m (register_of o))) (reg m (register_of o))
configured-own o m h =
    let r : Register = unless_because (why_not o m) (applied o (reg m (register_of o))) (reg m (register_of o)) in
    ap (λ n. reg n (register_of o)) (configured-put o m) ∙ put_same m (register_of o) r h

-- it changes no other register
pub configured-other : (o : Operation) (m : Machine) (i : ℕ) → i ≢ register_of o → reg (configured o m) i ≡ reg m i
configured-other o m i h =
    let r : Register = unless_because (why_not o m) (applied o (reg m (register_of o))) (reg m (register_of o)) in
    ap (λ n. reg n i) (configured-put o m) ∙ put_other m (register_of o) i r h

-- the machine after an operation in range, refused or not
pub configured-good : (vl : ℕ) (o : Operation) (m : Machine) → AllGood vl m → operation_in_range o ≡ true → AllGood vl (configured o m)
unfolding configured why_not
configured-good vl o m a e = go (first_of (checks_for o (reg m (register_of o)))) refl
  where
    go : (w : Why) → first_of (checks_for o (reg m (register_of o))) ≡ w → AllGood vl (unless_because w (put m (register_of o) (applied o (reg m (register_of o)))) m)
    go (Ok _) w = put-good vl m (register_of o) (applied o (reg m (register_of o))) a (applied-good vl o (reg m (register_of o)) (a.good (register_of o) (in-machine o e)) e w)
    go (Err x) w = a

-- ---- what the code takes for granted

-- a width is at most 8
pub width-most : (w : ℕ) → IsWidth w → w ≤ 8
width-most w h = let q : 2 ^ h.0 ≤ 2 ^ 3 = pow_mono h.1 in omega (arith, h.2)

-- a width is at least one byte
pub width_some : (w : ℕ) → IsWidth w → 1 ≤ w
width_some w h = rw h.2 (pow_pos h.0)
