-- Gains of the modifiers of a shape, one after another, as the code tells them apart.
use Rattle.std.proofs.Common.{◌≡◌, ℕ, suc, ◌+◌, ◌*◌, ◌<◌, ◌≤◌, Bool, true, false, cond, ◌&&◌, List, length, get_or, take, drop, sym, refl, ap, ◌∙◌, subst, arith, ne_eqb}
use denote.Enum.Bare.{sameb}
use Rattle.std.proofs.lemmas.List.{length-take-le, get_or-take}
use Rattle.codec.specs.declared.operation.Parameter.{Parameter}
use Rattle.codec.specs.declared.operation.Parameter.TheVariants.{Size, Offset, Stride}
use Rattle.codec.specs.declared.operation.Behaviour.{Behaviour}
use Rattle.codec.specs.declared.operation.Behaviour.TheVariants.{Add, Subtract}
use Rattle.engine.specs.Loops.{same_parameter, owner_index, modifiers_of}
use Rattle.engine.specs.Rules.{same_behaviour}
use Rattle.engine.specs.Gains.{gain_of, gain, gain_of-off}
use Rattle.engine.specs.Good.{RangedModifier, Ranged}
use Rattle.engine.specs.Registers.{no_modifier}
use Rattle.engine.specs.declared.stream.Modifier.{Modifier}
use Rattle.engine.specs.declared.stream.Shape.{Shape}
use Rattle.engine.proofs.GainSteps.{gain-other, gain-here, gain-next, reach-small}

-- one of another dimension moves nothing
gain-away : (q : Parameter) (b : Behaviour) (d : ℕ) (outer : List ℕ) (m : Modifier) → (m.target ≡ d → ⊥) → gain_of q b d outer m ≡ 0
unfolding gain_of
gain-away q b d outer m n = rw (ne_eqb m.target d n) (go (same_parameter m.parameter q))
  where
    go : (t : Bool) → cond (t && false) (cond (same_behaviour m.behaviour b) (owner_index m d outer * m.displacement) 0) 0 ≡ 0
    go true = refl
    go false = refl

-- the test that the code makes of two parameters
pub same-told : (p q : Parameter) → sameb Rattle.codec.specs.contracts.operation.Parameter.the_type p q ≡ same_parameter p q
same-told Size Size = refl
same-told Size Offset = refl
same-told Size Stride = refl
same-told Offset Size = refl
same-told Offset Offset = refl
same-told Offset Stride = refl
same-told Stride Size = refl
same-told Stride Offset = refl
same-told Stride Stride = refl

-- a modifier of a shape is in range
pub ranged-modifier : (s : Shape) → Ranged s → (k : ℕ) → k < length (modifiers_of s) → RangedModifier s.dims (get_or (modifiers_of s) k no_modifier)
ranged-modifier s r k h =
    let n = length-take-le s.mods s.modifiers (omega (arith, r.mods, r.modifiers)) in
    subst (RangedModifier s.dims) (sym (get_or-take s.mods s.modifiers k no_modifier (omega (arith, n)))) (r.modifier k (omega (arith, n)))

-- what it moves by
pub moves-small : (s : Shape) → Ranged s → (v : List ℕ) → ((k : ℕ) → get_or v k 0 ≤ 4096) → (k : ℕ) → k < length (modifiers_of s)
    → get_or v (get_or (modifiers_of s) k no_modifier).owner 0 * (get_or (modifiers_of s) k no_modifier).displacement ≤ 4294967296
moves-small s r v small k h = reach-small _ _ (small _) (ranged-modifier s r k h).displaced

module _ (ms : List Modifier) (q : Parameter) (d : ℕ) (v : List ℕ) where
  -- what the first modifiers move by
  abbrev pub up_to : Behaviour → ℕ → ℕ
  up_to b k = gain q b d (drop (suc d) v) (take k ms)

  module _ (k : ℕ) (h : k < length ms) where
    one : (b : Behaviour) → up_to b (k + 1) ≡ up_to b k + gain_of q b d (drop (suc d) v) (get_or ms k no_modifier)
    one b = gain-next q b d (drop (suc d) v) ms k h

    none : (b : Behaviour) → gain_of q b d (drop (suc d) v) (get_or ms k no_modifier) ≡ 0 → up_to b (k + 1) ≡ up_to b k
    none b e = omega (arith, one b, e)

    pub away : (b : Behaviour) → ((get_or ms k no_modifier).target ≡ d → ⊥) → up_to b (k + 1) ≡ up_to b k
    away b n = none b (gain-away q b d (drop (suc d) v) (get_or ms k no_modifier) n)

    pub other : (b : Behaviour) → same_parameter (get_or ms k no_modifier).parameter q ≡ false → up_to b (k + 1) ≡ up_to b k
    other b e = none b (gain-other q b d (drop (suc d) v) (get_or ms k no_modifier) e)

    module _ (p : same_parameter (get_or ms k no_modifier).parameter q ≡ true) (t : (get_or ms k no_modifier).target ≡ d) (o : (get_or ms k no_modifier).target < (get_or ms k no_modifier).owner) where
      here : (b : Behaviour) → same_behaviour (get_or ms k no_modifier).behaviour b ≡ true
          → up_to b (k + 1) ≡ up_to b k + get_or v (get_or ms k no_modifier).owner 0 * (get_or ms k no_modifier).displacement
      here b e = one b ∙ ap (λ x. up_to b k + x) (gain-here q b d v (get_or ms k no_modifier) p t e o)

      pub adds : (get_or ms k no_modifier).behaviour ≡ Add
          → (up_to Add (k + 1) ≡ up_to Add k + get_or v (get_or ms k no_modifier).owner 0 * (get_or ms k no_modifier).displacement) × (up_to Subtract (k + 1) ≡ up_to Subtract k)
      adds e = (here Add (ap (λ x. same_behaviour x Add) e), none Subtract (gain_of-off q Subtract d (drop (suc d) v) (get_or ms k no_modifier) (ap (λ x. same_behaviour x Subtract) e)))

      pub takes : (get_or ms k no_modifier).behaviour ≡ Subtract
          → (up_to Add (k + 1) ≡ up_to Add k) × (up_to Subtract (k + 1) ≡ up_to Subtract k + get_or v (get_or ms k no_modifier).owner 0 * (get_or ms k no_modifier).displacement)
      takes e = (none Add (gain_of-off q Add d (drop (suc d) v) (get_or ms k no_modifier) (ap (λ x. same_behaviour x Add) e)), here Subtract (ap (λ x. same_behaviour x Subtract) e))
