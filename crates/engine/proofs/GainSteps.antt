-- Laws of gains as the code reckons them: by the whole index vector, and modifier after modifier.
use Rattle.std.proofs.Common.{◌≡◌, ℕ, suc, ◌+◌, ◌-◌, ◌*◌, ◌<◌, ◌≤◌, true, false, List, [], ◌∷◌, length, get_or, take, drop, ℤ, sym, refl, ap, ◌∙◌, mul-le-mul, add-one, arith, get_or-drop, take-suc, eq-eqb}
use lib.IntN.{sub_ℕ}
use Rattle.codec.specs.declared.operation.Parameter.{Parameter}
use Rattle.codec.specs.declared.operation.Behaviour.{Behaviour}
use Rattle.codec.specs.declared.operation.Behaviour.TheVariants.{Add, Subtract}
use Rattle.engine.specs.Loops.{same_parameter, owner_index, added}
use Rattle.engine.specs.Rules.{same_behaviour}
use Rattle.engine.specs.Gains.{gain_of, gain, added-gain, gain-append}
use Rattle.engine.specs.Registers.{no_modifier}
use Rattle.engine.specs.declared.stream.Modifier.{Modifier}

module _ (q : Parameter) (b : Behaviour) (d : ℕ) (outer : List ℕ) (m : Modifier) where
  pub gain-other : same_parameter m.parameter q ≡ false → gain_of q b d outer m ≡ 0
  unfolding gain_of
  gain-other e = rw e

-- the owner's index among the outer ones is its index in the whole vector
pub gain-here : (q : Parameter) (b : Behaviour) (d : ℕ) (v : List ℕ) (m : Modifier) → same_parameter m.parameter q ≡ true → m.target ≡ d
    → same_behaviour m.behaviour b ≡ true → m.target < m.owner → gain_of q b d (drop (suc d) v) m ≡ get_or v m.owner 0 * m.displacement
unfolding gain_of
gain-here q b d v m p t h o =
    let z : suc d + (m.owner - suc d) ≡ m.owner = omega arith in
    let e : owner_index m d (drop (suc d) v) ≡ get_or v m.owner 0 = get_or-drop (suc d) v (m.owner - suc d) 0 ∙ ap (λ j. get_or v j 0) z in
    rw (p, eq-eqb m.target d t, h, e)

gain-one : (q : Parameter) (b : Behaviour) (d : ℕ) (outer : List ℕ) (m : Modifier) → gain q b d outer (m ∷ []) ≡ gain_of q b d outer m
unfolding gain
gain-one q b d outer m = omega arith

pub gain-start : (q : Parameter) (b : Behaviour) (d : ℕ) (outer : List ℕ) (ms : List Modifier) → gain q b d outer (take 0 ms) ≡ 0
unfolding gain
gain-start q b d outer ms = refl

-- one modifier more
pub gain-next : (q : Parameter) (b : Behaviour) (d : ℕ) (outer : List ℕ) (ms : List Modifier) (k : ℕ) → k < length ms
    → gain q b d outer (take (k + 1) ms) ≡ gain q b d outer (take k ms) + gain_of q b d outer (get_or ms k no_modifier)
gain-next q b d outer ms k h =
    rw (add-one k, take-suc ms k no_modifier h, gain-append q b d outer (take k ms) (get_or ms k no_modifier ∷ []), gain-one q b d outer (get_or ms k no_modifier))

-- the difference of both gains is what the modifiers add
pub gain-change : (q : Parameter) (d : ℕ) (outer : List ℕ) (ms : List Modifier) (u w : ℕ) (z : ℤ) → u ≡ gain q Add d outer ms → w ≡ gain q Subtract d outer ms
    → z ≡ sub_ℕ u w → z ≡ added q d outer ms
gain-change q d outer ms u w z e f h = h ∙ ap (λ n. sub_ℕ n w) e ∙ ap (λ n. sub_ℕ (gain q Add d outer ms) n) f ∙ sym (added-gain q d outer ms)

-- an index times a displacement
pub reach-small : (i n : ℕ) → i ≤ 4096 → n ≤ 1048576 → i * n ≤ 4294967296
reach-small i n p q = mul-le-mul {n₂ = 4096} {m₂ = 1048576} p q
