-- `height::differ` meets its contract: the places above d are equal.
use Rattle.std.proofs.Common.{◌≡◌, ℕ, zero, suc, ◌-◌, ◌<◌, List, length, get_or, drop, sym, ◌∙◌, sub-one, arith}
use Rattle.engine.specs.FlagLaws.{differ-from, differ-at}
use Rattle.engine.specs.Chunks.{differ}
use Rattle.engine.proofs.height.differ.Goals as goal

found_at : (d : ℕ) (u v : List ℕ) → 0 < d → length u ≡ length v → drop d u ≡ drop d v → (get_or u (d - 1) 0 ≡ get_or v (d - 1) 0 → ⊥) → differ u v ≡ d
found_at zero u v p e h k = absurd (omega arith)
found_at (suc d) u v p e h k = differ-at d u v e h (rw sub-one at k)

pub returns-then-u-d : goal.returns-then-u-d
returns-then-u-d c =
    let l = c.loop-d in
    let a = c.args in
    (omega (arith, found_at l.d a.u a.v (omega arith) (omega arith) l.invariant.3 c.if-u-d.true), omega arith)

pub returns : goal.returns
returns c =
    let a = c.args in
    let i = c.loop-d.invariant in
    let z : c.loop-d.d ≡ 0 = omega arith in
    (omega (arith, differ-from c.loop-d.d a.u a.v (i.1 ∙ sym i.2) i.3), omega arith)
