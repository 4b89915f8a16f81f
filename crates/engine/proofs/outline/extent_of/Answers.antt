-- `outline::extent_of` meets its contract: the walk stands at the element of a position that goes up by one, until there is none after it.
use Rattle.std.proofs.Common.{◌≡◌, ℕ, suc, ◌<◌, ◌≤◌, true, List, length, sym, refl, ◌∙◌, add-one, arith, ltb-false}
use Rattle.engine.specs.Loops.{elements}
use Rattle.engine.specs.Good.{Accepted}
use Rattle.engine.specs.Walk.{Stands}
use Rattle.engine.specs.CountLaws.{few}
use Rattle.engine.specs.OutlineLaws.{extent, extent-none, extent-some}
use Rattle.engine.specs.declared.stream.Shape.{Shape}
use Rattle.engine.proofs.Found.{found, below, small, lies}
use Rattle.engine.proofs.outline.extent_of.Goals as goal

-- there are few elements
most : {s : Shape} {k : ℕ} {v : List ℕ} → Stands s k true v → Accepted s → k < 1048576
most {s} h a = omega (arith, few s, a.few, below h)

pub returns-then-not-first : goal.returns-then-not-first
returns-then-not-first c =
    let at-start : Stands c.args.p.shape 0 c.first.result c.first.new.index = c.first.ensures in
    let a = c in
    let st = at-start in
    let h : length (elements a.args.p.shape) ≤ 0 = ltb-false _ _ (sym st.told ∙ c.if-not-first.true) in
    sym (extent-none a.args.p a.args.width (omega arith))

pub address-from-requires : goal.address-from-requires
address-from-requires c =
    let at-start : Stands c.args.p.shape 0 c.first.result c.first.new.index = c.first.ensures in
    let at_first : Stands c.args.p.shape 0 true c.first.new.index = found (c.if-not-first.false) (at-start) in
    let a = c in (c.requires.0, a.requires.1, small (at_first) a.requires.2)

pub overflow_add-result : goal.overflow_add-result
overflow_add-result c =
    omega (arith, most c.loop-index.invariant c.requires.2)

pub address-requires : goal.address-requires
address-requires c =
    let a = c in (c.requires.0, a.requires.1, small c.loop-index.invariant a.requires.2)

pub returns-then-not-next : goal.returns-then-not-next
returns-then-not-next c =
    let at-start : Stands c.args.p.shape 0 c.first.result c.first.new.index = c.first.ensures in
    let at_first : Stands c.args.p.shape 0 true c.first.new.index = found (c.if-not-first.false) (at-start) in
    let at_next : Stands c.args.p.shape (suc c.loop-index.position) c.next.result c.next.new.index = let l = c.loop-index in c.next.ensures l.position (below l.invariant) (l.invariant.here refl) in
    let a = c in
    let l = c.loop-index in
    let p = a.args.p in
    let w = a.args.width in
    let st = at_next in
    let n : length (elements p.shape) ≤ suc l.position = ltb-false _ _ (sym st.told ∙ c.if-not-next.true) in
    let e : length (elements p.shape) ≡ suc l.position = omega (arith, below l.invariant) in
    (λ i. extent p.shape.dims p.shape.mods (add-one l.position i)
    (record { 0 = (c.address-from.ensures.exact ∙ lies p w (at_first) a.requires.2) i })
    (record { 0 = (c.address.ensures.exact ∙ lies p w l.invariant a.requires.2) i }))
    ∙ sym (extent-some p w l.position e)

pub overflow_add-position : goal.overflow_add-position
overflow_add-position c =
    omega (arith, most c.loop-index.invariant c.requires.2)
