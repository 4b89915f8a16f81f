-- `outline::located_in` meets its contract: the walk to a position arrives at the stop there, if there is one.
use Rattle.std.proofs.Common.{◌≡◌, ℕ, true, false, Option, Some, List, sym, refl, ap, ◌∙◌, subst, arith, ltb-false}
use Rattle.engine.specs.Walk.{Arrives, is_empty, comes_empty}
use Rattle.engine.specs.StopWalk.{here-small}
use Rattle.engine.specs.OutlineLaws.{located-some, located-nothing, located-none}
use Rattle.std.specs.Option.{is_some}
use Rattle.engine.specs.declared.stream.Shape.{Shape}
use Rattle.engine.specs.declared.walk.Arrival.{Arrival}
use Rattle.engine.proofs.Found.{stop-below, stop-here, stop-lies}
use Rattle.engine.proofs.outline.located_in.Goals as goal

-- the walk came to a stop of that kind
came : {s : Shape} {n : ℕ} {r : Option Arrival} {a b : Arrival} {v : List ℕ} → r ≡ Some a → a ≡ b → Arrives s n (is_some r) (comes_empty r) v → Arrives s n true (is_empty b) v
came {s} {n} {v = v} e f h = subst (λ x. Arrives s n true (is_empty x) v) f (subst (λ o. Arrives s n (is_some o) (comes_empty o) v) e h)

pub address-requires : goal.address-requires
address-requires c =
    let p = c.args.p in
    let st : Arrives p.shape c.args.n true false c.nth_stop.new.index = came c.in-Some-Element.is c.in-Some-Element.field-0-is c.nth_stop.ensures in
    (c.requires.0, c.requires.1, λ k. omega (arith, here-small p.shape c.requires.2 _ _ (stop-here st) k))

pub returns-in-Some-Element : goal.returns-in-Some-Element
returns-in-Some-Element c =
    let p = c.args.p in
    let st : Arrives p.shape c.args.n true false c.nth_stop.new.index = came c.in-Some-Element.is c.in-Some-Element.field-0-is c.nth_stop.ensures in
    ap (λ z. Some (record { 0 = z })) (c.address.ensures.exact ∙ stop-lies p c.args.width st c.requires.2)
    ∙ sym (located-some p c.args.width c.args.n (stop-below st) (sym (st.nothing refl)))

pub returns-in-Some-EmptyPass : goal.returns-in-Some-EmptyPass
returns-in-Some-EmptyPass c =
    let p = c.args.p in
    let st : Arrives p.shape c.args.n true true c.nth_stop.new.index = came c.in-Some-EmptyPass.is c.in-Some-EmptyPass.field-0-is c.nth_stop.ensures in
    sym (located-nothing p c.args.width c.args.n (stop-below st) (sym (st.nothing refl)))

pub returns-in-None : goal.returns-in-None
returns-in-None c =
    let st = c.nth_stop.ensures in
    sym (located-none c.args.p c.args.width c.args.n (ltb-false _ _ (sym st.told ∙ ap is_some c.in-None.is)))
