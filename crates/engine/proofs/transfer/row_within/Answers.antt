-- `transfer::row_within` meets its contract: a part lies inside if its first and its last element do.
use Rattle.std.proofs.Common.{◌+ℤ◌, sym, ap, ◌∙◌, arith, eq-eqb}
use Rattle.engine.specs.Addresses.{inside}
use Rattle.engine.proofs.StretchSteps.{row-none, row_inside, row-outside}
use Rattle.engine.proofs.transfer.row_within.Goals as goal

pub returns-then-count-eq0 : goal.returns-then-count-eq0
returns-then-count-eq0 c =
    let a = c.args in
    eq-eqb a.part.now.count 0 c.if-count-eq0.true ∙ sym (row-none a.len a.width a.part.now.start.0 a.part.now.step.0 a.part.now.count c.if-count-eq0.true)

pub returns-then-inside : goal.returns-then-inside
returns-then-inside c =
    let a = c.args in
    c.inside-then-inside.ensures
    ∙ ap (inside a.len a.width) (c.plus.ensures.exact ∙ ap (λ z. a.part.now.start.0 +ℤ z) c.times.ensures.exact)
    ∙ row_inside a.len a.width a.part.now.start.0 a.part.now.step.0 a.part.now.count (omega arith) (sym c.inside.ensures ∙ c.if-inside.true)

pub returns-else-inside : goal.returns-else-inside
returns-else-inside c =
    let a = c.args in
    c.if-inside.false ∙ sym (row-outside a.len a.width a.part.now.start.0 a.part.now.step.0 a.part.now.count (omega arith) (sym c.inside.ensures ∙ c.if-inside.false))
