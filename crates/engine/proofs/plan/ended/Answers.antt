-- `plan::ended` meets its contract: the search from the start says whether there is a stop.
use Rattle.std.proofs.Common.{◌+◌, true, false, sym, ◌∙◌, add-one, ltb-false, ltb-true}
use Rattle.codec.specs.TestLaws.{never}
use Rattle.engine.specs.Registers.{shape_of}
use Rattle.engine.specs.FlagLaws.{height-end}
use Rattle.engine.proofs.Moves.{moved-to, height-first}
use Rattle.engine.proofs.plan.ended.Goals as goal

pub returns-then-is_some : goal.returns-then-is_some
returns-then-is_some c =
    let r = c.args.r in
    let st = c.first_stop.ensures in
    let t = sym c.is_some.ensures ∙ c.if-is_some.true in
    moved-to r 0 true c.first_stop.new.index 0 (sym t ∙ st.told) (λ u. st.here t) (sym (height-first (shape_of r) (ltb-true _ _ (sym st.told ∙ t))))

pub returns : goal.returns
returns c =
    let r = c.args.r in
    let st = c.first_stop.ensures in
    let t = sym c.is_some.ensures ∙ c.if-is_some.false in
    moved-to r 0 false c.first_stop.new.index ((shape_of r).dims + 1) (sym t ∙ st.told) (λ u. never u) (sym (height-end (shape_of r) 0 (ltb-false _ _ (sym st.told ∙ t)) ∙ sym (add-one _)))
