-- `write::Page::put_dimensions` meets its contract: what is left to write, written onto the page as it is, gives all.
use Rattle.std.proofs.Common.{sym, ◌∙◌}
use Rattle.translator.specs.PageLaws.{dimensions-next, dimensions-end}
use Rattle.translator.proofs.write.Page.put_dimensions.Goals as goal

pub loop-d-preserved : goal.loop-d-preserved
loop-d-preserved c =
    rw (c.put_terms.ensures, c.put_dimension.ensures) (sym (dimensions-next _ _ _ _ _ _ c.loop-d-test.true) ∙ c.loop-d.invariant)

pub returns : goal.returns
returns c = sym (dimensions-end _ _ _ _ _ _ c.loop-d-test.false) ∙ c.loop-d.invariant
