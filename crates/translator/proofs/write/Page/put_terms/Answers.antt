-- `write::Page::put_terms` meets its contract: what is left to write, written onto the page as it is, gives all.
use Rattle.std.proofs.Common.{sym, ◌∙◌}
use Rattle.translator.specs.PageLaws.{terms-next, terms-end}
use Rattle.translator.specs.NestSheets.{modifier_op}
use Rattle.translator.specs.Pages.{put_one}
use Rattle.translator.proofs.Chosen.{some-if, none-if}
use Rattle.translator.proofs.write.Page.put_terms.Goals as goal
use Rattle.translator.proofs.write.Page.put_terms.Goals.{in-Some, in_default}

pub loop-t-preserved : goal.loop-t-preserved
loop-t-preserved c =
    let step = sym (terms-next _ _ _ _ _ c.loop-t-test.true) ∙ c.loop-t.invariant in
    elim c.match-modifier_of.branch [
      | in-Some w ↦ rw (w.self-is, w.put.ensures, some-if _ _ _ c.loop-t.self (λ q. put_one (modifier_op c.args.register q) c.loop-t.self) w.in-Some.ensures) step
      | in_default w ↦ rw (w.self-is, none-if _ _ c.loop-t.self (λ q. put_one (modifier_op c.args.register q) c.loop-t.self) (sym w.in_default.is ∙ c.modifier_of.ensures)) step
    ]

pub returns : goal.returns
returns c = sym (terms-end _ _ _ _ _ c.loop-t-test.false) ∙ c.loop-t.invariant
