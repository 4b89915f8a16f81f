-- `outline::element_of` meets its contract: what is kept of the register's stream says whether it was ended, and its loops are walked.
use Rattle.std.proofs.Common.{sym, ◌∙◌}
use Rattle.engine.specs.Outlines.{located_in}
use Rattle.engine.specs.OutlineLaws.{element-stream, element-unended}
use Rattle.engine.proofs.outline.element_of.Goals as goal

pub returns-in_err-kept : goal.returns-in_err-kept
returns-in_err-kept c = c.from_residual.ensures ∙ sym (element-unended _ _ c.in_err-kept.ensures)

pub returns : goal.returns
returns c =
    let k = c.in_ok-kept.ensures in
    let n = c.args.n in
    c.located_in.ensures
    ∙ (λ i. located_in (k.pattern i) (k.width i) n)
    ∙ sym (element-stream n _ k.told)
