-- `outline::outline_of` meets its contract: what is kept of the register's stream says whether it was ended, and its loops are walked.
use Rattle.std.proofs.Common.{sym, ap, ◌∙◌, Some}
use Rattle.engine.specs.Outlines.{extent_of}
use Rattle.engine.specs.OutlineLaws.{outline-stream, outline-unended}
use Rattle.engine.proofs.outline.outline_of.Goals as goal

pub returns-in_err-kept : goal.returns-in_err-kept
returns-in_err-kept c = c.from_residual.ensures ∙ sym (outline-unended _ c.in_err-kept.ensures)

pub returns : goal.returns
returns c =
    let k = c.in_ok-kept.ensures in
    ap Some (c.extent_of.ensures ∙ (λ i. extent_of (k.pattern i) (k.width i)))
    ∙ sym (outline-stream _ k.told)
