-- `read::read_loop` meets its contract: the count in range, then the terms.
use Rattle.std.proofs.Common.{sym, ◌∙◌}
use Rattle.translator.specs.PartLaws.{number-stays, number-goes}
use Rattle.translator.proofs.Exits.{left}
use Rattle.translator.proofs.read.read_loop.Goals as goal

pub returns-in_err-count : goal.returns-in_err-count
returns-in_err-count c =
    rw (left _ c.in_err-count.field-0.0 c.from_residual.ensures) (number-stays _ _ _ _ _ c.in_err-count.ensures)

pub returns : goal.returns
returns c = c.read_terms.ensures ∙ sym (number-goes _ _ _ _ _ c.in_ok-count.ensures)
