-- `read::read_access` meets its contract: the base in range, then the strides.
use Rattle.std.proofs.Common.{sym, ◌∙◌, ◌≤◌, arith}
use Rattle.codec.proofs.Integers.{cast}
use Rattle.translator.specs.PartLaws.{access-stays, access-goes}
use Rattle.translator.proofs.Exits.{left}
use Rattle.translator.proofs.read.read_access.Goals as goal

pub returns-in_err-base : goal.returns-in_err-base
returns-in_err-base c =
    rw (left _ c.in_err-base.field-0.0 c.from_residual.ensures) (access-stays _ _ _ _ c.in_err-base.ensures)

pub returns : goal.returns
returns c =
    let small : c.in_ok-base.base ≤ 1048576 = grind arith in
    rw (cast c.in_ok-base.base (omega arith)) at c.read_strides.ensures ∙ sym (access-goes _ _ _ _ c.in_ok-base.ensures)
