-- `operand::second_outside` meets its contract.
use Rattle.engine.proofs.operand.second_outside.Goals as goal

pub returns-then-same : goal.returns-then-same
returns-then-same c =
    rw c.if-same.true

pub outside-requires : goal.outside-requires
outside-requires c =
    let h = c.requires in (h.0, h.1 c.if-same.false)

pub returns : goal.returns
returns c =
    rw c.if-same.false c.outside.ensures
