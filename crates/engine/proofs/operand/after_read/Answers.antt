-- `operand::after_read` meets its contract.
use Rattle.std.proofs.Common.{ap, ◌∙◌}
use borrow.Author.Tests.{not-true, not-false}
use Rattle.engine.specs.Runnings.{filled_with}
use Rattle.engine.proofs.operand.after_read.Goals as goal

pub returns-then-not-o : goal.returns-then-not-o
returns-then-not-o c =
    rw (not-true c.args.o.live c.if-not-o.true)

pub moved_on-requires : goal.moved_on-requires
moved_on-requires c =
    c.requires (not-false c.args.o.live c.if-not-o.false)

pub returns : goal.returns
returns c =
    let a = c.args in
    rw (not-false a.o.live c.if-not-o.false) (c.filled.ensures ∙ ap (filled_with a.width a.o.count) c.moved_on.ensures)
