-- `operand::after_write` meets its contract.
use borrow.Author.Tests.{not-true, not-false}
use Rattle.engine.proofs.operand.after_write.Goals as goal

pub returns-then-not-o : goal.returns-then-not-o
returns-then-not-o c =
    rw (not-true c.args.o.live c.if-not-o.true) c.filled.ensures

pub moved_on-requires : goal.moved_on-requires
moved_on-requires c =
    c.requires (not-false c.args.o.live c.if-not-o.false)

pub returns : goal.returns
returns c =
    rw (not-false c.args.o.live c.if-not-o.false) c.moved_on.ensures
