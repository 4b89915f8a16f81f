-- `read::read_loops` meets its contract: the loops that are left to read, from where the loop stands, give what all of them give.
use Rattle.std.proofs.Common.{sym, ◌∙◌}
use Rattle.translator.specs.PartLaws.{then-stays, then-goes, loop-fields, loops-end}
use Rattle.translator.proofs.Exits.{left}
use Rattle.translator.proofs.read.read_loops.Goals as goal

pub returns-in_err-m : goal.returns-in_err-m
returns-in_err-m c =
    rw (left _ c.in_err-m.field-0.0 c.from_residual.ensures)
    (then-stays _ _ _ _ _ c.in_err-m.ensures ∙ (rw (loop-fields c.loop-t.t c.args.n c.loop-t-test.true) at c.loop-t.invariant))

pub loop-t-preserved : goal.loop-t-preserved
loop-t-preserved c =
    sym (then-goes _ _ _ _ _ c.in_ok-m.ensures) ∙ (rw (loop-fields c.loop-t.t c.args.n c.loop-t-test.true) at c.loop-t.invariant)

pub returns : goal.returns
returns c = sym (loops-end _ _ _ _ _ c.loop-t-test.false) ∙ c.loop-t.invariant
