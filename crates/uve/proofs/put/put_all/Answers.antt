-- What is left to put, put behind the numbers that were, gives the same report throughout.
use Rattle.std.proofs.Common.{sym, ◌∙◌, arith}
use Rattle.uve.proofs.Steps.{number_put, all-put}
use Rattle.uve.proofs.put.put_all.Goals as goal

pub loop-i-preserved : goal.loop-i-preserved
loop-i-preserved c =
    let l = c.loop-i in
    let a = c.args in
    rw c.put.ensures (sym (number_put l.report a.at l.i a.numbers.now (omega arith)) ∙ l.invariant)

pub returns : goal.returns
returns c =
    let l = c.loop-i in
    sym (all-put l.report _ l.i _ (omega arith)) ∙ l.invariant
