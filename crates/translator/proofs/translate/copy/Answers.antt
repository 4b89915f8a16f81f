-- `translate::copy` meets its contract: what is left to copy, stored in the room as it is, gives what all of it gives in the room as it was.
use Rattle.std.proofs.Common.{◌≡◌, sym, ◌∙◌, arith, rules, length, length-set}
use Rattle.translator.proofs.Copies.{copied, copied_all}
use Rattle.translator.proofs.translate.copy.Goals as goal

pub loop-k-preserved : goal.loop-k-preserved
loop-k-preserved c =
    let l = c.loop-k in
    let p = c.args.page.now in
    let n : length p.bytes ≡ 1024 = search rules in
    (simp length-set l.invariant.0, sym (copied l.room p.bytes l.k p.at (omega arith) (omega arith)) ∙ l.invariant.1)

pub returns : goal.returns
returns c =
    let l = c.loop-k in
    let p = c.args.page.now in
    sym (copied_all l.room p.bytes l.k p.at (omega arith)) ∙ l.invariant.1
