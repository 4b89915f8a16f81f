-- `transfer::copy` meets its contract: after k turns the first k bytes are copied, and a slice of bytes holds bytes.
use Rattle.std.proofs.Common.{◌≡◌, ◌+◌, get_or, set, ap, ◌∙◌, arith, length-set}
use Rattle.engine.proofs.StretchSteps.{copied_more}
use Rattle.engine.proofs.transfer.copy.Goals as goal

pub loop-k-preserved : goal.loop-k-preserved
loop-k-preserved c =
    let l = c.loop-k in
    let a = c.args in (
      simp length-set l.invariant.0,
      ap (λ m. set m (a.b + l.k) (get_or a.from.now (a.a + l.k) 0)) l.invariant.1 ∙ copied_more a.from.now a.to.now a.a a.b l.k (omega arith),
    )

pub returns : goal.returns
returns c =
    let l = c.loop-k in
    let e : l.k ≡ c.args.n = omega arith in
    (rw e at l.invariant.1, λ _ k. (c.type_inv.from k).fits)
