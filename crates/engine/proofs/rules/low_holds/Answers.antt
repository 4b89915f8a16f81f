-- `rules::low_holds` meets its contract: the low is a difference of natural numbers.
use Rattle.std.proofs.Common.{suc, leb, get_or, drop, sym, ap, ◌∙◌}
use lib.Signed.{non_neg}
use Rattle.codec.specs.declared.operation.Parameter.TheVariants.{Size}
use Rattle.codec.specs.declared.operation.Behaviour.TheVariants.{Subtract}
use Rattle.engine.specs.Loops.{modifiers_of}
use Rattle.engine.specs.Gains.{gain, low-nat}
use Rattle.engine.proofs.Lasts.{nonneg-leb}
use Rattle.engine.proofs.rules.low_holds.Goals as goal

pub returns : goal.returns
returns c =
    let s = c.args.shape.now in
    let d = c.args.d in
    let outer = drop (suc d) c.args.lasts.now in
    let n = gain Size Subtract d outer (modifiers_of s) in
    ap (λ x. leb x (get_or s.sizes d 0)) c.gains.ensures.1 ∙ nonneg-leb n (get_or s.sizes d 0) ∙ sym (ap non_neg (low-nat s d outer))
