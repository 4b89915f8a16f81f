-- `operand::second_source` meets its contract.
use Rattle.std.proofs.Common.{sym, refl, ◌∙◌, rules}
use Rattle.codec.specs.TestLaws.{never}
use Rattle.engine.proofs.operand.second_source.Goals as goal

pub returns-then-same : goal.returns-then-same
returns-then-same c =
    let a = c in let e = c.if-same.true in record { taken = rw e (a.requires.first_taken e); parts_long = search rules; first_again = λ t. refl }

pub returns : goal.returns
returns c =
    let e = c.if-same.false in record { taken = rw e c.as_source.ensures; parts_long = c.as_source.ensures.long; first_again = λ t. never (sym e ∙ t) }
