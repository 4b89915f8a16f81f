use Rattle.std.proofs.Common.{rules, sym, ◌∙◌, arith}
use Rattle.words.proofs.DecimalSteps.{digits-some, digits-none, digits_more, digits-stop, digits-done}
use Rattle.words.proofs.number.decimal_of.Goals as goal

pub returns-then-is_empty : goal.returns-then-is_empty
returns-then-is_empty c = sym (digits-none _ (search rules))

pub returns-then-not-is_ascii_digit : goal.returns-then-not-is_ascii_digit
returns-then-not-is_ascii_digit c =
    digits-stop _ _ c.loop-b.b-index c.loop-b.invariant.1 (omega arith) (search rules) ∙ sym (digits-some _ (search rules))

pub loop-b-preserved : goal.loop-b-preserved
loop-b-preserved c =
    (omega arith, digits_more _ _ _ c.loop-b.invariant.1 _ (omega arith) (search rules) (search rules))

pub returns : goal.returns
returns c =
    digits-done _ _ c.loop-b.b-index c.loop-b.invariant.1 (omega arith) (omega arith) ∙ sym (digits-some _ (search rules))
