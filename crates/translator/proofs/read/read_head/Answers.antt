-- `read::read_head` meets its contract: each number in range leads on to the next.
use Rattle.std.proofs.Common.{sym, ◌∙◌, [], ◌∷◌}
use Rattle.translator.specs.Fields.{width, loops, coupled, operation, no_nest, put}
use Rattle.translator.specs.Reading.{read_from}
use Rattle.translator.specs.PartLaws.{number-stays, number-goes}
use Rattle.translator.proofs.Exits.{left}
use Rattle.translator.proofs.read.read_head.Goals as goal

pub returns-in_err-width-clause-part : goal.returns-in_err-width-clause-part
returns-in_err-width-clause-part c =
    rw (left _ c.in_err-width.field-0.0 c.from_residual.ensures) (number-stays _ _ _ _ _ c.in_err-width.ensures)

pub returns-in_err-loops-clause-part : goal.returns-in_err-loops-clause-part
returns-in_err-loops-clause-part c =
    let one = number-goes c.args.s.now width (loops ∷ coupled ∷ operation ∷ []) 0 no_nest c.in_ok-width.ensures in
    rw (left _ c.in_err-loops.field-0.0 c.from_residual-in_err-loops.ensures) (number-stays _ _ _ _ _ c.in_err-loops.ensures ∙ sym one)

pub returns-in_err-coupled-clause-part : goal.returns-in_err-coupled-clause-part
returns-in_err-coupled-clause-part c =
    let one = number-goes c.args.s.now width (loops ∷ coupled ∷ operation ∷ []) 0 no_nest c.in_ok-width.ensures in
    let two = one ∙ number-goes c.args.s.now loops (coupled ∷ operation ∷ []) _ (put width c.in_ok-width.width no_nest) c.in_ok-loops.ensures in
    rw (left _ c.in_err-coupled.field-0.0 c.from_residual-in_err-coupled.ensures) (number-stays _ _ _ _ _ c.in_err-coupled.ensures ∙ sym two)

pub returns-in_err-code-clause-part : goal.returns-in_err-code-clause-part
returns-in_err-code-clause-part c =
    let one = number-goes c.args.s.now width (loops ∷ coupled ∷ operation ∷ []) 0 no_nest c.in_ok-width.ensures in
    let two = one ∙ number-goes c.args.s.now loops (coupled ∷ operation ∷ []) _ (put width c.in_ok-width.width no_nest) c.in_ok-loops.ensures in
    let three = two ∙ number-goes c.args.s.now coupled (operation ∷ []) _ (put loops c.in_ok-loops.loops (put width c.in_ok-width.width no_nest)) c.in_ok-coupled.ensures in
    rw (left _ c.in_err-code.field-0.0 c.from_residual-in_err-code.ensures) (number-stays _ _ _ _ _ c.in_err-code.ensures ∙ sym three)

pub returns-clause-part : goal.returns-clause-part
unfolding read_from
returns-clause-part c =
    let one = number-goes c.args.s.now width (loops ∷ coupled ∷ operation ∷ []) 0 no_nest c.in_ok-width.ensures in
    let two = one ∙ number-goes c.args.s.now loops (coupled ∷ operation ∷ []) _ (put width c.in_ok-width.width no_nest) c.in_ok-loops.ensures in
    let three = two ∙ number-goes c.args.s.now coupled (operation ∷ []) _ (put loops c.in_ok-loops.loops (put width c.in_ok-width.width no_nest)) c.in_ok-coupled.ensures in
    let four = three ∙ number-goes c.args.s.now operation [] _ (put coupled c.in_ok-coupled.coupled (put loops c.in_ok-loops.loops (put width c.in_ok-width.width no_nest))) c.in_ok-code.ensures in
    rw (c.new-nest.ensures, c.coded-2.ensures, c.coded.ensures) (sym four)
