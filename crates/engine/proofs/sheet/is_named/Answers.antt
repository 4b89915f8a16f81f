-- `sheet::is_named` meets its contract: some calculation is one that names the register.
use Rattle.std.proofs.Common.{◌∙◌, rules, tests}
use Rattle.std.proofs.lemmas.Iterator.{YieldsList-from_slice}
use Rattle.std.proofs.lemmas.Iterator.Search.{any_from_yields_List}
use Rattle.engine.proofs.BodySteps.{is_source, named}
use Rattle.engine.proofs.sheet.is_named.Goals as goal

pub returns : goal.returns
returns c =
    any_from_yields_List (is_source c.args.register) _ _ _ c.any.ensures.ran (YieldsList-from_slice c.args.body.now.items cc) (λ x b q k. search (rules, tests))
    ∙ named c.args.register c.args.body.now.items
