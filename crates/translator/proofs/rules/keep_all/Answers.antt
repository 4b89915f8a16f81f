-- `rules::keep_all` meets its contract: what is left to keep, kept with what is kept, gives all.
use Rattle.std.proofs.Common.{sym, ◌∙◌}
use Rattle.translator.specs.KeepingLaws.{from_next, from_end}
use Rattle.translator.proofs.rules.keep_all.Goals as goal

pub loop-o-preserved : goal.loop-o-preserved
loop-o-preserved c =
    rw c.keep_terms.ensures (sym (from_next _ _ _ _ c.loop-o-test.true) ∙ c.loop-o.invariant)

pub returns : goal.returns
returns c = sym (from_end _ _ _ _ c.loop-o-test.false) ∙ c.loop-o.invariant
