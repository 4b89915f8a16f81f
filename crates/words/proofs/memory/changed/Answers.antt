use Rattle.std.proofs.Common.{sym, ◌∙◌}
use Rattle.words.proofs.ChangeSteps.{changed_in-pairs}
use Rattle.words.proofs.memory.changed.Goals as goal

pub returns : goal.returns
returns c = c.pairs_that_differ.ensures ∙ sym (changed_in-pairs _ _)
