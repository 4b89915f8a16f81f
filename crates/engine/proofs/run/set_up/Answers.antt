-- `run::set_up` meets its contract: the verdict so far is that of how the operations ended.
use Rattle.engine.proofs.WholeSteps.{fresh-is-good}
use Rattle.engine.proofs.run.set_up.Goals as goal

pub operations-ending-requires : goal.operations-ending-requires
operations-ending-requires c = fresh-is-good _ c.fresh_machine-machine.ensures
