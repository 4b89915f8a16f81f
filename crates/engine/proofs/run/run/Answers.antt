-- `run::run` meets its contract: 15 first, then what follows from how the operations ended.
use Rattle.std.proofs.Common.{length, sym, ap, ◌∙◌, Ok}
use Rattle.engine.proofs.WholeSteps.{fresh-is-good, allowed-length, ready}
use Rattle.engine.proofs.run.run.Goals as goal

pub operations-requires : goal.operations-requires
operations-requires c = fresh-is-good _ c.fresh_machine-machine.ensures

pub execute-requires : goal.execute-requires
execute-requires c =
    let r = ready c.args.vl c.args.sheet.now c.args.memory.now c.fresh_machine-machine.result c.operations.new.machine c.fresh_machine-machine.ensures c.operations.result c.operations.ensures (λ i. (c.type_inv.sheet i).fits) _ (c.in-Ok-Some.is ∙ ap Ok c.in-Ok-Some.field-0-is) in
    let v = allowed-length c.args.vl (length c.args.memory.now) (sym c.is_allowed.ensures ∙ c.if-not-is_allowed.false) in
    record { in_range = (v, r.0); all_named = (r.1, (r.2, r.3)) }
