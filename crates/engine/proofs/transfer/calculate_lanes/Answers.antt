-- `transfer::calculate_lanes` meets its contract: lane by lane, or a single lane packed.
use Rattle.std.proofs.Common.{sym, ap, ◌∙◌, arith}
use Rattle.std.proofs.lemmas.List.Edits.{sets}
use Rattle.engine.specs.Memory.{little_endian}
use Rattle.engine.specs.PackedLaws.{zeros}
use Rattle.engine.proofs.LaneSteps.{packed-one}
use Rattle.engine.proofs.transfer.calculate_lanes.Goals as goal

pub returns-in-All : goal.returns-in-All
returns-in-All c =
    let a = c.args in
    rw c.in-All.is
    (c.store.ensures ∙ ap (λ x. sets (zeros 64) 0 (little_endian a.width x)) c.fold_lanes.ensures.0 ∙ sym (packed-one a.width _ (omega (arith, c.requires.0.1))))
