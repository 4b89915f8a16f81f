-- `lane::lane` meets its contract: each arm is the action's own equation, and every action gives a lane.
use Rattle.std.proofs.Common.{◌*◌, refl}
use Rattle.codec.specs.declared.operation.Action.TheVariants.{Or, Xor}
use Rattle.engine.specs.LaneLaws.{lane-small}
use Rattle.engine.proofs.lane.lane.Goals as goal

pub returns-in-Or : goal.returns-in-Or
returns-in-Or c =
    let a = c.args in
    rw c.in-Or.is (refl, lane-small Or (8 * a.width) a.a a.b c.requires.1.0 c.requires.1.1)

pub returns-in-Xor : goal.returns-in-Xor
returns-in-Xor c =
    let a = c.args in
    rw c.in-Xor.is (refl, lane-small Xor (8 * a.width) a.a a.b c.requires.1.0 c.requires.1.1)
