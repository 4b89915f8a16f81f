-- `gain::gains` meets its contract: after k turns both numbers are the gains of the first k modifiers.
use Rattle.std.proofs.Common.{◌≡◌, ◌*◌, ◌≤◌}
use Rattle.codec.specs.declared.operation.Behaviour.TheVariants.{Add, Subtract}
use Rattle.engine.specs.Loops.{modifiers_of}
use Rattle.engine.proofs.GainTurns.{up_to}
use Rattle.engine.proofs.gain.gains.Given as goal

abbrev pub invariant-loop-m : goal.invariant-loop-m
invariant-loop-m l = (l.up ≡ up_to (modifiers_of l.shape) l.q l.d l.index Add l.m-index) × (l.down ≡ up_to (modifiers_of l.shape) l.q l.d l.index Subtract l.m-index)
    × ((l.up ≤ l.m-index * 4294967296) × (l.down ≤ l.m-index * 4294967296))
