-- `height::differ` meets its contract: the places above d are equal.
use Rattle.std.proofs.Common.{◌≡◌, ◌≤◌, length, drop}
use Rattle.engine.proofs.height.differ.Given as goal

abbrev pub invariant-loop-d : goal.invariant-loop-d
invariant-loop-d l = (l.d ≤ 7) × (length l.u ≡ 7) × (length l.v ≡ 7) × (drop l.d l.u ≡ drop l.d l.v)
