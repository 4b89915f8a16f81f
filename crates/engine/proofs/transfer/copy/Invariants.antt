-- `transfer::copy` meets its contract: after k turns the first k bytes are copied.
use Rattle.std.proofs.Common.{◌≡◌, length, take, drop}
use Rattle.std.proofs.lemmas.List.Edits.{sets}
use Rattle.engine.proofs.transfer.copy.Given as goal

abbrev pub invariant-loop-k : goal.invariant-loop-k
invariant-loop-k l = (length l.to ≡ length l.initial.to) × (l.to ≡ sets l.initial.to l.b (take l.k (drop l.a l.from)))
