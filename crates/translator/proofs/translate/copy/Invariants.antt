-- `translate::copy` meets its contract: what is left to copy, stored in the room as it is, gives what all of it gives in the room as it was.
use Rattle.std.proofs.Common.{◌≡◌, length, take, drop}
use Rattle.std.proofs.lemmas.List.Edits.{sets}
use Rattle.translator.proofs.translate.copy.Given as goal

abbrev pub invariant-loop-k : goal.invariant-loop-k
invariant-loop-k l = (length l.room ≡ length l.initial.room) × (sets l.room l.k (drop l.k (take l.page.at l.page.bytes)) ≡ sets l.initial.room 0 (take l.page.at l.page.bytes))
