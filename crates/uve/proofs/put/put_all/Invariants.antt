-- What is left to put, put behind the numbers that were, gives the same report throughout.
use Rattle.std.proofs.Common.{◌≡◌, ◌+◌, ◌*◌, drop}
use Rattle.std.proofs.lemmas.List.Edits.{sets}
use Rattle.uve.specs.Reports.{bytes_of64}
use Rattle.uve.proofs.put.put_all.Given as goal

abbrev pub invariant-loop-i : goal.invariant-loop-i
invariant-loop-i l = sets l.report (l.at + 8 * l.i) (bytes_of64 (drop l.i l.numbers)) ≡ sets l.initial.report l.at (bytes_of64 l.numbers)
