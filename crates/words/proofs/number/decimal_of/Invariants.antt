-- The bytes left to read, behind the value so far, say what the whole text says.
use Rattle.std.proofs.Common.{drop, ◌≡◌, ◌≤◌}
use Rattle.words.specs.Decimals.{digits_from}
use Rattle.words.proofs.number.decimal_of.Given as goal

abbrev pub invariant-loop-b : goal.invariant-loop-b
invariant-loop-b l = (l.value ≤ 4294967295) × (digits_from l.value (drop l.b-index l.text) ≡ digits_from 0 l.text)
