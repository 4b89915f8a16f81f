-- `read::read_terms` meets its contract: the terms that are left to read, from where the loop stands, give what all of them give.
use Rattle.std.proofs.Common.{◌≡◌, ◌+◌, ◌-◌}
use Rattle.translator.specs.Fields.{term_fields}
use Rattle.translator.specs.Reading.{read_from}
use Rattle.translator.proofs.read.read_terms.Given as goal

abbrev pub invariant-loop-o : goal.invariant-loop-o
invariant-loop-o l = read_from l.s (term_fields l.t l.o (l.n - l.o)) l.cursor.at l.nest ≡ read_from l.s (term_fields l.t (l.t + 1) (l.n - (l.t + 1))) l.fn.cursor.at l.fn.nest
