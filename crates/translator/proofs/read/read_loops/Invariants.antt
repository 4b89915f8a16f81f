-- `read::read_loops` meets its contract: the loops that are left to read, from where the loop stands, give what all of them give.
use Rattle.std.proofs.Common.{◌≡◌, ◌-◌}
use Rattle.translator.specs.Fields.{loop_fields}
use Rattle.translator.specs.Reading.{read_from}
use Rattle.translator.proofs.read.read_loops.Given as goal

abbrev pub invariant-loop-t : goal.invariant-loop-t
invariant-loop-t l = read_from l.s (loop_fields l.t (l.n - l.t)) l.cursor.at l.nest ≡ read_from l.s (loop_fields 0 l.n) l.fn.cursor.at l.fn.nest
