-- `read::read_strides` meets its contract: the strides that are left to read, from where the loop stands, give what all of them give.
use Rattle.std.proofs.Common.{◌≡◌, ◌-◌}
use Rattle.translator.specs.Parts.{strides_at}
use Rattle.translator.proofs.read.read_strides.Given as goal

abbrev pub invariant-loop-d : goal.invariant-loop-d
invariant-loop-d l = strides_at l.s l.d (l.n - l.d) l.cursor.at l.access ≡ strides_at l.s 0 l.n l.fn.cursor.at l.fn.access
