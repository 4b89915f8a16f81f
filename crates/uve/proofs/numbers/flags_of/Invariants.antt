-- At dimension d, counted down, the number is that of the flags from d on.
use Rattle.std.proofs.Common.{◌≡◌, ◌-◌, ◌^◌, ◌<◌, ◌≤◌}
use Rattle.uve.specs.Reports.{flags_from}
use Rattle.uve.proofs.numbers.flags_of.Given as goal

abbrev pub invariant-loop-d : goal.invariant-loop-d
invariant-loop-d l = (1 ≤ l.d) × (l.flags ≡ flags_from l.dims l.height l.d (8 - l.d)) × (l.flags < 2 ^ (8 - l.d))
