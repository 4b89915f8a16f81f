-- `rules::keep_all` meets its contract: what is left to keep, kept with what is kept, gives all.
use Rattle.std.proofs.Common.{◌≡◌, ◌-◌}
use Rattle.translator.specs.NestSheets.{modifiers_from}
use Rattle.translator.specs.Keeping.{none_kept, keep_all}
use Rattle.translator.proofs.rules.keep_all.Given as goal

abbrev pub invariant-loop-o : goal.invariant-loop-o
invariant-loop-o l = keep_all (modifiers_from l.m l.o (l.m.loops - l.o)) l.kept ≡ keep_all (modifiers_from l.m 0 l.m.loops) none_kept
