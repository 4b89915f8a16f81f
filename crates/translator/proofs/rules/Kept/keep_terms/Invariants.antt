-- `rules::Kept::keep_terms` meets its contract: what is left to keep, kept with what is kept, gives all.
use Rattle.std.proofs.Common.{◌≡◌, ◌-◌}
use Rattle.translator.specs.NestSheets.{modifiers_at}
use Rattle.translator.specs.Keeping.{keep_all}
use Rattle.translator.proofs.rules.Kept.keep_terms.Given as goal

abbrev pub invariant-loop-t : goal.invariant-loop-t
invariant-loop-t l = keep_all (modifiers_at l.m l.o l.t (l.o - l.t)) l.self ≡ keep_all (modifiers_at l.m l.o 0 l.o) l.fn.self
