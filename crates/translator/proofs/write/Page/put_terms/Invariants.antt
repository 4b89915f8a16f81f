-- `write::Page::put_terms` meets its contract: what is left to write, written onto the page as it is, gives all.
use Rattle.std.proofs.Common.{◌≡◌, ◌-◌, map}
use Rattle.translator.specs.NestSheets.{modifier_op, modifiers_at}
use Rattle.translator.specs.Pages.{put_all}
use Rattle.translator.proofs.write.Page.put_terms.Given as goal

abbrev pub invariant-loop-t : goal.invariant-loop-t
invariant-loop-t l = put_all (map (modifier_op l.register) (modifiers_at l.m l.d l.t (l.d - l.t))) l.self ≡ put_all (map (modifier_op l.register) (modifiers_at l.m l.d 0 l.d)) l.fn.self
