-- `write::Page::put_dimensions` meets its contract: what is left to write, written onto the page as it is, gives all.
use Rattle.std.proofs.Common.{◌≡◌, ◌-◌}
use Rattle.translator.specs.NestSheets.{dimension_ops}
use Rattle.translator.specs.Pages.{put_all}
use Rattle.translator.proofs.write.Page.put_dimensions.Given as goal

abbrev pub invariant-loop-d : goal.invariant-loop-d
invariant-loop-d l = put_all (dimension_ops l.m l.register l.a l.d (l.m.loops - l.d)) l.self ≡ put_all (dimension_ops l.m l.register l.a 0 l.m.loops) l.fn.self
