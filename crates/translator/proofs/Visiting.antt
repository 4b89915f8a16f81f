-- The visits of a nest are the index vectors within its counts, each once, outermost slowest: they are the engine's loops.
--
--   visiting
use mathlib.Core.List.{[]}
use Rattle.engine.specs.LoopLaws.{loops-within, loops-found, loops-order}
use Rattle.translator.specs.Nests.{count_at, visits}
use Rattle.translator.specs.Promise3.{Visits}
use Rattle.translator.specs.declared.nest.Nest.{Nest}

pub visiting : (m : Nest) → Visits m
unfolding visits
visiting m = record {
  within = loops-within (count_at m) 0 m.loops [];
  found = loops-found (count_at m) 0 m.loops [];
  in_order = loops-order (count_at m) 0 m.loops [];
}
