-- A nest's modifiers as the code gathers them: at most eight in an array, and how many there are.
--
--   none_kept, keep_one, keep_all    none, one more, and those of a list
--   kept_shape                     the shape that comes of it
use Rattle.std.specs.Prelude.{◌+◌, List, [], ◌∷◌, cond, set, replicate, ltb}
use Rattle.engine.specs.Registers.{no_modifier}
use Rattle.engine.specs.declared.stream.Modifier.{Modifier}
use Rattle.engine.specs.declared.stream.Shape.{Shape}
use Rattle.translator.specs.Nests.{coupling_of}
use Rattle.translator.specs.NestSheets.{modifiers_of}
use Rattle.translator.specs.declared.nest.Nest.{Nest}
use Rattle.translator.specs.declared.rules.Kept.{Kept}

-- no modifier kept
abbrev pub none_kept : Kept
none_kept = record { count = 0; modifiers = replicate 8 no_modifier }

-- one modifier more kept; behind the eighth only the count shows that there are more
abbrev pub keep_one : Modifier → Kept → Kept
keep_one q k =
    cond (ltb k.count 8)
    (record { count = k.count + 1; modifiers = set k.modifiers k.count q })
    (record { count = 9; modifiers = k.modifiers })

-- the modifiers of a list kept, in order
unfoldable pub keep_all : List Modifier → Kept → Kept
keep_all [] k = k
keep_all (q ∷ qs) k = keep_all qs (keep_one q k)

-- the shape of a nest with the modifiers that were kept
abbrev pub shape_with : Nest → Kept → Shape
shape_with m k = record {
  dims = m.loops;
  sizes = m.counts;
  mods = k.count;
  modifiers = k.modifiers;
  coupling = coupling_of m.coupled;
}

-- the shape of a nest with all its modifiers kept
abbrev pub kept_shape : Nest → Shape
kept_shape m = shape_with m (keep_all (modifiers_of m) none_kept)
