-- The sheet of a nest.
--
--   behaviour_of, modifier_of, modifiers_at, modifiers_from, modifiers_of   the size modifiers, one for each nonzero term
--   header_for, dimension_of, dimensions_from, stream_of   what is given for each register
--   shape_of, pattern_for                          the descriptors that this comes to
--   modifier_op, dimension_ops, stream_ops, sheet_ops, run_op, calculation_of   the sheet, operation by operation
--   sheet_of                                      its bytes
use Rattle.std.specs.Prelude.{ℕ, zero, suc, List, [], ◌∷◌, ◌++◌, map, cond, length, get_or, replicate, eqb, ℤ, pos, negsuc, nat_abs}
use Rattle.codec.specs.Operations.{operation_bytes, bytes_of_all, calculation_bytes}
use Rattle.codec.specs.declared.header.Kind.{Kind}
use Rattle.codec.specs.declared.header.Kind.TheVariants.{Load, Store}
use Rattle.codec.specs.declared.header.Header.{Header}
use Rattle.codec.specs.declared.operation.Behaviour.{Behaviour}
use Rattle.codec.specs.declared.operation.Behaviour.TheVariants.{Add, Subtract}
use Rattle.codec.specs.declared.operation.Parameter.TheVariants.{Size}
use Rattle.codec.specs.declared.operation.Dimension.{Dimension}
use Rattle.codec.specs.declared.operation.Operation.{Operation}
use Rattle.codec.specs.declared.operation.Operation.TheVariants as op
use Rattle.codec.specs.declared.operation.Task.TheVariants.{Each}
use Rattle.codec.specs.declared.operation.Calculation.{Calculation}
use Rattle.engine.specs.Addresses.{no_bytes, no_elements}
use Rattle.engine.specs.Registers.{no_modifier}
use Rattle.engine.specs.Given.{Stream, filled}
use Rattle.engine.specs.declared.stream.Modifier.{Modifier}
use Rattle.engine.specs.declared.stream.Shape.{Shape}
use Rattle.engine.specs.declared.stream.Pattern.{Pattern}
use Rattle.translator.specs.Fields.{term_of}
use Rattle.translator.specs.Nests.{coupling_of}
use Rattle.translator.specs.declared.nest.Access.{Access}
use Rattle.translator.specs.declared.nest.Nest.{Nest}

-- ---- descriptors

-- "subtract if negative"
abbrev pub behaviour_of : ℤ → Behaviour
behaviour_of (pos n) = Add
behaviour_of (negsuc n) = Subtract

-- "a size modifier (subtract if negative) for each nonzero term": of loop t, owned by the dimension of loop o
abbrev pub modifier_of : Nest → ℕ → ℕ → Modifier
modifier_of m o t = record {
  owner = o;
  target = t;
  parameter = Size;
  behaviour = behaviour_of (term_of m t o);
  displacement = nat_abs (term_of m t o);
}

-- "after its outer dimension, targets ascending": those of dimension o, for n targets from t on
unfoldable pub modifiers_at : Nest → ℕ → ℕ → ℕ → List Modifier
modifiers_at m o t zero = []
modifiers_at m o t (suc n) =
    cond (eqb (nat_abs (term_of m t o)) 0) (modifiers_at m o (suc t) n) (modifier_of m o t ∷ modifiers_at m o (suc t) n)

-- the modifiers of n dimensions from o on, in the order of the sheet
unfoldable pub modifiers_from : Nest → ℕ → ℕ → List Modifier
modifiers_from m o zero = []
modifiers_from m o (suc n) = modifiers_at m o 0 o ++ modifiers_from m (suc o) n

-- all size modifiers of a nest, in the order of the sheet
abbrev pub modifiers_of : Nest → List Modifier
modifiers_of m = modifiers_from m 0 m.loops

-- "registers 1, 2, 3, each coupled as the nest says"
abbrev pub header_for : Nest → ℕ → Kind → Header
header_for m register kind = record { kind = kind; width = m.width; register = register; coupling = coupling_of m.coupled }

-- "offsets 0"
abbrev pub dimension_of : Nest → ℕ → Access → ℕ → Dimension
dimension_of m register a d =
    record { register = register; offset = no_bytes; size = get_or m.counts d 0; stride = get_or a.strides d no_elements }

-- n dimensions of the stream of an access, from d on
unfoldable pub dimensions_from : Nest → ℕ → Access → ℕ → ℕ → List Dimension
dimensions_from m register a d zero = []
dimensions_from m register a d (suc n) = dimension_of m register a d ∷ dimensions_from m register a (suc d) n

-- what the sheet gives for a register: the stream of an access
abbrev pub stream_of : Nest → ℕ → Kind → Access → Stream
stream_of m register kind a =
    record { header = header_for m register kind; base = a.base; dimensions = dimensions_from m register a 0 m.loops; modifiers = modifiers_of m }

-- the shape that each stream of the sheet comes to
abbrev pub shape_of : Nest → Shape
shape_of m = record {
  dims = m.loops;
  sizes = m.counts;
  mods = length (modifiers_of m);
  modifiers = filled 8 no_modifier (modifiers_of m);
  coupling = coupling_of m.coupled;
}

-- the pattern that the stream of an access comes to
abbrev pub pattern_for : Nest → Access → Pattern
pattern_for m a = record { shape = shape_of m; base = a.base; offsets = replicate 7 no_bytes; strides = a.strides }

-- ---- the sheet

-- a modifier as an operation
abbrev pub modifier_op : ℕ → Modifier → Operation
modifier_op register q =
    op.Modifier
    (record {
      register = register;
      target = q.target;
      parameter = q.parameter;
      behaviour = q.behaviour;
      displacement = q.displacement;
    })

-- n dimensions of the stream of an access, from d on, each followed by the modifiers that it owns
unfoldable pub dimension_ops : Nest → ℕ → Access → ℕ → ℕ → List Operation
dimension_ops m register a d zero = []
dimension_ops m register a d (suc n) =
    (op.Dimension (dimension_of m register a d) ∷ map (modifier_op register) (modifiers_at m d 0 d)) ++ dimension_ops m register a (suc d) n

-- the operations of one stream: open, its dimensions, end
abbrev pub stream_ops : Nest → ℕ → Kind → Access → List Operation
stream_ops m register kind a =
    (op.Open (header_for m register kind) a.base ∷ dimension_ops m register a 0 m.loops) ++ (op.End register ∷ [])

-- "The sheet uses registers 1, 2, 3": both sources are loads, the destination is a store
abbrev pub sheet_ops : Nest → List Operation
sheet_ops m = stream_ops m 1 Load m.first ++ (stream_ops m 2 Load m.second ++ stream_ops m 3 Store m.destination)

-- "and one calculation with loop register 1"
abbrev pub run_op : Operation
run_op = op.Run 1 1

-- the one calculation: the nest's operation of registers 1 and 2, to register 3
abbrev pub calculation_of : Nest → Calculation
calculation_of m = record { task = Each m.action; destination = 3; first = 1; second = 2 }

-- the bytes of the sheet, "header bits 19-15 and 23-22 zero"
unfoldable pub sheet_of : Nest → List ℕ
sheet_of m = bytes_of_all (sheet_ops m) ++ (operation_bytes 0 run_op ++ calculation_bytes (calculation_of m))
