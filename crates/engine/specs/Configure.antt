-- The four configuring operations.
--
--   uncovered, Covers               the coupled dimension, missing or there
--   open_checks .. end_checks         why each is refused, in 01's order
--   opened .. ended                 what each that is not refused makes of its register
--   register_of, checks_for, applied  of any of them
--   unless_because, or_refusal   the new one, or else the old one; the new one, or else the refusal
--   configured                      on the machine
use Rattle.std.specs.Prelude.{ℕ, ◌+◌, ◌-◌, ◌≤◌, Bool, false, not, ◌||◌, List, [], ◌∷◌, ◌==◌, nat_le, nat_lt, slice_set, Result, Ok, Err, Option, Some, None}
use Rattle.codec.specs.Headers.{bytes_of}
use Rattle.codec.specs.declared.amounts.Bytes.{Bytes}
use Rattle.codec.specs.declared.header.Header.{Header}
use Rattle.codec.specs.declared.operation.Dimension.{Dimension}
use Rattle.codec.specs.declared.operation.Modifier as given
use Rattle.codec.specs.declared.operation.Operation.{Operation}
use Rattle.codec.specs.declared.operation.Operation.TheVariants as op
use Rattle.codec.specs.declared.refusal.Refusal.{Refusal}
use Rattle.codec.specs.declared.refusal.Refusal.TheVariants.{WrongState, TooMany, Misplaced, LowHigh, Product}
use Rattle.engine.specs.Rules.{low_or_high, highs_of, product}
use Rattle.engine.specs.Checks.{Check, ◌if◌, first_of, Why}
use Rattle.engine.specs.Registers.{is_configuring, is_open, shape_of, no_pattern, no_shape, fresh, moved_to, reg, put}
use Rattle.engine.specs.declared.stream.Modifier.{Modifier}
use Rattle.engine.specs.declared.stream.Shape.{Shape}
use Rattle.engine.specs.declared.stream.Pattern.{Pattern}
use Rattle.engine.specs.declared.register.State.TheVariants.{Configuring}
use Rattle.engine.specs.declared.register.Register.{Register}
use Rattle.engine.specs.declared.register.Machine.{Machine}

-- "Open turns a plain or finished one to being configured": else 5
abbrev pub open_checks : Register → List Check
open_checks r = WrongState if (is_configuring r.state || is_open r.state) ∷ []

-- 5, then 6 for an eighth dimension
abbrev pub dimension_checks : Register → List Check
dimension_checks r = WrongState if not (is_configuring r.state) ∷ TooMany if nat_le 7 (shape_of r).dims ∷ []

-- 5, then 6 for a ninth modifier, then 7: "modifier with no dimension yet or target not below its owner"; the owner is "the dimension
-- added last"
abbrev pub modifier_checks : ℕ → Register → List Check
modifier_checks target r =
    WrongState if not (is_configuring r.state)
    ∷ TooMany if nat_le 8 (shape_of r).mods
    ∷ Misplaced if nat_le (shape_of r).dims (target + 1)
    ∷ []

-- "coupled dimension missing": the dimensions do not cover the coupling
abbrev pub uncovered : Shape → Option ℕ → Bool
uncovered s None = false
uncovered s (Some c) = nat_lt s.dims c

-- the coupled dimension is there: so many dimensions cover the coupling
abbrev pub Covers : ℕ → Option ℕ → Type 0
Covers dims None = Unit {0}
Covers dims (Some c) = c ≤ dims

-- 5, then 7: "end with no dimension; coupled dimension missing", then 8, then 9
abbrev pub end_checks : Register → List Check
end_checks r =
    WrongState if not (is_configuring r.state)
    ∷ Misplaced if ((shape_of r).dims == 0 || uncovered (shape_of r) (shape_of r).coupling)
    ∷ LowHigh if low_or_high (shape_of r)
    ∷ Product if nat_lt 1048576 (product (highs_of (shape_of r)))
    ∷ []

-- the pattern after open: the base and the coupling, no dimension and no modifier yet
abbrev pub opened_pattern : Header → Bytes → Pattern
opened_pattern h base = record {
  shape = record { dims = 0; sizes = no_shape.sizes; mods = 0; modifiers = no_shape.modifiers; coupling = h.coupling };
  base = base;
  offsets = no_pattern.offsets;
  strides = no_pattern.strides;
}

-- "to being configured, with the header's width, no valid lanes and all bytes zero"
abbrev pub opened : Header → Bytes → Register
opened h base = record {
  state = Configuring;
  width = bytes_of h.width;
  valid = 0;
  lanes = fresh.lanes;
  kind = h.kind;
  pattern = opened_pattern h base;
  moved = 0;
  index = fresh.index;
  height = 0;
}

-- a register with another pattern
abbrev pub patterned : Pattern → Register → Register
patterned p r = record {
  state = r.state;
  width = r.width;
  valid = r.valid;
  lanes = r.lanes;
  kind = r.kind;
  pattern = p;
  moved = r.moved;
  index = r.index;
  height = r.height;
}

-- "Innermost first; the first is dimension 1": one dimension more
abbrev pub dimensioned : Dimension → Pattern → Pattern
dimensioned d p = record {
  shape = record {
    dims = p.shape.dims + 1;
    sizes = slice_set p.shape.sizes p.shape.dims d.size;
    mods = p.shape.mods;
    modifiers = p.shape.modifiers;
    coupling = p.shape.coupling;
  };
  base = p.base;
  offsets = slice_set p.offsets p.shape.dims d.offset;
  strides = slice_set p.strides p.shape.dims d.stride;
}

-- "It belongs to the dimension added last"
abbrev pub owned : given.Modifier → Shape → Modifier
owned m s = record {
  owner = s.dims - 1;
  target = m.target;
  parameter = m.parameter;
  behaviour = m.behaviour;
  displacement = m.displacement;
}

-- one modifier more, behind those that were given
abbrev pub modified : given.Modifier → Pattern → Pattern
modified m p = record {
  shape = record {
    dims = p.shape.dims;
    sizes = p.shape.sizes;
    mods = p.shape.mods + 1;
    modifiers = slice_set p.shape.modifiers p.shape.mods (owned m p.shape);
    coupling = p.shape.coupling;
  };
  base = p.base;
  offsets = p.offsets;
  strides = p.strides;
}

-- "End opens it, or finishes it at once if it has no elements"; 02, 3/14: a coupled stream "is finished at end only if there is" no coupled
-- pass: nothing has moved
abbrev pub ended : Register → Register
ended r = moved_to 0 r

-- the register that an operation names
abbrev pub register_of : Operation → ℕ
register_of (op.Open h base) = h.register
register_of (op.Dimension d) = d.register
register_of (op.Modifier m) = m.register
register_of (op.End i) = i
register_of (op.Run i n) = i

-- the checks of an operation on its register; a run has none here
abbrev pub checks_for : Operation → Register → List Check
checks_for (op.Open h base) r = open_checks r
checks_for (op.Dimension d) r = dimension_checks r
checks_for (op.Modifier m) r = modifier_checks m.target r
checks_for (op.End i) r = end_checks r
checks_for (op.Run i n) r = []

-- what an operation that is not refused makes of its register; a run changes none here
abbrev pub applied : Operation → Register → Register
applied (op.Open h base) r = opened h base
applied (op.Dimension d) r = patterned (dimensioned d r.pattern) r
applied (op.Modifier m) r = patterned (modified m r.pattern) r
applied (op.End i) r = ended r
applied (op.Run i n) r = r

-- the new one if nothing is refused, else the old one
abbrev pub unless_because : {A : Type 0} → Why → A → A → A
unless_because (Ok _) new old = new
unless_because (Err x) new old = old

-- the new one if nothing is refused, else the refusal
abbrev pub or_refusal : {A : Type 0} → Why → A → Result A Refusal
or_refusal (Ok _) new = Ok new
or_refusal (Err x) new = Err x

-- why an operation is refused, if it is: the first check on its register that applies
unfoldable pub why_not : Operation → Machine → Why
why_not o m = first_of (checks_for o (reg m (register_of o)))

-- "A refused operation .. alters nothing": the machine after an operation
unfoldable pub configured : Operation → Machine → Machine
configured o m = unless_because (why_not o m) (put m (register_of o) (applied o (reg m (register_of o)))) m
