-- A stream's descriptors from the operations given for it, and the stream at a moment.
--
--   Stream, pattern_of       what was given for a stream; its pattern
--   Given, given_by, given_for   what the operations of a sheet have given for a register
--   Flagged                 when a flag is set
--   stops_of, elements_in     its stops; the elements among some of them
--   AtMoment                a stream at a moment: what has moved, what is to come, what both questions are told
use Rattle.std.specs.Prelude.{◌≡◌, ℕ, ◌-◌, ◌≤◌, cond, ◌↔◌, List, [], ◌∷◌, ◌++◌, map, length, drop, replicate, ◌==◌, slice_index_or, Ok, true, false}
use Rattle.codec.specs.Headers.{bytes_of}
use Rattle.codec.specs.declared.amounts.Bytes.{Bytes}
use Rattle.codec.specs.declared.header.Header.{Header}
use Rattle.codec.specs.declared.operation.Dimension.{Dimension}
use Rattle.codec.specs.declared.operation.Modifier as given
use Rattle.codec.specs.declared.operation.Operation.{Operation}
use Rattle.codec.specs.declared.operation.Operation.TheVariants as op
use Rattle.engine.specs.Loops.{elements}
use Rattle.engine.specs.Chunks.{stops, held_in}
use Rattle.engine.specs.Addresses.{no_bytes, no_elements}
use Rattle.engine.specs.Registers.{no_modifier, reg}
use Rattle.engine.specs.Questions.{ask_flag, ask_end}
use Rattle.engine.specs.declared.stream.Modifier.{Modifier}
use Rattle.engine.specs.declared.stream.Pattern.{Pattern}
use Rattle.engine.specs.declared.register.State.TheVariants.{Open, Finished}
use Rattle.engine.specs.declared.register.Machine.{Machine}

-- ---- the descriptors

-- what was given for a stream: its header and base, its dimensions, innermost first, and its modifiers with their owners
pub record Stream : Type 0 where
  pub header : Header
  pub base : Bytes
  pub dimensions : List Dimension
  pub modifiers : List Modifier

-- a list in an array of n, the rest filled
abbrev pub filled : {A : Type 0} → ℕ → A → List A → List A
filled n z xs = xs ++ replicate (n - length xs) z

-- the pattern of a stream
abbrev pub pattern_of : Stream → Pattern
pattern_of t = record {
  shape = record {
    dims = length t.dimensions;
    sizes = filled 7 0 (map (λ (d : Dimension). d.size) t.dimensions);
    mods = length t.modifiers;
    modifiers = filled 8 no_modifier t.modifiers;
    coupling = t.header.coupling;
  };
  base = t.base;
  offsets = filled 7 no_bytes (map (λ (d : Dimension). d.offset) t.dimensions);
  strides = filled 7 no_elements (map (λ (d : Dimension). d.stride) t.dimensions);
}

-- what the operations so far have given for a register: no stream, one that is being given, one that is ended
pub data Given : Type 0 where
  none : Given
  going : Stream → Given
  ended : Stream → Given

-- one dimension more, outside the others
abbrev pub with_dimension : Dimension → Given → Given
with_dimension d none = none
with_dimension d (going t) =
    going (record { header = t.header; base = t.base; dimensions = t.dimensions ++ (d ∷ []); modifiers = t.modifiers })
with_dimension d (ended t) = ended t

-- one modifier more, which "belongs to the dimension added last"; dimensions are counted from 0
abbrev pub with_modifier : given.Modifier → Given → Given
with_modifier m none = none
with_modifier m (going t) =
    going
    (record {
      header = t.header;
      base = t.base;
      dimensions = t.dimensions;
      modifiers =
          t.modifiers
          ++ (record {
            owner = length t.dimensions - 1;
            target = m.target;
            parameter = m.parameter;
            behaviour = m.behaviour;
            displacement = m.displacement;
          } ∷ []);
    })
with_modifier m (ended t) = ended t

-- the stream that was being given is ended
abbrev pub with_end : Given → Given
with_end none = none
with_end (going t) = ended t
with_end (ended t) = ended t

-- what an operation gives for register i
abbrev pub given_by : ℕ → Operation → Given → Given
given_by i (op.Open h base) g =
    cond (h.register == i) (going (record { header = h; base = base; dimensions = []; modifiers = [] })) g
given_by i (op.Dimension d) g = cond (d.register == i) (with_dimension d g) g
given_by i (op.Modifier m) g = cond (m.register == i) (with_modifier m g) g
given_by i (op.End j) g = cond (j == i) (with_end g) g
given_by i (op.Run j n) g = g

-- what operations give for it, from the first on
unfoldable pub given_from : ℕ → Given → List Operation → Given
given_from i g [] = g
given_from i g (o ∷ os) = given_from i (given_by i o g) os

-- what the operations of a sheet give for register i
abbrev pub given_for : ℕ → List Operation → Given
given_for i os = given_from i none os

-- ---- a moment

-- "the flag of dimension i is set exactly if the last element moved is the last of its pass of dimension i: the next element, if any,
-- differs in an index above i", after n stops of the list; dimension i counted from 1. Of a coupled stream the next stop may be a pass that
-- holds no element: 02, 3/14, in its own words, is `pass-told`, `inside-told` (PassFlags)
pub data Flagged (vs : List (List ℕ)) (n i : ℕ) : Type 0 where
  last : n ≡ length vs → Flagged vs n i
  differs : 1 ≤ n → ¬ (drop i (slice_index_or vs (n - 1) []) ≡ drop i (slice_index_or vs n [])) → Flagged vs n i

-- where a stream stops: at each element, and in each coupled pass that has none
abbrev pub stops_of : Stream → List (List ℕ)
stops_of t = stops (pattern_of t).shape

-- the elements among stops of a stream
abbrev pub elements_in : Stream → List (List ℕ) → List (List ℕ)
elements_in t vs = held_in (pattern_of t).shape vs

-- the stream t in register i of a machine, when it has gone past the stops `past`
pub record AtMoment (t : Stream) (past : List (List ℕ)) (m : Machine) (i : ℕ) : Type 0 where
  -- it is that stream still
  pub pattern : (reg m i).pattern ≡ pattern_of t
  pub kind : (reg m i).kind ≡ t.header.kind
  pub width : (reg m i).width ≡ bytes_of t.header.width
  -- those that it has gone past, followed by those to come, are its stops
  pub to_come : List (List ℕ)
  pub each-stop : past ++ to_come ≡ stops_of t
  -- the elements that have moved, followed by those to come, are the loop's elements
  pub each-once : elements_in t past ++ elements_in t to_come ≡ elements (pattern_of t).shape
  -- "After its last element a stream is finished"; 02, 3/14: a coupled one "after its last coupled pass"
  pub going_on : ¬ (to_come ≡ []) → (reg m i).state ≡ Open
  pub finished : to_come ≡ [] → (reg m i).state ≡ Finished
  -- both questions
  pub end-yes : (ask_end m i ≡ Ok true) ↔ (past ≡ stops_of t)
  pub end-no : (ask_end m i ≡ Ok false) ↔ (¬ (past ≡ stops_of t))
  pub flag-yes : (d : ℕ) → 1 ≤ d → d ≤ length t.dimensions
      → (ask_flag m i d ≡ Ok true) ↔ Flagged (stops_of t) (length past) d
  pub flag-no : (d : ℕ) → 1 ≤ d → d ≤ length t.dimensions
      → (ask_flag m i d ≡ Ok false) ↔ (¬ Flagged (stops_of t) (length past) d)
