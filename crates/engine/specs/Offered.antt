-- For the layer above: the next operation of a stream, by what was given for it so far, whatever other streams were given between. It is
-- accepted, or refused with the number named here.
--
--   checks_given     the checks of an operation, on what was given for its register
--   offered         they are the engine's
--   ended-streaming what is left once all operations of a stream are accepted: the stream with that pattern, nothing moved
use Rattle.std.specs.Prelude.{◌≡◌, ◌+◌, Bool, true, false, cond, not, ◌||◌, List, [], ◌∷◌, length, ◌==◌, nat_le, nat_lt, refl}
use Rattle.codec.specs.Headers.{bytes_of}
use Rattle.codec.specs.declared.operation.Operation.{Operation}
use Rattle.codec.specs.declared.operation.Operation.TheVariants as op
use Rattle.codec.specs.declared.refusal.Refusal.TheVariants.{WrongState, TooMany, Misplaced, LowHigh, Product}
use Rattle.engine.specs.Rules.{low_or_high, highs_of, product}
use Rattle.engine.specs.Checks.{Check, ◌if◌, first_of}
use Rattle.engine.specs.Registers.{is_configuring, is_open}
use Rattle.engine.specs.Configure.{uncovered, checks_for}
use Rattle.engine.specs.GoodLaws.{after-configuring}
use Rattle.engine.specs.Given.{Stream, stops_of, pattern_of, Given, none, going, ended}
use Rattle.engine.specs.GivenLaws.{Has}
use Rattle.engine.specs.InStep.{Streaming}
use Rattle.engine.specs.declared.register.State.TheVariants.{Open, Finished}
use Rattle.engine.specs.declared.register.Register.{Register}

-- the checks of an operation on what was given for its register: open needs a register without a stream, or one whose stream had no
-- stop; all others one whose stream is being given
abbrev pub checks_given : Operation → Given → List Check
checks_given (op.Open h base) none = []
checks_given (op.Open h base) (going t) = WrongState if true ∷ []
checks_given (op.Open h base) (ended t) = WrongState if not (nat_le (length (stops_of t)) 0) ∷ []
checks_given (op.Dimension d) none = WrongState if true ∷ []
checks_given (op.Dimension d) (going t) = TooMany if nat_le 7 (length t.dimensions) ∷ []
checks_given (op.Dimension d) (ended t) = WrongState if true ∷ []
checks_given (op.Modifier m) none = WrongState if true ∷ []
checks_given (op.Modifier m) (going t) = TooMany if nat_le 8 (length t.modifiers) ∷ Misplaced if nat_le (length t.dimensions) (m.target + 1) ∷ []
checks_given (op.Modifier m) (ended t) = WrongState if true ∷ []
checks_given (op.End i) none = WrongState if true ∷ []
checks_given (op.End i) (going t) =
    Misplaced if (length t.dimensions == 0 || uncovered (pattern_of t).shape t.header.coupling)
    ∷ LowHigh if low_or_high (pattern_of t).shape
    ∷ Product if nat_lt 1048576 (product (highs_of (pattern_of t).shape))
    ∷ []
checks_given (op.End i) (ended t) = WrongState if true ∷ []
checks_given (op.Run i n) g = []

-- an ended stream of which nothing has moved is open, or finished if it has no stop
opens : (b : Bool) → (is_configuring (cond b Finished Open) || is_open (cond b Finished Open)) ≡ not b
opens true = refl
opens false = refl

-- they are the engine's checks
pub offered : (o : Operation) (g : Given) (r : Register) → Has g r → first_of (checks_for o r) ≡ first_of (checks_given o g)
unfolding first_of
offered (op.Open h base) none r k = rw k
offered (op.Open h base) (going t) r k = rw k.1
offered (op.Open h base) (ended t) r k = rw (k.state, opens (nat_le (length (stops_of t)) 0))
offered (op.Dimension d) none r k = rw k
offered (op.Dimension d) (going t) r k = rw (k.1, k.0.pattern)
offered (op.Dimension d) (ended t) r k = rw (k.state, after-configuring (nat_le (length (stops_of t)) 0))
offered (op.Modifier m) none r k = rw k
offered (op.Modifier m) (going t) r k = rw (k.1, k.0.pattern)
offered (op.Modifier m) (ended t) r k = rw (k.state, after-configuring (nat_le (length (stops_of t)) 0))
offered (op.End i) none r k = rw k
offered (op.End i) (going t) r k = rw (k.1, k.0.pattern)
offered (op.End i) (ended t) r k = rw (k.state, after-configuring (nat_le (length (stops_of t)) 0))
offered (op.Run i n) g r k = refl

-- once all operations of a stream are accepted its register has that stream, nothing moved
pub ended-streaming : (t : Stream) (r : Register) → Has (ended t) r → Streaming (pattern_of t) t.header.kind (bytes_of t.header.width) 0 r
ended-streaming t r k = record {
  pattern = k.bears.pattern;
  is = k.bears.kind;
  wide = k.bears.width;
  moved = k.moved;
  state = k.state;
}
