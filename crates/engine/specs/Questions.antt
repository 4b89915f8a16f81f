-- The two questions: the flag of a dimension, and the end of stream.
--
--   flag_checks, end_of_stream_checks   why a question is refused
--   ask_flag, ask_end         what is answered
use Rattle.std.specs.Prelude.{ℕ, Bool, not, ◌||◌, List, [], ◌∷◌, ◌==◌, nat_lt, Result, Ok, Err}
use Rattle.codec.specs.declared.refusal.Refusal.{Refusal}
use Rattle.codec.specs.declared.refusal.Refusal.TheVariants.{OutOfRange, WrongState}
use Rattle.engine.specs.Chunks.{flag}
use Rattle.engine.specs.Checks.{Check, ◌if◌, first_of, Why}
use Rattle.engine.specs.Registers.{is_open, is_finished, shape_of, reg}
use Rattle.engine.specs.declared.register.Register.{Register}
use Rattle.engine.specs.declared.register.Machine.{Machine}

-- "refused with 2 for a register above 31 or a dimension not 1 to 7, then 5 for a plain or configuring register, then 2 for a
-- dimension the stream lacks"
abbrev pub flag_checks : ℕ → ℕ → Register → List Check
flag_checks i d r =
    OutOfRange if (nat_lt 31 i || d == 0 || nat_lt 7 d)
    ∷ WrongState if not (is_open r.state || is_finished r.state)
    ∷ OutOfRange if nat_lt (shape_of r).dims d
    ∷ []

-- "the same refusals without the dimension's"
abbrev pub end_of_stream_checks : ℕ → Register → List Check
end_of_stream_checks i r = OutOfRange if nat_lt 31 i ∷ WrongState if not (is_open r.state || is_finished r.state) ∷ []

-- the refusal if there is one, else whether it is so
abbrev pub unless : Why → Bool → Result Bool Refusal
unless (Ok _) b = Ok b
unless (Err x) b = Err x

-- the flag of a dimension, counted from 1
unfoldable pub ask_flag : Machine → ℕ → ℕ → Result Bool Refusal
ask_flag m i d = unless (first_of (flag_checks i d (reg m i))) (flag (reg m i).height d)

-- the end of stream
unfoldable pub ask_end : Machine → ℕ → Result Bool Refusal
ask_end m i = unless (first_of (end_of_stream_checks i (reg m i))) (is_finished (reg m i).state)
