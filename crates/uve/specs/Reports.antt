-- The numbers of a report. In quotation marks: the request for a library, which include/uve.h tells its callers.
--
--   bytes_of64                        numbers as bytes
--   lane_given, operand_given          the two numbers more of a refusal 14
--   head_numbers                      the first eight numbers of a run's report
--   state_number, kind_number          what a register's numbers mean
--   unless_plain, of_stream            what does not apply is 0
--   flag_digit, flags_from, flags_of    the flags as one number
--   lane_numbers, register_numbers     the fourteen numbers of a register
--   registers_from, mask_numbers       those of the registers, one after the other; the last eight
--   report_of                         a run's report: 464 numbers
--   translation_numbers, refused_number   a translation's report: three numbers; its answer
use Rattle.std.specs.Prelude.{ℕ, zero, suc, ◌+◌, ◌*◌, List, [], ◌∷◌, ◌++◌, cond, ◌&&◌, replicate, leb, Result, Ok, Err}
use Rattle.codec.specs.Refusals.{number_of, lane_of, operand_of}
use Rattle.codec.specs.declared.refusal.Refused.{Refused}
use Rattle.codec.specs.declared.header.Kind.{Kind}
use Rattle.codec.specs.declared.header.Kind.TheVariants.{Load, Store}
use Rattle.engine.specs.Chunks.{flag}
use Rattle.engine.specs.Memory.{lanes_from, joined}
use Rattle.engine.specs.Registers.{reg}
use Rattle.engine.specs.Run.{number_given, place_given, Progress, Verdict}
use Rattle.engine.specs.declared.register.State.{State}
use Rattle.engine.specs.declared.register.State.TheVariants.{Plain, Configuring, Open, Finished}
use Rattle.engine.specs.declared.register.Register.{Register}
use Rattle.engine.specs.declared.register.Machine.{Machine}
use Rattle.engine.specs.declared.run.Report.{Report}

-- "`report` receives little-endian 64-bit numbers"
abbrev pub bytes_of64 : List ℕ → List ℕ
bytes_of64 = joined 8

-- ---- the first eight

-- the lane of a refusal 14, or 0
abbrev pub lane_given : Verdict → ℕ
lane_given (Ok _) = 0
lane_given (Err x) = lane_of x.refusal

-- the operand of a refusal 14, or 0
abbrev pub operand_given : Verdict → ℕ
operand_given (Ok _) = 0
operand_given (Err x) = operand_of x.refusal

-- "number, place, passes, calculations", "done: number 0, place 0", "lane and operand of a refusal 14" (02, 1/14); "headers with a cache level,
-- iterations walked" stay 0 until a request gives them
unfoldable pub head_numbers : Verdict → Report → List ℕ
head_numbers v r = number_given v ∷ place_given v ∷ r.passes ∷ r.calculations ∷ lane_given v ∷ operand_given v ∷ 0 ∷ 0 ∷ []

-- ---- a register

-- "state (0 plain, 1 being configured, 2 open, 3 finished)"
abbrev pub state_number : State → ℕ
state_number Plain = 0
state_number Configuring = 1
state_number Open = 2
state_number Finished = 3

-- "kind (0 none, 1 load, 2 store)"
abbrev pub kind_number : Kind → ℕ
kind_number Load = 1
kind_number Store = 2

-- "What does not apply is 0: kind and dimensions of a plain register"
abbrev pub unless_plain : State → ℕ → ℕ
unless_plain Plain n = 0
unless_plain Configuring n = n
unless_plain Open n = n
unless_plain Finished n = n

-- "What does not apply is 0: .. flags of a plain or configuring one"
abbrev pub of_stream : State → ℕ → ℕ
of_stream Plain n = 0
of_stream Configuring n = 0
of_stream Open n = n
of_stream Finished n = n

-- the flag of dimension d, counted from 1: 1 if it is set, 0 if it is clear or the stream lacks the dimension
abbrev pub flag_digit : ℕ → ℕ → ℕ → ℕ
flag_digit dims height d = cond (leb d dims && flag height d) 1 0

-- the flags of n dimensions from dimension d on, d lowest
unfoldable pub flags_from : ℕ → ℕ → ℕ → ℕ → ℕ
flags_from dims height d zero = 0
flags_from dims height d (suc n) = flag_digit dims height d + 2 * flags_from dims height (suc d) n

-- "flags (dimension 1 lowest)"
abbrev pub flags_of : ℕ → ℕ → ℕ
flags_of dims height = flags_from dims height 1 7

-- "the 64 lane bytes as 8 numbers"
abbrev pub lane_numbers : List ℕ → List ℕ
lane_numbers lanes = lanes_from lanes 8 0 8

-- "Then for each of the 32 registers 14 of them: state, kind, width in bytes, valid lanes, dimensions, flags, and the 64 lane bytes"
unfoldable pub register_numbers : Register → List ℕ
register_numbers r =
    state_number r.state
    ∷ unless_plain r.state (kind_number r.kind)
    ∷ r.width
    ∷ r.valid
    ∷ unless_plain r.state r.pattern.shape.dims
    ∷ of_stream r.state (flags_of r.pattern.shape.dims r.height)
    ∷ lane_numbers r.lanes

-- the numbers of n registers from register i on, one register after the other
unfoldable pub registers_from : Machine → ℕ → ℕ → List ℕ
registers_from m i zero = []
registers_from m i (suc n) = register_numbers (reg m i) ++ registers_from m (suc i) n

-- "Then eight for the masks (0 until a request gives them)"
abbrev pub mask_numbers : List ℕ
mask_numbers = replicate 8 0

-- ---- reports

-- a run's report: "That is 464 numbers, 3,712 bytes"
unfoldable pub report_of : Progress → List ℕ
report_of p = head_numbers p.verdict p.report ++ (registers_from p.world.machine 0 32 ++ mask_numbers)

-- a translation's report: "number, place, length of the sheet (0 if refused)"
unfoldable pub translation_numbers : Result ℕ Refused → List ℕ
translation_numbers (Ok n) = 0 ∷ 0 ∷ n ∷ []
translation_numbers (Err r) = number_of r.refusal ∷ r.place ∷ 0 ∷ []

-- "the refusal's number, or 0": a translation's answer
abbrev pub refused_number : {A : Type 0} → Result A Refused → ℕ
refused_number (Ok _) = 0
refused_number (Err r) = number_of r.refusal
