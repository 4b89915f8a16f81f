-- What a report says.
--
--   register-length, registers-length, report-length, report-bytes   464 numbers, 3,712 bytes
--   lanes-in-order          a register's lane bytes stand in the report as they are
--   fresh-numbers           the numbers of a fresh register
--   refused-15              "With 15 all registers are fresh"
--   forgotten, report-before   but for lane and operand a report is what it was
--   told_digit, flags-asked  each flag is what the engine's question for it is told
use Rattle.std.specs.Prelude.{ℕ, zero, suc, ◌+◌, ◌-◌, ◌*◌, ◌/◌, ◌%◌, ◌^◌, ◌≤◌, ◌<◌, ◌≡◌, refl, List, [], ◌∷◌, ◌++◌, Bool, true, false, cond, not, ◌&&◌, ◌||◌, length, replicate, take, drop, leb, ltb, Ok, Err, Result}
use Rattle.std.proofs.Common.{◌∙◌, ap, arith, length-append, take_all, le-leb, le-ltb, lt-ltb, ne_eqb}
use Rattle.std.proofs.Math.Nat.{pow-succ', zero-div, div-div-eq-div-mul}
use Rattle.std.proofs.Math.Decide.{dec_le}
use Rattle.std.proofs.lemmas.Bool.{lt-leb}
use Rattle.codec.specs.declared.operation.Calculation.{Calculation}
use Rattle.codec.specs.declared.refusal.Refusal.{Refusal}
use Rattle.codec.specs.declared.refusal.Refusal.TheVariants.{OutOfRange, WrongState}
use Rattle.engine.specs.Memory.{value_at, lanes_from}
use Rattle.engine.specs.ByteLaws.{Bytewise}
use Rattle.engine.specs.Chunks.{flag}
use Rattle.engine.specs.Checks.{◌if◌, first_of}
use Rattle.engine.specs.Questions.{unless, ask_flag}
use Rattle.engine.specs.Registers.{is_open, is_finished, fresh, fresh_machine, shape_of, reg}
use Rattle.engine.specs.Calculate.{World}
use Rattle.engine.specs.Run.{Progress, Reason}
use Rattle.engine.specs.Sheets.{allowed, run_by, run}
use Rattle.engine.specs.Before.{number_before, number_of_why, Plainly, plainly, as_before}
use Rattle.engine.specs.declared.register.State.{State}
use Rattle.engine.specs.declared.register.State.TheVariants.{Plain, Configuring, Open, Finished}
use Rattle.engine.specs.declared.register.Register.{Register}
use Rattle.engine.specs.declared.register.Machine.{Machine}
use Rattle.uve.specs.Reports.{bytes_of64, head_numbers, of_stream, flag_digit, flags_from, flags_of, lane_numbers, register_numbers, registers_from, mask_numbers, report_of}
use Rattle.uve.specs.JoinedLaws.{length-joined, joined-lanes}

-- ---- how many numbers

-- "14 of them"
pub register-length : (r : Register) → length (register_numbers r) ≡ 14
unfolding register_numbers lanes_from
register-length r = refl

-- n registers
pub registers-length : (m : Machine) (i n : ℕ) → length (registers_from m i n) ≡ n * 14
unfolding registers_from
registers-length m i zero = omega arith
registers-length m i (suc n) = rw (length-append, register-length, registers-length m (suc i) n) (omega arith)

-- "That is 464 numbers"
pub report-length : (p : Progress) → length (report_of p) ≡ 464
unfolding report_of head_numbers
report-length p =
    simp length-append (omega (arith, registers-length p.world.machine 0 32))

-- "3,712 bytes"
pub report-bytes : (p : Progress) → length (bytes_of64 (report_of p)) ≡ 3712
report-bytes p = length-joined 8 (report_of p) ∙ omega (arith, report-length p)

-- ---- a register

-- "the 64 lane bytes as 8 numbers": they stand in the report as they are
pub lanes-in-order : (lanes : List ℕ) → Bytewise lanes → length lanes ≡ 64 → bytes_of64 (lane_numbers lanes) ≡ lanes
lanes-in-order lanes h e = joined-lanes 8 lanes 0 8 h (omega arith) ∙ take_all 64 lanes (omega arith)

-- the numbers of a fresh register
pub fresh-numbers : register_numbers fresh ≡ 0 ∷ 0 ∷ 1 ∷ replicate 11 0
unfolding register_numbers flags_from lanes_from value_at
fresh-numbers = refl

-- "With 15 all registers are fresh"
pub refused-15 : (vl : ℕ) (s memory : List ℕ) → allowed vl (length memory) ≡ false
    → report_of (run vl s memory) ≡ (15 ∷ replicate 7 0) ++ (registers_from fresh_machine 0 32 ++ mask_numbers)
unfolding report_of head_numbers
refused-15 vl s memory e = rw e

-- ---- lane and operand

-- a report with lane and operand 0
abbrev pub forgotten : List ℕ → List ℕ
forgotten report = take 4 report ++ (0 ∷ 0 ∷ drop 6 report)

-- answers that are alike but for the two numbers of 14 have reports that are
report-plainly : (p q : Progress) → plainly p ≡ plainly q → forgotten (report_of p) ≡ forgotten (report_of q)
unfolding report_of head_numbers
report-plainly p q e =
    ap
    (λ (g : Plainly).
    g.number ∷ g.place ∷ g.report.passes ∷ g.report.calculations ∷ 0 ∷ 0 ∷ 0 ∷ 0 ∷ (registers_from g.world.machine 0 32 ++ mask_numbers))
    e

-- whatever says why a calculation is refused, with 01's number of it: every sheet has the report that the engine gives it, lane and operand
-- forgotten
pub report-before : (why : Reason) → ((vl : ℕ) (c : Calculation) (w : World) → number_of_why (why vl c w) ≡ number_before vl c w)
    → (vl : ℕ) (s memory : List ℕ) → forgotten (report_of (run_by why fresh_machine vl s memory)) ≡ forgotten (report_of (run vl s memory))
report-before why e vl s memory = report-plainly _ _ (as_before why e fresh_machine vl s memory)

-- ---- flags

-- what the question for a flag is told, as a binary digit: 1 for yes
abbrev pub told_digit : Result Bool Refusal → ℕ
told_digit (Ok true) = 1
told_digit (Ok false) = 0
told_digit (Err x) = 0

-- a digit is 0 or 1
digit-small : (dims height d : ℕ) → flag_digit dims height d ≤ 1
digit-small dims height d = go (leb d dims && flag height d)
  where
    go : (b : Bool) → cond b 1 0 ≤ 1
    go true = omega arith
    go false = omega arith

-- the digit of a dimension
digit_at : (dims height d n k : ℕ) → k < n → flags_from dims height d n / 2 ^ k % 2 ≡ flag_digit dims height (d + k)
unfolding flags_from
digit_at dims height d zero k h = absurd (omega arith)
digit_at dims height d (suc n) zero h =
    let e : d + 0 ≡ d = omega arith in
    rw e (omega (arith, digit-small dims height d))
digit_at dims height d (suc n) (suc k) h =
    let e : (flag_digit dims height d + 2 * flags_from dims height (suc d) n) / 2 ≡ flags_from dims height (suc d) n = omega (arith, digit-small dims height d) in
    let f : d + suc k ≡ suc d + k = omega arith in
    rw (pow-succ' 2 k, ← div-div-eq-div-mul, e, f) (digit_at dims height (suc d) n k (omega arith))

-- a digit of a flag that is told
told-digit : (b : Bool) → cond b 1 0 ≡ told_digit (Ok b)
told-digit true = refl
told-digit false = refl

-- the digit of a stream's dimension
stream-digit : (dims height d : ℕ) → 1 ≤ d → d ≤ 7
    → flags_of dims height / 2 ^ (d - 1) % 2 ≡ told_digit (unless (first_of (OutOfRange if ltb dims d ∷ [])) (flag height d))
unfolding first_of
stream-digit dims height d p q = digit_at dims height 1 7 (d - 1) (omega arith) ∙ rw e (go (dec_le d dims))
  where
    e : 1 + (d - 1) ≡ d
    e = omega arith

    go : Dec (d ≤ dims) → flag_digit dims height d ≡ told_digit (unless (first_of (OutOfRange if ltb dims d ∷ [])) (flag height d))
    go (yes h) = rw (le-leb d dims h, le-ltb dims d h) (told-digit (flag height d))
    go (no h) = rw (lt-leb d dims (omega arith), lt-ltb dims d (omega arith))

-- the digit of a register's dimension, by its state
by_state : (k : State) (dims height d : ℕ) → 1 ≤ d → d ≤ 7
    → of_stream k (flags_of dims height) / 2 ^ (d - 1) % 2
    ≡ told_digit (unless (first_of (WrongState if not (is_open k || is_finished k) ∷ OutOfRange if ltb dims d ∷ [])) (flag height d))
unfolding first_of
by_state Plain dims height d p q = rw zero-div
by_state Configuring dims height d p q = rw zero-div
by_state Open dims height d p q = stream-digit dims height d p q
by_state Finished dims height d p q = stream-digit dims height d p q

-- "flags (dimension 1 lowest)": the digit of dimension d is what the engine's question for the flag is told
pub flags-asked : (m : Machine) (i d : ℕ) → i ≤ 31 → 1 ≤ d → d ≤ 7
    → of_stream (reg m i).state (flags_of (shape_of (reg m i)).dims (reg m i).height) / 2 ^ (d - 1) % 2 ≡ told_digit (ask_flag m i d)
unfolding ask_flag first_of
flags-asked m i d h p q =
    rw (le-ltb 31 i h, ne_eqb d 0 (λ e. omega arith), le-ltb 7 d q) (by_state (reg m i).state (shape_of (reg m i)).dims (reg m i).height d p q)
