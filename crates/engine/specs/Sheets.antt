-- A whole sheet of bytes.
--
--   body_at                   the calculations of a run
--   names, is_loop_register    what 16 looks at
--   ending_of                 the run, once its body is read
--   operations_from, prepare  the operations of a sheet, up to its end, its run or a refusal
--   allowed, run_by, run_from, run    the sheet's answer
use Rattle.std.specs.Prelude.{ℕ, zero, suc, ◌%◌, Bool, false, cond, ◌&&◌, ◌||◌, List, [], ◌∷◌, length, ◌==◌, nat_le, nat_lt, Ok, Err}
use Rattle.codec.specs.Operations.{operation_at, calculation_at, Decoded, Body}
use Rattle.codec.specs.declared.operation.Operation.TheVariants as op
use Rattle.codec.specs.declared.refusal.Refusal.{Refusal}
use Rattle.codec.specs.declared.refusal.Refusal.TheVariants.{OutOfRange, Lengths, LoopRegister}
use Rattle.engine.specs.Checks.{Why}
use Rattle.engine.specs.Registers.{is_open, is_finished, is_load, reg, fresh_machine}
use Rattle.engine.specs.Configure.{why_not, configured}
use Rattle.engine.specs.Calculate.{World, refusal_of}
use Rattle.engine.specs.Run.{Progress, Reason, begun, execute_by, refusal_at}
use Rattle.engine.specs.declared.register.Machine.{Machine}
use Rattle.engine.specs.declared.run.Placed.{Placed}

-- a body read whole, with the place behind it, or its refusal
pub data Calculations : Type 0 where
  whole : List Placed → ℕ → Calculations
  broken : Refusal → ℕ → Calculations

-- a calculation in front of those behind it, or the refusal of one of these
abbrev pub before : Placed → Calculations → Calculations
before c (whole cs at) = whole (c ∷ cs) at
before c (broken x place) = broken x place

-- a calculation that was read, with its place, before the rest of the body; or its refusal
abbrev pub on_calculation : Body → ℕ → (ℕ → Calculations) → Calculations
on_calculation (Err e) at rest = broken e.refusal e.place
on_calculation (Ok (c, next)) at rest = before (record { place = at; calculation = c }) (rest next.at)

-- n calculations from a place on
unfoldable pub body_at : List ℕ → ℕ → ℕ → Calculations
body_at s zero at = whole [] at
body_at s (suc n) at = on_calculation (calculation_at s at) at (body_at s n)

-- whether a calculation of a body names a register as a source
unfoldable pub names : ℕ → List Placed → Bool
names loop [] = false
names loop (c ∷ cs) = loop == c.calculation.first || loop == c.calculation.second || names loop cs

-- what 16 asks of the loop register: it is an open or finished load stream, and a calculation names it as a source
abbrev pub is_loop_register : ℕ → List Placed → Machine → Bool
is_loop_register loop cs m =
    (is_open (reg m loop).state || is_finished (reg m loop).state) && is_load (reg m loop).kind && names loop cs

-- how the operations of a sheet end: no byte is left; a run, with its loop register and body; a refusal
pub data Ending : Type 0 where
  over : Ending
  runs : ℕ → List Placed → Ending
  refused : Refusal → ℕ → Ending

-- "The whole body is read, then bytes after it refused, then 16 checked, before the first pass"
abbrev pub ending_of : List ℕ → ℕ → ℕ → Machine → Calculations → Ending
ending_of s place loop m (broken x at) = refused x at
ending_of s place loop m (whole cs at) =
    cond (nat_lt at (length s)) (refused OutOfRange at) (cond (is_loop_register loop cs m) (runs loop cs) (refused LoopRegister place))

-- what a sheet's operations leave: the machine, and how they end
pub record Prepared : Type 0 where
  pub machine : Machine
  pub ending : Ending

-- an operation that is refused ends the sheet there; one that is not is followed by the rest
abbrev pub on_operation : Why → ℕ → Machine → (Machine → Prepared) → Machine → Prepared
on_operation (Ok _) place m rest n = rest n
on_operation (Err x) place m rest n = record { machine = m; ending = refused x place }

-- an operation as it was read: a refusal ends the sheet, a run its operations; any other is done before the rest
abbrev pub on_decoded : List ℕ → ℕ → Machine → Decoded → (ℕ → Machine → Prepared) → Prepared
on_decoded s at m (Err e) rest = record { machine = m; ending = refused e.refusal e.place }
on_decoded s at m (Ok (op.Run loop count, next)) rest =
    record { machine = m; ending = ending_of s at loop m (body_at s count next.at) }
on_decoded s at m (Ok (op.Open h base, next)) rest =
    on_operation (why_not (op.Open h base) m) at m (rest next.at) (configured (op.Open h base) m)
on_decoded s at m (Ok (op.Dimension d, next)) rest =
    on_operation (why_not (op.Dimension d) m) at m (rest next.at) (configured (op.Dimension d) m)
on_decoded s at m (Ok (op.Modifier d, next)) rest =
    on_operation (why_not (op.Modifier d) m) at m (rest next.at) (configured (op.Modifier d) m)
on_decoded s at m (Ok (op.End i, next)) rest =
    on_operation (why_not (op.End i) m) at m (rest next.at) (configured (op.End i) m)

-- the operations from a place on, at most n of them. The bound is never felt, since each takes a byte at least: see `read-on` of SheetLaws
unfoldable pub operations_from : ℕ → List ℕ → ℕ → Machine → Prepared
operations_from zero s at m = record { machine = m; ending = over }
operations_from (suc n) s at m =
    cond (nat_lt at (length s))
    (on_decoded s at m (operation_at s at) (operations_from n s))
    (record { machine = m; ending = over })

-- a sheet's operations, from given registers
abbrev pub prepare : List ℕ → Machine → Prepared
prepare s m = operations_from (length s) s 0 m

-- "vector length | 8 to 64 bytes, a multiple of 8", "memory | 0 to 65,536 bytes"
abbrev pub allowed : ℕ → ℕ → Bool
allowed vl len = nat_le 8 vl && nat_le vl 64 && vl % 8 == 0 && nat_le len 65536

-- a refusal before the first pass: both counts are 0
abbrev pub refused_at : World → Refusal → ℕ → Progress
refused_at w x place = record { world = w; report = record { passes = 0; calculations = 0 }; verdict = refusal_at x place }

-- the run, unless an operation was refused
abbrev pub on_ending_by : Reason → ℕ → World → Ending → Progress
on_ending_by why vl w over = begun w
on_ending_by why vl w (runs loop cs) = execute_by why vl loop cs w
on_ending_by why vl w (refused x place) = refused_at w x place

-- the same by the checks of a calculation
abbrev pub on_ending : ℕ → World → Ending → Progress
on_ending = on_ending_by refusal_of

-- a sheet from given registers; "15 comes first", place 0
abbrev pub run_by : Reason → Machine → ℕ → List ℕ → List ℕ → Progress
run_by why m vl s memory =
    cond (allowed vl (length memory))
    (on_ending_by why vl (record { machine = (prepare s m).machine; memory = memory }) (prepare s m).ending)
    (refused_at (record { machine = m; memory = memory }) Lengths 0)

-- the same by the checks of a calculation
abbrev pub run_from : Machine → ℕ → List ℕ → List ℕ → Progress
run_from = run_by refusal_of

-- "A sheet starts with 32 fresh ones"
abbrev pub run : ℕ → List ℕ → List ℕ → Progress
run = run_from fresh_machine
