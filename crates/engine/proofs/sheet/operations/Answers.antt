-- `sheet::operations` meets its contract: what is left of the sheet stays what there was to do.
use Rattle.std.proofs.Common.{◌≡◌, ℕ, ◌+◌, ◌-◌, ◌<◌, true, List, sym, ap, ◌∙◌, subst, arith}
use Rattle.std.specs.Prelude.{Ok, Err}
use Rattle.std.proofs.lemmas.Result.{err_from_is_err_and}
use Rattle.codec.specs.NumberLaws.{AreBytes}
use Rattle.codec.specs.Operations.{Decoded, operation_in_range, operation_at}
use Rattle.codec.specs.OperationLaws.{operation-read}
use Rattle.codec.specs.RangeLaws.{run-range}
use Rattle.codec.specs.declared.number.Cursor.{Cursor}
use Rattle.codec.specs.declared.operation.Operation.{Operation}
use Rattle.engine.specs.Configure.{why_not, configured, register_of}
use Rattle.engine.specs.Good.{AllGood}
use Rattle.engine.specs.GoodLaws.{in-machine, configured-kept, configured-good}
use Rattle.engine.specs.Sheets.{refused, operations_from}
use Rattle.engine.proofs.SheetSteps.{configures, ops-none, ops-out, ops-refused, ops-run, ops-because, ops-next}
use Rattle.engine.proofs.sheet.operations.Goals as goal

-- an operation that was read is in range, and so its register is one of the machine's
module _ (s : List ℕ) (at : ℕ) (r : Decoded) (o : Operation) (next : Cursor) where
  read_in_range : AreBytes s → r ≡ operation_at s at → r ≡ Ok (o, next) → operation_in_range o ≡ true
  read_in_range b e was = (operation-read s at o next b (sym e ∙ was)).range

  machine_has : (i : ℕ) → AreBytes s → r ≡ operation_at s at → r ≡ Ok (o, next) → i ≡ register_of o → i < 32
  machine_has i b e was k = omega (arith, in-machine o (read_in_range b e was), k)

pub returns-then-s-at : goal.returns-then-s-at
returns-then-s-at c =
    let l = c.loop in
    sym (ops-out _ _ l.at l.machine c.if-s-at.true) ∙ l.invariant.1

pub returns-in_err-o : goal.returns-in_err-o
returns-in_err-o c =
    let l = c.loop in
    let e = c.in_err-o.field-0.0 in
    let r = err_from_is_err_and c.from_residual.result c.from_residual.ensures.1 in
    rw (r.1, r.2)
    (sym (ops-refused _ _ l.at l.machine (omega (arith, c.loop-test.true)) c.if-s-at.false e.refusal e.place (sym c.decode.ensures ∙ c.in_err-o.was)) ∙ l.invariant.1)

pub run_ending-requires : goal.run_ending-requires
run_ending-requires c =
    let o = c.in_ok-o in
    let in-range = read_in_range c.args.s.now c.loop.at c.decode.result o.o o.next (λ i. (c.type_inv.s i).fits) c.decode.ensures o.was in
    let r = run-range c.in-Run.register c.in-Run.n (ap operation_in_range (sym c.in-Run.is) ∙ in-range) in
    (omega (arith, r.0), omega (arith, r.1))

pub returns-in_err-run : goal.returns-in_err-run
returns-in_err-run c =
    let l = c.loop in
    let r = err_from_is_err_and c.from_residual-in_err-run.result c.from_residual-in_err-run.ensures.1 in
    rw (r.1, r.2)
    (ap (λ t. record { machine = l.machine; ending = t }) c.in_err-run.ensures
    ∙ sym (ops-run _ _ l.at l.machine (omega (arith, c.loop-test.true)) c.if-s-at.false c.in_ok-o.next _ _ (sym c.decode.ensures ∙ c.in_ok-o.was ∙ ap (λ o. Ok (o, c.in_ok-o.next)) c.in-Run.is))
    ∙ l.invariant.1)

pub returns-in-Run : goal.returns-in-Run
returns-in-Run c =
    let l = c.loop in
    ap (λ t. record { machine = l.machine; ending = t }) c.in_ok-run.ensures
    ∙ sym (ops-run _ _ l.at l.machine (omega (arith, c.loop-test.true)) c.if-s-at.false c.in_ok-o.next _ _ (sym c.decode.ensures ∙ c.in_ok-o.was ∙ ap (λ o. Ok (o, c.in_ok-o.next)) c.in-Run.is))
    ∙ l.invariant.1

pub configure-requires : goal.configure-requires
configure-requires c =
    let l = c.loop in
    let o = c.in_ok-o in
    (l.invariant.0, read_in_range c.args.s.now l.at c.decode.result o.o o.next (λ i. (c.type_inv.s i).fits) c.decode.ensures o.was)

pub returns-in-Err : goal.returns-in-Err
returns-in-Err c =
    let l = c.loop in
    let o = c.in_ok-o.o in
    let why : why_not o l.machine ≡ Err c.in-Err.refusal = sym c.configure.ensures.why ∙ c.in-Err.is in
    ap (λ m. record { machine = m; ending = refused c.in-Err.refusal l.at }) (c.configure.ensures.after ∙ configured-kept o l.machine _ why)
    ∙ sym (ops-because _ _ l.at l.machine (omega (arith, c.loop-test.true)) c.if-s-at.false _ _ _ (sym c.decode.ensures ∙ c.in_ok-o.was) (configures o c.in_default.not-Run) why)
    ∙ l.invariant.1

pub loop-preserved : goal.loop-preserved
loop-preserved c =
    let l = c.loop in
    let o = c.in_ok-o.o in
    let in-range = read_in_range c.args.s.now l.at c.decode.result o c.in_ok-o.next (λ i. (c.type_inv.s i).fits) c.decode.ensures c.in_ok-o.was in
    let on-machine : (why_not o l.machine ≡ Ok tt) × (c.configure.new.machine ≡ configured o l.machine) = (sym c.configure.ensures.why ∙ c.in-Ok.is, c.configure.ensures.after) in
    let fewer : c.args.most - (l.counter + 1) ≡ c.args.most - l.counter - 1 = omega arith in (
      (l.invariant.0.0, subst (AllGood l.invariant.0.0) (sym on-machine.1) (configured-good l.invariant.0.0 _ l.machine l.invariant.0.1 in-range)),
      (λ i. operations_from (fewer i) c.args.s.now c.in_ok-o.next.at (on-machine.1 i))
          ∙ sym (ops-next _ _ l.at l.machine (omega (arith, c.loop-test.true)) c.if-s-at.false _ _ (sym c.decode.ensures ∙ c.in_ok-o.was) (configures o c.in_default.not-Run) on-machine.0)
          ∙ l.invariant.1,
    )

pub returns : goal.returns
returns c =
    let l = c.loop in
    sym (ops-none _ _ l.at l.machine (omega (arith, c.loop-test.false))) ∙ l.invariant.1
