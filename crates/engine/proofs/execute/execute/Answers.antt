-- `execute::execute` meets its contract: between passes what follows gives what the whole run gives, and within one what is left of it.
use Rattle.std.proofs.Common.{◌≡◌, ℕ, ◌+◌, ◌<◌, cond, eqb, List, [], length, get_or, sym, refl, ap, ◌∙◌, subst, arith, rules, eqb-true, Ok}
use Rattle.engine.specs.Registers.{is_open, no_register}
use Rattle.engine.specs.CalculationLaws.{Named}
use Rattle.engine.specs.HistoryLaws.{AllNamed}
use Rattle.engine.specs.Run.{execute, refusal_at}
use Rattle.engine.specs.Sheets.{is_loop_register}
use Rattle.codec.specs.declared.operation.Calculation.{Calculation}
use Rattle.engine.specs.Calculations.{Fit, Cleared}
use Rattle.engine.specs.Layouts.{no_running, pattern_at, registers_in}
use Rattle.engine.specs.LayoutLaws.{views-at}
use Rattle.engine.proofs.PassSteps.{Passing, passing, named_here, passing-on, passing-no, Passes, passes-begun, passes_over, passes-no, passes-fewer, passes_on}
use Rattle.engine.proofs.Clearing.{moved-room}
use Rattle.engine.proofs.Rounds.{fit_at, lanes-long, calculated-at, round, refused-so, three-on}
use Rattle.engine.specs.declared.register.Register.{Register}
use Rattle.engine.proofs.BodySteps.{no_step}
use Rattle.engine.proofs.execute.execute.Goals as goal

pub lay_out-all-requires : goal.lay_out-all-requires
lay_out-all-requires c =
    record { by_index = (c.args.vl, c.requires.all_named.1.0); lanes_len = search rules }

pub offset_bounds-all-register : goal.offset_bounds-all-register
offset_bounds-all-register c =
    omega (arith, c.requires.in_range.1)

pub bounds-all-register : goal.bounds-all-register
bounds-all-register c =
    c.requires.in_range.1

pub loop-open-init : goal.loop-open-init
loop-open-init c =
    let s = c in
    let y = c.lay_out-all in
    let e = y.ensures.result_after in
    let b = sym c.as_slice-steps.ensures.value in
    let opened : c.eq-open.result ≡ is_open (get_or y.result s.args.register no_running).state = search rules in (
      c.as_slice-steps.ensures.fits,
      subst (λ rs. Passes s.args.vl s.args.register c.as_slice-steps.result.now (record { machine = s.args.m; memory = s.args.memory.now }) rs s.args.memory.now 0 0 c.eq-open.result) (sym e)
          (passes-begun _ _ _ s.args.m _ _ s.requires.in_range.0.0 s.requires.in_range.1 (subst AllNamed b s.requires.all_named.0) s.requires.all_named.1.0
          (ap (λ cs. is_loop_register s.args.register cs s.args.m) (sym b) ∙ s.requires.all_named.1.1)
          (opened ∙ ap (λ r. is_open r.state) (sym (views-at c.args.m.registers y.new.lanes y.new.indices y.result s.args.register s.requires.in_range.1) ∙ ap (λ rs. get_or rs s.args.register no_register) e))),
      record { out = y.ensures.laid_out; firsts = search rules; seconds = search rules; thirds = search rules; long = refl },
    )

pub loop-step-init : goal.loop-step-init
loop-step-init c =
    let o = c.loop-open.invariant in (passing _ _ _ _ _ _ o.1.running.lanes o.1.running.named o.1.running.good, o.2)

pub offset_bounds-all-i : goal.offset_bounds-all-i
offset_bounds-all-i c =
    let named : Named (get_or c.as_slice-steps.result.now c.loop-step.step-index no_step).calculation = named_here _ _ _ _ _ _ _ _ _ _ c.loop-step.invariant.0 c.loop-step-test.true in
    omega (arith, named.first)

pub bounds-all-i : goal.bounds-all-i
bounds-all-i c =
    let named : Named (get_or c.as_slice-steps.result.now c.loop-step.step-index no_step).calculation = named_here _ _ _ _ _ _ _ _ _ _ c.loop-step.invariant.0 c.loop-step-test.true in
    named.first

pub offset_bounds-all-j : goal.offset_bounds-all-j
offset_bounds-all-j c =
    let named : Named (get_or c.as_slice-steps.result.now c.loop-step.step-index no_step).calculation = named_here _ _ _ _ _ _ _ _ _ _ c.loop-step.invariant.0 c.loop-step-test.true in
    omega (arith, named.second)

pub bounds-all-j : goal.bounds-all-j
bounds-all-j c =
    let named : Named (get_or c.as_slice-steps.result.now c.loop-step.step-index no_step).calculation = named_here _ _ _ _ _ _ _ _ _ _ c.loop-step.invariant.0 c.loop-step-test.true in
    named.second

pub offset_bounds-all-t : goal.offset_bounds-all-t
offset_bounds-all-t c =
    let named : Named (get_or c.as_slice-steps.result.now c.loop-step.step-index no_step).calculation = named_here _ _ _ _ _ _ _ _ _ _ c.loop-step.invariant.0 c.loop-step-test.true in
    omega (arith, named.destination)

pub bounds-all-t : goal.bounds-all-t
bounds-all-t c =
    let named : Named (get_or c.as_slice-steps.result.now c.loop-step.step-index no_step).calculation = named_here _ _ _ _ _ _ _ _ _ _ c.loop-step.invariant.0 c.loop-step-test.true in
    named.destination

pub offset_bounds-indices-i : goal.offset_bounds-indices-i
offset_bounds-indices-i c =
    let named : Named (get_or c.as_slice-steps.result.now c.loop-step.step-index no_step).calculation = named_here _ _ _ _ _ _ _ _ _ _ c.loop-step.invariant.0 c.loop-step-test.true in
    omega (arith, named.first)

pub bounds-indices-i : goal.bounds-indices-i
bounds-indices-i c =
    let named : Named (get_or c.as_slice-steps.result.now c.loop-step.step-index no_step).calculation = named_here _ _ _ _ _ _ _ _ _ _ c.loop-step.invariant.0 c.loop-step-test.true in
    named.first

pub offset_bounds-indices-j : goal.offset_bounds-indices-j
offset_bounds-indices-j c =
    let named : Named (get_or c.as_slice-steps.result.now c.loop-step.step-index no_step).calculation = named_here _ _ _ _ _ _ _ _ _ _ c.loop-step.invariant.0 c.loop-step-test.true in
    omega (arith, named.second)

pub bounds-indices-j : goal.bounds-indices-j
bounds-indices-j c =
    let named : Named (get_or c.as_slice-steps.result.now c.loop-step.step-index no_step).calculation = named_here _ _ _ _ _ _ _ _ _ _ c.loop-step.invariant.0 c.loop-step-test.true in
    named.second

pub offset_bounds-indices-t : goal.offset_bounds-indices-t
offset_bounds-indices-t c =
    let named : Named (get_or c.as_slice-steps.result.now c.loop-step.step-index no_step).calculation = named_here _ _ _ _ _ _ _ _ _ _ c.loop-step.invariant.0 c.loop-step-test.true in
    omega (arith, named.destination)

pub bounds-indices-t : goal.bounds-indices-t
bounds-indices-t c =
    let named : Named (get_or c.as_slice-steps.result.now c.loop-step.step-index no_step).calculation = named_here _ _ _ _ _ _ _ _ _ _ c.loop-step.invariant.0 c.loop-step-test.true in
    named.destination

pub check_calculation-checked-requires : goal.check_calculation-checked-requires
check_calculation-checked-requires c =
    let named : Named (get_or c.as_slice-steps.result.now c.loop-step.step-index no_step).calculation = named_here _ _ _ _ _ _ _ _ _ _ c.loop-step.invariant.0 c.loop-step-test.true in
    let calculation : Calculation = (get_or c.as_slice-steps.result.now c.loop-step.step-index no_step).calculation in
    let kept : List Register = c.args.m.registers in
    let fits : (i : ℕ) → i < 32 → Fit c.args.vl (pattern_at kept i) (get_or c.loop-step.indices i []) (get_or c.loop-step.all i no_running) = let l = c.loop-step in fit_at kept l.lanes l.indices l.all l.invariant.1.out c.args.vl l.invariant.0.good in
    let m = c in
    let l = m.loop-step in
    let a = m in
    let f = fits in record {
      vl_range = a.requires.in_range.0;
      fit = (f calculation.first named.first, (f calculation.second named.second, f calculation.destination named.destination));
      alike = λ t.
          let e = sym (eqb-true calculation.first calculation.second t) in
          (ap (λ i. get_or l.all i no_running) e, (ap (pattern_at kept) e, ap (λ i. get_or l.indices i []) e));
    }

pub rejoined-requires : goal.rejoined-requires
rejoined-requires c =
    c.loop-step.invariant.1.out

pub shape_of-memory-in-Err : goal.shape_of-memory-in-Err
shape_of-memory-in-Err c =
    let m = c in m.loop-step.invariant.0.long ∙ m.loop-open.invariant.1.long

pub returns-in-Err : goal.returns-in-Err
returns-in-Err c =
    let named : Named (get_or c.as_slice-steps.result.now c.loop-step.step-index no_step).calculation = named_here _ _ _ _ _ _ _ _ _ _ c.loop-step.invariant.0 c.loop-step-test.true in
    let calculation : Calculation = (get_or c.as_slice-steps.result.now c.loop-step.step-index no_step).calculation in
    let kept : List Register = c.args.m.registers in
    let sixty-four : (i : ℕ) → i < 32 → length (get_or c.loop-step.lanes i []) ≡ 64 = let l = c.loop-step in lanes-long kept l.lanes l.indices l.all l.invariant.1.out c.args.vl l.invariant.0.good in
    let checked : let m = c in let l = m.loop-step in let a = m in let k = c.check_calculation-checked in Cleared calculation.task a.args.vl (length l.memory) (eqb calculation.first calculation.second) (pattern_at kept calculation.first) (pattern_at kept calculation.second) (pattern_at kept calculation.destination) (get_or l.all calculation.first no_running) (get_or l.all calculation.second no_running) (get_or l.all calculation.destination no_running) (get_or l.indices calculation.first []) (get_or l.indices calculation.second []) (get_or l.indices calculation.destination []) k.new.va k.new.vb k.new.vd k.new.xs (cond (eqb calculation.first calculation.second) k.new.xs k.new.ys) k.new.zs k.result = let m = c in
    let l = m.loop-step in
    let a = m in
    let k = c.check_calculation-checked in
    subst (λ w. Cleared calculation.task a.args.vl w (eqb calculation.first calculation.second) (pattern_at kept calculation.first) (pattern_at kept calculation.second) (pattern_at kept calculation.destination) (get_or l.all calculation.first no_running) (get_or l.all calculation.second no_running) (get_or l.all calculation.destination no_running)
    (get_or l.indices calculation.first []) (get_or l.indices calculation.second []) (get_or l.indices calculation.destination []) k.new.va k.new.vb k.new.vd k.new.xs (cond (eqb calculation.first calculation.second) k.new.xs k.new.ys) k.new.zs k.result) (sym l.invariant.1.long) k.ensures.cleared in
    let m = c in
    let l = m.loop-step in
    let a = m in
    let o = m.loop-open in
    let k = c.check_calculation-checked in
    let r : Register = no_register in
    let h = refused-so calculation.task a.args.vl (eqb calculation.first calculation.second) (pattern_at kept calculation.first) (pattern_at kept calculation.second) (pattern_at kept calculation.destination) (get_or l.all calculation.first no_running) (get_or l.all calculation.second no_running) (get_or l.all calculation.destination no_running)
    (get_or l.indices calculation.first []) (get_or l.indices calculation.second []) (get_or l.indices calculation.destination []) k.new.va k.new.vb k.new.vd k.new.xs (cond (eqb calculation.first calculation.second) k.new.xs k.new.ys) k.new.zs k.result
    (get_or l.lanes calculation.first []) (get_or l.lanes calculation.second []) (get_or l.lanes calculation.destination []) l.memory (checked) (sixty-four calculation.first named.first) (sixty-four calculation.second named.second) (sixty-four calculation.destination named.destination) _ c.in-Err.is r r r in
    let p = passing-no _ _ _ _ _ _ _ _ _ _ l.invariant.0 m.loop-step-test.true _ _ _ _ _
    (calculated-at kept l.lanes l.indices l.all l.invariant.1.out a.args.vl calculation.task l.memory calculation.first calculation.second calculation.destination named.first named.second named.destination _ r r r l.memory h) _ refl in
    (λ t. record { world = record { machine = record { registers = c.rejoined.ensures t }; memory = l.memory }; report = record { passes = o.passes; calculations = l.calculations }; verdict = refusal_at c.in-Err.x (get_or c.as_slice-steps.result.now l.step-index no_step).place })
    ∙ passes-no _ _ _ _ _ _ _ _ _ o.invariant.1 m.loop-open-test.true _ _ _ _ l.invariant.0 _ _ p.1
    ∙ ap (λ b. execute a.args.vl a.args.register b (record { machine = a.args.m; memory = a.args.memory.now })) c.as_slice-steps.ensures.value

pub offset_bounds-lanes-i : goal.offset_bounds-lanes-i
offset_bounds-lanes-i c =
    let named : Named (get_or c.as_slice-steps.result.now c.loop-step.step-index no_step).calculation = named_here _ _ _ _ _ _ _ _ _ _ c.loop-step.invariant.0 c.loop-step-test.true in
    omega (arith, named.first)

pub bounds-lanes-i : goal.bounds-lanes-i
bounds-lanes-i c =
    let named : Named (get_or c.as_slice-steps.result.now c.loop-step.step-index no_step).calculation = named_here _ _ _ _ _ _ _ _ _ _ c.loop-step.invariant.0 c.loop-step-test.true in
    named.first

pub offset_bounds-lanes-j : goal.offset_bounds-lanes-j
offset_bounds-lanes-j c =
    let named : Named (get_or c.as_slice-steps.result.now c.loop-step.step-index no_step).calculation = named_here _ _ _ _ _ _ _ _ _ _ c.loop-step.invariant.0 c.loop-step-test.true in
    omega (arith, named.second)

pub bounds-lanes-j : goal.bounds-lanes-j
bounds-lanes-j c =
    let named : Named (get_or c.as_slice-steps.result.now c.loop-step.step-index no_step).calculation = named_here _ _ _ _ _ _ _ _ _ _ c.loop-step.invariant.0 c.loop-step-test.true in
    named.second

pub offset_bounds-lanes-t : goal.offset_bounds-lanes-t
offset_bounds-lanes-t c =
    let named : Named (get_or c.as_slice-steps.result.now c.loop-step.step-index no_step).calculation = named_here _ _ _ _ _ _ _ _ _ _ c.loop-step.invariant.0 c.loop-step-test.true in
    omega (arith, named.destination)

pub bounds-lanes-t : goal.bounds-lanes-t
bounds-lanes-t c =
    let named : Named (get_or c.as_slice-steps.result.now c.loop-step.step-index no_step).calculation = named_here _ _ _ _ _ _ _ _ _ _ c.loop-step.invariant.0 c.loop-step-test.true in
    named.destination

pub carry_out-e-requires : goal.carry_out-e-requires
carry_out-e-requires c =
    let named : Named (get_or c.as_slice-steps.result.now c.loop-step.step-index no_step).calculation = named_here _ _ _ _ _ _ _ _ _ _ c.loop-step.invariant.0 c.loop-step-test.true in
    let calculation : Calculation = (get_or c.as_slice-steps.result.now c.loop-step.step-index no_step).calculation in
    let kept : List Register = c.args.m.registers in
    let fits : (i : ℕ) → i < 32 → Fit c.args.vl (pattern_at kept i) (get_or c.loop-step.indices i []) (get_or c.loop-step.all i no_running) = let l = c.loop-step in fit_at kept l.lanes l.indices l.all l.invariant.1.out c.args.vl l.invariant.0.good in
    let checked : let m = c in let l = m.loop-step in let a = m in let k = c.check_calculation-checked in Cleared calculation.task a.args.vl (length l.memory) (eqb calculation.first calculation.second) (pattern_at kept calculation.first) (pattern_at kept calculation.second) (pattern_at kept calculation.destination) (get_or l.all calculation.first no_running) (get_or l.all calculation.second no_running) (get_or l.all calculation.destination no_running) (get_or l.indices calculation.first []) (get_or l.indices calculation.second []) (get_or l.indices calculation.destination []) k.new.va k.new.vb k.new.vd k.new.xs (cond (eqb calculation.first calculation.second) k.new.xs k.new.ys) k.new.zs k.result = let m = c in
    let l = m.loop-step in
    let a = m in
    let k = c.check_calculation-checked in
    subst (λ w. Cleared calculation.task a.args.vl w (eqb calculation.first calculation.second) (pattern_at kept calculation.first) (pattern_at kept calculation.second) (pattern_at kept calculation.destination) (get_or l.all calculation.first no_running) (get_or l.all calculation.second no_running) (get_or l.all calculation.destination no_running)
    (get_or l.indices calculation.first []) (get_or l.indices calculation.second []) (get_or l.indices calculation.destination []) k.new.va k.new.vb k.new.vd k.new.xs (cond (eqb calculation.first calculation.second) k.new.xs k.new.ys) k.new.zs k.result) (sym l.invariant.1.long) k.ensures.cleared in
    let m = c in
    let l = m.loop-step in
    let k = c.check_calculation-checked in
    let g = checked in
    let e = c.in-Ok.is in record {
      within = g.within _ e;
      count_bound = (
        moved-room _ _ _ _ (fits calculation.first named.first) _ _ _ _ _ (g.first _ e),
        (
          moved-room _ _ _ _ (fits calculation.second named.second) _ _ _ _ _ (g.second _ e),
          moved-room _ _ _ _ (fits calculation.destination named.destination) _ _ _ _ _ (g.destination _ e),
        ),
      );
      alike = λ t. ((g.again _ e t).0, ap (λ i. get_or l.lanes i []) (sym (eqb-true calculation.first calculation.second t)));
    }

pub offset_bounds-all-i-in-loop-step : goal.offset_bounds-all-i-in-loop-step
offset_bounds-all-i-in-loop-step c =
    let named : Named (get_or c.as_slice-steps.result.now c.loop-step.step-index no_step).calculation = named_here _ _ _ _ _ _ _ _ _ _ c.loop-step.invariant.0 c.loop-step-test.true in
    omega (arith, named.first)

pub bounds-all-i-in-loop-step : goal.bounds-all-i-in-loop-step
bounds-all-i-in-loop-step c =
    let named : Named (get_or c.as_slice-steps.result.now c.loop-step.step-index no_step).calculation = named_here _ _ _ _ _ _ _ _ _ _ c.loop-step.invariant.0 c.loop-step-test.true in
    named.first

pub offset_bounds-lanes-i-in-loop-step : goal.offset_bounds-lanes-i-in-loop-step
offset_bounds-lanes-i-in-loop-step c =
    let named : Named (get_or c.as_slice-steps.result.now c.loop-step.step-index no_step).calculation = named_here _ _ _ _ _ _ _ _ _ _ c.loop-step.invariant.0 c.loop-step-test.true in
    omega (arith, named.first)

pub bounds-lanes-i-in-loop-step : goal.bounds-lanes-i-in-loop-step
bounds-lanes-i-in-loop-step c =
    let named : Named (get_or c.as_slice-steps.result.now c.loop-step.step-index no_step).calculation = named_here _ _ _ _ _ _ _ _ _ _ c.loop-step.invariant.0 c.loop-step-test.true in
    named.first

pub offset_bounds-indices-i-in-loop-step : goal.offset_bounds-indices-i-in-loop-step
offset_bounds-indices-i-in-loop-step c =
    let named : Named (get_or c.as_slice-steps.result.now c.loop-step.step-index no_step).calculation = named_here _ _ _ _ _ _ _ _ _ _ c.loop-step.invariant.0 c.loop-step-test.true in
    omega (arith, named.first)

pub bounds-indices-i-in-loop-step : goal.bounds-indices-i-in-loop-step
bounds-indices-i-in-loop-step c =
    let named : Named (get_or c.as_slice-steps.result.now c.loop-step.step-index no_step).calculation = named_here _ _ _ _ _ _ _ _ _ _ c.loop-step.invariant.0 c.loop-step-test.true in
    named.first

pub offset_bounds-all-j-in-loop-step : goal.offset_bounds-all-j-in-loop-step
offset_bounds-all-j-in-loop-step c =
    let named : Named (get_or c.as_slice-steps.result.now c.loop-step.step-index no_step).calculation = named_here _ _ _ _ _ _ _ _ _ _ c.loop-step.invariant.0 c.loop-step-test.true in
    omega (arith, named.second)

pub bounds-all-j-in-loop-step : goal.bounds-all-j-in-loop-step
bounds-all-j-in-loop-step c =
    let named : Named (get_or c.as_slice-steps.result.now c.loop-step.step-index no_step).calculation = named_here _ _ _ _ _ _ _ _ _ _ c.loop-step.invariant.0 c.loop-step-test.true in
    named.second

pub offset_bounds-lanes-j-in-loop-step : goal.offset_bounds-lanes-j-in-loop-step
offset_bounds-lanes-j-in-loop-step c =
    let named : Named (get_or c.as_slice-steps.result.now c.loop-step.step-index no_step).calculation = named_here _ _ _ _ _ _ _ _ _ _ c.loop-step.invariant.0 c.loop-step-test.true in
    omega (arith, named.second)

pub bounds-lanes-j-in-loop-step : goal.bounds-lanes-j-in-loop-step
bounds-lanes-j-in-loop-step c =
    let named : Named (get_or c.as_slice-steps.result.now c.loop-step.step-index no_step).calculation = named_here _ _ _ _ _ _ _ _ _ _ c.loop-step.invariant.0 c.loop-step-test.true in
    named.second

pub offset_bounds-indices-j-in-loop-step : goal.offset_bounds-indices-j-in-loop-step
offset_bounds-indices-j-in-loop-step c =
    let named : Named (get_or c.as_slice-steps.result.now c.loop-step.step-index no_step).calculation = named_here _ _ _ _ _ _ _ _ _ _ c.loop-step.invariant.0 c.loop-step-test.true in
    omega (arith, named.second)

pub bounds-indices-j-in-loop-step : goal.bounds-indices-j-in-loop-step
bounds-indices-j-in-loop-step c =
    let named : Named (get_or c.as_slice-steps.result.now c.loop-step.step-index no_step).calculation = named_here _ _ _ _ _ _ _ _ _ _ c.loop-step.invariant.0 c.loop-step-test.true in
    named.second

pub offset_bounds-all-t-in-loop-step : goal.offset_bounds-all-t-in-loop-step
offset_bounds-all-t-in-loop-step c =
    let named : Named (get_or c.as_slice-steps.result.now c.loop-step.step-index no_step).calculation = named_here _ _ _ _ _ _ _ _ _ _ c.loop-step.invariant.0 c.loop-step-test.true in
    omega (arith, named.destination)

pub bounds-all-t-in-loop-step : goal.bounds-all-t-in-loop-step
bounds-all-t-in-loop-step c =
    let named : Named (get_or c.as_slice-steps.result.now c.loop-step.step-index no_step).calculation = named_here _ _ _ _ _ _ _ _ _ _ c.loop-step.invariant.0 c.loop-step-test.true in
    named.destination

pub offset_bounds-lanes-t-in-loop-step : goal.offset_bounds-lanes-t-in-loop-step
offset_bounds-lanes-t-in-loop-step c =
    let named : Named (get_or c.as_slice-steps.result.now c.loop-step.step-index no_step).calculation = named_here _ _ _ _ _ _ _ _ _ _ c.loop-step.invariant.0 c.loop-step-test.true in
    omega (arith, named.destination)

pub bounds-lanes-t-in-loop-step : goal.bounds-lanes-t-in-loop-step
bounds-lanes-t-in-loop-step c =
    let named : Named (get_or c.as_slice-steps.result.now c.loop-step.step-index no_step).calculation = named_here _ _ _ _ _ _ _ _ _ _ c.loop-step.invariant.0 c.loop-step-test.true in
    named.destination

pub offset_bounds-indices-t-in-loop-step : goal.offset_bounds-indices-t-in-loop-step
offset_bounds-indices-t-in-loop-step c =
    let named : Named (get_or c.as_slice-steps.result.now c.loop-step.step-index no_step).calculation = named_here _ _ _ _ _ _ _ _ _ _ c.loop-step.invariant.0 c.loop-step-test.true in
    omega (arith, named.destination)

pub bounds-indices-t-in-loop-step : goal.bounds-indices-t-in-loop-step
bounds-indices-t-in-loop-step c =
    let named : Named (get_or c.as_slice-steps.result.now c.loop-step.step-index no_step).calculation = named_here _ _ _ _ _ _ _ _ _ _ c.loop-step.invariant.0 c.loop-step-test.true in
    named.destination

pub overflow_add-calculations : goal.overflow_add-calculations
overflow_add-calculations c =
    let l = c.loop-step.invariant.0 in let o = c.loop-open.invariant in omega (arith, l.few, l.within, o.1.counted, o.1.few, o.0)

pub loop-step-preserved : goal.loop-step-preserved
loop-step-preserved c =
    let named : Named (get_or c.as_slice-steps.result.now c.loop-step.step-index no_step).calculation = named_here _ _ _ _ _ _ _ _ _ _ c.loop-step.invariant.0 c.loop-step-test.true in
    let calculation : Calculation = (get_or c.as_slice-steps.result.now c.loop-step.step-index no_step).calculation in
    let kept : List Register = c.args.m.registers in
    let fits : (i : ℕ) → i < 32 → Fit c.args.vl (pattern_at kept i) (get_or c.loop-step.indices i []) (get_or c.loop-step.all i no_running) = let l = c.loop-step in fit_at kept l.lanes l.indices l.all l.invariant.1.out c.args.vl l.invariant.0.good in
    let sixty-four : (i : ℕ) → i < 32 → length (get_or c.loop-step.lanes i []) ≡ 64 = let l = c.loop-step in lanes-long kept l.lanes l.indices l.all l.invariant.1.out c.args.vl l.invariant.0.good in
    let checked : let m = c in let l = m.loop-step in let a = m in let k = c.check_calculation-checked in Cleared calculation.task a.args.vl (length l.memory) (eqb calculation.first calculation.second) (pattern_at kept calculation.first) (pattern_at kept calculation.second) (pattern_at kept calculation.destination) (get_or l.all calculation.first no_running) (get_or l.all calculation.second no_running) (get_or l.all calculation.destination no_running) (get_or l.indices calculation.first []) (get_or l.indices calculation.second []) (get_or l.indices calculation.destination []) k.new.va k.new.vb k.new.vd k.new.xs (cond (eqb calculation.first calculation.second) k.new.xs k.new.ys) k.new.zs k.result = let m = c in
    let l = m.loop-step in
    let a = m in
    let k = c.check_calculation-checked in
    subst (λ w. Cleared calculation.task a.args.vl w (eqb calculation.first calculation.second) (pattern_at kept calculation.first) (pattern_at kept calculation.second) (pattern_at kept calculation.destination) (get_or l.all calculation.first no_running) (get_or l.all calculation.second no_running) (get_or l.all calculation.destination no_running)
    (get_or l.indices calculation.first []) (get_or l.indices calculation.second []) (get_or l.indices calculation.destination []) k.new.va k.new.vb k.new.vd k.new.xs (cond (eqb calculation.first calculation.second) k.new.xs k.new.ys) k.new.zs k.result) (sym l.invariant.1.long) k.ensures.cleared in
    let m = c in
    let l = m.loop-step in
    let a = m in
    let o = m.loop-open in
    let k = c.check_calculation-checked in
    let g = checked in
    let e = c.in-Ok.is in
    let v = c.carry_out-e in
    let fa = fits calculation.first named.first in
    let h = round calculation.task a.args.vl (eqb calculation.first calculation.second) (pattern_at kept calculation.first) (pattern_at kept calculation.second) (pattern_at kept calculation.destination) (get_or l.all calculation.first no_running) (get_or l.all calculation.second no_running) (get_or l.all calculation.destination no_running)
    (get_or l.indices calculation.first []) (get_or l.indices calculation.second []) (get_or l.indices calculation.destination []) k.new.va k.new.vb k.new.vd k.new.xs (cond (eqb calculation.first calculation.second) k.new.xs k.new.ys) k.new.zs k.result
    (get_or l.lanes calculation.first []) (get_or l.lanes calculation.second []) (get_or l.lanes calculation.destination []) l.memory g (sixty-four calculation.first named.first) (sixty-four calculation.second named.second) (sixty-four calculation.destination named.destination) a.requires.in_range.0.0 _ e fa v.result v.new.la v.new.lb v.new.ld v.new.memory v.ensures in
    let q = passing-on _ _ _ _ _ _ _ _ _ _ l.invariant.0 m.loop-step-test.true _ _ _ _ _
    (calculated-at kept l.lanes l.indices l.all l.invariant.1.out a.args.vl calculation.task l.memory calculation.first calculation.second calculation.destination named.first named.second named.destination _ _ _ _ v.new.memory h.0) refl in
    let w = three-on kept l.lanes l.indices l.all l.invariant.1.out calculation.first calculation.second calculation.destination named.first named.second named.destination v.new.la v.new.lb v.new.ld k.new.va k.new.vb k.new.vd v.result.first v.result.second v.result.destination h.1.0 h.1.1.0 h.1.1.1 in (
      subst (λ rs. Passing a.args.vl c.as_slice-steps.result.now o.passes (registers_in kept o.lanes o.indices o.all) o.memory o.calculations rs v.new.memory (l.calculations + 1) (l.step-index + 1))
          (sym w.1) q,
      record {
        out = w.0;
        firsts = k.ensures.parts_long.0;
        seconds = k.ensures.parts_long.1.0;
        thirds = k.ensures.parts_long.1.1;
        long = q.long ∙ sym l.invariant.0.long ∙ l.invariant.1.long;
      },
    )

pub overflow_add-passes : goal.overflow_add-passes
overflow_add-passes c =
    omega (arith, c.loop-open.invariant.1.few)

pub offset_bounds-all-register-in-loop-open : goal.offset_bounds-all-register-in-loop-open
offset_bounds-all-register-in-loop-open c =
    omega (arith, c.requires.in_range.1)

pub bounds-all-register-in-loop-open : goal.bounds-all-register-in-loop-open
bounds-all-register-in-loop-open c =
    c.requires.in_range.1

pub loop-open-smaller : goal.loop-open-smaller
loop-open-smaller c =
    passes-fewer _ _ _ _ _ _ _ _ _ c.loop-open.invariant.1 c.loop-open-test.true _ _ _ _ c.loop-step.invariant.0 c.loop-step-test.false c.loop-open.invariant.0

pub loop-open-preserved : goal.loop-open-preserved
loop-open-preserved c =
    let o = c.loop-open in
    let l = c.loop-step in
    let y = c.lay_out-all in
    let s = c in
    let opened : c.eq-open-in-loop-open.result ≡ is_open (get_or l.all s.args.register no_running).state = search rules in (
      o.invariant.0,
      passes_on _ _ _ _ _ _ _ _ _ o.invariant.1 c.loop-open-test.true _ _ _ _ l.invariant.0 c.loop-step-test.false o.invariant.0 _
          (opened ∙ ap (λ r. is_open r.state) (sym (views-at c.args.m.registers l.lanes l.indices l.all s.args.register s.requires.in_range.1))),
      l.invariant.1,
    )

pub rejoined-requires-2 : goal.rejoined-requires-2
rejoined-requires-2 c =
    c.loop-open.invariant.2.out

pub shape_of-memory : goal.shape_of-memory
shape_of-memory c =
    c.loop-open.invariant.1.long

pub returns : goal.returns
returns c =
    let o = c.loop-open in
    let s = c.args in
    (λ t. record { world = record { machine = record { registers = c.rejoined-2.ensures t }; memory = o.memory }; report = record { passes = o.passes; calculations = o.calculations }; verdict = Ok tt })
    ∙ passes_over _ _ c.as_slice-steps.result.now _ _ _ _ _ _ o.invariant.1 c.loop-open-test.false
    ∙ ap (λ b. execute s.vl s.register b (record { machine = s.m; memory = s.memory.now })) c.as_slice-steps.ensures.value

pub offset_bounds-registers-i : goal.offset_bounds-registers-i
offset_bounds-registers-i c =
    let named : Named (get_or c.as_slice-steps.result.now c.loop-step.step-index no_step).calculation = named_here _ _ _ _ _ _ _ _ _ _ c.loop-step.invariant.0 c.loop-step-test.true in
    omega (arith, named.first)

pub bounds-registers-i : goal.bounds-registers-i
bounds-registers-i c =
    let named : Named (get_or c.as_slice-steps.result.now c.loop-step.step-index no_step).calculation = named_here _ _ _ _ _ _ _ _ _ _ c.loop-step.invariant.0 c.loop-step-test.true in
    named.first

pub offset_bounds-registers-j : goal.offset_bounds-registers-j
offset_bounds-registers-j c =
    let named : Named (get_or c.as_slice-steps.result.now c.loop-step.step-index no_step).calculation = named_here _ _ _ _ _ _ _ _ _ _ c.loop-step.invariant.0 c.loop-step-test.true in
    omega (arith, named.second)

pub bounds-registers-j : goal.bounds-registers-j
bounds-registers-j c =
    let named : Named (get_or c.as_slice-steps.result.now c.loop-step.step-index no_step).calculation = named_here _ _ _ _ _ _ _ _ _ _ c.loop-step.invariant.0 c.loop-step-test.true in
    named.second

pub offset_bounds-registers-t : goal.offset_bounds-registers-t
offset_bounds-registers-t c =
    let named : Named (get_or c.as_slice-steps.result.now c.loop-step.step-index no_step).calculation = named_here _ _ _ _ _ _ _ _ _ _ c.loop-step.invariant.0 c.loop-step-test.true in
    omega (arith, named.destination)

pub bounds-registers-t : goal.bounds-registers-t
bounds-registers-t c =
    let named : Named (get_or c.as_slice-steps.result.now c.loop-step.step-index no_step).calculation = named_here _ _ _ _ _ _ _ _ _ _ c.loop-step.invariant.0 c.loop-step-test.true in
    named.destination
