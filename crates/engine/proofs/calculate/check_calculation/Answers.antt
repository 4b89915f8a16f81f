-- `calculate::check_calculation` meets its contract: each check in turn, on the registers that the running ones stand for.
use Rattle.std.proofs.Common.{◌/◌, ◌≤◌, [], replicate, sym, refl, ◌∙◌, subst, rules}
use Rattle.engine.specs.Runnings.{view_of}
use Rattle.engine.specs.Operands.{Taken, operand_from}
use Rattle.engine.specs.LaneLaws.{width-range}
use Rattle.engine.proofs.Ordered.{states-stop, widths-stop, source-few, counts-stop, first-outside, second-outside, third-outside, lanes-stop, outcome-few}
use Rattle.engine.proofs.Clearing.{ready, turned_down, Looked, halts, passes, counted, blamed}
use Rattle.engine.proofs.calculate.check_calculation.Goals as goal

pub returns-in_err-check_states-clause-cleared : goal.returns-in_err-check_states-clause-cleared
returns-in_err-check_states-clause-cleared c =
    let w = c.check_states in
    let e = c.in_err-check_states.was in
    let a = c.args in
    turned_down _ _ _ _ _ _ _ _ _ _ _ _ _ _ _ _ _ _ _ _ c.in_err-check_states.field-0.0 (search rules) (λ la lb ld memory p q s t. states-stop a.task a.vl memory (view_of a.pa.now la a.va.now a.a) (view_of a.pb.now lb a.vb.now a.b) (view_of a.pd.now ld a.vd.now a.d) w.result w.ensures e ∙ e)

pub returns-then-widths_differ-clause-cleared : goal.returns-then-widths_differ-clause-cleared
returns-then-widths_differ-clause-cleared c =
    let fine = sym c.check_states.ensures ∙ c.in_ok-check_states.was in
    let a = c.args in
    turned_down _ _ _ _ _ _ _ _ _ _ _ _ _ _ _ _ _ _ _ _ _ refl (λ la lb ld memory p q s t. widths-stop a.task a.vl memory (view_of a.pa.now la a.va.now a.a) (view_of a.pb.now lb a.vb.now a.b) (view_of a.pd.now ld a.vd.now a.d) fine (sym c.widths_differ.ensures ∙ c.if-widths_differ.true))

pub lanes-most-requires : goal.lanes-most-requires
lanes-most-requires c =
    let a = c in (a.requires.vl_range.1, (a.requires.fit.0.good (replicate 64 0) refl).width)

pub as_source-x-requires : goal.as_source-x-requires
as_source-x-requires c =
    let a = c in
    record { most_bound = c.lanes-most.ensures.1; ready = (ready a.args.vl a.args.pa.now a.args.va.now a.args.a a.requires.fit.0, a.requires.fit.0.remembers) }

pub second_source-y-requires : goal.second_source-y-requires
second_source-y-requires c =
    let a = c in
    let x = c.as_source-x in
    let m = c.lanes-most.result in record {
      most_bound = c.lanes-most.ensures.1;
      ready =
          (ready a.args.vl a.args.pb.now a.args.vb.now a.args.b a.requires.fit.1.0, a.requires.fit.1.0.remembers);
      first_taken = λ t.
          let e = a.requires.alike t in
          subst (λ q. Taken a.args.pb.now a.args.vb.now q m q.valid x.new.index x.new.parts x.result) (sym e.0)
          (subst (λ v. Taken a.args.pb.now v a.args.a m a.args.a.valid x.new.index x.new.parts x.result) (sym e.1.1)
          (subst (λ n. Taken n a.args.va.now a.args.a m a.args.a.valid x.new.index x.new.parts x.result) (sym e.1.0) x.ensures));
    }

pub as_destination-z-requires : goal.as_destination-z-requires
as_destination-z-requires c =
    let first_taken : let a = c in let x = c.as_source-x in Taken a.args.pa.now a.args.va.now a.args.a (a.args.vl / a.args.a.width) a.args.a.valid x.new.index x.new.parts x.result = let a = c in
    let x = c.as_source-x in
    subst (λ m. Taken a.args.pa.now a.args.va.now a.args.a m a.args.a.valid x.new.index x.new.parts x.result) c.lanes-most.ensures.0 x.ensures in
    let first-few : c.as_source-x.result.count ≤ 64 = let a = c in
    let x = c.as_source-x in
    let p = a.args.pa.now in
    source-few a.args.vl [] (view_of p (replicate 64 0) a.args.va.now a.args.a) (operand_from p (replicate 64 0) x.new.index x.new.parts a.args.a x.result) a.requires.vl_range.1 (a.requires.fit.0.good (replicate 64 0) refl) (first_taken.operates (replicate 64 0)) in
    let a = c in
    record { most_bound = subst (λ k. k ≤ 64) (sym c.outcome_count-k.ensures) (outcome-few a.args.task _ (first-few)); ready = (ready a.args.vl a.args.pd.now a.args.vd.now a.args.d a.requires.fit.1.1, a.requires.fit.1.1.remembers) }

pub returns-then-lanes_differ-clause-cleared : goal.returns-then-lanes_differ-clause-cleared
returns-then-lanes_differ-clause-cleared c =
    let a = c in
    let x = c.as_source-x in
    let y = c.second_source-y in
    let z = c.as_destination-z in
    let l : Looked a.args.task a.args.vl a.args.same a.args.pa.now a.args.pb.now a.args.pd.now a.args.a a.args.b a.args.d
    a.args.va.now a.args.vb.now a.args.vd.now x.new.index y.new.index z.new.index x.new.parts y.new.parts z.new.parts c.lanes-most.result c.outcome_count-k.result x.result y.result z.result = record {
      least = a.requires.vl_range.0;
      largest = a.requires.vl_range.1;
      fit = a.requires.fit;
      fine = sym c.check_states.ensures ∙ c.in_ok-check_states.was;
      wide = sym c.widths_differ.ensures ∙ c.if-widths_differ.false;
      lanes = c.lanes-most.ensures.0;
      first = x.ensures;
      second = y.ensures.taken;
      again = λ t. ((a.requires.alike t).0, y.ensures.first_again t);
      results = c.outcome_count-k.ensures;
      destination = z.ensures;
    } in
    halts l a.args.len _ _ refl (λ u f. counts-stop u _ _ _ _ _ f (counted l a.args.len _ c.lanes_differ.ensures ∙ c.if-lanes_differ.true))

pub returns-then-lacks_lanes-clause-cleared : goal.returns-then-lacks_lanes-clause-cleared
returns-then-lacks_lanes-clause-cleared c =
    let a = c in
    let x = c.as_source-x in
    let y = c.second_source-y in
    let z = c.as_destination-z in
    let l : Looked a.args.task a.args.vl a.args.same a.args.pa.now a.args.pb.now a.args.pd.now a.args.a a.args.b a.args.d
    a.args.va.now a.args.vb.now a.args.vd.now x.new.index y.new.index z.new.index x.new.parts y.new.parts z.new.parts c.lanes-most.result c.outcome_count-k.result x.result y.result z.result = record {
      least = a.requires.vl_range.0;
      largest = a.requires.vl_range.1;
      fit = a.requires.fit;
      fine = sym c.check_states.ensures ∙ c.in_ok-check_states.was;
      wide = sym c.widths_differ.ensures ∙ c.if-widths_differ.false;
      lanes = c.lanes-most.ensures.0;
      first = x.ensures;
      second = y.ensures.taken;
      again = λ t. ((a.requires.alike t).0, y.ensures.first_again t);
      results = c.outcome_count-k.ensures;
      destination = z.ensures;
    } in
    let agree = counted l a.args.len _ c.lanes_differ.ensures ∙ c.if-lanes_differ.false in
    halts l a.args.len _ _ refl (λ u f. lanes-stop u _ _ _ _ _ f agree (sym c.lacks_lanes.ensures ∙ c.if-lacks_lanes.true))

pub outside-requires : goal.outside-requires
outside-requires c =
    ((width-range _ (c.requires.fit.0.good (replicate 64 0) refl).width).1, c.as_source-x.ensures.parts)

pub returns-in_err-outside-clause-cleared : goal.returns-in_err-outside-clause-cleared
returns-in_err-outside-clause-cleared c =
    let a = c in
    let x = c.as_source-x in
    let y = c.second_source-y in
    let z = c.as_destination-z in
    let l : Looked a.args.task a.args.vl a.args.same a.args.pa.now a.args.pb.now a.args.pd.now a.args.a a.args.b a.args.d
    a.args.va.now a.args.vb.now a.args.vd.now x.new.index y.new.index z.new.index x.new.parts y.new.parts z.new.parts c.lanes-most.result c.outcome_count-k.result x.result y.result z.result = record {
      least = a.requires.vl_range.0;
      largest = a.requires.vl_range.1;
      fit = a.requires.fit;
      fine = sym c.check_states.ensures ∙ c.in_ok-check_states.was;
      wide = sym c.widths_differ.ensures ∙ c.if-widths_differ.false;
      lanes = c.lanes-most.ensures.0;
      first = x.ensures;
      second = y.ensures.taken;
      again = λ t. ((a.requires.alike t).0, y.ensures.first_again t);
      results = c.outcome_count-k.ensures;
      destination = z.ensures;
    } in
    let agree = counted l a.args.len _ c.lanes_differ.ensures ∙ c.if-lanes_differ.false in
    let there = sym c.lacks_lanes.ensures ∙ c.if-lacks_lanes.false in
    halts l a.args.len _ c.in_err-outside.field-0.0 (search rules) (λ u f. first-outside u _ _ _ _ _ f agree there (sym c.outside.ensures ∙ c.in_err-outside.was))

pub second_outside-requires : goal.second_outside-requires
second_outside-requires c =
    let y = c.second_source-y in (
      (width-range _ (c.requires.fit.1.0.good (replicate 64 0) refl).width).1,
      λ e. y.ensures.taken.parts,
    )

pub returns-in_err-second_outside-clause-cleared : goal.returns-in_err-second_outside-clause-cleared
returns-in_err-second_outside-clause-cleared c =
    let a = c in
    let x = c.as_source-x in
    let y = c.second_source-y in
    let z = c.as_destination-z in
    let l : Looked a.args.task a.args.vl a.args.same a.args.pa.now a.args.pb.now a.args.pd.now a.args.a a.args.b a.args.d
    a.args.va.now a.args.vb.now a.args.vd.now x.new.index y.new.index z.new.index x.new.parts y.new.parts z.new.parts c.lanes-most.result c.outcome_count-k.result x.result y.result z.result = record {
      least = a.requires.vl_range.0;
      largest = a.requires.vl_range.1;
      fit = a.requires.fit;
      fine = sym c.check_states.ensures ∙ c.in_ok-check_states.was;
      wide = sym c.widths_differ.ensures ∙ c.if-widths_differ.false;
      lanes = c.lanes-most.ensures.0;
      first = x.ensures;
      second = y.ensures.taken;
      again = λ t. ((a.requires.alike t).0, y.ensures.first_again t);
      results = c.outcome_count-k.ensures;
      destination = z.ensures;
    } in
    let agree = counted l a.args.len _ c.lanes_differ.ensures ∙ c.if-lanes_differ.false in
    let there = sym c.lacks_lanes.ensures ∙ c.if-lacks_lanes.false in
    let inside = sym c.outside.ensures ∙ c.in_ok-outside.was in
    let lies = blamed l a.args.len inside _ c.second_outside.ensures in
    halts l a.args.len _ c.in_err-second_outside.field-0.0 (search rules) (λ u f. second-outside u _ _ _ _ _ f agree there inside (lies ∙ c.in_err-second_outside.was))

pub outside-requires-2 : goal.outside-requires-2
outside-requires-2 c =
    ((width-range _ (c.requires.fit.1.1.good (replicate 64 0) refl).width).1, c.as_destination-z.ensures.parts)

pub returns-in_err-outside-2-clause-cleared : goal.returns-in_err-outside-2-clause-cleared
returns-in_err-outside-2-clause-cleared c =
    let a = c in
    let x = c.as_source-x in
    let y = c.second_source-y in
    let z = c.as_destination-z in
    let l : Looked a.args.task a.args.vl a.args.same a.args.pa.now a.args.pb.now a.args.pd.now a.args.a a.args.b a.args.d
    a.args.va.now a.args.vb.now a.args.vd.now x.new.index y.new.index z.new.index x.new.parts y.new.parts z.new.parts c.lanes-most.result c.outcome_count-k.result x.result y.result z.result = record {
      least = a.requires.vl_range.0;
      largest = a.requires.vl_range.1;
      fit = a.requires.fit;
      fine = sym c.check_states.ensures ∙ c.in_ok-check_states.was;
      wide = sym c.widths_differ.ensures ∙ c.if-widths_differ.false;
      lanes = c.lanes-most.ensures.0;
      first = x.ensures;
      second = y.ensures.taken;
      again = λ t. ((a.requires.alike t).0, y.ensures.first_again t);
      results = c.outcome_count-k.ensures;
      destination = z.ensures;
    } in
    let agree = counted l a.args.len _ c.lanes_differ.ensures ∙ c.if-lanes_differ.false in
    let there = sym c.lacks_lanes.ensures ∙ c.if-lacks_lanes.false in
    let inside = sym c.outside.ensures ∙ c.in_ok-outside.was in
    let lies = blamed l a.args.len inside _ c.second_outside.ensures in
    halts l a.args.len _ c.in_err-outside-2.field-0.0 (search rules) (λ u f. third-outside u _ _ _ _ _ f agree there inside (lies ∙ c.in_ok-second_outside.was) ∙ sym c.outside-2.ensures ∙ c.in_err-outside-2.was)

pub returns-clause-cleared : goal.returns-clause-cleared
returns-clause-cleared c =
    let a = c in
    let x = c.as_source-x in
    let y = c.second_source-y in
    let z = c.as_destination-z in
    let l : Looked a.args.task a.args.vl a.args.same a.args.pa.now a.args.pb.now a.args.pd.now a.args.a a.args.b a.args.d
    a.args.va.now a.args.vb.now a.args.vd.now x.new.index y.new.index z.new.index x.new.parts y.new.parts z.new.parts c.lanes-most.result c.outcome_count-k.result x.result y.result z.result = record {
      least = a.requires.vl_range.0;
      largest = a.requires.vl_range.1;
      fit = a.requires.fit;
      fine = sym c.check_states.ensures ∙ c.in_ok-check_states.was;
      wide = sym c.widths_differ.ensures ∙ c.if-widths_differ.false;
      lanes = c.lanes-most.ensures.0;
      first = x.ensures;
      second = y.ensures.taken;
      again = λ t. ((a.requires.alike t).0, y.ensures.first_again t);
      results = c.outcome_count-k.ensures;
      destination = z.ensures;
    } in
    let agree = counted l a.args.len _ c.lanes_differ.ensures ∙ c.if-lanes_differ.false in
    let there = sym c.lacks_lanes.ensures ∙ c.if-lacks_lanes.false in
    let inside = sym c.outside.ensures ∙ c.in_ok-outside.was in
    let lies = blamed l a.args.len inside _ c.second_outside.ensures in
    passes l a.args.len agree there inside (lies ∙ c.in_ok-second_outside.was) (sym c.outside-2.ensures ∙ c.in_ok-outside-2.was)
