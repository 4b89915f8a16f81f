-- `walk::first_stop` meets its contract: uncoupled, the first element; coupled, all passes are to come where all indices are 0.
use Rattle.std.proofs.Common.{suc, ◌-◌, true, map, drop, replicate, refl, ap, ◌∙◌, arith}
use Rattle.std.specs.Option.{is_some}
use Rattle.engine.specs.Loops.{size_at, join}
use Rattle.engine.specs.Chunks.{pass_stops}
use Rattle.engine.specs.Walk.{is_empty, comes_empty}
use Rattle.engine.specs.WalkLaws.{get_d-zeros}
use Rattle.engine.specs.StopWalk.{passing, stops-start, passes-start, one-pass}
use Rattle.engine.proofs.Turns.{under_none}
use Rattle.engine.proofs.Found.{arrives-element, arrives-some, arrives, comes-same, to-first}
use Rattle.engine.proofs.walk.first_stop.Goals as goal

pub returns-in_default : goal.returns-in_default
returns-in_default c =
    arrives-some c.args.shape.now 0 c.first.result c.then_some.result c.first.new.index c.then_some.ensures
    (arrives-element c.args.shape.now c.in_default.is 0 c.first.result c.first.new.index c.first.ensures)

pub enter-requires : goal.enter-requires
enter-requires c =
    let s = c.args.shape.now in
    let n = c.in-Some.coupled in
    let p = passing s c.requires n c.in-Some.is in
    record { accepted = (c.requires, (p.some, p.within), refl); under = under_none s n n }

pub returns-then-dims-c : goal.returns-then-dims-c
returns-then-dims-c c =
    let s = c.args.shape.now in
    let n = c.in-Some.coupled in
    let p = passing s c.requires n c.in-Some.is in
    arrives s n p 0 true (is_empty c.enter.result) c.enter.new.index
    (comes-same s n (stops-start s n p)
    (to-first s n _ (drop n (replicate 7 0)) _ true (one-pass s n p c.if-dims-c.true) refl true (is_empty c.enter.result) c.enter.new.index refl c.enter.ensures))

pub to_pass-requires : goal.to_pass-requires
to_pass-requires c =
    let s = c.args.shape.now in
    let n = c.in-Some.coupled in
    let p = passing s c.requires n c.in-Some.is in
    let d = suc (s.dims - 1) in
    record { accepted = (c.requires, (p.some, omega (arith, c.if-dims-c.false)), (omega (arith, c.requires.some), refl)); by_index = ((λ k. omega (arith, get_d-zeros 7 k)), under_none s d d) }

pub returns : goal.returns
returns c =
    let s = c.args.shape.now in
    let n = c.in-Some.coupled in
    let p = passing s c.requires n c.in-Some.is in
    arrives s n p 0 (is_some c.to_pass.result) (comes_empty c.to_pass.result) c.to_pass.new.index
    (comes-same s n (stops-start s n p ∙ ap (λ l. join (map (pass_stops (size_at s) n) l)) (passes-start s n p c.if-dims-c.false)) c.to_pass.ensures)
