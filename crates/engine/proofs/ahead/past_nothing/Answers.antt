-- `ahead::past_nothing` meets its contract: the chunk has no lanes, and the walk stands at the next stop.
use Rattle.std.proofs.Common.{◌≡◌, suc, ◌+◌, true, cond, [], length, get_or, set, sym, refl, ap, ◌∙◌, subst, arith, eq-eqb}
use Rattle.engine.specs.Chunks.{held_in, chunk}
use Rattle.engine.specs.StopLaws.{chunk-none}
use Rattle.engine.specs.ComeLaws.{past-nothing}
use Rattle.engine.specs.Walk.{Stop}
use Rattle.engine.specs.Places.{Onward, place_at}
use Rattle.engine.specs.Stretches.{addresses_of}
use Rattle.engine.specs.Runnings.{view_of, spotted, behind}
use Rattle.engine.specs.declared.ahead.Ahead.{Ahead}
use Rattle.engine.proofs.Looking.{looked, shown-behind, remembers-behind, here-stop}
use Rattle.engine.proofs.ahead.past_nothing.Goals as goal

pub leave_row-next-requires : goal.leave_row-next-requires
leave_row-next-requires c =
    let a = c in
    let y = a.requires.0 in
    let p = a.args.pattern.now in
    record { ranged_pattern = (y.pattern, (y.width, y.accepted)); stop = subst (Stop p.shape (set a.args.index.now 0 a.args.r.index)) a.requires.1 (here-stop p a.args.index.now a.args.r y) }

pub returns : goal.returns
returns c =
    let v = c in
    let a = v in
    let q = a.args.r in
    let p = a.args.pattern.now in
    let before = a.args.index.now in
    let y = a.requires.0 in
    let t = v.leave_row-next in
    let to = t.new.index in
    let place = spotted to t.result.spot in
    let z : suc q.moved ≡ q.moved + 1 = omega arith in
    let on : Onward p q.width (q.moved + 1) t.result.found place t.result.height =
    subst (λ n. Onward p q.width n t.result.found place t.result.height) z (t.ensures.by_index q.moved y.some y.index) in
    let o : Ahead = record { live = true; found = t.result.found; count = 0; parts = 0; height = t.result.height; index = get_or to 0 0; address = t.result.spot.address; size = t.result.spot.size; step = t.result.spot.step } in (
      refl,
      refl,
      λ most.
          let none : held_in p.shape (chunk p.shape most q.moved) ≡ [] = chunk-none p.shape most q.moved y.some a.requires.1 in
          looked p before q y most 0 1 [] to (behind o q) (sym (ap length none)) (ap (addresses_of p q.width) (sym none)) (sym (past-nothing (view_of p [] before q) 0 a.requires.1))
          t.result.found place t.result.height on
          (shown-behind p before to q o refl t.ensures.index_after 1 (ap (λ b. cond b 1 0) (eq-eqb q.size 0 a.requires.2)))
          (remembers-behind p before to q o refl (λ u. on.here u ∙ ap (place_at p q.width) (sym (ap (λ w. w.index) (on.here u))))),
    )
