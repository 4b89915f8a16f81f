-- `walk::next_pass` meets its contract: with the index of the dimension outside one further, the passes after this one are to come.
use Rattle.std.proofs.Common.{◌≡◌, suc, ◌+◌, ◌≤◌, map, get_or, drop, refl, ap, arith, length-set, get_or-drop, drop-set-lt, le-ltb}
use Rattle.engine.specs.Loops.{size_at, join}
use Rattle.engine.specs.Chunks.{pass_stops}
use Rattle.engine.specs.BoundLaws.{under-small}
use Rattle.engine.specs.Walk.{passes_after}
use Rattle.engine.specs.StopWalk.{passes-next}
use Rattle.engine.proofs.Turns.{all_small, under-out}
use Rattle.engine.proofs.Found.{comes-same, to_none}
use Rattle.engine.proofs.walk.next_pass.Goals as goal

pub returns-then-dims-c : goal.returns-then-dims-c
returns-then-dims-c c =
    let a = c.args in
    let s = a.shape.now in
    to_none s a.c (passes_after (size_at s) a.c s.dims (drop a.c a.index.now)) _ _ refl (le-ltb a.c s.dims c.if-dims-c.true) _ _

pub to_pass-requires : goal.to_pass-requires
to_pass-requires c =
    let most : c.args.shape.now.dims ≤ 7 = c.requires.accepted.0.ranged.dims in
    let small : get_or c.args.index.now c.args.c 0 ≤ 4095 = let a = c.args in
    let z : a.c + 0 ≡ a.c = omega arith in
    omega (
      arith,
      get_or-drop a.c a.index.now 0 0,
      ap (λ j. get_or a.index.now j 0) z,
      under-small a.shape.now c.requires.accepted.0.bounded a.c c.requires.accepted.1.1 (drop a.c a.index.now) c.requires.by_index.1 0,
    ) in
    let a = c in
    let s = a.args.shape.now in
    let v = a.args.index.now in
    let n = a.args.c in
    let x = get_or v n 0 + 1 in record {
      accepted = (a.requires.accepted.0, (a.requires.accepted.1.0, omega arith), (c.if-dims-c.false, simp length-set a.requires.accepted.2));
      by_index = (
        all_small v n x 4096 (omega (arith, most, a.requires.accepted.2, c.if-dims-c.false)) (omega (arith, small)) a.requires.by_index.0,
        rw (drop-set-lt (suc n) v n x (omega arith)) (under-out s n v c.if-dims-c.false a.requires.by_index.1),
      );
    }

pub returns : goal.returns
returns c =
    let most : c.args.shape.now.dims ≤ 7 = c.requires.accepted.0.ranged.dims in
    let a = c in
    let s = a.args.shape.now in
    let v = a.args.index.now in
    let n = a.args.c in
    comes-same s n
    (ap (λ l. join (map (pass_stops (size_at s) n) l)) (passes-next (size_at s) n s.dims v c.if-dims-c.false (omega (arith, most, a.requires.accepted.2, c.if-dims-c.false))))
    c.to_pass.ensures
