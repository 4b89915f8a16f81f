-- `walk::next` meets its contract: with the innermost index one further, what comes after the element is to come.
use Rattle.std.proofs.Common.{◌≡◌, ℕ, suc, ◌+◌, ◌≤◌, [], length, get_or, sym, ap, ◌∙◌, arith, length-set, drop-set-lt}
use Rattle.engine.specs.Loops.{size_at, elements}
use Rattle.engine.specs.Walk.{after}
use Rattle.engine.specs.WalkLaws.{at_after}
use Rattle.engine.specs.IndexLaws.{roomy, walk-next, element-under, element-small, index-length}
use Rattle.engine.proofs.Turns.{all_small, under-from}
use Rattle.engine.proofs.Found.{stands}
use Rattle.engine.proofs.walk.next.Goals as goal

pub overflow_add-index : goal.overflow_add-index
overflow_add-index c =
    let small : (k : ℕ) → get_or c.args.index.now k 0 ≤ 4095 = element-small c.args.shape.now c.requires.0 c.args.index.now c.requires.1 in
    omega (arith, small 0)

pub seek-requires : goal.seek-requires
seek-requires c =
    let small : (k : ℕ) → get_or c.args.index.now k 0 ≤ 4095 = element-small c.args.shape.now c.requires.0 c.args.index.now c.requires.1 in
    let long : length c.args.index.now ≡ 7 = ap length c.requires.1.here ∙ index-length (get_or (elements c.args.shape.now) c.requires.1.position []) in
    let a = c in
    let i = a.args.index.now in
    let s = a.args.shape.now in
    let x = get_or i 0 0 + 1 in record {
      accepted = (a.requires.0, (omega arith, a.requires.0.some), (omega arith, simp length-set (long)));
      by_index = (
        all_small i 0 x 4096 (omega (arith, long)) (omega (arith, small 0)) (λ k. omega (arith, small k)),
        rw (drop-set-lt 1 i 0 x (omega arith)) (under-from s i (element-under s a.requires.0 i a.requires.1) 1 a.requires.0.some),
      );
    }

pub returns : goal.returns
returns c =
    let long : length c.args.index.now ≡ 7 = ap length c.requires.1.here ∙ index-length (get_or (elements c.args.shape.now) c.requires.1.position []) in
    λ k q e.
    let a = c in
    let s = a.args.shape.now in
    let r = roomy s a.requires.0 in
    stands s (suc k) c.seek.result c.seek.new.index _
    (sym (walk-next s r k q)
    ∙ ap (after (size_at s) 0 s.dims) (sym e)
    ∙ sym (at_after (size_at s) 0 s.dims a.args.index.now (omega (arith, long)))
    ∙ c.seek.ensures.index_value)
