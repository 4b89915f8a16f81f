-- `walk::enter` meets its contract: from zeros on, the search finds the first element of the pass; if there is none, the pass stops there.
use Rattle.std.proofs.Common.{◌≡◌, ℕ, suc, ◌+◌, ◌-◌, ◌≤◌, true, cond, not, List, ◌++◌, length, get_or, drop, replicate, sym, ap, ◌∙◌, subst, arith, length-append, length-drop, drop_at}
use lib.ListN.{length-replicate}
use Rattle.engine.specs.Loops.{size_at}
use Rattle.engine.specs.Chunks.{pass_stops}
use Rattle.engine.specs.BoundLaws.{Under, under-small}
use Rattle.engine.specs.Walk.{Comes}
use Rattle.engine.specs.StopLaws.{under-zeros}
use Rattle.engine.proofs.Found.{entered}
use Rattle.engine.proofs.walk.enter.Goals as goal

-- the indices with those of the pass 0
long : (n : ℕ) (v from : List ℕ) → v ≡ replicate n 0 ++ drop n from → length from ≡ 7 → n ≤ 7 → length v ≡ 7
long n v from e l h = omega (arith, ap length e, length-append (replicate n 0) (drop n from), length-replicate {A = ℕ} n 0, length-drop n from)

pub seek-requires : goal.seek-requires
seek-requires c =
    let a = c in
    let s = a.args.shape.now in
    let n = a.args.c in
    let e = c.cleared-start.ensures in
    let o = drop n a.args.index.now in
    let z : 0 + n ≡ n = omega arith in
    let m : n ≡ suc (n - 1) = omega (arith, a.requires.accepted.1.0) in
    let u : Under s 0 (replicate n 0 ++ o) = under-zeros s 0 n o (omega (arith, a.requires.accepted.1.1)) (subst (λ d. Under s d o) (sym z) a.requires.under) in
    let b : drop n c.cleared-start.result ≡ o = ap (drop n) e ∙ drop_at (replicate n 0) o n (length-replicate n 0) in record {
      accepted = (a.requires.accepted.0, (omega arith, omega (arith, a.requires.accepted.1.0)), (a.requires.accepted.1.1, long n c.cleared-start.result a.args.index.now e a.requires.accepted.2 (omega (arith, a.requires.accepted.1.1, a.requires.accepted.0.ranged.dims))));
      by_index = (
        λ k. omega (arith, ap (λ v. get_or v k 0) e, under-small s a.requires.accepted.0.bounded 0 (omega arith) (replicate n 0 ++ o) u k),
        subst (λ d. Under s d (drop d c.cleared-start.result)) m (subst (Under s n) (sym b) a.requires.under),
      );
    }

pub returns-then-seek : goal.returns-then-seek
returns-then-seek c =
    let pass : Comes c.args.shape.now c.args.c (pass_stops (size_at c.args.shape.now) c.args.c (drop c.args.c c.args.index.now)) true (not c.seek.result) (cond c.seek.result c.seek.new.index c.cleared-start.result) = let a = c in
    entered a.args.shape.now a.args.c a.requires.accepted.1.0 (drop a.args.c a.args.index.now) c.cleared-start.result c.seek.new.index _ c.seek.result c.cleared-start.ensures c.seek.ensures.index_value c.seek.ensures.searched.outside in
    rw c.if-seek.true at (pass)

pub returns : goal.returns
returns c =
    let pass : Comes c.args.shape.now c.args.c (pass_stops (size_at c.args.shape.now) c.args.c (drop c.args.c c.args.index.now)) true (not c.seek.result) (cond c.seek.result c.seek.new.index c.cleared-start.result) = let a = c in
    entered a.args.shape.now a.args.c a.requires.accepted.1.0 (drop a.args.c a.args.index.now) c.cleared-start.result c.seek.new.index _ c.seek.result c.cleared-start.ensures c.seek.ensures.index_value c.seek.ensures.searched.outside in
    rw c.if-seek.false at (pass)
