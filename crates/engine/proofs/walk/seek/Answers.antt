-- `walk::seek` meets its contract: what is to come stays the same at each turn, until an element or the end is met.
use Rattle.std.proofs.Common.{◌≡◌, ℕ, suc, ◌+◌, ◌-◌, ◌<◌, ◌≤◌, List, length, get_or, drop, set, replicate, false, refl, ap, ◌∙◌, subst, arith, length-set, get_or-drop, drop-set-lt}
use Rattle.engine.specs.Loops.{size_at}
use Rattle.codec.specs.TestLaws.{never}
use Rattle.engine.specs.Rules.{low_or_high}
use Rattle.engine.specs.BoundLaws.{Under, under-small}
use Rattle.engine.specs.Walk.{at}
use Rattle.engine.specs.WalkLaws.{at-end, at-found}
use Rattle.engine.specs.declared.stream.Shape.{Shape}
use Rattle.engine.proofs.Turns.{goes_down, goes-up, cost-goes-down, cost-goes-up, all_small, under-found, under-down, under_up}
use Rattle.engine.proofs.Remembered.{none_yet, still, put-by}
use Rattle.engine.proofs.walk.seek.Invariants.{Search}
use Rattle.engine.proofs.walk.seek.Goals as goal

-- the index of dimension d + 1 is below its high, so that one more fits
next_small : (s : Shape) (v : List ℕ) (d : ℕ) → low_or_high s ≡ false → d + 1 ≤ s.dims → Under s (suc d) (drop (suc d) v) → get_or v (d + 1) 0 + 1 ≤ 4096
next_small s v d low h u =
    let first : suc d + 0 ≡ d + 1 = omega arith in
    omega (arith, under-small s low (suc d) (omega arith) (drop (suc d) v) u 0, get_or-drop (suc d) v 0 0, ap (λ j. get_or v j 0) first)

module _ (s : Shape) (old : List ℕ) (start b n : ℕ) where
  -- dimension d has an index to run, and dimension d - 1 starts
  down : (v : List ℕ) (d : ℕ) → n ≤ s.dims → n ≤ 7 → b < d → get_or v d 0 < size_at s d (drop (suc d) v)
      → Search s old start b n v d → Search s old start b n (set v (d - 1) 0) (d - 1)
  down v d dims most u k i =
      let h : d < length v = omega (arith, i) in (
        omega arith,
        omega (arith, i),
        simp length-set i.2,
        i.3 ∙ goes_down (size_at s) b n d v u i.1 h k,
        all_small v (d - 1) 0 4096 (omega arith) (omega arith) i.4,
        under-down s b d v u (omega (arith, i)) h k i.5,
        drop-set-lt n v (d - 1) 0 (omega (arith, i)) ∙ i.6,
      )

  -- dimension d is at its end, and dimension d + 1 steps on
  up : (v : List ℕ) (d : ℕ) → n ≤ s.dims → n ≤ 7 → d + 1 < n → size_at s d (drop (suc d) v) ≤ get_or v d 0 → get_or v (d + 1) 0 + 1 ≤ 4096
      → Search s old start b n v d → Search s old start b n (set v (d + 1) (get_or v (d + 1) 0 + 1)) (d + 1)
  up v d dims most u k small i =
      let h : d + 1 < length v = omega (arith, i) in (
        omega (arith, i.0),
        u,
        simp length-set i.2,
        i.3 ∙ goes-up (size_at s) b n d v u h k,
        all_small v (d + 1) (get_or v (d + 1) 0 + 1) 4096 h small i.4,
        under_up s d v (get_or v (d + 1) 0 + 1) (omega arith) i.5,
        drop-set-lt n v (d + 1) (get_or v (d + 1) 0 + 1) u ∙ i.6,
      )

pub loop-size-init : goal.loop-size-init
loop-size-init c =
    let a = c.args in
    let r = c.requires in
    let s = a.shape.now in (
      (r.accepted.1.0, r.accepted.1.1, r.accepted.2.1, refl, r.by_index.0, r.by_index.1, refl),
      simp length-set,
      c.size_at-size.ensures,
      put-by (size_at s) a.start a.start (replicate 7 0) a.index.now c.size_at-size.result (omega arith) (omega (arith, r.accepted.0.ranged.dims)) c.size_at-size.ensures (none_yet (size_at s) a.start 7 a.index.now),
    )

pub returns-then-d-bottom : goal.returns-then-d-bottom
returns-then-d-bottom c =
    let l = c.loop-size in
    let a = c.args in
    let s = a.shape.now in
    let z : l.d ≡ a.bottom = c.if-d-bottom.true in
    let k : get_or l.index a.bottom 0 < size_at s a.bottom (drop (suc a.bottom) l.index) =
    subst (λ d. get_or l.index d 0 < size_at s d (drop (suc d) l.index)) z (subst (λ n. get_or l.index l.d 0 < n) l.invariant.2 c.if-i-size.true) in
    let h : a.bottom < length l.index = omega (arith, c.requires.accepted.0.ranged.dims) in record {
      index_value = l.invariant.0.3 ∙ ap (λ d. at (size_at s) a.bottom a.top d l.index) z ∙ at-found (size_at s) a.bottom a.top l.index h k;
      searched = record {
        long = l.invariant.0.2;
        outside = l.invariant.0.6;
        small = l.invariant.0.4;
        under = λ _. under-found s a.bottom l.index (omega arith) h k (subst (λ d. Under s (suc d) (drop (suc d) l.index)) z l.invariant.0.5);
      };
    }

pub loop-size-smaller-then-i-size : goal.loop-size-smaller-then-i-size
loop-size-smaller-then-i-size c =
    let l = c.loop-size in
    let a = c.args in
    let k = subst (λ n. get_or l.index l.d 0 < n) l.invariant.2 c.if-i-size.true in
    cost-goes-down (size_at a.shape.now) a.bottom a.top l.d l.index (omega (arith, l.invariant.0.0, c.if-d-bottom.false)) l.invariant.0.1 (omega (arith, c.requires.accepted.0.ranged.dims)) k

pub loop-size-preserved-then-i-size : goal.loop-size-preserved-then-i-size
loop-size-preserved-then-i-size c =
    let l = c.loop-size in
    let a = c.args in
    let s = a.shape.now in
    let most : a.top ≤ 7 = omega (arith, c.requires.accepted.0.ranged.dims) in
    let k = subst (λ n. get_or l.index l.d 0 < n) l.invariant.2 c.if-i-size.true in
    let size = c.size_at-size-then-i-size in (
      down s a.index.now a.start a.bottom a.top l.index l.d (omega arith) most (omega (arith, l.invariant.0.0, c.if-d-bottom.false)) k l.invariant.0,
      simp length-set l.invariant.1,
      size.ensures,
      put-by (size_at s) l.d (l.d - 1) l.sizes (set l.index (l.d - 1) 0) size.result (omega arith) (omega arith) size.ensures (still (size_at s) l.d l.d l.sizes l.index (l.d - 1) 0 (omega arith) (omega arith) l.invariant.3),
    )

pub returns-then-top-d : goal.returns-then-top-d
returns-then-top-d c =
    let l = c.loop-size in
    let a = c.args in
    let k = subst (λ n. n ≤ get_or l.index l.d 0) l.invariant.2 c.if-i-size.false in record {
      index_value = l.invariant.0.3 ∙ at-end (size_at a.shape.now) a.bottom a.top l.d l.index (omega arith) k;
      searched = record { long = l.invariant.0.2; outside = l.invariant.0.6; small = l.invariant.0.4; under = λ e. never e };
    }

pub size_at-size-requires-then-size-eq0 : goal.size_at-size-requires-then-size-eq0
size_at-size-requires-then-size-eq0 c =
    let l = c.loop-size in
    let r = c.requires.accepted.0 in
    let small = next_small c.args.shape.now l.index l.d r.bounded (omega arith) l.invariant.0.5 in
    (r.ranged, omega (arith, r.ranged.dims), all_small l.index (l.d + 1) (get_or l.index (l.d + 1) 0 + 1) 4096 (omega (arith, r.ranged.dims)) small l.invariant.0.4)

pub loop-size-smaller-then-size-eq0 : goal.loop-size-smaller-then-size-eq0
loop-size-smaller-then-size-eq0 c =
    let l = c.loop-size in
    let a = c.args in
    cost-goes-up (size_at a.shape.now) a.bottom a.top l.d l.index (omega arith) (omega (arith, c.requires.accepted.0.ranged.dims))

pub loop-size-preserved-then-size-eq0 : goal.loop-size-preserved-then-size-eq0
loop-size-preserved-then-size-eq0 c =
    let l = c.loop-size in
    let a = c.args in
    let s = a.shape.now in
    let x = get_or l.index (l.d + 1) 0 + 1 in
    let most : a.top ≤ 7 = omega (arith, c.requires.accepted.0.ranged.dims) in
    let k = subst (λ n. n ≤ get_or l.index l.d 0) l.invariant.2 c.if-i-size.false in
    let small = next_small s l.index l.d c.requires.accepted.0.bounded (omega arith) l.invariant.0.5 in
    let size = c.size_at-size-then-size-eq0 in (
      up s a.index.now a.start a.bottom a.top l.index l.d (omega arith) most (omega arith) k small l.invariant.0,
      simp length-set l.invariant.1,
      size.ensures,
      put-by (size_at s) (l.d + 1) (l.d + 1) l.sizes (set l.index (l.d + 1) x) size.result (omega arith) (omega arith) size.ensures (still (size_at s) l.d (l.d + 1) l.sizes l.index (l.d + 1) x (omega arith) (omega arith) l.invariant.3),
    )

pub loop-size-smaller : goal.loop-size-smaller
loop-size-smaller c =
    let l = c.loop-size in
    let a = c.args in
    cost-goes-up (size_at a.shape.now) a.bottom a.top l.d l.index (omega arith) (omega (arith, c.requires.accepted.0.ranged.dims))

pub loop-size-preserved : goal.loop-size-preserved
loop-size-preserved c =
    let l = c.loop-size in
    let a = c.args in
    let s = a.shape.now in
    let most : a.top ≤ 7 = omega (arith, c.requires.accepted.0.ranged.dims) in
    let k = subst (λ n. n ≤ get_or l.index l.d 0) l.invariant.2 c.if-i-size.false in
    let small = next_small s l.index l.d c.requires.accepted.0.bounded (omega arith) l.invariant.0.5 in
    let r = still (size_at s) l.d (l.d + 1) l.sizes l.index (l.d + 1) (get_or l.index (l.d + 1) 0 + 1) (omega arith) (omega arith) l.invariant.3 in
    (up s a.index.now a.start a.bottom a.top l.index l.d (omega arith) most (omega arith) k small l.invariant.0, l.invariant.1, r (l.d + 1) (omega arith) (omega arith), r)
