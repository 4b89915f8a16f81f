-- `rules::product_over` meets its contract: the product over the dimensions from d on is at most that over all, and the last indices kept are those by the highs.
use Rattle.std.proofs.Common.{◌≡◌, ◌-◌, ◌*◌, ◌≤◌, sym, ap, ◌∙◌, mul-le-mul, arith}
use Rattle.engine.specs.Rules.{highs, product}
use Rattle.engine.proofs.Lasts.{walked_start, walked_next, product-start, product-refused, walk-product, walk-most}
use Rattle.engine.proofs.rules.product_over.Goals as goal

pub loop-d-init : goal.loop-d-init
loop-d-init c =
    let r = c.args.s in (walked_start r, product-start r, omega arith)

pub overflow_mul-over : goal.overflow_mul-over
overflow_mul-over c =
    let most : c.high_at-high.result ≤ 4096 = let l = c.loop-d in
    omega (arith, c.high_at-high.ensures, walk-most c.args.s l.d l.lasts l.invariant.0 (omega arith) c.requires.1) in
    let small : c.loop-d.over * c.max-over.result ≤ 4294967296 = let l = c.loop-d in
    let h : c.max-over.result ≤ 4096 = omega (arith, c.max-over.ensures, most) in
    mul-le-mul {n₂ = 1048576} {m₂ = 4096} l.invariant.2 h in
    omega (arith, small)

pub returns-then-over-gt1048576 : goal.returns-then-over-gt1048576
returns-then-over-gt1048576 c =
    let next : c.loop-d.over * c.max-over.result ≡ product (highs c.args.s (c.loop-d.d - 1) (c.args.s.dims - (c.loop-d.d - 1))) = let l = c.loop-d in
    let s = c.args.s in
    ap (λ x. l.over * x) (omega (arith, c.max-over.ensures, c.high_at-high.ensures)) ∙ walk-product s l.d l.lasts l.invariant.0 (omega arith) l.over l.invariant.1 in
    let l = c.loop-d in
    let s = c.args.s in
    let w = l.invariant.0 in
    let n = next in
    sym (product-refused s (l.d - 1) (omega (arith, w.within)) (omega (arith, n)))

pub loop-d-preserved : goal.loop-d-preserved
loop-d-preserved c =
    let ranged = c.requires.0 in
    let most : c.high_at-high.result ≤ 4096 = let l = c.loop-d in
    omega (arith, c.high_at-high.ensures, walk-most c.args.s l.d l.lasts l.invariant.0 (omega arith) c.requires.1) in
    let next : c.loop-d.over * c.max-over.result ≡ product (highs c.args.s (c.loop-d.d - 1) (c.args.s.dims - (c.loop-d.d - 1))) = let l = c.loop-d in
    let s = c.args.s in
    ap (λ x. l.over * x) (omega (arith, c.max-over.ensures, c.high_at-high.ensures)) ∙ walk-product s l.d l.lasts l.invariant.0 (omega arith) l.over l.invariant.1 in
    let r = c.args.s in
    let l = c.loop-d in
    let h = c.high_at-high.ensures in (
      rw c.last_index.ensures (walked_next r ranged.dims l.d l.lasts l.invariant.0 (omega arith) c.high_at-high.result h (most)),
      next,
      omega arith,
    )
