-- `rules::low_or_high` meets its contract: what is refused from a dimension on is refused, and the last indices kept are those by the highs.
use Rattle.std.proofs.Common.{◌≡◌, suc, ◌-◌, true, drop, sym, ◌∙◌, arith}
use lib.Signed.{non_neg}
use Rattle.engine.specs.Rules.{low_at}
use Rattle.engine.proofs.Lasts.{walked_start, walked_next, none-outside, walk-low, walk-high, walk-on}
use Rattle.engine.proofs.rules.low_or_high.Goals as goal

pub loop-d-init : goal.loop-d-init
loop-d-init c =
    let r = c.args.s in (walked_start r, none-outside r)

pub returns-then-not-low_holds : goal.returns-then-not-low_holds
returns-then-not-low_holds c =
    let l = c.loop-d in
    let r = c.args.s in
    let e = sym c.low_holds.ensures ∙ c.if-not-low_holds.true in
    sym (walk-low r l.d l.lasts l.invariant.0 (omega arith) e)

pub returns-then-high-gt4096 : goal.returns-then-high-gt4096
returns-then-high-gt4096 c =
    let low : non_neg (low_at c.args.s (c.loop-d.d - 1) (drop (suc (c.loop-d.d - 1)) c.loop-d.lasts)) ≡ true = sym c.low_holds.ensures ∙ c.if-not-low_holds.false in
    let l = c.loop-d in
    let r = c.args.s in
    let h = c.high_at-high.ensures in
    sym (walk-high r l.d l.lasts l.invariant.0 (omega arith) (low) (omega arith))

pub loop-d-preserved : goal.loop-d-preserved
loop-d-preserved c =
    let ranged = c.requires in
    let low : non_neg (low_at c.args.s (c.loop-d.d - 1) (drop (suc (c.loop-d.d - 1)) c.loop-d.lasts)) ≡ true = sym c.low_holds.ensures ∙ c.if-not-low_holds.false in
    let r = c.args.s in
    let l = c.loop-d in
    let h = c.high_at-high.ensures in (
      rw c.last_index.ensures (walked_next r ranged.dims l.d l.lasts l.invariant.0 (omega arith) c.high_at-high.result h (omega arith)),
      walk-on r l.d l.lasts l.invariant.0 (omega arith) (low) (omega arith) l.invariant.1,
    )
