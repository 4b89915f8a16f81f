-- `walk::to_pass` meets its contract: the search over the dimensions outside finds the first pass to come, if any, and this is entered.
use Rattle.std.proofs.Common.{true, drop, refl}
use Rattle.engine.specs.Walk.{is_empty}
use Rattle.engine.proofs.Found.{to-first, to_none}
use Rattle.engine.proofs.walk.to_pass.Goals as goal

pub returns-then-seek : goal.returns-then-seek
returns-then-seek c =
    let a = c.args in
    let k = c.seek in
    to-first a.shape.now a.c _ (drop a.c k.new.index) _ k.result k.ensures.index_value c.if-seek.true true (is_empty c.enter.result) c.enter.new.index
    refl c.enter.ensures

pub returns : goal.returns
returns c =
    let a = c.args in
    to_none a.shape.now a.c _ _ c.seek.result c.seek.ensures.index_value c.if-seek.false _ _
