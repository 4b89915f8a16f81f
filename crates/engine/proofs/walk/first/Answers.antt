-- `walk::first` meets its contract: where the outermost dimension is about to run index 0, all elements are to come.
use Rattle.std.proofs.Common.{sym, ◌∙◌}
use Rattle.engine.specs.IndexLaws.{walk_start}
use Rattle.engine.proofs.Found.{stands}
use Rattle.engine.proofs.walk.first.Goals as goal

pub returns : goal.returns
returns c =
    let a = c in
    let s = a.args.shape.now in
    stands s 0 c.seek.result c.seek.new.index _ (sym (walk_start s (record { some = a.requires.some; most = a.requires.ranged.dims })) ∙ c.seek.ensures.index_value)
