-- `memory::put` meets its contract: the bytes are written over as many.
use Rattle.std.proofs.Common.{◌+◌, ap, ◌∙◌, arith}
use Rattle.std.proofs.lemmas.List.Edits.{sets}
use Rattle.engine.proofs.ByteSteps.{placed}
use Rattle.engine.proofs.memory.put.Goals as goal

pub returns : goal.returns
returns g c =
    let a = c.args in
    placed a.bytes.now c.copy_from_slice.new.self a.at (a.at + g.row.N) (omega arith) (omega arith) (omega arith) ∙ ap (sets a.bytes.now a.at) c.copy_from_slice.ensures.after
