-- The bytes of the number are copied.
use Rattle.std.proofs.Common.{◌∙◌, arith}
use Rattle.engine.specs.ByteLaws.{length-little}
use Rattle.uve.proofs.Steps.{bytes-little, copied}
use Rattle.uve.proofs.put.put.Goals as goal

pub returns : goal.returns
returns c =
    let a = c.args in
    let e = c.copy_from_slice.ensures.after ∙ c.to_le_bytes.ensures ∙ bytes-little a.n in
    copied a.report.now a.at _ _ _ e (length-little 8 a.n ∙ omega arith) (omega arith)
