-- `memory::store_bytes` meets its contract: what is left to store, stored behind the bytes that were, gives the same memory throughout.
use Rattle.std.proofs.Common.{sym, ◌∙◌, arith}
use Rattle.engine.proofs.ByteSteps.{byte-stored, none-to-store}
use Rattle.engine.proofs.memory.store_bytes.Goals as goal

pub loop-k-preserved : goal.loop-k-preserved
loop-k-preserved c =
    let l = c.loop-k in
    sym (byte-stored l.bytes _ l.k _ l.rest c.loop-k-test.true) ∙ l.invariant

pub returns : goal.returns
returns c =
    let l = c.loop-k in
    sym (none-to-store l.bytes _ _ l.rest (omega arith)) ∙ l.invariant
