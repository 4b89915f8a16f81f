-- `memory::store` meets its contract: at each width the number's own bytes.
use Rattle.std.proofs.Common.{ap, ◌∙◌}
use Rattle.std.proofs.lemmas.List.Edits.{sets}
use Rattle.engine.proofs.ByteSteps.{stored_1, stored_2, stored_4, stored_8}
use Rattle.engine.proofs.memory.store.Goals as goal

pub returns-in-1 : goal.returns-in-1
returns-in-1 c =
    let a = c.args in
    rw c.in-1.is (c.put.ensures ∙ ap (sets a.bytes.now a.at) (stored_1 a.x))

pub returns-in-2 : goal.returns-in-2
returns-in-2 c =
    let a = c.args in
    rw c.in-2.is (c.put-in-2.ensures ∙ ap (sets a.bytes.now a.at) (c.to_le_bytes.ensures ∙ stored_2 a.x))

pub returns-in-4 : goal.returns-in-4
returns-in-4 c =
    let a = c.args in
    rw c.in-4.is (c.put-in-4.ensures ∙ ap (sets a.bytes.now a.at) (c.to_le_bytes-in-4.ensures ∙ stored_4 a.x))

pub returns-in-8 : goal.returns-in-8
returns-in-8 c =
    let a = c.args in
    rw c.in-8.is (c.put-in-8.ensures ∙ ap (sets a.bytes.now a.at) (c.to_le_bytes-in-8.ensures ∙ stored_8 a.x))
