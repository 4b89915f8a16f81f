-- `memory::load` meets its contract: at each width the bytes' own number.
use Rattle.std.proofs.Common.{sym, refl, ◌∙◌}
use Rattle.engine.proofs.ByteSteps.{one-loaded, loaded_2, loaded_4, loaded_8}
use Rattle.engine.proofs.memory.load.Goals as goal

pub returns-in-1 : goal.returns-in-1
returns-in-1 c =
    let a = c.args in
    rw (c.in-1.is, c.from.ensures) (sym (one-loaded a.bytes.now a.at 1 refl), (c.type_inv.bytes a.at).fits)

pub returns-in-2 : goal.returns-in-2
returns-in-2 c =
    let a = c.args in
    rw (c.in-2.is, c.from-in-2.ensures) (c.from_le_bytes.ensures ∙ loaded_2 a.bytes.now a.at c.bytes_at.ensures, c.from_le_bytes.type_inv)

pub returns-in-4 : goal.returns-in-4
returns-in-4 c =
    let a = c.args in
    rw (c.in-4.is, c.from-in-4.ensures) (c.from_le_bytes-in-4.ensures ∙ loaded_4 a.bytes.now a.at c.bytes_at-in-4.ensures, c.from_le_bytes-in-4.type_inv)

pub returns-in-8 : goal.returns-in-8
returns-in-8 c =
    let a = c.args in
    rw c.in-8.is (c.from_le_bytes-in-8.ensures ∙ loaded_8 a.bytes.now a.at c.bytes_at-in-8.ensures, c.from_le_bytes-in-8.type_inv)
