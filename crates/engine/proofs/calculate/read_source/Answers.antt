-- `calculate::read_source` meets its contract.
use Rattle.engine.proofs.calculate.read_source.Goals as goal

pub read_parts-requires : goal.read_parts-requires
read_parts-requires c =
    let h = c.requires in
    let e = c.if-o.true in
    let f = h.room.1 e in
    record { room = (h.room.0, f.0); inside = h.inside e }

pub returns-then-o : goal.returns-then-o
returns-then-o c =
    rw c.if-o.true c.read_parts.ensures

pub returns-else-o : goal.returns-else-o
returns-else-o c =
    rw c.if-o.false
