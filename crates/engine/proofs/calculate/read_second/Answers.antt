-- `calculate::read_second` meets its contract.
use Rattle.engine.proofs.calculate.read_second.Goals as goal

pub returns-then-same : goal.returns-then-same
returns-then-same c =
    rw c.if-same.true

pub read_parts-requires : goal.read_parts-requires
read_parts-requires c =
    let h = c.requires in
    let s = c.if-same.false in
    let e = c.if-o.true in
    let f = h.room.1 s e in
    record { room = (h.room.0, f.0); inside = h.inside s e }

pub returns-then-o : goal.returns-then-o
returns-then-o c =
    rw (c.if-same.false, c.if-o.true) c.read_parts.ensures

pub returns-else-o : goal.returns-else-o
returns-else-o c =
    rw (c.if-same.false, c.if-o.false)
