-- `calculate::write_destination` meets its contract.
use Rattle.std.proofs.Common.{◌*◌, ◌≤◌, sym, ap, ◌∙◌, subst}
use borrow.Author.Tests.{not-true, not-false}
use Rattle.engine.specs.Memory.{lanes_from}
use Rattle.engine.specs.Stretches.{stored_at}
use Rattle.engine.specs.Runnings.{listed_in}
use Rattle.engine.proofs.calculate.write_destination.Goals as goal

pub returns-then-not-o : goal.returns-then-not-o
returns-then-not-o c =
    let e = not-true c.args.o.live c.if-not-o.true in record { lanes_after = rw e; memory_after = rw e }

pub write_parts-requires : goal.write_parts-requires
write_parts-requires c =
    let a = c in
    let f = a.requires.listed (not-false a.args.o.live c.if-not-o.false) in
    record {
      room = (a.requires.room.0, subst (λ k. k * a.args.width ≤ 64) (sym f.0.0) a.requires.room.1);
      inside = f.1;
    }

pub returns : goal.returns
returns c =
    let a = c in
    let e = not-false a.args.o.live c.if-not-o.false in
    let f = a.requires.listed e in
    record { lanes_after = rw e; memory_after = rw e (c.write_parts.ensures ∙ ap (λ k. stored_at a.args.memory.now a.args.width (listed_in a.args.o a.args.parts.now) (lanes_from a.args.out.now a.args.width 0 k)) f.0.0) }
