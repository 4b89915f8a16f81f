-- `operand::as_operand` meets its contract.
use Rattle.std.proofs.Common.{◌≡◌, true, rules}
use Rattle.engine.specs.Registers.{is_open}
use Rattle.engine.proofs.Taking.{row-requires, row-taken, across-asked, across-taken}
use Rattle.engine.proofs.operand.as_operand.Goals as goal

pub stays-requires : goal.stays-requires
stays-requires c =
    let live : is_open c.args.r.state ≡ true = search rules in
    let a = c in (row-requires _ a.args.index.now a.args.r a.args.most a.args.plain a.requires.most_bound a.requires.ready (live)).1

pub in_row-requires : goal.in_row-requires
in_row-requires c =
    let live : is_open c.args.r.state ≡ true = search rules in
    let a = c in
    row-requires _ a.args.index.now a.args.r a.args.most a.args.plain a.requires.most_bound a.requires.ready (live)

pub returns-then-stays : goal.returns-then-stays
returns-then-stays c =
    let live : is_open c.args.r.state ≡ true = search rules in
    let a = c in
    row-taken _ a.args.index.now a.args.r a.args.most a.args.plain a.requires.most_bound a.requires.ready (live)
    (c.stays.ensures c.if-stays.true) _ _ c.in_row.ensures.value c.in_row.ensures.parts_long c.in_row.ensures.first_part

pub across-requires : goal.across-requires
across-requires c =
    let live : is_open c.args.r.state ≡ true = search rules in
    let a = c in
    let h = across-asked _ a.args.index.now a.args.r a.args.most a.args.plain a.requires.most_bound a.requires.ready (live) _ c.again.ensures in
    record { ready = h.0; most_bound = h.1 }

pub returns : goal.returns
returns c =
    let live : is_open c.args.r.state ≡ true = search rules in
    let a = c in
    across-taken _ a.args.index.now a.args.r a.args.most a.args.plain a.requires.most_bound a.requires.ready (live) _ c.again.ensures _ _ _ (c.across.ensures.looked, c.across.ensures.parts_long)
