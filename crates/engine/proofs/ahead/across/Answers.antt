-- `ahead::across` meets its contract: past a coupled pass that holds no element, or part by part from an element on.
use Rattle.std.proofs.Common.{◌≡◌, eqb, sym, ◌∙◌, arith, eq-eqb, ne_eqb, rules}
use Rattle.engine.specs.Chunks.{nothing_at}
use Rattle.engine.specs.Stretches.{joined_in}
use Rattle.engine.proofs.Looking.{size-told}
use Rattle.engine.proofs.ahead.across.Goals as goal

pub past_nothing-requires : goal.past_nothing-requires
past_nothing-requires c =
    let nothing : eqb c.args.r.size 0 ≡ nothing_at c.args.pattern.now.shape c.args.r.moved = size-told (c.args.pattern.now) c.args.index.now c.args.r c.requires.ready.0 c.requires.ready.1 in
    let a = c in
    (a.requires.ready.0, sym (nothing) ∙ eq-eqb a.args.r.size 0 c.if-r-eq0.true, c.if-r-eq0.true)

pub returns-then-r-eq0 : goal.returns-then-r-eq0
unfolding joined_in
returns-then-r-eq0 c =
    let a = c in
    let o = c.past_nothing in
    record { looked = (o.ensures.0, (omega (arith, o.ensures.1), rw o.ensures.1 (o.ensures.2 a.args.most))); parts_long = search rules }

pub part_by_part-requires : goal.part_by_part-requires
part_by_part-requires c =
    let nothing : eqb c.args.r.size 0 ≡ nothing_at c.args.pattern.now.shape c.args.r.moved = size-told (c.args.pattern.now) c.args.index.now c.args.r c.requires.ready.0 c.requires.ready.1 in
    let a = c in
    record { ready = a.requires.ready; most_bound = (a.requires.most_bound, sym (nothing) ∙ ne_eqb a.args.r.size 0 c.if-r-eq0.false) }

pub returns : goal.returns
returns c =
    c.part_by_part.ensures
