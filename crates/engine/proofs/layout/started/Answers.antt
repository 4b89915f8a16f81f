-- `layout::started` meets its contract: an open register remembers what is reckoned at its stop, another one nothing.
use Rattle.std.proofs.Common.{◌≡◌, ℕ, ◌≤◌, true, [], get_or, take, sym, refl, ap, ◌∙◌, arith, rules}
use Rattle.engine.specs.Chunks.{stops, nothing_at}
use Rattle.engine.specs.Registers.{is_open, shape_of, index_of}
use Rattle.engine.specs.GoodLaws.{width-most}
use Rattle.engine.specs.Walk.{Stop}
use Rattle.engine.specs.StopWalk.{here-small}
use Rattle.engine.specs.StopPlaces.{stop-take}
use Rattle.engine.proofs.layout.started.Goals as goal

pub arrival_at-at-requires : goal.arrival_at-at-requires
arrival_at-at-requires c =
    let opened : is_open c.args.r.now.state ≡ true = search rules in
    let stop : Stop (shape_of c.args.r.now) c.args.r.now.index (nothing_at (shape_of c.args.r.now) c.args.r.now.moved) = let s = c in
    let o = s.requires.1.opened opened in
    record { position = s.args.r.now.moved; below = o.1; here = o.0.index; told = refl } in
    let small : (k : ℕ) → get_or c.args.r.now.index k 0 ≤ 4096 = λ k. let s = c in
    let o = s.requires.1.opened opened in
    omega (arith, here-small (shape_of s.args.r.now) o.0.accepted s.args.r.now.index _ (stop) k) in
    let s = c in
    let r = s.args.r.now in
    let g = s.requires.1 in
    let o = g.opened opened in
    let own : take (shape_of r).dims r.index ≡ get_or (stops (shape_of r)) r.moved [] = ap (take (shape_of r).dims) o.0.index ∙ stop-take (shape_of r) o.0.accepted r.moved o.1 in
    let seven : r.index ≡ index_of (take (shape_of r).dims r.index) = o.0.index ∙ ap index_of (sym own) in
    (g.pattern.shape, small, seven)

pub spot_at-here-requires : goal.spot_at-here-requires
spot_at-here-requires c =
    let opened : is_open c.args.r.now.state ≡ true = search rules in
    let stop : Stop (shape_of c.args.r.now) c.args.r.now.index (nothing_at (shape_of c.args.r.now) c.args.r.now.moved) = let s = c in
    let o = s.requires.1.opened opened in
    record { position = s.args.r.now.moved; below = o.1; here = o.0.index; told = refl } in
    let small : (k : ℕ) → get_or c.args.r.now.index k 0 ≤ 4096 = λ k. let s = c in
    let o = s.requires.1.opened opened in
    omega (arith, here-small (shape_of s.args.r.now) o.0.accepted s.args.r.now.index _ (stop) k) in
    let s = c in
    let r = s.args.r.now in
    let g = s.requires.1 in
    record { ranged_pattern = (g.pattern, (width-most r.width g.width, small)); at_value = c.arrival_at-at.ensures }
