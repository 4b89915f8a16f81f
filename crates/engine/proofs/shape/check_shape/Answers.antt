-- `shape::check_shape` meets its contract: a shape that passes the first three checks is ranged.
use Rattle.std.proofs.Common.{◌≡◌, false, length, sym, ◌∙◌, arith, rules}
use Rattle.std.specs.List.{list_any}
use Rattle.engine.specs.Loops.{modifiers_of}
use Rattle.engine.specs.Good.{Ranged}
use Rattle.engine.specs.ShapeCheck.{too_large, far_moved, misplaced_in}
use Rattle.engine.specs.ShapeLaws.{fits-ranged}
use Rattle.engine.proofs.Lengths.{unmapped}
use Rattle.engine.proofs.shape.check_shape.Goals as goal

pub low_or_high-requires : goal.low_or_high-requires
low_or_high-requires c =
    let small : list_any too_large c.args.s.sizes ≡ false = sym c.some_too_large.ensures ∙ c.if-some_too_large.false in
    let near : list_any far_moved (modifiers_of c.args.s) ≡ false = sym c.some_far_moved.ensures ∙ c.if-some_far_moved.false in
    let in-place : list_any (misplaced_in c.args.s.dims) (modifiers_of c.args.s) ≡ false = sym c.some_misplaced.ensures ∙ c.if-some_misplaced.false in
    let seven : length c.args.s.sizes ≡ 7 = search rules in
    let eight : length c.args.s.modifiers ≡ 8 = search (rules, unmapped) in
    let ranged : Ranged c.args.s = let s = c in
    fits-ranged s.args.s (seven) (eight) (omega arith) (omega arith) (small) (near) (in-place) in
    ranged

pub product_over-requires : goal.product_over-requires
product_over-requires c =
    let small : list_any too_large c.args.s.sizes ≡ false = sym c.some_too_large.ensures ∙ c.if-some_too_large.false in
    let near : list_any far_moved (modifiers_of c.args.s) ≡ false = sym c.some_far_moved.ensures ∙ c.if-some_far_moved.false in
    let in-place : list_any (misplaced_in c.args.s.dims) (modifiers_of c.args.s) ≡ false = sym c.some_misplaced.ensures ∙ c.if-some_misplaced.false in
    let seven : length c.args.s.sizes ≡ 7 = search rules in
    let eight : length c.args.s.modifiers ≡ 8 = search (rules, unmapped) in
    let ranged : Ranged c.args.s = let s = c in
    fits-ranged s.args.s (seven) (eight) (omega arith) (omega arith) (small) (near) (in-place) in
    (ranged, sym c.low_or_high.ensures ∙ c.if-low_or_high.false)
