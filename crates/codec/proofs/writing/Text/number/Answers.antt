-- `writing::Text::number` meets its contract: what was pushed and the groups that are left are the groups of the number; so many groups hold what is left.
use Rattle.std.proofs.Common.{arith, ◌+◌, ◌/◌, ◌%◌, ◌≡◌, ◌∙◌, ap, length, ◌++◌}
use Rattle.std.proofs.Math.Seq.{append_snoc}
use Rattle.codec.specs.Numbers.{groups_of, number_bytes}
use Rattle.codec.specs.NumberLaws.{last-group}
use Rattle.codec.proofs.Texts.{another}
use Rattle.codec.proofs.writing.Text.number.Goals as goal

pub loop-rest-init : goal.loop-rest-init
loop-rest-init c =
    (4, omega arith, omega (arith, ap length c.self.view_is), omega arith, ap (λ l. l ++ number_bytes c.args.v) c.self.view_is)

pub loop-rest-preserved : goal.loop-rest-preserved
loop-rest-preserved c =
    let l = c.loop-rest in
    let was = l.self-inside.bytes.items in
    let g = another l.invariant.0 l.rest (omega arith) l.invariant.1 in
    let e : c.push.new.self.items ++ groups_of g.0 (l.rest / 128) ≡ was ++ groups_of l.invariant.0 l.rest =
    rw (c.push.ensures.items, append_snoc was (l.rest % 128 + 128) (groups_of g.0 (l.rest / 128)), g.3) in
    (g.0, g.2, omega (arith, c.push.ensures.len, g.1, l.invariant.2), l.invariant.3, e ∙ l.invariant.4)

pub returns : goal.returns
returns c =
    let l = c.loop-rest in
    let was = l.self-inside.bytes.items in
    let e : c.push-2.new.self.items ≡ was ++ groups_of l.invariant.0 l.rest = rw (c.push-2.ensures.items, last-group l.invariant.0 l.rest (omega arith)) in
    (e ∙ l.invariant.4, omega (arith, c.push-2.ensures.len, l.invariant.2))
