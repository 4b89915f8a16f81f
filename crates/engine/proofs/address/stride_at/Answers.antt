-- `address::stride_at` meets its contract: what the modifiers add is the difference of their gains, and nothing where there is none.
use Rattle.std.proofs.Common.{◌≡◌, suc, get_or, drop, ◌+ℤ◌, sym, ap, ◌∙◌, arith}
use Rattle.codec.specs.declared.operation.Parameter.TheVariants.{Stride}
use Rattle.engine.specs.Loops.{modifiers_of, added}
use Rattle.engine.specs.Addresses.{no_elements}
use Rattle.engine.proofs.GainSteps.{gain-change}
use Rattle.engine.proofs.PlainSteps.{plain-stride}
use Rattle.engine.proofs.address.stride_at.Goals as goal

pub returns-then-pattern-eq0 : goal.returns-then-pattern-eq0
returns-then-pattern-eq0 c =
    let a = c.args in
    record {
      exact = sym (plain-stride a.pattern.now a.d (drop (suc a.d) a.index.now) c.if-pattern-eq0.true);
      most = omega (arith, c.requires.0.stride a.d);
    }

pub returns : goal.returns
returns c =
    let a = c.args in
    let outer = drop (suc a.d) a.index.now in
    let g = c.gains-g in
    let z = c.change_of.result.0 in
    let h : z ≡ added Stride a.d outer (modifiers_of a.pattern.now.shape) =
    gain-change Stride a.d outer (modifiers_of a.pattern.now.shape) g.result.up g.result.down z g.ensures.0 g.ensures.1 c.change_of.ensures.exact in
    record {
      exact = c.elements_moved.ensures.exact ∙ ap (λ x. (get_or a.pattern.now.strides a.d no_elements).0 +ℤ x) h;
      most = c.elements_moved.ensures.most;
    }
