-- `rules::Kept::keep_terms` meets its contract: what is left to keep, kept with what is kept, gives all.
use Rattle.std.proofs.Common.{sym, ◌∙◌}
use Rattle.translator.specs.KeepingLaws.{at_next, at-end}
use Rattle.translator.specs.Keeping.{keep_one}
use Rattle.translator.proofs.Chosen.{some-if, none-if}
use Rattle.translator.proofs.rules.Kept.keep_terms.Goals as goal
use Rattle.translator.proofs.rules.Kept.keep_terms.Goals.{in-Some, in_default}

pub loop-t-preserved : goal.loop-t-preserved
loop-t-preserved c =
    let step = sym (at_next _ _ _ _ c.loop-t-test.true) ∙ c.loop-t.invariant in
    elim c.match-modifier_of.branch [
      | in-Some w ↦ rw (w.self-is, w.keep.ensures, some-if _ _ _ c.loop-t.self (λ q. keep_one q c.loop-t.self) w.in-Some.ensures) step
      | in_default w ↦ rw (w.self-is, none-if _ _ c.loop-t.self (λ q. keep_one q c.loop-t.self) (sym w.in_default.is ∙ c.modifier_of.ensures)) step
    ]

pub returns : goal.returns
returns c = sym (at-end _ _ _ _ c.loop-t-test.false) ∙ c.loop-t.invariant
