-- `run::run_nest` meets its contract: 15 first, then a refusal of the nest, then the run of its sheet.
use Rattle.std.proofs.Common.{◌≡◌, sym, ◌∙◌, ap, true, length, rules}
use Rattle.codec.specs.NumberLaws.{AreBytes}
use Rattle.engine.specs.Sheets.{allowed}
use Rattle.engine.specs.Run.{Progress}
use Rattle.translator.specs.Reading.{nest, nest_at}
use Rattle.translator.specs.Translation.{Outcome, run_nest}
use Rattle.translator.specs.declared.nest.Stage.TheVariants as stage
use Rattle.translator.proofs.Nesting.{nesting}
use Rattle.translator.proofs.Delivered.{delivered}
use Rattle.translator.proofs.run.run_nest.Goals as goal

pub returns-then-not-is_allowed-clause-memory_after : goal.returns-then-not-is_allowed-clause-memory_after
unfolding run_nest
returns-then-not-is_allowed-clause-memory_after c =
    rw (c.unrun.ensures, sym c.is_allowed.ensures ∙ c.if-not-is_allowed.true)

pub run_sheet-requires : goal.run_sheet-requires
run_sheet-requires c =
    let are-bytes : AreBytes c.args.s.now = search rules in
    (((nesting _ are-bytes).is-nest _).0 (sym c.in-Ok.ensures)).0

pub returns-in-Ok-clause-memory_after : goal.returns-in-Ok-clause-memory_after
unfolding run_nest
returns-in-Ok-clause-memory_after c =
    let allowed-here : allowed c.args.vl (length c.args.memory.now) ≡ true = sym c.is_allowed.ensures ∙ c.if-not-is_allowed.false in
    let read : nest_at c.args.s.now ≡ nest c.in-Ok.nest = sym c.in-Ok.ensures in
    let p : Progress → Outcome = λ x. record { stage = stage.Sheet; progress = x } in
    rw (allowed-here, read) (ap p c.run_sheet.ensures)

pub returns-in-Err-clause-memory_after : goal.returns-in-Err-clause-memory_after
unfolding run_nest
returns-in-Err-clause-memory_after c =
    let allowed-here : allowed c.args.vl (length c.args.memory.now) ≡ true = sym c.is_allowed.ensures ∙ c.if-not-is_allowed.false in
    rw (c.unrun-in-Err.ensures, allowed-here, sym c.in-Err.ensures)

pub returns-in-Ok-clause-delivered : goal.returns-in-Ok-clause-delivered
returns-in-Ok-clause-delivered c = delivered _ _ _ _ _ (returns-in-Ok-clause-memory_after c)

pub returns-in-Err-clause-delivered : goal.returns-in-Err-clause-delivered
returns-in-Err-clause-delivered c = delivered _ _ _ _ _ (returns-in-Err-clause-memory_after c)
