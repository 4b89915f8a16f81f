-- `read::read_nest` meets its contract: a refusal of the first four numbers, of those behind them, of bytes after them, or of a rule; else the nest.
use Rattle.std.proofs.Common.{rules, Ok, Err}
use Rattle.codec.specs.NumberLaws.{AreBytes}
use Rattle.translator.specs.NestAnswers.{read-ranged, nest-trailing, nest-ruled, head-refused, rest-refused}
use Rattle.translator.proofs.Exits.{left}
use Rattle.translator.proofs.read.read_nest.Goals as goal

pub returns-in_err-head : goal.returns-in_err-head
returns-in_err-head c =
    rw (left _ c.in_err-head.field-0.0 c.from_residual.ensures) (head-refused _ _ c.in_err-head.ensures.part)

pub returns-in_err-nest : goal.returns-in_err-nest
returns-in_err-nest c =
    rw (left _ c.in_err-nest.field-0.0 c.from_residual-in_err-nest.ensures) (rest-refused _ _ _ _ c.in_ok-head.ensures.part c.in_err-nest.ensures)

pub returns-then-place-s : goal.returns-then-place-s
returns-then-place-s c =
    let are-bytes : AreBytes c.args.s.now = search rules in
    nest-trailing _ are-bytes _ _ _ _ c.in_ok-head.ensures.part c.in_ok-nest.ensures c.if-place-s.true

pub why_not-requires : goal.why_not-requires
why_not-requires c =
    let are-bytes : AreBytes c.args.s.now = search rules in
    (read-ranged _ are-bytes _ _ _ _ c.in_ok-head.ensures.part c.in_ok-nest.ensures).0.loops-most

pub returns-in-Ok : goal.returns-in-Ok
returns-in-Ok c =
    let are-bytes : AreBytes c.args.s.now = search rules in
    nest-ruled _ are-bytes _ _ _ _ c.in_ok-head.ensures.part c.in_ok-nest.ensures c.if-place-s.false (Ok tt) c.in-Ok.ensures

pub returns-in-Err : goal.returns-in-Err
returns-in-Err c =
    let are-bytes : AreBytes c.args.s.now = search rules in
    nest-ruled _ are-bytes _ _ _ _ c.in_ok-head.ensures.part c.in_ok-nest.ensures c.if-place-s.false (Err c.in-Err.refusal) c.in-Err.ensures
