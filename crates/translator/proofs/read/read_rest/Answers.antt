-- `read::read_rest` meets its contract: the loops, then each access, lead on to the next, or stop at a refusal.
use Rattle.std.proofs.Common.{sym, ◌∙◌, Ok, Err}
use Rattle.translator.specs.Fields.{first, second, destination, access_fields, with_access}
use Rattle.translator.specs.PartLaws.{then-stays, then-goes, side-read}
use Rattle.translator.proofs.Exits.{left}
use Rattle.translator.proofs.read.read_rest.Goals as goal

pub returns-in_err-nest : goal.returns-in_err-nest
returns-in_err-nest c =
    rw (left _ c.in_err-nest.field-0.0 c.from_residual.ensures) (then-stays _ _ _ _ _ c.in_err-nest.ensures)

pub returns-in_err-first : goal.returns-in_err-first
returns-in_err-first c =
    let one = then-goes _ _ _ _ _ c.in_ok-nest.ensures in
    rw (left _ c.in_err-first.field-0.0 c.from_residual-in_err-first.ensures)
    (then-stays _ (access_fields first c.args.n) _ _ _ (side-read _ first _ _ c.in_ok-nest.nest (Err c.in_err-first.field-0.0) c.in_err-first.ensures) ∙ sym one)

pub returns-in_err-second : goal.returns-in_err-second
returns-in_err-second c =
    let one = then-goes _ _ _ _ _ c.in_ok-nest.ensures in
    let two = one ∙ then-goes _ (access_fields first c.args.n) _ _ _ (side-read _ first _ _ c.in_ok-nest.nest (Ok (c.in_ok-first.first, c.in_ok-first.c)) c.in_ok-first.ensures) in
    let m = with_access first c.in_ok-first.first c.in_ok-nest.nest in
    rw (left _ c.in_err-second.field-0.0 c.from_residual-in_err-second.ensures)
    (then-stays _ (access_fields second c.args.n) _ _ _ (side-read _ second _ _ m (Err c.in_err-second.field-0.0) c.in_err-second.ensures) ∙ sym two)

pub returns-in_err-destination : goal.returns-in_err-destination
returns-in_err-destination c =
    let one = then-goes _ _ _ _ _ c.in_ok-nest.ensures in
    let two = one ∙ then-goes _ (access_fields first c.args.n) _ _ _ (side-read _ first _ _ c.in_ok-nest.nest (Ok (c.in_ok-first.first, c.in_ok-first.c)) c.in_ok-first.ensures) in
    let m = with_access first c.in_ok-first.first c.in_ok-nest.nest in
    let three = two ∙ then-goes _ (access_fields second c.args.n) _ _ _ (side-read _ second _ _ m (Ok (c.in_ok-second.second, c.in_ok-second.c)) c.in_ok-second.ensures) in
    let k = with_access second c.in_ok-second.second m in
    rw (left _ c.in_err-destination.field-0.0 c.from_residual-in_err-destination.ensures)
    (side-read _ destination _ _ k (Err c.in_err-destination.field-0.0) c.in_err-destination.ensures ∙ sym three)

pub returns : goal.returns
returns c =
    let one = then-goes _ _ _ _ _ c.in_ok-nest.ensures in
    let two = one ∙ then-goes _ (access_fields first c.args.n) _ _ _ (side-read _ first _ _ c.in_ok-nest.nest (Ok (c.in_ok-first.first, c.in_ok-first.c)) c.in_ok-first.ensures) in
    let m = with_access first c.in_ok-first.first c.in_ok-nest.nest in
    let three = two ∙ then-goes _ (access_fields second c.args.n) _ _ _ (side-read _ second _ _ m (Ok (c.in_ok-second.second, c.in_ok-second.c)) c.in_ok-second.ensures) in
    let k = with_access second c.in_ok-second.second m in
    side-read _ destination _ _ k (Ok (c.in_ok-destination.destination, c.in_ok-destination.c)) c.in_ok-destination.ensures ∙ sym three
