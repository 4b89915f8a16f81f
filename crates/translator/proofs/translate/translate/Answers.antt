-- `translate::translate` meets its contract: the refusal of the nest, or what placing its sheet answers.
use Rattle.std.proofs.Common.{sym, rules}
use Rattle.codec.specs.NumberLaws.{AreBytes}
use Rattle.translator.proofs.Nesting.{nesting}
use Rattle.translator.proofs.translate.translate.Goals as goal

pub place-requires : goal.place-requires
place-requires c =
    let are-bytes : AreBytes c.args.s.now = search rules in
    (((nesting _ are-bytes).is-nest _).0 (sym c.in_ok-nest.ensures)).0
