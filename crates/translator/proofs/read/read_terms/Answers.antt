-- `read::read_terms` meets its contract: the terms that are left to read, from where the loop stands, give what all of them give.
use Rattle.std.proofs.Common.{◌≡◌, sym, ◌∙◌, rules, w64, to_z, of_z}
use Rattle.translator.specs.PartLaws.{term-stays, term-goes, terms-end}
use Rattle.translator.proofs.Exits.{left}
use Rattle.translator.proofs.read.read_terms.Goals as goal

pub returns-in_err-z : goal.returns-in_err-z
returns-in_err-z c =
    rw (left _ c.in_err-z.field-0.0 c.from_residual.ensures) (term-stays _ _ _ _ _ _ c.loop-o-test.true c.in_err-z.ensures ∙ c.loop-o.invariant)

pub loop-o-preserved : goal.loop-o-preserved
loop-o-preserved c =
    let back : to_z w64 (of_z w64 c.in_ok-z.z) ≡ c.in_ok-z.z = search rules in
    rw back (sym (term-goes _ _ _ _ _ _ c.loop-o-test.true c.in_ok-z.ensures) ∙ c.loop-o.invariant)

pub returns : goal.returns
returns c = sym (terms-end _ _ _ _ _ _ c.loop-o-test.false) ∙ c.loop-o.invariant
