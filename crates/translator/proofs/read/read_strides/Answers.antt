-- `read::read_strides` meets its contract: the strides that are left to read, from where the loop stands, give what all of them give.
use Rattle.std.proofs.Common.{◌≡◌, sym, ◌∙◌, rules, w64, to_z, of_z}
use Rattle.translator.specs.PartLaws.{stride-stays, stride-goes, strides-end}
use Rattle.translator.proofs.Exits.{left}
use Rattle.translator.proofs.read.read_strides.Goals as goal

pub returns-in_err-z : goal.returns-in_err-z
returns-in_err-z c =
    rw (left _ c.in_err-z.field-0.0 c.from_residual.ensures) (stride-stays _ _ _ _ _ c.loop-d-test.true c.in_err-z.ensures ∙ c.loop-d.invariant)

pub loop-d-preserved : goal.loop-d-preserved
loop-d-preserved c =
    let back : to_z w64 (of_z w64 c.in_ok-z.z) ≡ c.in_ok-z.z = search rules in
    rw back (sym (stride-goes _ _ _ _ _ c.loop-d-test.true c.in_ok-z.ensures) ∙ c.loop-d.invariant)

pub returns : goal.returns
returns c = sym (strides-end _ _ _ _ _ c.loop-d-test.false) ∙ c.loop-d.invariant
