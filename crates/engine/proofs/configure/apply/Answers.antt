-- `configure::apply` meets its contract.
use Rattle.std.proofs.Common.{sym, ap, ◌∙◌}
use Rattle.codec.specs.Operations.{operation_in_range}
use Rattle.engine.specs.GoodLaws.{target-most}
use Rattle.engine.proofs.configure.apply.Goals as goal

pub check_modifier-requires : goal.check_modifier-requires
check_modifier-requires c =
    target-most c.in-Modifier.m (sym (ap operation_in_range c.in-Modifier.is) ∙ c.requires.1)
