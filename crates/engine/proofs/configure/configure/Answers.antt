-- `configure::configure` meets its contract: the register found is the one that the operation names.
use Rattle.std.proofs.Common.{◌<◌, sym, arith}
use Rattle.engine.specs.GoodLaws.{in-machine, configured-kept, configured-by}
use Rattle.engine.proofs.configure.configure.Goals as goal

pub offset_bounds-machine-i : goal.offset_bounds-machine-i
offset_bounds-machine-i c = omega (arith, in-machine c.args.o c.requires.1, c.register_of-i.ensures)

pub bounds-machine-i : goal.bounds-machine-i
bounds-machine-i c = omega (arith, in-machine c.args.o c.requires.1, c.register_of-i.ensures)

pub apply-requires : goal.apply-requires
apply-requires c =
    let known : c.register_of-i.result < 32 = omega (arith, in-machine c.args.o c.requires.1, c.register_of-i.ensures) in
    ((c.requires.0.0, c.requires.0.1.good _ known), c.requires.1)

pub offset_bounds-machine-i-in-Ok : goal.offset_bounds-machine-i-in-Ok
offset_bounds-machine-i-in-Ok c = omega (arith, in-machine c.args.o c.requires.1, c.register_of-i.ensures)

pub bounds-machine-i-in-Ok : goal.bounds-machine-i-in-Ok
bounds-machine-i-in-Ok c = omega (arith, in-machine c.args.o c.requires.1, c.register_of-i.ensures)

pub returns-in-Err-clause-why : goal.returns-in-Err-clause-why
returns-in-Err-clause-why c =
    let told = (configured-by _ c.args.machine.now _ _ c.register_of-i.ensures c.apply.ensures).0 _ c.in-Err.is in
    sym told.0

pub returns-in-Err-clause-after : goal.returns-in-Err-clause-after
returns-in-Err-clause-after c =
    let told = (configured-by _ c.args.machine.now _ _ c.register_of-i.ensures c.apply.ensures).0 _ c.in-Err.is in
    sym (configured-kept c.args.o c.args.machine.now _ told.0)

pub returns-clause-why : goal.returns-clause-why
returns-clause-why c =
    let told = (configured-by _ c.args.machine.now _ _ c.register_of-i.ensures c.apply.ensures).1 _ c.in-Ok.is in
    sym told.0

pub returns-clause-after : goal.returns-clause-after
returns-clause-after c =
    let told = (configured-by _ c.args.machine.now _ _ c.register_of-i.ensures c.apply.ensures).1 _ c.in-Ok.is in
    told.1
