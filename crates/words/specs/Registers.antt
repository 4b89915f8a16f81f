-- Registers that need no words.
--   is_plain k == the state is plain
--   is_fresh r == the register is as a sheet finds it
use Rattle.std.specs.Prelude.{Bool, true, false, ◌&&◌, ◌==◌}
use Rattle.engine.specs.declared.register.State.{State}
use Rattle.engine.specs.declared.register.State.TheVariants.{Plain, Configuring, Open, Finished}
use Rattle.engine.specs.declared.register.Register.{Register}

-- a state is plain
abbrev pub is_plain : State → Bool
is_plain Plain = true
is_plain Configuring = false
is_plain Open = false
is_plain Finished = false

-- "A fresh one is plain, width 1, no valid lanes, all bytes zero." Bytes behind the valid lanes are zero in every register.
abbrev pub is_fresh : Register → Bool
is_fresh r = is_plain r.state && (r.width == 1 && r.valid == 0)
