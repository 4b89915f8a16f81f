-- Where the lane lies that refusal 14 names.
--   set_up s                    == the registers that the operations of a sheet set up
--   element_ahead s m i lane    == where the element lies at the stop so many behind those that a register's stream has gone past
--   lane_at s m place lane role == where a lane lies that the calculation at a place of a sheet would move
--   address_told l              == what is printed of where a lane lies
use Rattle.std.specs.Prelude.{ℕ, ◌+◌, ◌%◌, ◌^◌, List, [], ◌++◌, codes, Option, Some, None, Ok, Err}
use Rattle.std.specs.Fmt.{signed_decimal}
use Rattle.codec.specs.Operations.{calculation_at, Body}
use Rattle.codec.specs.declared.amounts.Bytes.{Bytes}
use Rattle.codec.specs.declared.refusal.Role.{Role}
use Rattle.engine.specs.Registers.{fresh_machine, reg}
use Rattle.engine.specs.Sheets.{prepare}
use Rattle.engine.specs.Outlines.{element_of}
use Rattle.engine.specs.Blame.{operand_in}
use Rattle.engine.specs.declared.register.Machine.{Machine}

-- the registers that the operations of a sheet set up; its run, if it has one, is not executed
abbrev pub set_up : List ℕ → Machine
set_up s = (prepare s fresh_machine).machine

-- where the element lies at the stop so many behind those that a register's stream has gone past, if there is one
abbrev pub element_ahead : List ℕ → Machine → ℕ → ℕ → Option Bytes
element_ahead s m i lane = element_of (reg (set_up s) i) (((reg m i).moved + lane) % 2 ^ 64)

-- where a lane lies that a calculation would move
abbrev pub lane_in : List ℕ → Machine → ℕ → Role → Body → Option Bytes
lane_in s m lane role (Ok (c, next)) = element_ahead s m (operand_in c role) lane
lane_in s m lane role (Err e) = None

-- where a lane lies that the calculation at a place of a sheet would move, where the registers are these
abbrev pub lane_at : List ℕ → Machine → ℕ → ℕ → Role → Option Bytes
lane_at s m place lane role = lane_in s m lane role (calculation_at s place)

-- what is printed of where a lane lies: its address, between commas, if there is one
abbrev pub address_told : Option Bytes → List ℕ
address_told None = []
address_told (Some a) = codes ", at address " ++ signed_decimal a.0 ++ codes ","
