-- The address that is told of a refusal 14.
--
--   lane-told      it is where the lane lies that the refusal names, outside memory
use Rattle.std.specs.Prelude.{◌≡◌, ℕ, List, Some}
use Rattle.std.proofs.Common.{◌∙◌, ap, arith, mod-eq_of_lt}
use Rattle.codec.specs.NumberLaws.{AreBytes}
use Rattle.codec.specs.declared.refusal.Role.{Role}
use Rattle.codec.specs.declared.refusal.Refusal.TheVariants.{Outside}
use Rattle.engine.specs.Registers.{reg}
use Rattle.engine.specs.Sheets.{run}
use Rattle.engine.specs.Outlines.{element_of}
use Rattle.engine.specs.Blame.{operand_in, Fell}
use Rattle.engine.proofs.Fallen.{fell}
use Rattle.words.specs.Outside.{set_up, lane_in, lane_at}
use Rattle.engine.specs.Run.{refusal_at}

-- of a sheet whose run is refused with 14: the address is that of the element which `Fell` says lies outside memory
pub lane-told : (vl : ℕ) (s memory : List ℕ) → AreBytes s → (lane : ℕ) (r : Role) (place : ℕ) → (run vl s memory).verdict ≡ refusal_at (Outside lane r) place
    → (f : Fell vl s memory lane r place) × (lane_at s (run vl s memory).world.machine place lane r ≡ Some (record { 0 = f.at }))
lane-told vl s memory p lane r place v =
    let f = fell vl s memory p lane r place v in
    let m = (run vl s memory).world.machine in (
      f,
      ap (lane_in s m lane r) f.stands
          ∙ ap (element_of (reg (set_up s) (operand_in f.calculation r))) (mod-eq_of_lt (omega (arith, f.small)))
          ∙ f.located,
    )
