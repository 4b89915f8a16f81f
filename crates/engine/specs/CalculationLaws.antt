-- The checks of a calculation that is not refused.
--
--   Named, named                               the registers that a calculation names are among the 32
--   ChecksPassed, passed, nothing, unrefused         the checks that did not apply, by name
--   PassedIn, checked, not-refused             those of a calculation in a world: not refused exactly if it passes them
use Rattle.std.specs.Prelude.{◌≡◌, ℕ, ◌<◌, true, false, not, ◌&&◌, ◌||◌, [], length, take, ◌==◌, nat_lt, refl, Ok}
use Rattle.std.proofs.Common.{arith}
use Rattle.codec.specs.Operations.{calculation_in_range}
use Rattle.codec.specs.RangeLaws.{calculation-range}
use Rattle.codec.specs.declared.operation.Task.{Task}
use Rattle.codec.specs.declared.operation.Calculation.{Calculation}
use Rattle.engine.specs.Lanes.{outcome_count, wants_lanes}
use Rattle.engine.specs.Checks.{first_of}
use Rattle.engine.specs.Registers.{is_configuring, is_finished, open_load, open_store, next_chunk, reg}
use Rattle.engine.specs.Calculate.{World, given, outside, checks_on, refusal_of}
use Rattle.engine.specs.GoodLaws.{next, more}
use Rattle.engine.specs.declared.register.Register.{Register}

-- the registers that a calculation names are among the 32
pub record Named (c : Calculation) : Type 0 where
  pub first : c.first < 32
  pub second : c.second < 32
  pub destination : c.destination < 32

-- a calculation in range names registers
pub named : (c : Calculation) → calculation_in_range c ≡ true → Named c
named c e =
    let r = calculation-range c e in
    record { first = omega (arith, r.1); second = omega (arith, r.2); destination = omega (arith, r.0) }

-- the checks of a calculation that did not apply: of what it does, on first source a, second source b, destination d, with n lanes of a and m of b
pub record ChecksPassed (t : Task) (vl len n m : ℕ) (a b d : Register) : Type 0 where
  pub first-state : is_configuring a.state ≡ false
  pub first_ended : is_finished a.state ≡ false
  pub first_kind : open_store a ≡ false
  pub second-state : is_configuring b.state ≡ false
  pub second_ended : is_finished b.state ≡ false
  pub second-kind : open_store b ≡ false
  pub destination-state : is_configuring d.state ≡ false
  pub destination-ended : is_finished d.state ≡ false
  pub destination-kind : open_load d ≡ false
  pub widths : (not (a.width == b.width) || open_store d && not (a.width == d.width)) ≡ false
  pub counts : (not (n == m) || open_store d && nat_lt (length (next_chunk vl d)) (outcome_count t n)) ≡ false
  pub some : (wants_lanes t && n == 0) ≡ false
  pub first-inside : outside len a (next_chunk vl a) ≡ false
  pub second-inside : outside len b (next_chunk vl b) ≡ false
  pub destination-inside : outside len d (take (outcome_count t n) (next_chunk vl d)) ≡ false

-- where no check gives a refusal, each was passed
pub passed : (t : Task) (vl len n m : ℕ) (a b d : Register) → first_of (checks_on t vl len n m a b d) ≡ Ok tt → ChecksPassed t vl len n m a b d
passed t vl len n m a b d e =
    let k1 = next _ _ _ e in
    let k2 = next _ _ _ k1.1 in
    let k3 = next _ _ _ k2.1 in
    let k4 = next _ _ _ k3.1 in
    let k5 = next _ _ _ k4.1 in
    let k6 = next _ _ _ k5.1 in
    let k7 = next _ _ _ k6.1 in
    let k8 = next _ _ _ k7.1 in
    let k9 = next _ _ _ k8.1 in
    let k10 = next _ _ _ k9.1 in
    let k11 = next _ _ _ k10.1 in
    let k12 = next _ _ _ k11.1 in
    let k13 = next _ _ _ k12.1 in
    let k14 = next _ _ _ k13.1 in
    let k15 = next _ _ _ k14.1 in
    record {
      first-state = k1.0;
      first_ended = k2.0;
      first_kind = k3.0;
      second-state = k4.0;
      second_ended = k5.0;
      second-kind = k6.0;
      destination-state = k7.0;
      destination-ended = k8.0;
      destination-kind = k9.0;
      widths = k10.0;
      counts = k11.0;
      some = k12.0;
      first-inside = k13.0;
      second-inside = k14.0;
      destination-inside = k15.0;
    }

-- no check gives no refusal
pub nothing : first_of [] ≡ Ok tt
unfolding first_of
nothing = refl

-- and the reverse
pub unrefused : (t : Task) (vl len n m : ℕ) (a b d : Register) → ChecksPassed t vl len n m a b d → first_of (checks_on t vl len n m a b d) ≡ Ok tt
unrefused t vl len n m a b d p =
    more _ _ _ p.first-state
    (more _ _ _ p.first_ended
    (more _ _ _ p.first_kind
    (more _ _ _ p.second-state
    (more _ _ _ p.second_ended
    (more _ _ _ p.second-kind
    (more _ _ _ p.destination-state
    (more _ _ _ p.destination-ended
    (more _ _ _ p.destination-kind
    (more _ _ _ p.widths
    (more _ _ _ p.counts
    (more _ _ _ p.some
    (more _ _ _ p.first-inside
    (more _ _ _ p.second-inside
    (more _ _ [] p.destination-inside nothing))))))))))))))

-- the checks of a calculation in a world
abbrev pub PassedIn : ℕ → Calculation → World → Type 0
PassedIn vl c w =
    ChecksPassed c.task vl (length w.memory)
    (length (given vl w.memory (reg w.machine c.first)))
    (length (given vl w.memory (reg w.machine c.second)))
    (reg w.machine c.first)
    (reg w.machine c.second)
    (reg w.machine c.destination)

-- a calculation that is not refused passed its checks
pub checked : (vl : ℕ) (c : Calculation) (w : World) → refusal_of vl c w ≡ Ok tt → PassedIn vl c w
unfolding refusal_of
checked vl c w e = passed _ _ _ _ _ _ _ _ e

-- one that passes them is not refused
pub not-refused : (vl : ℕ) (c : Calculation) (w : World) → PassedIn vl c w → refusal_of vl c w ≡ Ok tt
unfolding refusal_of
not-refused vl c w p = unrefused _ _ _ _ _ _ _ _ p
