-- What a refusal 14 tells, and to whom (02, 1/14): the first lane outside, and the first operand at fault in the order of looking.
--
--   Blamed                     the lane and the operand of a 14
--   blamed-on, blamed          a calculation refused with 14 names exactly these
--   twice-first                a stream named as both sources is the first source
--   lane-written               of a store only a lane that would be written is named
--   operand_in, LaneOutside, blamed-lane   the register named, and its lane
--   Fell                       a run that is refused with 14 (proof: proofs/Fallen)
use Rattle.std.specs.Prelude.{◌≡◌, ℕ, ◌+◌, ◌<◌, false, List, [], length, take, ℤ, ◌==◌, ◌≢◌, slice_index_or, refl, Ok, Some, Err}
use Rattle.std.proofs.Common.{sym, ◌∙◌, ap, subst, arith, length-take, get_or-take, eq-eqb}
use Rattle.codec.specs.TestLaws.{never}
use Rattle.codec.specs.Refusals.{number_of, role_number, rolled, one-role}
use Rattle.codec.specs.Operations.{calculation_at}
use Rattle.codec.specs.declared.number.Cursor.{Cursor}
use Rattle.codec.specs.declared.operation.Task.{Task}
use Rattle.codec.specs.declared.operation.Calculation.{Calculation}
use Rattle.codec.specs.declared.refusal.Role.{Role}
use Rattle.codec.specs.declared.refusal.Role.TheVariants as role
use Rattle.codec.specs.declared.refusal.Refusal.{Refusal}
use Rattle.codec.specs.declared.refusal.Refusal.TheVariants.{Outside}
use Rattle.engine.specs.Addresses.{address}
use Rattle.engine.specs.Registers.{next_chunk, reg, fresh_machine}
use Rattle.engine.specs.Lanes.{outcome_count}
use Rattle.engine.specs.Calculate.{World, given, refusal_of}
use Rattle.engine.specs.Sheets.{prepare, run}
use Rattle.engine.specs.Outlines.{element_of}
use Rattle.engine.specs.Allowed.{Lies, OpenLie}
use Rattle.engine.specs.Reasons.{Wanted, AsSource, AsDestination, FirstOutside, WantedInside, CalculationRefusedOn}
use Rattle.engine.specs.ReasonLaws.{calculation-refused}
use Rattle.engine.specs.declared.register.State.TheVariants.{Open}
use Rattle.engine.specs.declared.register.Register.{Register}
use Rattle.engine.specs.declared.register.Machine.{Machine}

-- "The address check should say which lane, counted from 0, is the first outside, and whether the first source, second source or destination
-- was at fault": the lane is the first outside of its operand, and the operands looked at before it lie inside. On first source a, second
-- source b and destination d, which takes n lanes
pub data Blamed (vl len n : ℕ) (a b d : Register) (lane : ℕ) : Role → Type 0 where
  first : FirstOutside len a (next_chunk vl a) lane → Blamed vl len n a b d lane role.First
  second : OpenLie len a (next_chunk vl a) → FirstOutside len b (next_chunk vl b) lane → Blamed vl len n a b d lane role.Second
  destination : OpenLie len a (next_chunk vl a) → OpenLie len b (next_chunk vl b) → FirstOutside len d (take n (next_chunk vl d)) lane
      → Blamed vl len n a b d lane role.Destination

-- what another number refuses is not lacking
past : {P Later : Type 0} (x : Refusal) (k : ℕ) → (number_of x == k) ≡ false → Wanted x k P Later → P × Later
past x k f (Wanted.lacking e q) = never (sym f ∙ eq-eqb (number_of x) k e)
past x k f (Wanted.later p l) = (p, l)

-- a source, and a destination, that 14 does not refuse
past-source : {Later : Type 0} (r : Register) (lane : ℕ) (role : Role) → AsSource r (Outside lane role) Later → Later
past-source r lane role w =
    (past (Outside lane role) 10 refl (past (Outside lane role) 11 refl (past (Outside lane role) 5 refl w).1).1).1

past-destination : {Later : Type 0} (r : Register) (lane : ℕ) (role : Role) → AsDestination r (Outside lane role) Later → Later
past-destination r lane role w =
    (past (Outside lane role) 10 refl (past (Outside lane role) 11 refl (past (Outside lane role) 5 refl w).1).1).1

-- the operand with a number
role-is : (role : Role) (k : ℕ) → role_number role ≡ k → role ≡ rolled k
role-is role k e = sym (one-role role) ∙ ap rolled e

module _ (vl len n : ℕ) (a b d : Register) (lane : ℕ) (role : Role) where
  -- the destination, where both sources lie inside
  third : OpenLie len a (next_chunk vl a) → OpenLie len b (next_chunk vl b)
      → WantedInside (Outside lane role) 2 len d (take n (next_chunk vl d)) ⊥ → Blamed vl len n a b d lane role
  third p q (WantedInside.lacking e f h) = subst (Blamed vl len n a b d lane) (sym (role-is role 2 f)) (Blamed.destination p q h)
  third p q (WantedInside.later l z) = absurd z

  -- the second source, where the first lies inside
  other : OpenLie len a (next_chunk vl a)
      → WantedInside (Outside lane role) 1 len b (next_chunk vl b) (WantedInside (Outside lane role) 2 len d (take n (next_chunk vl d)) ⊥)
      → Blamed vl len n a b d lane role
  other p (WantedInside.lacking e f h) = subst (Blamed vl len n a b d lane) (sym (role-is role 1 f)) (Blamed.second p h)
  other p (WantedInside.later q l) = third p q l

  -- the first source
  one : WantedInside (Outside lane role) 0 len a (next_chunk vl a)
      (WantedInside (Outside lane role) 1 len b (next_chunk vl b) (WantedInside (Outside lane role) 2 len d (take n (next_chunk vl d)) ⊥))
      → Blamed vl len n a b d lane role
  one (WantedInside.lacking e f h) = subst (Blamed vl len n a b d lane) (sym (role-is role 0 f)) (Blamed.first h)
  one (WantedInside.later p l) = other p l

-- a calculation refused with 14, on its registers
pub blamed-on : (t : Task) (vl len n m : ℕ) (a b d : Register) (lane : ℕ) (role : Role) → CalculationRefusedOn t vl len n m a b d (Outside lane role)
    → Blamed vl len (outcome_count t n) a b d lane role
blamed-on t vl len n m a b d lane role w =
    let s = past-destination d lane role (past-source b lane role (past-source a lane role w)) in
    one vl len (outcome_count t n) a b d lane role
    (past (Outside lane role) 18 refl (past (Outside lane role) 13 refl (past (Outside lane role) 12 refl s).1).1).1

-- a calculation refused with 14, in a world
pub blamed : (vl : ℕ) (c : Calculation) (w : World) (lane : ℕ) (role : Role) → refusal_of vl c w ≡ Err (Outside lane role)
    → Blamed vl (length w.memory) (outcome_count c.task (length (given vl w.memory (reg w.machine c.first))))
    (reg w.machine c.first) (reg w.machine c.second) (reg w.machine c.destination) lane role
blamed vl c w lane role e = blamed-on c.task vl _ _ _ _ _ _ lane role ((calculation-refused vl c w (Outside lane role)).0 e)

-- the second source is not blamed for what the first lies inside
not-second : (vl len n : ℕ) (a b d : Register) (lane : ℕ) (r : Role) → b ≡ a → Blamed vl len n a b d lane r → r ≢ role.Second
not-second vl len n a b d lane r e (Blamed.first f) g = let z : ◌≡◌ {A = ℕ} 0 1 = ap role_number g in omega arith
not-second vl len n a b d lane r e (Blamed.second p f) g =
    let h = subst (λ q. FirstOutside len q (next_chunk vl q) lane) e f in h.lies (p h.opened lane h.moves)
not-second vl len n a b d lane r e (Blamed.destination p q f) g = let z : ◌≡◌ {A = ℕ} 2 1 = ap role_number g in omega arith

-- "a load named twice is the first source"
pub twice-first : (vl : ℕ) (c : Calculation) (w : World) (lane : ℕ) (r : Role) → c.second ≡ c.first → refusal_of vl c w ≡ Err (Outside lane r)
    → r ≢ role.Second
twice-first vl c w lane r e f = not-second vl _ _ _ _ _ lane r (ap (reg w.machine) e) (blamed vl c w lane r f)

-- "lanes behind n of a store are never blamed": of a calculation whose destination takes n lanes
pub lane-written : (vl len n : ℕ) (a b d : Register) (lane : ℕ) → Blamed vl len n a b d lane role.Destination → lane < n
lane-written vl len n a b d lane (Blamed.destination p q f) = omega (arith, f.moves, length-take n (next_chunk vl d))

-- ---- where the lane lies

-- the register that a calculation names as an operand
abbrev pub operand_in : Calculation → Role → ℕ
operand_in c role.First = c.first
operand_in c role.Second = c.second
operand_in c role.Destination = c.destination

-- of a register's next chunk, the element of a lane lies outside memory
pub record LaneOutside (vl len : ℕ) (r : Register) (lane : ℕ) : Type 0 where
  pub opened : r.state ≡ Open
  pub moves : lane < length (next_chunk vl r)
  pub lies : ¬ Lies len r.width (address r.pattern r.width (slice_index_or (next_chunk vl r) lane []))

-- so does that of the lane named, in the register named
pub blamed-lane : (vl len n : ℕ) (m : Machine) (c : Calculation) (lane : ℕ) (r : Role)
    → Blamed vl len n (reg m c.first) (reg m c.second) (reg m c.destination) lane r → LaneOutside vl len (reg m (operand_in c r)) lane
blamed-lane vl len n m c lane r (Blamed.first f) = record { opened = f.opened; moves = f.moves; lies = f.lies }
blamed-lane vl len n m c lane r (Blamed.second p f) = record { opened = f.opened; moves = f.moves; lies = f.lies }
blamed-lane vl len n m c lane r (Blamed.destination p q f) =
    let d = reg m c.destination in
    let k = length-take n (next_chunk vl d) in
    record {
      opened = f.opened;
      moves = omega (arith, f.moves, k);
      lies = subst (λ v. ¬ Lies len d.width (address d.pattern d.width v)) (get_or-take n (next_chunk vl d) lane [] (omega (arith, f.moves, k))) f.lies;
    }

-- a run that is refused with 14 at a place: the calculation that stands there is refused, for the lane and the operand named; and the lane's
-- element, of the stream that the sheet's operations set up, lies outside memory, at an address that the sheet and the stops gone past tell
pub record Fell (vl : ℕ) (s memory : List ℕ) (lane : ℕ) (r : Role) (place : ℕ) : Type 0 where
  pub calculation : Calculation
  pub next : Cursor
  pub stands : calculation_at s place ≡ Ok (calculation, next)
  pub refused : refusal_of vl calculation (run vl s memory).world ≡ Err (Outside lane r)
  pub small : (reg (run vl s memory).world.machine (operand_in calculation r)).moved + lane < 1048576
  pub at : ℤ
  pub located : element_of (reg (prepare s fresh_machine).machine (operand_in calculation r)) ((reg (run vl s memory).world.machine (operand_in calculation r)).moved + lane)
      ≡ Some (record { 0 = at })
  pub lies : ¬ Lies (length (run vl s memory).world.memory) (reg (run vl s memory).world.machine (operand_in calculation r)).width at
