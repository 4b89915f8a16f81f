-- What the two numbers that 14 carries leave as it was (02, 1/14: "14 carries two numbers more"): a run refuses the same calculations with the
-- same numbers at the same places, with the same counts, registers and memory.
--
--   Numbered, numbered_first        the checks of 01, and 18 of 02, 2/14, by their numbers alone
--   numbers_on, number_before        the number that 01 and 02, 2/14, alone give a calculation
--   number_of_why, number-before     it is the number of the refusal
--   Plainly, plainly, told-plainly   an answer, its two numbers forgotten
--   as_before                      whatever says why a calculation is refused, as long as it gives that number: the answers are the same
use Rattle.std.specs.Prelude.{◌≡◌, ℕ, zero, suc, ◌+◌, ◌≤◌, Bool, true, false, cond, not, ◌&&◌, ◌||◌, List, [], ◌∷◌, ◌++◌, map, length, take, ◌==◌, nat_lt, refl, Ok, Err}
use Rattle.std.proofs.Common.{sym, ◌∙◌, ap, arith}
use Rattle.codec.specs.Refusals.{number_of}
use Rattle.codec.specs.declared.operation.Task.{Task}
use Rattle.codec.specs.declared.operation.Task.TheVariants.{Each, All}
use Rattle.codec.specs.declared.operation.Calculation.{Calculation}
use Rattle.codec.specs.declared.refusal.Refusal.{Refusal}
use Rattle.codec.specs.declared.refusal.Refusal.TheVariants.{BadNumber, OutOfRange, FixedBits, NotCarried, WrongState, TooMany, Misplaced, LowHigh, Product, WrongKind, StreamEnded, Widths, LaneCounts, Outside, Lengths, LoopRegister, NoRoom, NoLanes}
use Rattle.codec.specs.TestLaws.{never, never_true}
use Rattle.engine.specs.Lanes.{wants_lanes}
use Rattle.engine.specs.Checks.{Check, first_of, Why}
use Rattle.engine.specs.Registers.{is_configuring, is_open, is_finished, open_load, open_store, next_chunk, to_come, reg}
use Rattle.engine.specs.Calculate.{World, outside, checks_on, on_named, refusal_of, effect}
use Rattle.engine.specs.Run.{number_given, place_given, Progress, Reason, begun, stepped, step_by, unless_refused, pass_by, counted, repeat_by, Verdict, refusal_at}
use Rattle.engine.specs.Sheets.{Ending, over, runs, refused, prepare, allowed, refused_at, on_ending_by, run_by, run_from}
use Rattle.engine.specs.declared.register.Register.{Register}
use Rattle.engine.specs.declared.register.Machine.{Machine}
use Rattle.engine.specs.declared.run.Placed.{Placed}
use Rattle.engine.specs.declared.run.Report.{Report}

-- ---- the checks by their numbers

-- a refusal's number, and whether it applies
pub record Numbered : Type 0 where
  pub number : ℕ
  pub applies : Bool

infix 90 ◌when◌
-- refusal n, which applies if b
abbrev pub ◌when◌ : ℕ → Bool → Numbered
n when b = record { number = n; applies = b }

-- the first that applies; 0 if none does
unfoldable pub numbered_first : List Numbered → ℕ
numbered_first [] = 0
numbered_first (c ∷ cs) = cond c.applies c.number (numbered_first cs)

-- a register in a calculation: 5, 11, 10, the last if it is a stream of the wrong kind
abbrev pub numbers_of : Register → Bool → List Numbered
numbers_of r wrong = 5 when is_configuring r.state ∷ 11 when is_finished r.state ∷ 10 when wrong ∷ []

-- "a calculation looks at first source, second source, destination in turn (5, 11, 10), then 12, .."
abbrev pub numbers_to_widths : Register → Register → Register → List Numbered
numbers_to_widths a b d =
    numbers_of a (open_store a)
    ++ numbers_of b (open_store b)
    ++ numbers_of d (open_load d)
    ++ 12 when (not (a.width == b.width) || open_store d && not (a.width == d.width))
    ∷ []

-- ".. 13, and 14 in that turn": of 01's calculations; of 02's the destination takes one lane, and 18 stands between
abbrev pub numbers_on : Task → ℕ → ℕ → ℕ → ℕ → Register → Register → Register → List Numbered
numbers_on (Each action) vl len n m a b d =
    numbers_to_widths a b d
    ++ 13 when (not (n == m) || open_store d && nat_lt (length (next_chunk vl d)) n)
    ∷ 14 when outside len a (next_chunk vl a)
    ∷ 14 when outside len b (next_chunk vl b)
    ∷ 14 when outside len d (take n (next_chunk vl d))
    ∷ []
numbers_on (All fold) vl len n m a b d =
    numbers_to_widths a b d
    ++ 13 when (not (n == m) || open_store d && nat_lt (length (next_chunk vl d)) 1)
    ∷ 18 when (wants_lanes (All fold) && n == 0)
    ∷ 14 when outside len a (next_chunk vl a)
    ∷ 14 when outside len b (next_chunk vl b)
    ∷ 14 when outside len d (take 1 (next_chunk vl d))
    ∷ []

-- the number of a calculation's refusal by these alone, 0 if it is not refused
unfoldable pub number_before : ℕ → Calculation → World → ℕ
number_before vl c w = numbered_first (on_named (numbers_on c.task) vl c w)

-- the number of a refusal, 0 if there is none
abbrev pub number_of_why : Why → ℕ
number_of_why (Ok _) = 0
number_of_why (Err x) = number_of x

-- a check by its number
abbrev by_number : Check → Numbered
by_number c = number_of c.refusal when c.applies

-- the first check that applies, by its number
first-number : (cs : List Check) → number_of_why (first_of cs) ≡ numbered_first (map by_number cs)
unfolding first_of numbered_first
first-number [] = refl
first-number (c ∷ cs) = go c.applies (first-number cs)
  where
    go : (b : Bool) → number_of_why (first_of cs) ≡ numbered_first (map by_number cs)
        → number_of_why (cond b (Err c.refusal) (first_of cs)) ≡ cond b (number_of c.refusal) (numbered_first (map by_number cs))
    go true e = refl
    go false e = e

-- the checks by their numbers are these
checks-numbered : (t : Task) (vl len n m : ℕ) (a b d : Register) → number_of_why (first_of (checks_on t vl len n m a b d)) ≡ numbered_first (numbers_on t vl len n m a b d)
unfolding numbered_first
checks-numbered (Each action) vl len n m a b d = first-number (checks_on (Each action) vl len n m a b d)
checks-numbered (All fold) vl len n m a b d = first-number (checks_on (All fold) vl len n m a b d)

-- a calculation is refused with the number that these alone give it
pub number-before : (vl : ℕ) (c : Calculation) (w : World) → number_of_why (refusal_of vl c w) ≡ number_before vl c w
unfolding refusal_of number_before
number-before vl c w = checks-numbered c.task _ _ _ _ _ _ _

-- ---- answers

-- an answer, its two numbers forgotten: the world and both counts; the refusal's number and place, both 0 if there is none
pub record Plainly : Type 0 where
  pub world : World
  pub report : Report
  pub number : ℕ
  pub place : ℕ

-- an answer in plain terms
abbrev pub plainly : Progress → Plainly
plainly g = record { world = g.world; report = g.report; number = number_given g.verdict; place = place_given g.verdict }

-- done has number 0 and place 0, a refusal its own
pub told-plainly : (number_given (Ok tt) ≡ 0) × (place_given (Ok tt) ≡ 0) × ((x : Refusal) (place : ℕ) → (number_given (refusal_at x place) ≡ number_of x) × (place_given (refusal_at x place) ≡ place))
told-plainly = (refl, refl, λ x place. (refl, refl))

-- no refusal has number 0
some_number : (x : Refusal) → 1 ≤ number_of x
some_number BadNumber = omega arith
some_number OutOfRange = omega arith
some_number FixedBits = omega arith
some_number NotCarried = omega arith
some_number WrongState = omega arith
some_number TooMany = omega arith
some_number Misplaced = omega arith
some_number LowHigh = omega arith
some_number Product = omega arith
some_number WrongKind = omega arith
some_number StreamEnded = omega arith
some_number Widths = omega arith
some_number LaneCounts = omega arith
some_number (Outside lane role) = omega arith
some_number Lengths = omega arith
some_number LoopRegister = omega arith
some_number NoRoom = omega arith
some_number NoLanes = omega arith

-- what follows is alike if both alternatives are
follows : (v w : Verdict) → number_given v ≡ number_given w → (g h j k : Progress) → plainly g ≡ plainly h → plainly j ≡ plainly k
    → plainly (unless_refused v g j) ≡ plainly (unless_refused w h k)
follows (Ok _) (Ok _) e g h j k p q = q
follows (Ok _) (Err y) e g h j k p q = absurd (omega (arith, some_number y.refusal))
follows (Err x) (Ok _) e g h j k p q = absurd (omega (arith, some_number x.refusal))
follows (Err x) (Err y) e g h j k p q = p

-- one calculation, from alike progress, for reasons of one number
one-step : (v w : Why) → number_of_why v ≡ number_of_why w → (place : ℕ) (u : World) (g h : Progress) → plainly g ≡ plainly h
    → plainly (stepped v place u g) ≡ plainly (stepped w place u h)
one-step (Ok _) (Ok _) e place u g h p =
    λ i. record { world = u; report = record { passes = (p i).report.passes; calculations = (p i).report.calculations + 1 }; number = 0; place = 0 }
one-step (Ok _) (Err y) e place u g h p = absurd (omega (arith, some_number y))
one-step (Err x) (Ok _) e place u g h p = absurd (omega (arith, some_number x))
one-step (Err x) (Err y) e place u g h p = λ i. record { world = (p i).world; report = (p i).report; number = e i; place = place }

-- one pass more, counted
one-counted : (g h : Progress) → plainly g ≡ plainly h → plainly (counted g) ≡ plainly (counted h)
one-counted g h p =
    λ i. record {
      world = (p i).world;
      report = record { passes = (p i).report.passes + 1; calculations = (p i).report.calculations };
      number = (p i).number;
      place = (p i).place;
    }

-- one of two, by tests that agree
pick : (a b : Bool) → a ≡ b → (g h j k : Progress) → plainly g ≡ plainly h → plainly j ≡ plainly k → plainly (cond a g j) ≡ plainly (cond b h k)
pick true true e g h j k p q = p
pick true false e g h j k p q = never_true e
pick false true e g h j k p q = never e
pick false false e g h j k p q = q

-- for two reasons that give each calculation the same number
module _ (why other : Reason) (same : (vl : ℕ) (c : Calculation) (w : World) → number_of_why (why vl c w) ≡ number_of_why (other vl c w)) where
  -- one calculation
  step-alike : (vl : ℕ) (c : Placed) (g h : Progress) → plainly g ≡ plainly h → plainly (step_by why vl c g) ≡ plainly (step_by other vl c h)
  step-alike vl c g h p =
      let k = c.calculation in
      one-step (why vl k g.world) (other vl k g.world) (same vl k g.world) c.place (effect vl k g.world) g h p
      ∙ ap (λ (q : Plainly). plainly (stepped (other vl k q.world) c.place (effect vl k q.world) h)) p

  -- the body once
  pass-alike : (vl : ℕ) (cs : List Placed) (g h : Progress) → plainly g ≡ plainly h → plainly (pass_by why vl cs g) ≡ plainly (pass_by other vl cs h)
  unfolding pass_by
  pass-alike vl [] g h p = p
  pass-alike vl (c ∷ cs) g h p =
      let e = step-alike vl c g h p in
      follows (step_by why vl c g).verdict (step_by other vl c h).verdict (ap (λ (q : Plainly). q.number) e)
      (step_by why vl c g) (step_by other vl c h) (pass_by why vl cs (step_by why vl c g)) (pass_by other vl cs (step_by other vl c h)) e
      (pass-alike vl cs (step_by why vl c g) (step_by other vl c h) e)

  -- at most n passes
  repeat-alike : (vl loop : ℕ) (cs : List Placed) (n : ℕ) (g h : Progress) → plainly g ≡ plainly h → plainly (repeat_by why vl loop cs n g) ≡ plainly (repeat_by other vl loop cs n h)
  unfolding repeat_by
  repeat-alike vl loop cs zero g h p = p
  repeat-alike vl loop cs (suc n) g h p =
      let e = pass-alike vl cs g h p in
      let j = pass_by why vl cs g in
      let k = pass_by other vl cs h in
      pick (is_open (reg g.world.machine loop).state) (is_open (reg h.world.machine loop).state)
      (ap (λ (q : Plainly). is_open (reg q.world.machine loop).state) p)
      (unless_refused j.verdict j (repeat_by why vl loop cs n (counted j))) (unless_refused k.verdict k (repeat_by other vl loop cs n (counted k))) g h
      (follows j.verdict k.verdict (ap (λ (q : Plainly). q.number) e) j k (repeat_by why vl loop cs n (counted j)) (repeat_by other vl loop cs n (counted k)) e
      (repeat-alike vl loop cs n (counted j) (counted k) (one-counted j k e)))
      p

  -- the run, unless an operation was refused
  ending-alike : (vl : ℕ) (w : World) (e : Ending) → plainly (on_ending_by why vl w e) ≡ plainly (on_ending_by other vl w e)
  ending-alike vl w over = refl
  ending-alike vl w (runs loop cs) = repeat-alike vl loop cs (length (to_come (reg w.machine loop))) (begun w) (begun w) refl
  ending-alike vl w (refused x place) = refl

  -- a sheet from given registers
  pub run-alike : (m : Machine) (vl : ℕ) (s memory : List ℕ) → plainly (run_by why m vl s memory) ≡ plainly (run_by other m vl s memory)
  run-alike m vl s memory =
      let a = allowed vl (length memory) in
      let w : World = record { machine = (prepare s m).machine; memory = memory } in
      let r = refused_at (record { machine = m; memory = memory }) Lengths 0 in
      pick a a refl (on_ending_by why vl w (prepare s m).ending) (on_ending_by other vl w (prepare s m).ending) r r (ending-alike vl w (prepare s m).ending) refl

-- whatever says why a calculation is refused, with that number of it: every sheet has the answer that the engine gives it, the two numbers of
-- 14 forgotten
pub as_before : (why : Reason) → ((vl : ℕ) (c : Calculation) (w : World) → number_of_why (why vl c w) ≡ number_before vl c w)
    → (m : Machine) (vl : ℕ) (s memory : List ℕ) → plainly (run_by why m vl s memory) ≡ plainly (run_from m vl s memory)
as_before why e = run-alike why refusal_of (λ vl c w. e vl c w ∙ sym (number-before vl c w))
