-- The passes of a run one calculation at a time, as the code keeps them.
--
--   so_far                                a run that has not been refused so far
--   step-on, step-no                     a calculation that is done, or refused
--   Passing, passing, passing-on         within a pass
--   Passes, passes-begun, passes_on      between passes
use Rattle.std.proofs.Common.{◌≡◌, ℕ, ◌+◌, ◌*◌, ◌<◌, ◌≤◌, Bool, true, false, cond, List, [], ◌∷◌, length, get_or, drop, set, sym, refl, ap, ◌∙◌, subst, add-one, arith, length-drop, drop-cons, Ok, Err}
use Rattle.codec.specs.declared.refusal.Refusal.{Refusal}
use Rattle.engine.specs.Checks.{Why}
use Rattle.engine.specs.Configure.{unless_because}
use Rattle.engine.specs.CountLaws.{few-stops}
use Rattle.engine.specs.ComeLaws.{open-covered}
use Rattle.engine.specs.Registers.{is_open, shape_of, to_come, reg}
use Rattle.engine.specs.Chunks.{stops}
use Rattle.engine.specs.Calculate.{World, refusal_of, effect, results, read_from, written_to, memory_after}
use Rattle.engine.specs.Operands.{why_on, results_on, Calculated}
use Rattle.engine.specs.Run.{Progress, counted, step, pass, pass_by, execute, refusal_at}
use Rattle.engine.specs.Sheets.{is_loop_register}
use Rattle.engine.specs.Good.{AllGood, Good}
use Rattle.engine.specs.CalculationLaws.{Named}
use Rattle.engine.specs.HistoryLaws.{AllNamed}
use Rattle.engine.specs.StepLaws.{step-done, step-refused, pass-next, pass-stop, step-good}
use Rattle.engine.specs.EffectLaws.{memory-length}
use Rattle.engine.specs.EndLaws.{Running, running-begun, running-on, pass-fewer, onward, onward-shut, onward-refused, onward-pass}
use Rattle.engine.specs.declared.register.Machine.{Machine}
use Rattle.engine.specs.declared.register.Register.{Register}
use Rattle.engine.specs.declared.run.Placed.{Placed}
use Rattle.engine.proofs.BodySteps.{no_step}

abbrev pub machine_of : List Register → Machine
machine_of rs = record { registers = rs }

-- a run that has not been refused so far
abbrev pub so_far : List Register → List ℕ → ℕ → ℕ → Progress
so_far rs memory passes calculations =
    record { world = record { machine = machine_of rs; memory = memory }; report = record { passes = passes; calculations = calculations }; verdict = Ok tt }

module _ (vl : ℕ) (c : Placed) (rs : List Register) (memory : List ℕ) (p q : ℕ) (why : Why) (f s d : Register) (after : List ℕ)
    (h : Calculated vl c.calculation.task memory (reg (machine_of rs) c.calculation.first) (reg (machine_of rs) c.calculation.second) (reg (machine_of rs) c.calculation.destination) why f s d after) where
  -- the registers after it
  abbrev pub registers_on : List Register
  registers_on = set (set (set rs c.calculation.first f) c.calculation.second s) c.calculation.destination d

  why-is : refusal_of vl c.calculation (so_far rs memory p q).world ≡ why
  unfolding refusal_of
  why-is = sym h.refused

  pub step-on : why ≡ Ok tt → step vl c (so_far rs memory p q) ≡ so_far registers_on after p (q + 1)
  unfolding effect results
  step-on e =
      let a = reg (machine_of rs) c.calculation.first in
      let b = reg (machine_of rs) c.calculation.second in
      let z = reg (machine_of rs) c.calculation.destination in
      let w : why_on c.calculation.task vl memory a b z ≡ Ok tt = sym h.refused ∙ e in
      let xs = results_on vl c.calculation.task memory a b in
      let k1 : read_from vl memory a ≡ f = sym (h.read e) in
      let k2 : read_from vl memory b ≡ s = sym (h.other e) in
      let k3 : written_to a.width xs z ≡ d = sym (h.written e) in
      let k4 : memory_after vl xs memory z ≡ after = sym (h.stored ∙ ap (λ y. unless_because y (memory_after vl xs memory z) memory) w) in
      step-done vl c (so_far rs memory p q) (why-is ∙ e)
      ∙ (λ t. so_far (set (set (set rs c.calculation.first (k1 t)) c.calculation.second (k2 t)) c.calculation.destination (k3 t)) (k4 t) p (q + 1))

  pub step-no : (x : Refusal) → why ≡ Err x → (after ≡ memory) × (step vl c (so_far rs memory p q) ≡ record { world = (so_far rs memory p q).world; report = (so_far rs memory p q).report; verdict = refusal_at x c.place })
  step-no x e =
      let a = reg (machine_of rs) c.calculation.first in
      let b = reg (machine_of rs) c.calculation.second in
      let z = reg (machine_of rs) c.calculation.destination in
      let w : why_on c.calculation.task vl memory a b z ≡ Err x = sym h.refused ∙ e in
      let xs = results_on vl c.calculation.task memory a b in
      (h.stored ∙ ap (λ y. unless_because y (memory_after vl xs memory z) memory) w, step-refused vl c (so_far rs memory p q) x (why-is ∙ e))

  pub length-on : why ≡ Ok tt → length after ≡ length memory
  length-on e =
      sym (ap (λ g. length g.world.memory) (step-on e))
      ∙ ap (λ g. length g.world.memory) (step-done vl c (so_far rs memory p q) (why-is ∙ e))
      ∙ memory-length vl c.calculation (so_far rs memory p q).world

-- the body from its k-th calculation on
at-step : (body : List Placed) (k : ℕ) → k < length body → drop k body ≡ get_or body k no_step ∷ drop (k + 1) body
at-step body k below = drop-cons body k no_step below ∙ ap (λ j. get_or body k no_step ∷ drop j body) (sym (add-one k))

-- within a pass: what is left of it gives what the whole gives
pub record Passing (vl : ℕ) (body : List Placed) (passes : ℕ) (rs₀ : List Register) (memory₀ : List ℕ) (calculations₀ : ℕ)
    (rs : List Register) (memory : List ℕ) (calculations k : ℕ) : Type 0 where
  pub least : 8 ≤ vl
  pub within : k ≤ length body
  pub named : AllNamed (drop k body)
  pub good : AllGood vl (machine_of rs)
  pub same : pass vl (drop k body) (so_far rs memory passes calculations) ≡ pass vl body (so_far rs₀ memory₀ passes calculations₀)
  pub long : length memory ≡ length memory₀
  pub few : calculations ≤ calculations₀ + k

pub passing : (vl : ℕ) (body : List Placed) (p : ℕ) (rs : List Register) (memory : List ℕ) (q : ℕ) → 8 ≤ vl → AllNamed body → AllGood vl (machine_of rs)
    → Passing vl body p rs memory q rs memory q 0
passing vl body p rs memory q least nm g = record { least = least; within = omega arith; named = nm; good = g; same = refl; long = refl; few = omega arith }

module _ (vl : ℕ) (body : List Placed) (p : ℕ) (rs₀ : List Register) (memory₀ : List ℕ) (q₀ : ℕ) (rs : List Register) (memory : List ℕ) (q k : ℕ)
    (i : Passing vl body p rs₀ memory₀ q₀ rs memory q k) (below : k < length body) where
  here : pass vl (get_or body k no_step ∷ drop (k + 1) body) (so_far rs memory p q) ≡ pass vl body (so_far rs₀ memory₀ p q₀)
  here = ap (λ cs. pass vl cs (so_far rs memory p q)) (sym (at-step body k below)) ∙ i.same

  both : Named (get_or body k no_step).calculation × AllNamed (drop (k + 1) body)
  unfolding AllNamed
  both = subst AllNamed (at-step body k below) i.named

  pub named_here : Named (get_or body k no_step).calculation
  named_here = both.0

  module _ (why : Why) (f s d : Register) (after : List ℕ)
      (h : Calculated vl (get_or body k no_step).calculation.task memory (reg (machine_of rs) (get_or body k no_step).calculation.first) (reg (machine_of rs) (get_or body k no_step).calculation.second) (reg (machine_of rs) (get_or body k no_step).calculation.destination) why f s d after) where
    pub passing-on : why ≡ Ok tt → Passing vl body p rs₀ memory₀ q₀ (registers_on vl (get_or body k no_step) rs memory p q why f s d after h) after (q + 1) (k + 1)
    passing-on e =
        let c = get_or body k no_step in
        let o = step-on vl c rs memory p q why f s d after h e in
        record {
          least = i.least;
          within = omega arith;
          named = both.1;
          good = subst (λ g. AllGood vl g.world.machine) o (step-good vl c (so_far rs memory p q) i.least both.0 i.good);
          same = sym (pass-next vl c (drop (k + 1) body) (so_far rs memory p q) (ap (λ g. g.verdict) o) ∙ ap (pass vl (drop (k + 1) body)) o) ∙ here;
          long = length-on vl c rs memory p q why f s d after h e ∙ i.long;
          few = omega (arith, i.few);
        }

    pub passing-no : (x : Refusal) → why ≡ Err x
        → (after ≡ memory) × (pass vl body (so_far rs₀ memory₀ p q₀) ≡ record { world = (so_far rs memory p q).world; report = (so_far rs memory p q).report; verdict = refusal_at x (get_or body k no_step).place })
    passing-no x e =
        let c = get_or body k no_step in
        let o = step-no vl c rs memory p q why f s d after h x e in
        (o.0, sym here ∙ pass-stop vl c (drop (k + 1) body) (so_far rs memory p q) x c.place (ap (λ g. g.verdict) o.1) ∙ o.1)

-- a pass that is over
pub passed : (vl : ℕ) (body : List Placed) (p : ℕ) (rs₀ : List Register) (memory₀ : List ℕ) (q₀ : ℕ) (rs : List Register) (memory : List ℕ) (q k : ℕ)
    → Passing vl body p rs₀ memory₀ q₀ rs memory q k → length body ≤ k → pass vl body (so_far rs₀ memory₀ p q₀) ≡ so_far rs memory p q
unfolding pass_by
passed vl body p rs₀ memory₀ q₀ rs memory q k i h =
    sym i.same ∙ ap (λ cs. pass vl cs (so_far rs memory p q)) (lib.ListN.drop_of_length-le body {i = k} h)

-- at most 2^20 stops are to come
come-few : (vl : ℕ) (r : Register) → Good vl r → length (to_come r) ≤ 1048576
unfolding to_come
come-few vl r g = go (is_open r.state) refl
  where
    go : (b : Bool) → is_open r.state ≡ b → length (cond b (drop r.moved (stops (shape_of r))) []) ≤ 1048576
    go true e = omega (arith, length-drop r.moved (stops (shape_of r)), few-stops (shape_of r) (open-covered vl r g e), (g.opened e).0.accepted.few)
    go false e = omega arith

-- between passes: what follows gives what the whole run gives
pub record Passes (vl loop : ℕ) (body : List Placed) (start : World) (rs : List Register) (memory : List ℕ) (passes calculations : ℕ) («open» : Bool) : Type 0 where
  pub running : Running vl loop body (so_far rs memory passes calculations)
  pub told : «open» ≡ is_open (reg (machine_of rs) loop).state
  pub same : onward vl loop body (so_far rs memory passes calculations) ≡ execute vl loop body start
  pub long : length memory ≡ length start.memory
  pub few : passes + length (to_come (reg (machine_of rs) loop)) ≤ 1048576
  pub counted : calculations ≤ 16 * passes

pub passes-begun : (vl loop : ℕ) (body : List Placed) (m : Machine) (memory : List ℕ) («open» : Bool) → 8 ≤ vl → loop < 32 → AllNamed body → AllGood vl m
    → is_loop_register loop body m ≡ true → «open» ≡ is_open (reg m loop).state → Passes vl loop body (record { machine = m; memory = memory }) m.registers memory 0 0 «open»
passes-begun vl loop body m memory «open» l b nm g i o =
    record {
      running = running-begun vl loop body (record { machine = m; memory = memory }) l b nm g i;
      told = o;
      same = refl;
      long = refl;
      few = omega (arith, come-few vl (reg m loop) (g.good loop b));
      counted = omega arith;
    }

module _ (vl loop : ℕ) (body : List Placed) (start : World) (rs₀ : List Register) (memory₀ : List ℕ) (p q₀ : ℕ) («open» : Bool)
    (o : Passes vl loop body start rs₀ memory₀ p q₀ «open») where
  -- the run of a stream that is not open is over
  pub passes_over : «open» ≡ false → so_far rs₀ memory₀ p q₀ ≡ execute vl loop body start
  passes_over e = sym (onward-shut vl loop body (so_far rs₀ memory₀ p q₀) (sym o.told ∙ e)) ∙ o.same

  module _ (e : «open» ≡ true) (rs : List Register) (memory : List ℕ) (q k : ℕ) (i : Passing vl body p rs₀ memory₀ q₀ rs memory q k) where
    -- a pass that was refused is the run's end
    pub passes-no : (x : Refusal) (at : ℕ)
        → pass vl body (so_far rs₀ memory₀ p q₀) ≡ record { world = (so_far rs memory p q).world; report = (so_far rs memory p q).report; verdict = refusal_at x at }
        → record { world = (so_far rs memory p q).world; report = (so_far rs memory p q).report; verdict = refusal_at x at } ≡ execute vl loop body start
    passes-no x at h =
        sym h ∙ sym (onward-refused vl loop body (so_far rs₀ memory₀ p q₀) o.running (sym o.told ∙ e) x at (ap (λ g. g.verdict) h)) ∙ o.same

    module _ (over : length body ≤ k) (most : length body ≤ 16) where
      done : pass vl body (so_far rs₀ memory₀ p q₀) ≡ so_far rs memory p q
      done = passed vl body p rs₀ memory₀ q₀ rs memory q k i over

      pub passes-fewer : length (to_come (reg (machine_of rs) loop)) < length (to_come (reg (machine_of rs₀) loop))
      passes-fewer =
          subst (λ g. length (to_come (reg g.world.machine loop)) < length (to_come (reg (machine_of rs₀) loop))) done
          (pass-fewer vl loop body (so_far rs₀ memory₀ p q₀) o.running (sym o.told ∙ e) (ap (λ g. g.verdict) done))

      -- after one more it holds again
      pub passes_on : (b : Bool) → b ≡ is_open (reg (machine_of rs) loop).state → Passes vl loop body start rs memory (p + 1) q b
      passes_on b t =
          let v = ap (λ g. g.verdict) done in
          record {
            running = subst (λ g. Running vl loop body (counted g)) done (running-on vl loop body (so_far rs₀ memory₀ p q₀) o.running v);
            told = t;
            same = sym (onward-pass vl loop body (so_far rs₀ memory₀ p q₀) o.running (sym o.told ∙ e) v ∙ ap (λ g. onward vl loop body (counted g)) done) ∙ o.same;
            long = i.long ∙ o.long;
            few = omega (arith, passes-fewer, o.few);
            counted = omega (arith, i.few, o.counted, i.within);
          }
