-- Execute is a run of its calculations in turn.
--
--   turn-at, times-take   a body several times, by its places
--   rounds-turned         a run of so many rounds, and of the first calculations of the body, is one of its calculations in turn
--   execute-turned        execute is one
use Rattle.std.specs.Prelude.{◌≡◌, ℕ, zero, suc, ◌+◌, ◌-◌, ◌*◌, ◌/◌, ◌%◌, ◌<◌, ◌≤◌, true, ◌⊎◌, List, ◌++◌, length, get_or, take, drop, slice_index_or, refl, Ok, Err}
use Rattle.std.proofs.Common.{sym, ◌∙◌, inl, inr, append_assoc, append-nil, mod-eq_of_lt, div-add-mod', div-lt_iff_lt-mul, eq-or-lt_of_le, length-drop, get_or-drop}
use Rattle.std.proofs.Math.Path.{ap}
use native.Mathlib.Omega.{arith}
use Rattle.std.proofs.Math.Nat.{mod-eq-sub-mod}
use Rattle.std.proofs.Math.Decide.{dec_lt}
use Rattle.std.proofs.Math.Arith.{digits_div, digits_mod}
use Rattle.std.proofs.Math.ListN.{length-append, length-take, get_or-append}
use Rattle.std.proofs.Math.Seq.{get_or-take, take-append-add}
use Rattle.codec.specs.TestLaws.{never}
use Rattle.codec.specs.declared.refusal.Refusal.{Refusal}
use Rattle.engine.specs.Members.{get_d_past}
use Rattle.engine.specs.Registers.{is_open, is_finished, to_come, reg}
use Rattle.engine.specs.Calculate.{World, refusal_of}
use Rattle.engine.specs.Run.{Progress, begun, execute, Verdict}
use Rattle.engine.specs.HistoryLaws.{after_all, times}
use Rattle.engine.specs.RunLaws as runs
use Rattle.engine.specs.EndLaws.{Running, execute-finishes}
use Rattle.engine.specs.AllowedLaws.{is-open}
use Rattle.engine.specs.Histories.{no_placed, in_turn}
use Rattle.engine.specs.TurnLaws.{Turned}
use Rattle.engine.specs.declared.register.State.{State}
use Rattle.engine.specs.declared.register.State.TheVariants.{Plain, Configuring, Open, Finished}
use Rattle.engine.specs.declared.run.Placed.{Placed}

-- ---- a body several times

module _ (body : List Placed) where
  -- its length
  times-length : (k : ℕ) → length (times k body) ≡ k * length body
  unfolding times
  times-length zero = omega arith
  times-length (suc k) = omega (arith, length-append body (times k body), times-length k)

  -- its calculations are those in turn
  pub turn-at : (rounds rest k : ℕ) → k < length (times rounds body ++ take rest body)
      → slice_index_or (times rounds body ++ take rest body) k no_placed ≡ in_turn body k
  unfolding times
  turn-at zero rest k h =
      let l : k < length body = omega (arith, length-take rest body) in
      get_or-take rest body k no_placed (omega (arith, length-take rest body)) ∙ ap (λ j. get_or body j no_placed) (sym (mod-eq_of_lt l))
  turn-at (suc rounds) rest k h = go (turn-at rounds rest (k - length body)) (dec_lt k (length body))
    where
      t : List Placed
      t = times rounds body ++ take rest body

      j : (body ++ times rounds body) ++ take rest body ≡ body ++ t
      j = append_assoc body (times rounds body) (take rest body)

      go : (k - length body < length t → slice_index_or t (k - length body) no_placed ≡ in_turn body (k - length body)) → Dec (k < length body)
          → slice_index_or ((body ++ times rounds body) ++ take rest body) k no_placed ≡ in_turn body k
      go ih (yes p) =
          ap (λ l. get_or l k no_placed) j ∙ get_or-append body t no_placed k p ∙ ap (λ i. get_or body i no_placed) (sym (mod-eq_of_lt p))
      go ih (no p) =
          let m : length body ≤ k = omega arith in
          ap (λ l. get_or l k no_placed) j
          ∙ get_d_past no_placed body t k m
          ∙ ih (omega (arith, ap length j, length-append body t))
          ∙ ap (λ i. get_or body i no_placed) (sym (mod-eq-sub-mod m))

  -- and its front is the body fewer times
  pub times-take : (j rounds : ℕ) (l : List Placed) → j ≤ rounds → take (j * length body) (times rounds body ++ l) ≡ times j body
  unfolding times
  times-take zero rounds l h = let z : 0 * length body ≡ 0 = omega arith in ap (λ k. take k (times rounds body ++ l)) z
  times-take (suc j) zero l h = absurd (omega arith)
  times-take (suc j) (suc rounds) l h =
      let z : suc j * length body ≡ length body + j * length body = omega arith in
      ap (λ k. take k ((body ++ times rounds body) ++ l)) z
      ∙ ap (take (length body + j * length body)) (append_assoc body (times rounds body) l)
      ∙ take-append-add body (times rounds body ++ l) (j * length body)
      ∙ ap (λ m. body ++ m) (times-take j rounds l (omega arith))

-- a finished state by its test
finished-state : (k : State) → is_finished k ≡ true → k ≡ Finished
finished-state Plain e = never e
finished-state Configuring e = never e
finished-state Open e = never e
finished-state Finished e = refl

-- ---- execute

-- a run of so many rounds, and of the first calculations of the body
module _ (vl loop : ℕ) (body : List Placed) (w : World) (r : Progress) (q : runs.Repeats vl loop body (begun w) r) (some : 1 ≤ length body)
    (finished : r.verdict ≡ Ok tt → is_finished (reg r.world.machine loop).state ≡ true) where
  -- its calculations
  abbrev all : List Placed
  all = times q.rounds body ++ take q.rest body

  -- the first calculations are not the whole body
  less : q.rest < length body
  less = go r.verdict refl
    where
      go : (v : Verdict) → r.verdict ≡ v → q.rest < length body
      go (Ok _) v = omega (arith, q.done v)
      go (Err x) v = let s = q.refused x.refusal x.place v in omega (arith, ap length s.is, length-drop q.rest body)

  -- their number
  long : length all ≡ q.rounds * length body + q.rest
  long = omega (arith, length-append (times q.rounds body) (take q.rest body), times-length body q.rounds, length-take q.rest body, less)

  -- how many are done of the body that is not
  over : length all % length body ≡ q.rest
  over = ap (λ n. n % length body) long ∙ digits_mod q.rounds less

  -- each round began with the loop register's stream open; so did the body of which the first calculations are done
  opened : (j : ℕ) → j ≤ q.rounds → j * length body < length all → (reg (after_all vl w (times j body)).machine loop).state ≡ Open
  opened j h b = (is-open _).0 (go (eq-or-lt_of_le h) r.verdict refl)
    where
      go : (j ≡ q.rounds) ⊎ (j < q.rounds) → (v : Verdict) → r.verdict ≡ v → is_open (reg (after_all vl w (times j body)).machine loop).state ≡ true
      go (inr l) v e = q.began j l
      go (inl p) (Ok _) e = absurd (omega (arith, long, q.done e, ap (λ n. n * length body) p))
      go (inl p) (Err x) e = ap (λ n. is_open (reg (after_all vl w (times n body)).machine loop).state) p ∙ q.broken x.refusal x.place e

  -- the same by the number of calculations
  began : (k : ℕ) → k < length all → k % length body ≡ 0 → (reg (after_all vl w (take k all)).machine loop).state ≡ Open
  began k h e =
      let j : ℕ = k / length body in
      let p : j * length body ≡ k = omega (arith, div-add-mod' k (length body)) in
      let m : j < suc q.rounds = (div-lt_iff_lt-mul {k = length body} {x = k} {y = suc q.rounds} some).1 (omega (arith, long, less)) in
      ap (λ l. (reg (after_all vl w l).machine loop).state) (ap (λ n. take n all) (sym p) ∙ times-take body j q.rounds (take q.rest body) (omega arith))
      ∙ opened j (omega arith) (omega arith)

  -- the calculation that is refused is the next in turn
  next : (x : Refusal) (at : ℕ) (s : runs.Stopped vl (drop q.rest body) r.world x at) → in_turn body (length all) ≡ s.calculation
  next x at s =
      let z : q.rest + 0 ≡ q.rest = omega arith in
      ap (λ i. get_or body i no_placed) (over ∙ sym z) ∙ sym (get_or-drop q.rest body 0 no_placed) ∙ ap (λ l. get_or l 0 no_placed) s.is

  -- after whole rounds
  whole : length all % length body ≡ 0 → r.world ≡ after_all vl w (times q.rounds body)
  whole e = q.world ∙ ap (after_all vl w) (ap (λ n. times q.rounds body ++ take n body) (sym over ∙ e) ∙ append-nil (times q.rounds body))

  -- such a run is one of its calculations in turn
  pub rounds-turned : Turned vl loop body w r
  rounds-turned = record {
    calculations = all;
    turns = λ k h. turn-at body q.rounds q.rest k h;
    completed = q.completed;
    world = q.world;
    count = omega (arith, q.calculations);
    passes = omega (arith, q.passes, ap (λ n. n / length body) long ∙ digits_div q.rounds less);
    began = began;
    done = λ v. (over ∙ q.done v, finished-state _ (finished v));
    refused = λ x at v.
        let s = q.refused x at v in
        let n = next x at s in (
          ap (λ c. refusal_of vl c.calculation r.world) n ∙ s.refused,
          sym (ap (λ c. c.place) n ∙ s.place),
          λ e. ap (λ y. (reg y.machine loop).state) (whole e) ∙ (is-open _).0 (q.broken x at v),
        );
  }

-- execute is a run of its calculations in turn
pub execute-turned : (vl loop : ℕ) (body : List Placed) (w : World) → Running vl loop body (begun w) → 1 ≤ length body
    → Turned vl loop body w (execute vl loop body w)
execute-turned vl loop body w g some =
    rounds-turned vl loop body w (execute vl loop body w) (runs.repeat-ran vl loop body (length (to_come (reg w.machine loop))) (begun w) refl) some
    (execute-finishes vl loop body w g)
