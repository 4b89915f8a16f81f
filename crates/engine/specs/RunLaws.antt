-- A run has a history: the body so many times, and then the first calculations of it.
--
--   Stopped                    calculations that stop at their first, which is refused
--   PassRan, pass-ran          what a pass did
--   WholePass, pass-whole      a pass that is done did the whole body
--   Repeats, repeat-ran            what the passes of a run did
--   ran-good                   the registers are good after it
use Rattle.std.specs.Prelude.{◌≡◌, ℕ, zero, suc, ◌+◌, ◌<◌, ◌≤◌, Bool, true, false, cond, List, [], ◌∷◌, ◌++◌, length, take, drop, refl, Ok, Err}
use Rattle.std.proofs.Common.{sym, ◌∙◌, ap, subst, append_assoc, arith, length-append}
use Rattle.codec.specs.declared.refusal.Refusal.{Refusal}
use Rattle.codec.specs.declared.refusal.Refused.{Refused}
use Rattle.engine.specs.Checks.{Why}
use Rattle.engine.specs.Registers.{is_open, reg}
use Rattle.engine.specs.Calculate.{World, refusal_of, effect}
use Rattle.engine.specs.Run.{Progress, stepped, unless_refused, pass, pass_by, counted, repeat, repeat_by, Verdict, refusal_at}
use Rattle.engine.specs.Good.{AllGood}
use Rattle.engine.specs.HistoryLaws.{AllNamed, Completed, after_all, completed-append, after-append, after-good, times, named-append, named-times, named-take}
use Rattle.engine.specs.declared.run.Placed.{Placed}

-- calculations that stop at their first: it is refused in this world with x, at its place
pub record Stopped (vl : ℕ) (cs : List Placed) (w : World) (x : Refusal) (at : ℕ) : Type 0 where
  pub calculation : Placed
  pub others : List Placed
  pub is : cs ≡ calculation ∷ others
  pub refused : refusal_of vl calculation.calculation w ≡ Err x
  pub place : calculation.place ≡ at

-- what a pass over cs from g to r did: the first `rest` calculations, and then either all are done or the next one is refused
pub record PassRan (vl : ℕ) (cs : List Placed) (g r : Progress) : Type 0 where
  pub rest : ℕ
  pub completed : Completed vl g.world (take rest cs)
  pub world : r.world ≡ after_all vl g.world (take rest cs)
  pub passes : r.report.passes ≡ g.report.passes
  pub calculations : r.report.calculations ≡ g.report.calculations + length (take rest cs)
  pub done : r.verdict ≡ Ok tt → take rest cs ≡ cs
  pub refused : (x : Refusal) (at : ℕ) → r.verdict ≡ refusal_at x at → Stopped vl (drop rest cs) r.world x at

-- two refusals that are the same verdict are the same
same-refused : (x y : Refused) → ◌≡◌ {A = Verdict} (Err x) (Err y) → x ≡ y
same-refused x y e = cc

-- two verdicts that are the same have the same refusal
pub same-refusal : (x y : Refusal) (p q : ℕ) → refusal_at x p ≡ refusal_at y q → x ≡ y
same-refusal x y p q e = ap (λ r. r.refusal) (same-refused (record { refusal = x; place = p }) (record { refusal = y; place = q }) e)

-- two verdicts that are the same have the same place
same_place : (x y : Refusal) (p q : ℕ) → refusal_at x p ≡ refusal_at y q → p ≡ q
same_place x y p q e = ap (λ r. r.place) (same-refused (record { refusal = x; place = p }) (record { refusal = y; place = q }) e)

-- a verdict is not both
pub not-both : {X : Type 0} (x : Refusal) (at : ℕ) (v : Verdict) → v ≡ Ok tt → v ≡ refusal_at x at → X
not-both x at v d e = absurd (let z : ◌≡◌ {A = ℕ} 0 1 = cc in omega arith)

-- what a pass did
pub pass-ran : (vl : ℕ) (cs : List Placed) (g : Progress) → g.verdict ≡ Ok tt → PassRan vl cs g (pass vl cs g)
unfolding pass_by Completed after_all
pass-ran vl [] g v = record {
  rest = 0;
  completed = tt;
  world = refl;
  passes = refl;
  calculations = omega arith;
  done = λ e. refl;
  refused = λ x at e. not-both x at g.verdict v e;
}
pass-ran vl (c ∷ cs) g v = go (refusal_of vl c.calculation g.world) refl (λ h d. pass-ran vl cs h d)
  where
    next : Why → Progress
    next y = stepped y c.place (effect vl c.calculation g.world) g

    go : (y : Why) → refusal_of vl c.calculation g.world ≡ y → ((h : Progress) → h.verdict ≡ Ok tt → PassRan vl cs h (pass vl cs h))
        → PassRan vl (c ∷ cs) g (unless_refused (next y).verdict (next y) (pass vl cs (next y)))
    go (Ok _) e ih =
        let p = ih (next (Ok tt)) refl in
        record {
          rest = suc p.rest;
          completed = (e, p.completed);
          world = p.world;
          passes = p.passes;
          calculations = let q = p.calculations in omega arith;
          done = λ d. ap (λ l. c ∷ l) (p.done d);
          refused = p.refused;
        }
    go (Err x) e ih = record {
      rest = 0;
      completed = tt;
      world = refl;
      passes = refl;
      calculations = omega arith;
      done = λ d. not-both x c.place (refusal_at x c.place) d refl;
      refused =
          λ y at q. record { calculation = c; others = cs; is = refl; refused = e ∙ ap Err (same-refusal x y c.place at q); place = same_place x y c.place at q };
    }

-- what a pass over cs from g to r did that is done: all of them
pub record WholePass (vl : ℕ) (cs : List Placed) (g r : Progress) : Type 0 where
  pub completed : Completed vl g.world cs
  pub world : r.world ≡ after_all vl g.world cs
  pub passes : r.report.passes ≡ g.report.passes
  pub calculations : r.report.calculations ≡ g.report.calculations + length cs

-- a pass that is done did the whole body
pub pass-whole : (vl : ℕ) (cs : List Placed) (g : Progress) → g.verdict ≡ Ok tt → (pass vl cs g).verdict ≡ Ok tt → WholePass vl cs g (pass vl cs g)
pass-whole vl cs g v e =
    let p = pass-ran vl cs g v in
    let f : take p.rest cs ≡ cs = p.done e in
    record {
      completed = subst (Completed vl g.world) f p.completed;
      world = p.world ∙ ap (after_all vl g.world) f;
      passes = p.passes;
      calculations = p.calculations ∙ ap (λ l. g.report.calculations + length l) f;
    }

-- what the passes of a run from g to r did: the body `rounds` times, then its first `rest` calculations, none of them refused; both are
-- counted; each pass began with the loop register's stream open; all is done, or the next calculation is refused
pub record Repeats (vl loop : ℕ) (body : List Placed) (g r : Progress) : Type 0 where
  pub rounds : ℕ
  pub rest : ℕ
  pub completed : Completed vl g.world (times rounds body ++ take rest body)
  pub world : r.world ≡ after_all vl g.world (times rounds body ++ take rest body)
  pub passes : r.report.passes ≡ g.report.passes + rounds
  pub calculations : r.report.calculations ≡ g.report.calculations + length (times rounds body ++ take rest body)
  pub began : (k : ℕ) → k < rounds → is_open (reg (after_all vl g.world (times k body)).machine loop).state ≡ true
  pub done : r.verdict ≡ Ok tt → rest ≡ 0
  pub broken : (x : Refusal) (at : ℕ) → r.verdict ≡ refusal_at x at → is_open (reg (after_all vl g.world (times rounds body)).machine loop).state ≡ true
  pub refused : (x : Refusal) (at : ℕ) → r.verdict ≡ refusal_at x at → Stopped vl (drop rest body) r.world x at

-- a whole pass, then passes that ran: one pass more ran
one_more : (vl loop : ℕ) (body : List Placed) (g h r : Progress) → is_open (reg g.world.machine loop).state ≡ true → WholePass vl body g h
    → Repeats vl loop body (counted h) r → Repeats vl loop body g r
unfolding times after_all
one_more vl loop body g h r o p q =
    let t : List Placed = times q.rounds body ++ take q.rest body in
    let j : (body ++ times q.rounds body) ++ take q.rest body ≡ body ++ t = append_assoc body (times q.rounds body) (take q.rest body) in
    record {
      rounds = suc q.rounds;
      rest = q.rest;
      completed =
          subst (Completed vl g.world) (sym j) (completed-append vl body t g.world p.completed (subst (λ w. Completed vl w t) p.world q.completed));
      world = q.world ∙ ap (λ w. after_all vl w t) p.world ∙ sym (after-append vl body t g.world) ∙ ap (after_all vl g.world) (sym j);
      passes = omega (arith, q.passes, p.passes);
      calculations = omega (arith, q.calculations, p.calculations, ap length j, length-append body t);
      began = began;
      done = q.done;
      broken = λ x at e. later q.rounds (q.broken x at e);
      refused = q.refused;
    }
  where
    later : (k : ℕ) → is_open (reg (after_all vl h.world (times k body)).machine loop).state ≡ true
        → is_open (reg (after_all vl g.world (body ++ times k body)).machine loop).state ≡ true
    later k e =
        ap (λ w. is_open (reg w.machine loop).state) (after-append vl body (times k body) g.world ∙ ap (λ w. after_all vl w (times k body)) (sym p.world)) ∙ e

    began : (k : ℕ) → k < suc q.rounds → is_open (reg (after_all vl g.world (times k body)).machine loop).state ≡ true
    began zero b = o
    began (suc k) b = later k (q.began k (omega arith))

-- from g to g itself no pass ran
none-ran : (vl loop : ℕ) (body : List Placed) (g : Progress) → g.verdict ≡ Ok tt → Repeats vl loop body g g
unfolding times Completed after_all
none-ran vl loop body g v = record {
  rounds = 0;
  rest = 0;
  completed = tt;
  world = refl;
  passes = omega arith;
  calculations = omega arith;
  began = λ k b. absurd (omega arith);
  done = λ e. refl;
  broken = λ x at e. not-both x at g.verdict v e;
  refused = λ x at e. not-both x at g.verdict v e;
}

-- where the first pass is refused, the run did what that pass did
broken-ran : (vl loop : ℕ) (body : List Placed) (g h : Progress) (x : Refusal) (at : ℕ) → is_open (reg g.world.machine loop).state ≡ true
    → h.verdict ≡ refusal_at x at → PassRan vl body g h → Repeats vl loop body g h
unfolding times after_all
broken-ran vl loop body g h x at o e p = record {
  rounds = 0;
  rest = p.rest;
  completed = p.completed;
  world = p.world;
  passes = omega (arith, p.passes);
  calculations = p.calculations;
  began = λ k b. absurd (omega arith);
  done = λ d. not-both x at h.verdict d e;
  broken = λ y to f. o;
  refused = p.refused;
}

-- what the passes of a run did
pub repeat-ran : (vl loop : ℕ) (body : List Placed) (n : ℕ) (g : Progress) → g.verdict ≡ Ok tt → Repeats vl loop body g (repeat vl loop body n g)
unfolding repeat_by
repeat-ran vl loop body zero g v = none-ran vl loop body g v
repeat-ran vl loop body (suc n) g v =
    go (is_open (reg g.world.machine loop).state) refl (pass vl body g).verdict refl (λ h e. repeat-ran vl loop body n h e)
  where
    go : (b : Bool) → is_open (reg g.world.machine loop).state ≡ b → (d : Verdict) → (pass vl body g).verdict ≡ d
        → ((h : Progress) → h.verdict ≡ Ok tt → Repeats vl loop body h (repeat vl loop body n h))
        → Repeats vl loop body g (cond b (unless_refused d (pass vl body g) (repeat vl loop body n (counted (pass vl body g)))) g)
    go false o d e ih = none-ran vl loop body g v
    go true o (Err x) e ih = broken-ran vl loop body g (pass vl body g) x.refusal x.place o e (pass-ran vl body g v)
    go true o (Ok _) e ih = one_more vl loop body g (pass vl body g) _ o (pass-whole vl body g v e) (ih (counted (pass vl body g)) e)

-- the registers are good after it
pub ran-good : (vl loop : ℕ) (body : List Placed) (g r : Progress) → 8 ≤ vl → AllNamed body → AllGood vl g.world.machine → Repeats vl loop body g r → AllGood vl r.world.machine
ran-good vl loop body g r l nm a q =
    subst (λ w. AllGood vl w.machine) (sym q.world)
    (after-good vl (times q.rounds body ++ take q.rest body) g.world l
    (named-append (times q.rounds body) (take q.rest body) (named-times q.rounds body nm) (named-take q.rest body nm))
    a q.completed)
