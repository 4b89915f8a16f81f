-- Every run ends.
--
--   Running, running-begun, running-on what holds of a run before each pass
--   repeat-shut, repeat-open           one turn of a run
--   pass-fewer                         a pass that is done leaves fewer stops to come of the loop register's stream
--   finishes                           as many passes as there are stops to come are enough: done, the stream is finished
--   enough                             more passes change nothing
--   onward, onward-shut, onward-open, onward-refused, onward-pass   a run from here to its end; it stays the same after one more pass
--   execute-ended, execute-open, execute-finishes, execute-good   a whole run: its equations without a bound
use Rattle.std.specs.Prelude.{◌≡◌, ℕ, zero, suc, ◌<◌, ◌≤◌, Bool, true, false, cond, ◌&&◌, ◌||◌, List, length, Ok, Err}
use Rattle.std.proofs.Math.Path.{refl, sym, ap}
use Rattle.std.proofs.Common.{◌∙◌, subst, arith}
use Rattle.codec.specs.TestLaws.{both, and_both}
use Rattle.codec.specs.declared.refusal.Refusal.{Refusal}
use Rattle.engine.specs.Registers.{is_open, is_finished, is_load, to_come, reg}
use Rattle.engine.specs.Calculate.{World}
use Rattle.engine.specs.Run.{Progress, begun, unless_refused, pass, counted, repeat, repeat_by, execute, Verdict, refusal_at}
use Rattle.engine.specs.Sheets.{names, is_loop_register}
use Rattle.engine.specs.Good.{AllGood}
use Rattle.engine.specs.ComeLaws.{IsStream, open-some, none-shut, shut-finished}
use Rattle.engine.specs.HistoryLaws.{AllNamed, after-good, kind-kept, stream-kept, fewer}
use Rattle.engine.specs.RunLaws.{not-both, pass-whole, repeat-ran, ran-good}
use Rattle.engine.specs.declared.register.Register.{Register}
use Rattle.engine.specs.declared.run.Placed.{Placed}

-- what holds of a run before each pass, and at its end: the body names the loop register as a source, which has a load stream, open or
-- finished; all registers are good; nothing was refused
pub record Running (vl loop : ℕ) (body : List Placed) (g : Progress) : Type 0 where
  pub lanes : 8 ≤ vl
  pub below : loop < 32
  pub named : AllNamed body
  pub source : names loop body ≡ true
  pub good : AllGood vl g.world.machine
  pub load : is_load (reg g.world.machine loop).kind ≡ true
  pub stream : IsStream (reg g.world.machine loop)
  pub verdict : g.verdict ≡ Ok tt

-- before the first pass, if 16 is not given
pub running-begun : (vl loop : ℕ) (body : List Placed) (w : World) → 8 ≤ vl → loop < 32 → AllNamed body → AllGood vl w.machine
    → is_loop_register loop body w.machine ≡ true → Running vl loop body (begun w)
running-begun vl loop body w l h nm g e =
    let r : Register = reg w.machine loop in
    let a = both ((is_open r.state || is_finished r.state) && is_load r.kind) (names loop body) e in
    let b = both (is_open r.state || is_finished r.state) (is_load r.kind) a.0 in
    record { lanes = l; below = h; named = nm; source = a.1; good = g; load = b.1; stream = b.0; verdict = refl }

module _ (vl loop : ℕ) (body : List Placed) where
  -- where the loop register's stream is not open a run does nothing
  pub repeat-shut : (n : ℕ) (g : Progress) → is_open (reg g.world.machine loop).state ≡ false → repeat vl loop body n g ≡ g
  unfolding repeat_by
  repeat-shut zero g e = refl
  repeat-shut (suc n) g e =
      ap (λ b. cond b (unless_refused (pass vl body g).verdict (pass vl body g) (repeat vl loop body n (counted (pass vl body g)))) g) e

  -- where it is open a run does a pass, and the rest unless that is refused
  pub repeat-open : (n : ℕ) (g : Progress) → is_open (reg g.world.machine loop).state ≡ true
      → repeat vl loop body (suc n) g ≡ unless_refused (pass vl body g).verdict (pass vl body g) (repeat vl loop body n (counted (pass vl body g)))
  unfolding repeat_by
  repeat-open n g e =
      ap (λ b. cond b (unless_refused (pass vl body g).verdict (pass vl body g) (repeat vl loop body n (counted (pass vl body g)))) g) e

  -- after a pass that is done it holds again
  pub running-on : (g : Progress) → Running vl loop body g → (pass vl body g).verdict ≡ Ok tt → Running vl loop body (counted (pass vl body g))
  running-on g r e =
      let p = pass-whole vl body g r.verdict e in
      let h : loop < length g.world.machine.registers = omega (arith, r.below, r.good.all) in
      record {
        lanes = r.lanes;
        below = r.below;
        named = r.named;
        source = r.source;
        good = subst (λ w. AllGood vl w.machine) (sym p.world) (after-good vl body g.world r.lanes r.named r.good p.completed);
        load = subst (λ w. is_load (reg w.machine loop).kind ≡ true) (sym p.world) (ap is_load (kind-kept vl body g.world loop h p.completed) ∙ r.load);
        stream = subst (λ w. IsStream (reg w.machine loop)) (sym p.world) (stream-kept vl body g.world loop h p.completed r.stream);
        verdict = e;
      }

  -- and leaves fewer stops to come of the loop register's stream
  pub pass-fewer : (g : Progress) → Running vl loop body g → is_open (reg g.world.machine loop).state ≡ true → (pass vl body g).verdict ≡ Ok tt
      → length (to_come (reg (pass vl body g).world.machine loop)) < length (to_come (reg g.world.machine loop))
  pass-fewer g r o e =
      let p = pass-whole vl body g r.verdict e in
      subst (λ w. length (to_come (reg w.machine loop)) < length (to_come (reg g.world.machine loop))) (sym p.world)
      (fewer vl body g.world loop r.lanes r.below r.named r.good p.completed (and_both (is_open (reg g.world.machine loop).state) (is_load (reg g.world.machine loop).kind) o r.load) r.source)

  -- a running register of which none is to come is not open
  none_open : (g : Progress) → Running vl loop body g → length (to_come (reg g.world.machine loop)) ≤ 0 → is_open (reg g.world.machine loop).state ≡ false
  none_open g r h = none-shut vl (reg g.world.machine loop) (r.good.good loop r.below) h

  -- as many passes as there are stops to come are enough: if no calculation is refused, the stream is finished
  pub finishes : (n : ℕ) (g : Progress) → Running vl loop body g → length (to_come (reg g.world.machine loop)) ≤ n
      → (repeat vl loop body n g).verdict ≡ Ok tt → is_finished (reg (repeat vl loop body n g).world.machine loop).state ≡ true
  unfolding repeat_by
  finishes zero g r h v = shut-finished (reg g.world.machine loop).state r.stream (none_open g r h)
  finishes (suc n) g r h v =
      go (is_open (reg g.world.machine loop).state) refl (pass vl body g).verdict refl v (finishes n (counted (pass vl body g)))
    where
      q : Progress
      q = pass vl body g

      go : (b : Bool) → is_open (reg g.world.machine loop).state ≡ b → (d : Verdict) → q.verdict ≡ d
          → (cond b (unless_refused d q (repeat vl loop body n (counted q))) g).verdict ≡ Ok tt
          → (Running vl loop body (counted q) → length (to_come (reg q.world.machine loop)) ≤ n
          → (repeat vl loop body n (counted q)).verdict ≡ Ok tt → is_finished (reg (repeat vl loop body n (counted q)).world.machine loop).state ≡ true)
          → is_finished (reg (cond b (unless_refused d q (repeat vl loop body n (counted q))) g).world.machine loop).state ≡ true
      go false o d e v ih = shut-finished (reg g.world.machine loop).state r.stream o
      go true o (Err x) e v ih = not-both x.refusal x.place q.verdict v e
      go true o (Ok _) e v ih = ih (running-on g r e) (omega (arith, pass-fewer g r o e)) v

  -- more passes than there are stops to come change nothing
  pub enough : (n m : ℕ) (g : Progress) → Running vl loop body g → length (to_come (reg g.world.machine loop)) ≤ n
      → length (to_come (reg g.world.machine loop)) ≤ m → repeat vl loop body n g ≡ repeat vl loop body m g
  unfolding repeat_by
  enough zero m g r h k = sym (repeat-shut m g (none_open g r h))
  enough (suc n) zero g r h k = repeat-shut (suc n) g (none_open g r k)
  enough (suc n) (suc m) g r h k =
      go (is_open (reg g.world.machine loop).state) refl (pass vl body g).verdict refl (enough n m (counted (pass vl body g)))
    where
      q : Progress
      q = pass vl body g

      go : (b : Bool) → is_open (reg g.world.machine loop).state ≡ b → (d : Verdict) → q.verdict ≡ d
          → (Running vl loop body (counted q) → length (to_come (reg q.world.machine loop)) ≤ n → length (to_come (reg q.world.machine loop)) ≤ m
          → repeat vl loop body n (counted q) ≡ repeat vl loop body m (counted q))
          → cond b (unless_refused d q (repeat vl loop body n (counted q))) g ≡ cond b (unless_refused d q (repeat vl loop body m (counted q))) g
      go false o d e ih = refl
      go true o (Err x) e ih = refl
      go true o (Ok _) e ih = ih (running-on g r e) (omega (arith, pass-fewer g r o e)) (omega (arith, pass-fewer g r o e))

  -- a run from here to its end
  abbrev pub onward : Progress → Progress
  onward g = repeat vl loop body (length (to_come (reg g.world.machine loop))) g

  -- it is at its end where the stream is not open
  pub onward-shut : (g : Progress) → is_open (reg g.world.machine loop).state ≡ false → onward g ≡ g
  onward-shut g o = repeat-shut (length (to_come (reg g.world.machine loop))) g o

  -- where the stream is open, it is one pass and, unless that is refused, what follows
  pub onward-open : (g : Progress) → Running vl loop body g → is_open (reg g.world.machine loop).state ≡ true
      → onward g ≡ unless_refused (pass vl body g).verdict (pass vl body g) (onward (counted (pass vl body g)))
  onward-open g r o = go (length (to_come (reg g.world.machine loop))) refl
    where
      q : Progress
      q = pass vl body g

      same : (n : ℕ) → length (to_come (reg g.world.machine loop)) ≡ suc n → (d : Verdict) → q.verdict ≡ d
          → unless_refused d q (repeat vl loop body n (counted q)) ≡ unless_refused d q (onward (counted q))
      same n e (Err x) f = refl
      same n e (Ok _) f = enough n (length (to_come (reg q.world.machine loop))) (counted q) (running-on g r f) (omega (arith, pass-fewer g r o f)) (omega arith)

      go : (n : ℕ) → length (to_come (reg g.world.machine loop)) ≡ n → repeat vl loop body n g ≡ unless_refused q.verdict q (onward (counted q))
      go zero e = absurd (omega (arith, open-some vl (reg g.world.machine loop) (r.good.good loop r.below) o))
      go (suc n) e = repeat-open n g o ∙ same n e q.verdict refl

  -- it ends with a pass that is refused
  pub onward-refused : (g : Progress) → Running vl loop body g → is_open (reg g.world.machine loop).state ≡ true
      → (x : Refusal) (at : ℕ) → (pass vl body g).verdict ≡ refusal_at x at → onward g ≡ pass vl body g
  onward-refused g r o x at e = onward-open g r o ∙ ap (λ d. unless_refused d (pass vl body g) (onward (counted (pass vl body g)))) e

  -- it stays the same after one more pass that is done
  pub onward-pass : (g : Progress) → Running vl loop body g → is_open (reg g.world.machine loop).state ≡ true
      → (pass vl body g).verdict ≡ Ok tt → onward g ≡ onward (counted (pass vl body g))
  onward-pass g r o e = onward-open g r o ∙ ap (λ d. unless_refused d (pass vl body g) (onward (counted (pass vl body g)))) e

  -- a run whose stream is not open does nothing
  pub execute-ended : (w : World) → is_open (reg w.machine loop).state ≡ false → execute vl loop body w ≡ begun w
  execute-ended w o = onward-shut (begun w) o

  -- one whose stream is open does a pass and, unless that is refused, counts it and goes on
  pub execute-open : (w : World) → Running vl loop body (begun w) → is_open (reg w.machine loop).state ≡ true
      → execute vl loop body w ≡ unless_refused (pass vl body (begun w)).verdict (pass vl body (begun w)) (onward (counted (pass vl body (begun w))))
  execute-open w r o = onward-open (begun w) r o

  -- a run that is not refused ends with the loop register's stream finished
  pub execute-finishes : (w : World) → Running vl loop body (begun w) → (execute vl loop body w).verdict ≡ Ok tt
      → is_finished (reg (execute vl loop body w).world.machine loop).state ≡ true
  execute-finishes w r v = finishes (length (to_come (reg w.machine loop))) (begun w) r (omega arith) v

  -- its registers are good
  pub execute-good : (w : World) → Running vl loop body (begun w) → AllGood vl (execute vl loop body w).world.machine
  execute-good w r = ran-good vl loop body (begun w) _ r.lanes r.named r.good (repeat-ran vl loop body (length (to_come (reg w.machine loop))) (begun w) refl)
