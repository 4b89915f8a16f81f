-- Promise 1, proved: every sheet of bytes, vector length and memory has exactly one right answer, and the run gives it.
--
--   prepared, over-from .. last-from, answered   how a sheet goes on behind operations that are done, and its answer
--   sheet-runs                   a sheet that ends in a run
--   only                         a right answer is the run's
--   right-over .. right-from, right   the run's answer is right
--   encoded                      a sheet that is done is the encodings of what was read
--   cut-done                     the sheet cut behind operations that are done
--   promise1
use Rattle.std.proofs.Common.{◌≡◌, ℕ, zero, suc, ◌-◌, ◌<◌, ◌≤◌, Bool, true, false, cond, ltb, ◌⊎◌, List, [], ◌∷◌, ◌++◌, length, take, sym, refl, ap, ◌∙◌, subst, inl, inr, arith, length-take-le, ltb-false, ltb-true, le-ltb, lt-ltb, Ok, Err}
use Rattle.std.specs.Prelude.{Ok, Err}
use Rattle.codec.specs.TestLaws.{never}
use Rattle.codec.specs.Refusals.{is-numbered}
use Rattle.codec.specs.NumberLaws.{AreBytes, Stands, stands-join}
use Rattle.codec.specs.StandingLaws.{stands-all}
use Rattle.codec.specs.Operations.{operation_at, operation_bytes, Decoded}
use Rattle.codec.specs.declared.operation.Operation.{Operation}
use Rattle.codec.specs.declared.operation.Operation.TheVariants as op
use Rattle.codec.specs.declared.refusal.Refusal.{Refusal}
use Rattle.codec.specs.declared.refusal.Refusal.TheVariants.{OutOfRange, Lengths, LoopRegister}
use Rattle.engine.specs.Checks.{Why}
use Rattle.engine.specs.Registers.{fresh_machine, reg}
use Rattle.engine.specs.Configure.{register_of, why_not}
use Rattle.engine.specs.Calculate.{World}
use Rattle.engine.specs.Run.{Progress, begun, execute, refusal_at}
use Rattle.engine.specs.Sheets.{Ending, over, runs, refused, Calculations, whole, broken, is_loop_register, body_at, ending_of, Prepared, on_decoded, prepare, allowed, on_ending, refused_at, run}
use Rattle.engine.specs.GoodLaws.{fresh-machine-good}
use Rattle.engine.specs.EndLaws.{Running}
use Rattle.engine.specs.SheetLaws.{onward, onward-next, onward-over, prepare-onward, run-lengths, run_ends, Passes, run-passes}
use Rattle.engine.specs.Allowed.{Fits, Accepts}
use Rattle.engine.specs.Reasons.{OperationRefused}
use Rattle.engine.specs.ReasonLaws.{operation-refused}
use Rattle.engine.specs.AllowedLaws.{fails, fits-allowed, accepts-clear, loops-on}
use Rattle.engine.specs.Histories.{Ran}
use Rattle.engine.specs.RanLaws.{execute-ran, ran-one}
use Rattle.engine.specs.Promise1.{Unread, Configures, OperationAt, after, Turns, BodyAt, LoopsOn, RunAt, world, DoneBefore, Right, Encoded, Promise1}
use Rattle.engine.specs.ReadingLaws.{read-written, unread-refused, refused-unread}
use Rattle.engine.specs.StandLaws.{written_on, decoded-refused, onward-written, turns-onward, turns-snoc, turns-on, body-on, body-whole, body-broken, Breaks, body-either, turns-cut, bytes_cut, turns-bytes, body-bytes}
use Rattle.engine.specs.declared.register.Machine.{Machine}
use Rattle.engine.specs.declared.run.Placed.{Placed}

-- the machine and the ending that the operations of a sheet leave
abbrev left : Machine → Ending → Prepared
left m d = record { machine = m; ending = d }

module _ (s : List ℕ) (p : AreBytes s) (os : List Operation) (at : ℕ) (m : Machine) (t : DoneBefore s os at m) where
  -- the operations of a sheet end as they do from a place on, once those before it are done
  prepared : (d : Ending) → onward s at m ≡ left m d → prepare s fresh_machine ≡ left m d
  prepared d e = prepare-onward s fresh_machine ∙ turns-onward s 0 fresh_machine os at m p t ∙ e

  -- how the sheet goes on from there: no byte is left
  over-from : at ≡ length s → onward s at m ≡ left m over
  over-from e = onward-over s at m (omega arith)

  -- an operation that cannot be read
  unread-from : (x : Refusal) → at < length s → Unread s at x → onward s at m ≡ left m (refused x at)
  unread-from x h u = onward-next s at m p h ∙ ap (λ d. on_decoded s at m d (onward s)) (unread-refused s at p x u)

  -- one that is refused
  refused-from : (o : Operation) (to : ℕ) (x : Refusal) → OperationAt s at o to → OperationRefused o (reg m (register_of o)) x → onward s at m ≡ left m (refused x at)
  refused-from o to x w f = onward-written s at m o to p w ∙ decoded-refused s at m o (record { at = to }) (onward s) x f

  -- a run, by what its body is
  run-from : (loop count from : ℕ) (r : Calculations) → OperationAt s at (op.Run loop count) from → body_at s count from ≡ r → onward s at m ≡ left m (ending_of s at loop m r)
  run-from loop count from r w e = onward-written s at m (op.Run loop count) from p w ∙ ap (λ b. left m (ending_of s at loop m b)) e

  -- one whose body is read whole
  whole_from : (loop : ℕ) (cs : List Placed) (to : ℕ) → RunAt s at loop cs to → onward s at m ≡ left m (ending_of s at loop m (whole cs to))
  whole_from loop cs to r = run-from loop (length cs) r.from (whole cs to) r.written (body-whole s r.from cs to r.body)

  -- bytes after it
  trailing-from : (loop : ℕ) (cs : List Placed) (to : ℕ) → RunAt s at loop cs to → to < length s → onward s at m ≡ left m (refused OutOfRange to)
  trailing-from loop cs to r h = whole_from loop cs to r ∙ rw (lt-ltb to (length s) h)

  -- none
  last-from : (loop : ℕ) (cs : List Placed) (b : Bool) → RunAt s at loop cs (length s) → is_loop_register loop cs m ≡ b
      → onward s at m ≡ left m (cond b (runs loop cs) (refused LoopRegister at))
  last-from loop cs b r e = whole_from loop cs (length s) r ∙ rw (le-ltb (length s) (length s) (omega arith), e)

  -- the answer
  answered : (vl : ℕ) (memory : List ℕ) (d : Ending) → Fits vl (length memory) → onward s at m ≡ left m d → run vl s memory ≡ on_ending vl (world m memory) d
  answered vl memory d f e =
      let q = prepared d e in
      run_ends fresh_machine vl s memory d ((fits-allowed vl (length memory)).1 f) (ap (λ r. r.ending) q)
      ∙ ap (λ r. on_ending vl (world r.machine memory) d) q

-- a sheet that ends in a run does its passes, which are in good order before the first
pub record Runs (vl : ℕ) (s memory : List ℕ) (m : Machine) (loop : ℕ) (cs : List Placed) : Type 0 where
  pub machine : (prepare s fresh_machine).machine ≡ m
  pub executes : run vl s memory ≡ execute vl loop cs (world m memory)
  pub running : Running vl loop cs (begun (world m memory))
  pub some : 1 ≤ length cs

-- such is one whose run is read whole, with no byte behind it and a right loop register
pub sheet-runs : (vl : ℕ) (s memory : List ℕ) (p : AreBytes s) (os : List Operation) (at : ℕ) (m : Machine) (loop : ℕ) (cs : List Placed) → DoneBefore s os at m
    → Fits vl (length memory) → RunAt s at loop cs (length s) → LoopsOn loop cs m → Runs vl s memory m loop cs
sheet-runs vl s memory p os at m loop cs t f r l =
    let e : onward s at m ≡ left m (runs loop cs) = last-from s p os at m t loop cs true r ((loops-on loop cs m).1 l) in
    let q = prepared s p os at m t (runs loop cs) e in
    let k : Passes fresh_machine vl s memory loop cs = run-passes fresh_machine vl s memory loop cs p (fresh-machine-good vl) ((fits-allowed vl (length memory)).1 f) (ap (λ r. r.ending) q) in
    record {
      machine = ap (λ r. r.machine) q;
      executes = answered s p os at m t vl memory (runs loop cs) f e;
      running = subst (λ r. Running vl loop cs (begun (world r.machine memory))) q k.running;
      some = k.follows.some;
    }

module _ (vl : ℕ) (s memory : List ℕ) (p : AreBytes s) where
  -- a right answer is the run's
  only : (r : Progress) → Right vl s memory r → r ≡ run vl s memory
  only r (Right.lengths n x k e) = e ∙ ap (λ y. refused_at (world fresh_machine memory) y 0) (is-numbered x 15 k refl) ∙ sym (run-lengths fresh_machine vl s memory (fails _ (fits-allowed vl (length memory)) n))
  only r (Right.over f os m t e) = e ∙ sym (answered s p os (length s) m t vl memory over f (over-from s p os (length s) m t refl))
  only r (Right.unread f os at m x t h u e) = e ∙ sym (answered s p os at m t vl memory (refused x at) f (unread-from s p os at m t x h u))
  only r (Right.refused f os at m o to x t w c e) = e ∙ sym (answered s p os at m t vl memory (refused x at) f (refused-from s p os at m t o to x w c))
  only r (Right.broken f os at m loop count from cs place x t w b h u e) =
      e
      ∙ sym (answered s p os at m t vl memory (refused x place) f (run-from s p os at m t loop count from (broken x place) w (body-broken s count from cs place x p b h u)))
  only r (Right.trailing f os at m loop cs to x t w h k e) =
      e ∙ ap (λ y. refused_at (world m memory) y to) (is-numbered x 2 k refl) ∙ sym (answered s p os at m t vl memory (refused OutOfRange to) f (trailing-from s p os at m t loop cs to w h))
  only r (Right.no_loop f os at m loop cs x t w n k e) =
      e ∙ ap (λ y. refused_at (world m memory) y at) (is-numbered x 16 k refl) ∙ sym (answered s p os at m t vl memory (refused LoopRegister at) f (last-from s p os at m t loop cs false w (fails _ (loops-on loop cs m) n)))
  only r (Right.ran f os at m loop cs t w l h) =
      let k = sheet-runs vl s memory p os at m loop cs t f w l in
      ran-one vl loop cs (world m memory) k.running k.some r (execute vl loop cs (world m memory)) h
      (execute-ran vl loop cs (world m memory) k.running k.some)
      ∙ sym k.executes

  module _ (f : Fits vl (length memory)) (os : List Operation) (at : ℕ) (m : Machine) (t : DoneBefore s os at m) where
    -- no byte is left
    right-over : at ≡ length s → Right vl s memory (run vl s memory)
    right-over e = Right.over f os m (subst (λ k. DoneBefore s os k m) e t) (answered s p os at m t vl memory over f (over-from s p os at m t e))

    -- a run, once its body is read: bytes after it, then 16
    right-run : (loop : ℕ) (cs : List Placed) (to : ℕ) → RunAt s at loop cs to → to ≤ length s → Right vl s memory (run vl s memory)
    right-run loop cs to w h = trails (ltb to (length s)) refl
      where
        loops : (e : to ≡ length s) (b : Bool) → is_loop_register loop cs m ≡ b → Right vl s memory (run vl s memory)
        loops e false q =
            let v : RunAt s at loop cs (length s) = subst (RunAt s at loop cs) e w in
            Right.no_loop f os at m loop cs LoopRegister t v (λ l. never (sym q ∙ (loops-on loop cs m).1 l)) refl
            (answered s p os at m t vl memory (refused LoopRegister at) f (last-from s p os at m t loop cs false v q))
        loops e true q =
            let v : RunAt s at loop cs (length s) = subst (RunAt s at loop cs) e w in
            let l : LoopsOn loop cs m = (loops-on loop cs m).0 q in
            let k = sheet-runs vl s memory p os at m loop cs t f v l in
            Right.ran f os at m loop cs t v l
            (subst (Ran vl loop cs (world m memory)) (sym k.executes) (execute-ran vl loop cs (world m memory) k.running k.some))

        trails : (b : Bool) → ltb to (length s) ≡ b → Right vl s memory (run vl s memory)
        trails true e =
            let k : to < length s = ltb-true to (length s) e in
            Right.trailing f os at m loop cs to OutOfRange t w k refl
            (answered s p os at m t vl memory (refused OutOfRange to) f (trailing-from s p os at m t loop cs to w k))
        trails false e = loops (omega (arith, ltb-false to (length s) e)) (is_loop_register loop cs m) refl

    -- its body
    right-body : (loop count from : ℕ) → OperationAt s at (op.Run loop count) from → Right vl s memory (run vl s memory)
    right-body loop count from w = go (body-either s count from p)
      where
        go : ((cs : List Placed) × (to : ℕ) × BodyAt s from cs to × (length cs ≡ count)) ⊎ Breaks s count from → Right vl s memory (run vl s memory)
        go (inl (cs, to, b, e)) =
            right-run loop cs to (record { from = from; written = subst (λ n. OperationAt s at (op.Run loop n) from) (sym e) w; body = b })
            (body-on s from cs to p w.stands.within b).1
        go (inr b) =
            let x : Refusal = b.refusal in
            let e = body-broken s count from b.calculations b.place x p b.body b.fewer b.fault in
            Right.broken f os at m loop count from b.calculations b.place x t w b.body b.fewer b.fault
            (answered s p os at m t vl memory (refused x b.place) f (run-from s p os at m t loop count from (broken x b.place) w e))

    -- an operation that configures: refused, or followed by the rest
    right-configures : (o : Operation) (to : ℕ) → Configures o → OperationAt s at o to
        → (Accepts o (reg m (register_of o)) → Right vl s memory (run vl s memory)) → Right vl s memory (run vl s memory)
    right-configures o to c w rest = go (why_not o m) refl
      where
        go : (y : Why) → why_not o m ≡ y → Right vl s memory (run vl s memory)
        go (Ok _) e = rest ((accepts-clear o m c).0 e)
        go (Err x) e =
            let h : OperationRefused o (reg m (register_of o)) x = (operation-refused o m x).0 e in
            Right.refused f os at m o to x t w h (answered s p os at m t vl memory (refused x at) f (refused-from s p os at m t o to x w h))

    -- an operation, or why it cannot be read
    right-next : at < length s → ((o : Operation) (to : ℕ) → OperationAt s at o to → Accepts o (reg m (register_of o)) → Right vl s memory (run vl s memory))
        → Right vl s memory (run vl s memory)
    right-next h rest = go (operation_at s at) refl
      where
        operation : (o : Operation) (to : ℕ) → OperationAt s at o to → Right vl s memory (run vl s memory)
        operation (op.Open g b) to w = right-configures (op.Open g b) to tt w (rest (op.Open g b) to w)
        operation (op.Dimension d) to w = right-configures (op.Dimension d) to tt w (rest (op.Dimension d) to w)
        operation (op.Modifier d) to w = right-configures (op.Modifier d) to tt w (rest (op.Modifier d) to w)
        operation (op.End i) to w = right-configures (op.End i) to tt w (rest (op.End i) to w)
        operation (op.Run loop count) to w = right-body loop count to w

        go : (d : Decoded) → operation_at s at ≡ d → Right vl s memory (run vl s memory)
        go (Err r) e =
            let x = r.refusal in
            let u : Unread s at x = (refused-unread s at p x r.place e).1 in
            Right.unread f os at m x t h u (answered s p os at m t vl memory (refused x at) f (unread-from s p os at m t x h u))
        go (Ok (o, c)) e = operation o c.at (read-written s at o c p e)

  -- from any place on, once the operations before it are done
  right-from : (n : ℕ) → Fits vl (length memory) → (os : List Operation) (at : ℕ) (m : Machine) → DoneBefore s os at m → at ≤ length s → length s - at ≤ n
      → Right vl s memory (run vl s memory)
  right-from zero f os at m t h k = right-over f os at m t (omega arith)
  right-from (suc n) f os at m t h k =
      go (ltb at (length s)) refl
      (λ o to w a. let q = written_on s at o to p w in right-from n f (os ++ (o ∷ [])) to (after o m) (turns-snoc s 0 fresh_machine os at m o to t w a) q.1 (omega arith))
    where
      go : (b : Bool) → ltb at (length s) ≡ b → ((o : Operation) (to : ℕ) → OperationAt s at o to → Accepts o (reg m (register_of o)) → Right vl s memory (run vl s memory))
          → Right vl s memory (run vl s memory)
      go true e rest = right-next f os at m t (ltb-true at (length s) e) rest
      go false e rest = right-over f os at m t (omega (arith, ltb-false at (length s) e))

  -- the run's answer is right
  right : Right vl s memory (run vl s memory)
  unfolding Turns
  right = go (allowed vl (length memory)) refl
    where
      go : (b : Bool) → allowed vl (length memory) ≡ b → Right vl s memory (run vl s memory)
      go false e = Right.lengths (λ f. never (sym e ∙ (fits-allowed vl (length memory)).1 f)) Lengths refl (run-lengths fresh_machine vl s memory e)
      go true e = right-from (length s) ((fits-allowed vl (length memory)).0 e) [] 0 fresh_machine (refl, refl) (omega arith) (omega arith)

-- a refusal is not done
not_done : {X : Type 0} (r : Progress) (w : World) (x : Refusal) (at : ℕ) → r.verdict ≡ Ok tt → r ≡ refused_at w x at → X
not_done r w x at v e = absurd (let q : refusal_at x at ≡ Ok tt = sym (ap (λ g. g.verdict) e) ∙ v in let z : ◌≡◌ {A = ℕ} 0 1 = cc in omega arith)

-- the encoding of a run has no free bits
run-bytes : (free loop n : ℕ) → operation_bytes free (op.Run loop n) ≡ operation_bytes 0 (op.Run loop n)
unfolding operation_bytes
run-bytes free loop n = refl

-- a right answer that is done is that of a sheet of encodings
encoded : (vl : ℕ) (s memory : List ℕ) (r : Progress) → Right vl s memory r → r.verdict ≡ Ok tt → Encoded s
encoded vl s memory r (Right.lengths n x k e) v = not_done r _ _ _ v e
encoded vl s memory r (Right.over f os m t e) v =
    let b = turns-bytes s 0 fresh_machine os (length s) m (omega arith) t in
    Encoded.over b.0 os m b.1 t (stands-all s _ b.2)
encoded vl s memory r (Right.unread f os at m x t h u e) v = not_done r _ _ _ v e
encoded vl s memory r (Right.refused f os at m o to x t w c e) v = not_done r _ _ _ v e
encoded vl s memory r (Right.broken f os at m loop count from cs place x t w b h u e) v = not_done r _ _ _ v e
encoded vl s memory r (Right.trailing f os at m loop cs to x t w h k e) v = not_done r _ _ _ v e
encoded vl s memory r (Right.no_loop f os at m loop cs x t w n k e) v = not_done r _ _ _ v e
encoded vl s memory r (Right.ran f os at m loop cs t w l h) v =
    let b = turns-bytes s 0 fresh_machine os at m (omega arith) t in
    let k : Stands s at (operation_bytes 0 (op.Run loop (length cs))) w.from = subst (λ l. Stands s at l w.from) (run-bytes w.written.free loop (length cs)) w.written.stands in
    Encoded.with-run b.0 os at m loop cs b.1 t w
    (stands-all s _ (stands-join b.2 (stands-join k (body-bytes s w.from cs (length s) w.written.stands.within w.body))))

-- the operations before a place are done in the sheet that is cut there
cut-done : (vl : ℕ) (s memory : List ℕ) → AreBytes s → Fits vl (length memory) → (os : List Operation) (at : ℕ) (m : Machine) → DoneBefore s os at m
    → run vl (take at s) memory ≡ begun (world m memory)
cut-done vl s memory p f os at m t =
    let k = turns-on s 0 fresh_machine os at m p (omega arith) t in
    let e : at ≡ length (take at s) = sym (length-take-le at s k.1) in
    let c : DoneBefore (take at s) os at m = turns-cut s at 0 fresh_machine os at m p k.1 (omega arith) t in
    sym (only vl (take at s) memory (bytes_cut s at p) (begun (world m memory)) (Right.over f os m (subst (λ n. DoneBefore (take at s) os n m) e c) refl))

-- Promise 1
pub promise1 : (vl : ℕ) (s memory : List ℕ) → AreBytes s → Promise1 vl s memory
promise1 vl s memory p = record {
  right = right vl s memory p;
  only = only vl s memory p;
  stands = λ f os at m t. cut-done vl s memory p f os at m t;
  whole = λ v. encoded vl s memory (run vl s memory) (right vl s memory p) v;
}
