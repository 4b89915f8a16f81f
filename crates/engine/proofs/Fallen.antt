-- A run that is refused with 14 (specs/Blame): the calculation at its place, and where its lane lies.
--
--   body_at                     each calculation of a body stands at its place
--   unread-number, operation-number   no sheet is refused with 14 before its run
--   fell
use Rattle.std.proofs.Common.{◌≡◌, ℕ, zero, suc, ◌+◌, ◌%◌, ◌<◌, ◌≤◌, true, List, [], ◌∷◌, length, get_or, sym, ap, ◌∙◌, subst, mod-lt, arith, Ok}
use Rattle.codec.specs.NumberLaws.{AreBytes}
use Rattle.codec.specs.Refusals.{number_of}
use Rattle.codec.specs.Operations.{calculation_at}
use Rattle.codec.specs.declared.operation.Operation.{Operation}
use Rattle.codec.specs.declared.operation.Operation.TheVariants as op
use Rattle.codec.specs.declared.operation.Calculation.{Calculation}
use Rattle.codec.specs.declared.refusal.Role.{Role}
use Rattle.codec.specs.declared.refusal.Role.TheVariants as role
use Rattle.codec.specs.declared.refusal.Refusal.{Refusal}
use Rattle.codec.specs.declared.refusal.Refusal.TheVariants.{Outside}
use Rattle.engine.specs.Addresses.{address}
use Rattle.engine.specs.Registers.{is_open, shape_of, next_chunk, reg}
use Rattle.engine.specs.Calculate.{World}
use Rattle.engine.specs.Sheets.{refused_at, run}
use Rattle.engine.specs.Good.{Good}
use Rattle.engine.specs.CountLaws.{few-stops}
use Rattle.engine.specs.ComeLaws.{IsStream, next-within, open-covered, next-fewer}
use Rattle.engine.specs.HistoryLaws.{pattern-kept, stream-from, width-kept}
use Rattle.engine.specs.Histories.{no_placed, in_turn, Ran}
use Rattle.engine.specs.RanLaws.{ran-turned}
use Rattle.engine.specs.SheetLaws.{run-good}
use Rattle.engine.specs.ReadingLaws.{calculated-read}
use Rattle.engine.specs.Allowed.{Fits}
use Rattle.engine.specs.AllowedLaws.{is-open}
use Rattle.engine.specs.Outlines.{located_in, element_of}
use Rattle.engine.specs.OutlineLaws.{element-stream, element-lane}
use Rattle.engine.specs.Reasons.{Wanted, OperationRefused}
use Rattle.engine.specs.Blame.{blamed, operand_in, blamed-lane, Fell}
use Rattle.engine.specs.Promise1.{Range, NumberFault, NumbersFault, WordFault, Unread, CalculationAt, BodyAt, LoopsOn, RunAt, DoneBefore, world, Right}
use Rattle.engine.proofs.Promise1.{sheet-runs, promise1}
use Rattle.engine.specs.declared.register.Register.{Register}
use Rattle.engine.specs.declared.register.Machine.{Machine}
use Rattle.engine.specs.declared.run.Placed.{Placed}
use Rattle.engine.specs.Run.{refusal_at}
use Rattle.engine.specs.RunLaws.{same-refusal}

-- each calculation of a body stands at its place
body_at : (s : List ℕ) (at : ℕ) (cs : List Placed) (to : ℕ) → BodyAt s at cs to → (k : ℕ) → k < length cs
    → (next : ℕ) × CalculationAt s (get_or cs k no_placed).place (get_or cs k no_placed).calculation next
unfolding BodyAt
body_at s at [] to b k h = absurd (omega arith)
body_at s at (c ∷ cs) to (next, e, q, b) zero h = (next, subst (λ p. CalculationAt s p c.calculation next) (sym e) q)
body_at s at (c ∷ cs) to (next, e, q, b) (suc k) h = body_at s next cs to b k (omega arith)

-- ---- other refusals

-- a number at fault is 1 or 2
faults-number : (s : List ℕ) (x : Refusal) (at : ℕ) (before : List ℕ) (fs : List Range) → NumbersFault s x at before fs → number_of x ≤ 2
unfolding NumbersFault
faults-number s x at before [] f = absurd f
faults-number s x at before (g ∷ fs) (NumberFault.unread e h) = omega (arith, e)
faults-number s x at before (g ∷ fs) (NumberFault.beyond n to e h k) = omega (arith, e)
faults-number s x at before (g ∷ fs) (NumberFault.later n to h k l) = faults-number s x to (n ∷ before) fs l

-- a header word 3 or 4
word_number : (w : ℕ) (x : Refusal) → WordFault w x → number_of x ≤ 4
word_number w x (WordFault.fixed e n) = omega (arith, e)
word_number w x (WordFault.carried e f n) = omega (arith, e)

-- an operation that cannot be read has 1 to 4
unread-number : (s : List ℕ) (at : ℕ) (x : Refusal) → Unread s at x → number_of x ≤ 4
unread-number s at x (Unread.which f) = omega (arith, faults-number s x at [] _ f)
unread-number s at x (Unread.field k to n r f) = omega (arith, faults-number s x to [] _ f)
unread-number s at x (Unread.word p w q base to a b c d f) = word_number w x f

-- one that is refused has 5 to 9
wanted-number : {P Later : Type 0} (x : Refusal) (n : ℕ) → n ≤ 9 → (Later → number_of x ≤ 9) → Wanted x n P Later → number_of x ≤ 9
wanted-number x n h l (Wanted.lacking e p) = omega (arith, e)
wanted-number x n h l (Wanted.later p k) = l k

operation-number : (o : Operation) (r : Register) (x : Refusal) → OperationRefused o r x → number_of x ≤ 9
operation-number (op.Open h base) r x = wanted-number x 5 (omega arith) (λ z. absurd z)
operation-number (op.Dimension d) r x = wanted-number x 5 (omega arith) (wanted-number x 6 (omega arith) (λ z. absurd z))
operation-number (op.Modifier m) r x =
    wanted-number x 5 (omega arith) (wanted-number x 6 (omega arith) (wanted-number x 7 (omega arith) (λ z. absurd z)))
operation-number (op.End i) r x =
    wanted-number x 5 (omega arith) (wanted-number x 7 (omega arith) (wanted-number x 8 (omega arith) (wanted-number x 9 (omega arith) (λ z. absurd z))))
operation-number (op.Run i n) r x = λ z. absurd z

-- ---- 14

-- a register that a calculation in a sheet names
operand_below : (s : List ℕ) (at : ℕ) (c : Calculation) (to : ℕ) (r : Role) → CalculationAt s at c to → operand_in c r < 32
operand_below s at c to role.First h = omega (arith, h.first)
operand_below s at c to role.Second h = omega (arith, h.second)
operand_below s at c to role.Destination h = omega (arith, h.destination)

module _ (vl : ℕ) (s memory : List ℕ) (p : AreBytes s) (lane : ℕ) (r : Role) (place : ℕ) (v : (run vl s memory).verdict ≡ refusal_at (Outside lane r) place) where
  -- a refusal before the run has another number
  early : {X : Type 0} (w : World) (x : Refusal) (at : ℕ) → run vl s memory ≡ refused_at w x at → (number_of x ≡ 14 → ⊥) → X
  early w x at e n =
      let q : refusal_at x at ≡ refusal_at (Outside lane r) place = sym (ap (λ g. g.verdict) e) ∙ v in
      let z : x ≡ Outside lane r = same-refusal x (Outside lane r) at place q in
      absurd (n (ap number_of z))

  -- in a run: the next calculation in turn
  in-run : Fits vl (length memory) → (os : List Operation) (at : ℕ) (m : Machine) (loop : ℕ) (cs : List Placed) → DoneBefore s os at m → RunAt s at loop cs (length s)
      → LoopsOn loop cs m → Ran vl loop cs (world m memory) (run vl s memory) → Fell vl s memory lane r place
  in-run f os at m loop cs t w l h =
      let k = sheet-runs vl s memory p os at m loop cs t f w l in
      let u = ran-turned vl loop cs (world m memory) k.running k.some (run vl s memory) h in
      let d = u.refused (Outside lane r) place v in
      let c = in_turn cs (length u.calculations) in
      let b = body_at s w.from cs (length s) w.body (length u.calculations % length cs) (mod-lt (length u.calculations) k.some) in
      let x = (run vl s memory).world in
      let i = operand_in c.calculation r in
      let q : Register = reg x.machine i in
      let n = q.moved + lane in
      let below = operand_below s c.place c.calculation b.0 r b.1 in
      let o = blamed-lane vl _ _ x.machine c.calculation lane r (blamed vl c.calculation x lane r d.0) in
      let good : Good vl q = (run-good vl s memory p).good i below in
      let open-now : is_open q.state ≡ true = (is-open q.state).1 o.opened in
      let there : i < length m.registers = omega (arith, below, k.running.good.all) in
      let was : IsStream (reg m i) = stream-from vl u.calculations (world m memory) i there u.completed (subst (λ (z : World). IsStream (reg z.machine i)) u.world (rw open-now)) in
      let pattern : q.pattern ≡ (reg m i).pattern = ap (λ (z : World). (reg z.machine i).pattern) u.world ∙ pattern-kept vl u.calculations (world m memory) i there u.completed in
      let width : q.width ≡ (reg m i).width = ap (λ (z : World). (reg z.machine i).width) u.world ∙ width-kept vl u.calculations (world m memory) i there u.completed was in
      record {
        calculation = c.calculation;
        next = record { at = b.0 };
        stands = ap (calculation_at s) d.1 ∙ calculated-read s c.place c.calculation b.0 b.1;
        refused = d.0;
        small = omega (arith, next-within vl q good open-now, o.moves, next-fewer vl q, few-stops (shape_of q) (open-covered vl q good open-now), (good.opened open-now).0.accepted.few);
        at = address q.pattern q.width (get_or (next_chunk vl q) lane []);
        located =
            ap (λ z. element_of (reg z i) n) k.machine
            ∙ element-stream n (reg m i) was
            ∙ (λ z. located_in (sym pattern z) (sym width z) n)
            ∙ sym (element-stream n q (rw open-now))
            ∙ element-lane vl lane q f.least good open-now o.moves;
        lies = o.lies;
      }

  -- by the right answers
  from-right : Right vl s memory (run vl s memory) → Fell vl s memory lane r place
  from-right (Right.lengths n x k e) = early _ x 0 e (λ z. omega (arith, z, k))
  from-right (Right.over f os m t e) =
      let q : refusal_at (Outside lane r) place ≡ Ok tt = sym v ∙ ap (λ g. g.verdict) e in absurd (let z : ◌≡◌ {A = ℕ} 0 1 = cc in omega arith)
  from-right (Right.unread f os at m x t h u e) = early _ x at e (λ z. omega (arith, z, unread-number s at x u))
  from-right (Right.refused f os at m o to x t w c e) = early _ x at e (λ z. omega (arith, z, operation-number o _ x c))
  from-right (Right.broken f os at m loop count from cs at' x t w b h u e) = early _ x at' e (λ z. omega (arith, z, faults-number s x at' [] _ u))
  from-right (Right.trailing f os at m loop cs to x t w h k e) = early _ x to e (λ z. omega (arith, z, k))
  from-right (Right.no_loop f os at m loop cs x t w n k e) = early _ x at e (λ z. omega (arith, z, k))
  from-right (Right.ran f os at m loop cs t w l h) = in-run f os at m loop cs t w l h

-- a run that is refused with 14
pub fell : (vl : ℕ) (s memory : List ℕ) → AreBytes s → (lane : ℕ) (r : Role) (place : ℕ) → (run vl s memory).verdict ≡ refusal_at (Outside lane r) place
    → Fell vl s memory lane r place
fell vl s memory p lane r place v = from-right vl s memory p lane r place v (promise1 vl s memory p).right
