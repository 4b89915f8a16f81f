-- Laws of whole sheets.
--
--   operations-over, read-on                  the bound on the operations is never felt
--   onward, operations-next, onward-next, onward-over, prepare-onward   the operations from a place on: their equations without the bound
--   AllInRange, all_named, body-read          the calculations of a body that was read
--   Runs, Follows, Left                       what is known of a run that follows, and of what the operations leave
--   operations-good, prepare-good             the operations of a sheet leave that
--   allowed-lanes, world_of, runs-running      what holds before the first pass
--   run-lengths, run_ends                     the answer of a sheet, by its lengths and by how its operations end
--   from-good, run-good                       the registers that a sheet leaves are good
--   Passes, run-passes                        a sheet that ends in a run
use Rattle.std.specs.Prelude.{◌≡◌, ℕ, zero, suc, ◌-◌, ◌<◌, ◌≤◌, Bool, true, false, cond, ◌&&◌, ◌||◌, List, [], ◌∷◌, length, nat_le, nat_lt, refl, Ok, Err}
use Rattle.std.proofs.Common.{sym, ◌∙◌, ap, subst, arith, lt-ltb, le-ltb, ltb-true, ltb-false, leb-true}
use Rattle.codec.specs.TestLaws.{both}
use Rattle.codec.specs.NumberLaws.{AreBytes}
use Rattle.codec.specs.Operations.{is_register, is_count, operation_in_range, calculation_in_range, operation_at, calculation_at, Decoded, Body}
use Rattle.codec.specs.OperationLaws.{operation-read, calculation-read}
use Rattle.codec.specs.declared.number.Cursor.{Cursor}
use Rattle.codec.specs.declared.operation.Operation.{Operation}
use Rattle.codec.specs.declared.operation.Operation.TheVariants as op
use Rattle.codec.specs.declared.refusal.Refusal.TheVariants.{OutOfRange, Lengths, LoopRegister}
use Rattle.engine.specs.Checks.{Why}
use Rattle.engine.specs.Registers.{is_finished, is_open, is_load, reg, fresh_machine}
use Rattle.engine.specs.Configure.{why_not, configured}
use Rattle.engine.specs.Calculate.{World}
use Rattle.engine.specs.Run.{begun, execute}
use Rattle.engine.specs.Sheets.{Calculations, whole, broken, before, on_calculation, body_at, names, is_loop_register, Ending, over, runs, refused, ending_of, Prepared, on_operation, on_decoded, operations_from, prepare, allowed, on_ending, refused_at, run_from, run}
use Rattle.engine.specs.Good.{AllGood}
use Rattle.engine.specs.GoodLaws.{fresh-machine-good, configured-good}
use Rattle.engine.specs.CalculationLaws.{named}
use Rattle.engine.specs.HistoryLaws.{AllNamed}
use Rattle.engine.specs.EndLaws.{Running, running-begun, execute-finishes, execute-good}
use Rattle.engine.specs.AllowedLaws.{fits-allowed}
use Rattle.engine.specs.declared.register.Machine.{Machine}
use Rattle.engine.specs.declared.run.Placed.{Placed}

-- ---- the bound

-- where no byte is left the sheet is over
pub operations-over : (n : ℕ) (s : List ℕ) (at : ℕ) (m : Machine) → length s ≤ at → operations_from n s at m ≡ record { machine = m; ending = over }
unfolding operations_from
operations-over zero s at m h = refl
operations-over (suc n) s at m h = rw (le-ltb at (length s) h)

-- one turn, where a byte is left
pub operations-turn : (n : ℕ) (s : List ℕ) (at : ℕ) (m : Machine) → at < length s
    → operations_from (suc n) s at m ≡ on_decoded s at m (operation_at s at) (operations_from n s)
unfolding operations_from
operations-turn n s at m h =
    ap (λ b. cond b (on_decoded s at m (operation_at s at) (operations_from n s)) (record { machine = m; ending = over })) (lt-ltb at (length s) h)

-- what follows an operation matters only on the machine that it leaves
operation-same : (w : Why) (place : ℕ) (m n : Machine) (f g : Machine → Prepared) → f n ≡ g n → on_operation w place m f n ≡ on_operation w place m g n
operation-same (Ok _) place m n f g e = e
operation-same (Err x) place m n f g e = refl

-- what follows an operation matters only from the place behind it on
decoded-same : (s : List ℕ) (at : ℕ) (m : Machine) (d : Decoded) (f g : ℕ → Machine → Prepared)
    → ((o : Operation) (c : Cursor) (n : Machine) → d ≡ Ok (o, c) → f c.at n ≡ g c.at n) → on_decoded s at m d f ≡ on_decoded s at m d g
decoded-same s at m (Err e) f g h = refl
decoded-same s at m (Ok (op.Run loop count, c)) f g h = refl
decoded-same s at m (Ok (op.Open k b, c)) f g h =
    operation-same (why_not (op.Open k b) m) at m (configured (op.Open k b) m) (f c.at) (g c.at) (h (op.Open k b) c (configured (op.Open k b) m) refl)
decoded-same s at m (Ok (op.Dimension d, c)) f g h =
    operation-same (why_not (op.Dimension d) m) at m (configured (op.Dimension d) m) (f c.at) (g c.at) (h (op.Dimension d) c (configured (op.Dimension d) m) refl)
decoded-same s at m (Ok (op.Modifier d, c)) f g h =
    operation-same (why_not (op.Modifier d) m) at m (configured (op.Modifier d) m) (f c.at) (g c.at) (h (op.Modifier d) c (configured (op.Modifier d) m) refl)
decoded-same s at m (Ok (op.End i, c)) f g h =
    operation-same (why_not (op.End i) m) at m (configured (op.End i) m) (f c.at) (g c.at) (h (op.End i) c (configured (op.End i) m) refl)

-- the bound is never felt: as many as there are bytes left are enough
pub read-on : (n k : ℕ) (s : List ℕ) (at : ℕ) (m : Machine) → AreBytes s → length s - at ≤ n → length s - at ≤ k → operations_from n s at m ≡ operations_from k s at m
read-on zero k s at m p h l = operations-over zero s at m (omega arith) ∙ sym (operations-over k s at m (omega arith))
read-on (suc n) zero s at m p h l = operations-over (suc n) s at m (omega arith) ∙ sym (operations-over zero s at m (omega arith))
read-on (suc n) (suc k) s at m p h l =
    go (nat_lt at (length s)) refl
    (λ o c q e. let on : at < c.at = (operation-read s at o c p e).on in read-on n k s c.at q p (omega arith) (omega arith))
  where
    go : (b : Bool) → nat_lt at (length s) ≡ b
        → ((o : Operation) (c : Cursor) (q : Machine) → operation_at s at ≡ Ok (o, c) → operations_from n s c.at q ≡ operations_from k s c.at q)
        → operations_from (suc n) s at m ≡ operations_from (suc k) s at m
    go true e same =
        let z : at < length s = ltb-true at (length s) e in
        operations-turn n s at m z ∙ decoded-same s at m (operation_at s at) (operations_from n s) (operations_from k s) same ∙ sym (operations-turn k s at m z)
    go false e same =
        let z : length s ≤ at = ltb-false at (length s) e in
        operations-over (suc n) s at m z ∙ sym (operations-over (suc k) s at m z)

-- the operations from a place on
abbrev pub onward : List ℕ → ℕ → Machine → Prepared
onward s at m = operations_from (length s - at) s at m

-- their equation without the bound: one operation, then those from the place behind it on
pub operations-next : (n : ℕ) (s : List ℕ) (at : ℕ) (m : Machine) → AreBytes s → at < length s → length s - at ≤ n
    → operations_from n s at m ≡ on_decoded s at m (operation_at s at) (onward s)
operations-next zero s at m p h l = absurd (omega arith)
operations-next (suc n) s at m p h l =
    operations-turn n s at m h
    ∙ decoded-same s at m (operation_at s at) (operations_from n s) (onward s)
    (λ o c q e. let on : at < c.at = (operation-read s at o c p e).on in read-on n (length s - c.at) s c.at q p (omega arith) (omega arith))

-- one operation from here, then those from the place behind it on
pub onward-next : (s : List ℕ) (at : ℕ) (m : Machine) → AreBytes s → at < length s → onward s at m ≡ on_decoded s at m (operation_at s at) (onward s)
onward-next s at m p h = operations-next (length s - at) s at m p h (omega arith)

-- none where no byte is left
pub onward-over : (s : List ℕ) (at : ℕ) (m : Machine) → length s ≤ at → onward s at m ≡ record { machine = m; ending = over }
onward-over s at m h = operations-over (length s - at) s at m h

-- a whole sheet is read from its first byte on
pub prepare-onward : (s : List ℕ) (m : Machine) → prepare s m ≡ onward s 0 m
prepare-onward s m = ap (λ n. operations_from n s 0 m) (omega arith)

-- ---- a body

-- every calculation is in range
unfoldable pub AllInRange : List Placed → Type 0
AllInRange [] = Unit {0}
AllInRange (c ∷ cs) = (calculation_in_range c.calculation ≡ true) × AllInRange cs

-- so each names registers
pub all_named : (cs : List Placed) → AllInRange cs → AllNamed cs
unfolding AllInRange AllNamed
all_named [] h = tt
all_named (c ∷ cs) h = (named c.calculation h.0, all_named cs h.1)

-- a body that was read: as many calculations as were asked for, every one in range
pub body-read : (s : List ℕ) (n at : ℕ) (cs : List Placed) (to : ℕ) → AreBytes s → body_at s n at ≡ whole cs to → (length cs ≡ n) × AllInRange cs
unfolding body_at AllInRange
body-read s zero at cs to p e = let z : [] ≡ cs = cc in subst (λ l. (length l ≡ 0) × AllInRange l) z (refl, tt)
body-read s (suc n) at cs to p e = go (calculation_at s at) refl e (λ next. body-read s n next)
  where
    after : (c : Placed) (r : Calculations) → calculation_in_range c.calculation ≡ true
        → ((ds : List Placed) (to : ℕ) → r ≡ whole ds to → (length ds ≡ n) × AllInRange ds) → before c r ≡ whole cs to → (length cs ≡ suc n) × AllInRange cs
    after c (broken x place) h ih q = absurd (let z : ◌≡◌ {A = ℕ} 0 1 = cc in omega arith)
    after c (whole ds end) h ih q =
        let z : c ∷ ds ≡ cs = cc in
        let i = ih ds end refl in
        subst (λ l. (length l ≡ suc n) × AllInRange l) z (ap suc i.0, (h, i.1))

    go : (b : Body) → calculation_at s at ≡ b → on_calculation b at (body_at s n) ≡ whole cs to
        → ((next : ℕ) (ds : List Placed) (to : ℕ) → AreBytes s → body_at s n next ≡ whole ds to → (length ds ≡ n) × AllInRange ds) → (length cs ≡ suc n) × AllInRange cs
    go (Err r) b q ih = absurd (let z : ◌≡◌ {A = ℕ} 0 1 = cc in omega arith)
    go (Ok (c, next)) b q ih =
        after (record { place = at; calculation = c }) (body_at s n next.at) (calculation-read s at c next p b).range (λ ds end r. ih next.at ds end p r) q

-- ---- what the operations of a sheet leave

-- a run that follows: its loop register, and 1 to 16 calculations, every one in range
pub record Runs (loop : ℕ) (cs : List Placed) (m : Machine) : Type 0 where
  pub below : loop < 32
  pub some : 1 ≤ length cs
  pub most : length cs ≤ 16
  pub range : AllInRange cs
  pub source : names loop cs ≡ true
  pub is_loop : is_loop_register loop cs m ≡ true

-- what is known of how the operations end: a run that follows is such a run
abbrev pub Follows : Machine → Ending → Type 0
Follows m over = Unit {0}
Follows m (runs loop cs) = Runs loop cs m
Follows m (refused x place) = Unit {0}

-- good registers, and what is known of the run
pub record Left (vl : ℕ) (p : Prepared) : Type 0 where
  pub good : AllGood vl p.machine
  pub follows : Follows p.machine p.ending

-- so it is where a run in range was read, with a body of its count and in range
ending-good : (s : List ℕ) (at loop : ℕ) (m : Machine) (count : ℕ) (r : Calculations) → operation_in_range (op.Run loop count) ≡ true
    → ((cs : List Placed) (to : ℕ) → r ≡ whole cs to → (length cs ≡ count) × AllInRange cs) → Follows m (ending_of s at loop m r)
unfolding operation_in_range
ending-good s at loop m count (broken x place) e h = tt
ending-good s at loop m count (whole cs to) e h = go (nat_lt to (length s)) (is_loop_register loop cs m) refl
  where
    go : (b t : Bool) → is_loop_register loop cs m ≡ t → Follows m (cond b (refused OutOfRange to) (cond t (runs loop cs) (refused LoopRegister at)))
    go true t q = tt
    go false false q = tt
    go false true q =
        let r = both (is_register loop) (is_count count) e in
        let k = both (nat_le 1 count) (nat_le count 16) r.1 in
        let i = h cs to refl in
        record {
          below = omega (arith, leb-true loop 31 r.0);
          some = omega (arith, leb-true 1 count k.0, i.0);
          most = omega (arith, leb-true count 16 k.1, i.0);
          range = i.1;
          source = (both ((is_open (reg m loop).state || is_finished (reg m loop).state) && is_load (reg m loop).kind) (names loop cs) q).1;
          is_loop = q;
        }

-- an operation, refused or not, leaves that if what follows it does
operation-good : (vl : ℕ) (w : Why) (place : ℕ) (m n : Machine) (f : Machine → Prepared) → AllGood vl m → Left vl (f n) → Left vl (on_operation w place m f n)
operation-good vl (Ok _) place m n f g h = h
operation-good vl (Err x) place m n f g h = record { good = g; follows = tt }

-- whatever was read at a place leaves that, if what follows it does
decoded-good : (vl : ℕ) (s : List ℕ) (at : ℕ) (m : Machine) (d : Decoded) (f : ℕ → Machine → Prepared) → AreBytes s → AllGood vl m
    → ((o : Operation) (c : Cursor) → d ≡ Ok (o, c) → operation_in_range o ≡ true) → ((to : ℕ) (n : Machine) → AllGood vl n → Left vl (f to n))
    → Left vl (on_decoded s at m d f)
decoded-good vl s at m (Err e) f p g r h = record { good = g; follows = tt }
decoded-good vl s at m (Ok (op.Run loop count, c)) f p g r h = record {
  good = g;
  follows = ending-good s at loop m count (body_at s count c.at) (r (op.Run loop count) c refl) (λ cs to e. body-read s count c.at cs to p e);
}
decoded-good vl s at m (Ok (op.Open k b, c)) f p g r h =
    operation-good vl (why_not (op.Open k b) m) at m (configured (op.Open k b) m) (f c.at) g
    (h c.at (configured (op.Open k b) m) (configured-good vl (op.Open k b) m g (r (op.Open k b) c refl)))
decoded-good vl s at m (Ok (op.Dimension d, c)) f p g r h =
    operation-good vl (why_not (op.Dimension d) m) at m (configured (op.Dimension d) m) (f c.at) g
    (h c.at (configured (op.Dimension d) m) (configured-good vl (op.Dimension d) m g (r (op.Dimension d) c refl)))
decoded-good vl s at m (Ok (op.Modifier d, c)) f p g r h =
    operation-good vl (why_not (op.Modifier d) m) at m (configured (op.Modifier d) m) (f c.at) g
    (h c.at (configured (op.Modifier d) m) (configured-good vl (op.Modifier d) m g (r (op.Modifier d) c refl)))
decoded-good vl s at m (Ok (op.End i, c)) f p g r h =
    operation-good vl (why_not (op.End i) m) at m (configured (op.End i) m) (f c.at) g
    (h c.at (configured (op.End i) m) (configured-good vl (op.End i) m g (r (op.End i) c refl)))

-- from a place on, whatever the bound
pub operations-good : (vl n : ℕ) (s : List ℕ) (at : ℕ) (m : Machine) → AreBytes s → AllGood vl m → Left vl (operations_from n s at m)
unfolding operations_from
operations-good vl zero s at m p g = record { good = g; follows = tt }
operations-good vl (suc n) s at m p g =
    go (nat_lt at (length s))
    (decoded-good vl s at m (operation_at s at) (operations_from n s) p g (λ o c e. (operation-read s at o c p e).range) (λ to q k. operations-good vl n s to q p k))
  where
    go : (b : Bool) → Left vl (on_decoded s at m (operation_at s at) (operations_from n s))
        → Left vl (cond b (on_decoded s at m (operation_at s at) (operations_from n s)) (record { machine = m; ending = over }))
    go true h = h
    go false h = record { good = g; follows = tt }

-- of a whole sheet
pub prepare-good : (vl : ℕ) (s : List ℕ) (m : Machine) → AreBytes s → AllGood vl m → Left vl (prepare s m)
prepare-good vl s m p g = operations-good vl (length s) s 0 m p g

-- ---- a whole sheet

-- an allowed vector length is 8 bytes at least
pub allowed-lanes : (vl len : ℕ) → allowed vl len ≡ true → 8 ≤ vl
allowed-lanes vl len e = ((fits-allowed vl len).0 e).least

-- the world that a sheet's operations leave
abbrev pub world_of : List ℕ → Machine → List ℕ → World
world_of s m memory = record { machine = (prepare s m).machine; memory = memory }

-- lengths that are not allowed are refused before all else
pub run-lengths : (m : Machine) (vl : ℕ) (s memory : List ℕ) → allowed vl (length memory) ≡ false
    → run_from m vl s memory ≡ refused_at (record { machine = m; memory = memory }) Lengths 0
run-lengths m vl s memory a =
    ap (λ b. cond b (on_ending vl (world_of s m memory) (prepare s m).ending) (refused_at (record { machine = m; memory = memory }) Lengths 0)) a

-- else the sheet is what follows its operations
pub run_ends : (m : Machine) (vl : ℕ) (s memory : List ℕ) (d : Ending) → allowed vl (length memory) ≡ true → (prepare s m).ending ≡ d
    → run_from m vl s memory ≡ on_ending vl (world_of s m memory) d
run_ends m vl s memory d a e =
    ap (λ b. cond b (on_ending vl (world_of s m memory) (prepare s m).ending) (refused_at (record { machine = m; memory = memory }) Lengths 0)) a
    ∙ ap (on_ending vl (world_of s m memory)) e

-- a run that follows is in good order before its first pass
pub runs-running : (vl loop : ℕ) (cs : List Placed) (w : World) → 8 ≤ vl → AllGood vl w.machine → Runs loop cs w.machine → Running vl loop cs (begun w)
runs-running vl loop cs w l g r = running-begun vl loop cs w l r.below (all_named cs r.range) g r.is_loop

-- the registers that a sheet leaves, from given ones, are good; refused or not
pub from-good : (m : Machine) (vl : ℕ) (s memory : List ℕ) → AreBytes s → AllGood vl m → AllGood vl (run_from m vl s memory).world.machine
from-good m vl s memory p g = go (allowed vl (length memory)) refl
  where
    w : World
    w = world_of s m memory

    ends : 8 ≤ vl → AllGood vl w.machine → (d : Ending) → Follows w.machine d → AllGood vl (on_ending vl w d).world.machine
    ends l k over f = k
    ends l k (runs loop cs) f = execute-good vl loop cs w (runs-running vl loop cs w l k f)
    ends l k (refused x place) f = k

    go : (b : Bool) → allowed vl (length memory) ≡ b
        → AllGood vl (cond b (on_ending vl w (prepare s m).ending) (refused_at (record { machine = m; memory = memory }) Lengths 0)).world.machine
    go false e = g
    go true e =
        let q : Left vl (prepare s m) = prepare-good vl s m p g in
        ends (allowed-lanes vl (length memory) e) q.good (prepare s m).ending q.follows

-- from fresh ones
pub run-good : (vl : ℕ) (s memory : List ℕ) → AreBytes s → AllGood vl (run vl s memory).world.machine
run-good vl s memory p = from-good fresh_machine vl s memory p (fresh-machine-good vl)

-- a sheet that does the passes of its run: in good order before the first; done, the loop register's stream is finished
pub record Passes (m : Machine) (vl : ℕ) (s memory : List ℕ) (loop : ℕ) (cs : List Placed) : Type 0 where
  pub follows : Runs loop cs (prepare s m).machine
  pub running : Running vl loop cs (begun (world_of s m memory))
  pub executes : run_from m vl s memory ≡ execute vl loop cs (world_of s m memory)
  pub finishes : (run_from m vl s memory).verdict ≡ Ok tt → is_finished (reg (run_from m vl s memory).world.machine loop).state ≡ true

-- such is every sheet of bytes whose lengths are allowed and whose operations end in a run
pub run-passes : (m : Machine) (vl : ℕ) (s memory : List ℕ) (loop : ℕ) (cs : List Placed) → AreBytes s → AllGood vl m → allowed vl (length memory) ≡ true
    → (prepare s m).ending ≡ runs loop cs → Passes m vl s memory loop cs
run-passes m vl s memory loop cs p g a e = record {
  follows = f;
  running = r;
  executes = x;
  finishes = λ v. subst (λ q. is_finished (reg q.world.machine loop).state ≡ true) (sym x) (execute-finishes vl loop cs w r (sym (ap (λ q. q.verdict) x) ∙ v));
}
  where
    w : World
    w = world_of s m memory

    f : Runs loop cs (prepare s m).machine
    f = subst (Follows (prepare s m).machine) e (prepare-good vl s m p g).follows

    r : Running vl loop cs (begun w)
    r = runs-running vl loop cs w (allowed-lanes vl (length memory) a) (prepare-good vl s m p g).good f

    x : run_from m vl s memory ≡ execute vl loop cs w
    x = run_ends m vl s memory (runs loop cs) a e
