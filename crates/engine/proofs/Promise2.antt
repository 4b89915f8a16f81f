-- Promise 2 holds of every sheet: each element once.
--
--   ended-stream, ended-inside    an open or finished register has a stream that was ended; such a stream is in its register, nothing moved
--   at_each, at-end, streams      the streams at every moment of a run; at its end; both together
--   promise2
use Rattle.std.proofs.Common.{◌≡◌, ℕ, ◌<◌, ◌≤◌, ◌⊎◌, List, [], length, take, sym, refl, ap, ◌∙◌, subst, inl, inr, arith, Ok}
use lib.Seq.{take-length}
use Rattle.codec.specs.NumberLaws.{AreBytes}
use Rattle.codec.specs.declared.operation.Operation.{Operation}
use Rattle.engine.specs.Registers.{is_finished, reg}
use Rattle.engine.specs.Calculate.{World}
use Rattle.engine.specs.Run.{Progress, begun, execute}
use Rattle.engine.specs.EndLaws.{Running}
use Rattle.engine.specs.Histories.{world_at, moved_of, Ran}
use Rattle.engine.specs.Given.{Stream, stops_of, elements_in, pattern_of, Given, none, going, ended, given_for}
use Rattle.engine.specs.StopLaws.{stops-elements}
use Rattle.engine.specs.GivenLaws.{InRegister, Has, before-has}
use Rattle.engine.specs.MomentLaws.{inside-finished, inside-moment}
use Rattle.engine.specs.MovingLaws.{world-last, follow-inside}
use Rattle.engine.specs.RanLaws.{ran_named, execute-ran}
use Rattle.engine.specs.ContentLaws.{before-empty, before-fresh}
use Rattle.engine.proofs.Promise1.{sheet-runs}
use Rattle.engine.specs.Promise1.{DoneBefore, LoopsOn, world}
use Rattle.engine.specs.Promise2.{Streams, Promise2}
use Rattle.engine.specs.declared.register.State.{State}
use Rattle.engine.specs.declared.register.State.TheVariants.{Plain, Configuring, Open, Finished}
use Rattle.engine.specs.declared.register.Register.{Register}
use Rattle.engine.specs.declared.register.Machine.{Machine}
use Rattle.engine.specs.declared.run.Placed.{Placed}

-- an open or finished register is not plain
pub not_plain : {X : Type 0} (k : State) → (k ≡ Open) ⊎ (k ≡ Finished) → k ≡ Plain → X
not_plain k (inl e) f = absurd (let z : ◌≡◌ {A = ℕ} 0 1 = cc in omega arith)
not_plain k (inr e) f = absurd (let z : ◌≡◌ {A = ℕ} 0 1 = cc in omega arith)

-- nor being configured
not-configuring : {X : Type 0} (k : State) → (k ≡ Open) ⊎ (k ≡ Finished) → k ≡ Configuring → X
not-configuring k (inl e) f = absurd (let z : ◌≡◌ {A = ℕ} 0 1 = cc in omega arith)
not-configuring k (inr e) f = absurd (let z : ◌≡◌ {A = ℕ} 0 1 = cc in omega arith)

-- a register that is open or finished has a stream that was ended
ended-stream : (g : Given) (r : Register) → Has g r → (r.state ≡ Open) ⊎ (r.state ≡ Finished) → (t : Stream) × (g ≡ ended t)
ended-stream none r h e = not_plain r.state e h
ended-stream (going t) r h e = not-configuring r.state e h.1
ended-stream (ended t) r h e = (t, refl)

-- each stream that was ended is in its register, nothing moved
ended-inside : (s : List ℕ) (os : List Operation) (at : ℕ) (m : Machine) → DoneBefore s os at m → (i : ℕ) → i < 32 → (t : Stream) → given_for i os ≡ ended t
    → InRegister t [] (reg m i)
ended-inside s os at m b i h t e = subst (λ g. Has g (reg m i)) e (before-has s os at m i b h)

module _ (vl : ℕ) (s memory : List ℕ) (os : List Operation) (at : ℕ) (m : Machine) (loop : ℕ) (cs : List Placed) (r : Progress)
    (b : DoneBefore s os at m) (g : Running vl loop cs (begun (world m memory))) (some : 1 ≤ length cs) (q : Ran vl loop cs (world m memory) r)
  where
    -- a stream that was ended, at every moment of the run
    at_each : (i : ℕ) → i < 32 → (t : Stream) → given_for i os ≡ ended t → (k : ℕ)
        → InRegister t (moved_of (take k q.entries) i) (reg (world_at (world m memory) q.entries k).machine i)
    at_each i h t e k =
        follow-inside vl q.entries (world m memory) r.world i t [] k g.lanes g.good
        (ran_named vl loop cs (world m memory) g some r q) q.follow h (ended-inside s os at m b i h t e)

    -- at its end
    at-end : (i : ℕ) → i < 32 → (t : Stream) → given_for i os ≡ ended t → InRegister t (moved_of q.entries i) (reg r.world.machine i)
    at-end i h t e =
        subst (λ es. InRegister t (moved_of es i) (reg r.world.machine i)) (take-length q.entries)
        (subst (λ w. InRegister t (moved_of (take (length q.entries) q.entries) i) (reg w.machine i))
        (world-last vl q.entries (world m memory) r.world q.follow)
        (at_each i h t e (length q.entries)))

    -- the loop register's stream, once the run is done
    all : (t : Stream) → given_for loop os ≡ ended t → r.verdict ≡ Ok tt → moved_of q.entries loop ≡ stops_of t
    all t e v = (inside-finished t (moved_of q.entries loop) (reg r.world.machine loop) (at-end loop g.below t e)).0 (ap is_finished (q.done v).1)

    -- the streams of the run
    streams : LoopsOn loop cs m → Streams vl os m memory loop cs r
    streams l =
        let (t, e) = ended-stream (given_for loop os) (reg m loop) (before-has s os at m loop b g.below) l.stream in
        record {
          ran = q;
          moments = λ i h t e k n. inside-moment t _ (world_at (world m memory) q.entries k).machine i h (at_each i h t e k);
          stream = t;
          is-ended = e;
          all = all t e;
          all_moved = λ v. ap (elements_in t) (all t e v) ∙ stops-elements (pattern_of t).shape (at-end loop g.below t e).covers;
        }

-- for every sheet
pub promise2 : (vl : ℕ) (s memory : List ℕ) → AreBytes s → Promise2 vl s memory
promise2 vl s memory a = record {
  prepared = λ os at m b i h t e. inside-moment t [] m i h (ended-inside s os at m b i h t e);
  empty = before-empty s;
  fresh = before-fresh s;
  runs = λ f os at m loop cs b r l.
      let q = sheet-runs vl s memory a os at m loop cs b f r l in
      let w : World = world m memory in
      subst (Streams vl os m memory loop cs) (sym q.executes) (streams vl s memory os at m loop cs (execute vl loop cs w) b q.running q.some (execute-ran vl loop cs w q.running q.some) l);
}
