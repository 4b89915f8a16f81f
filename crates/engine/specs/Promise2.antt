-- Promise 2: each element once. For every stream that a sheet ends, at every moment from its end operation on, until its register is
-- opened anew: what has moved and what is to come are the loop's elements, in order, each once. The end of stream shows once it has gone past
-- its last element, or, if it is coupled, its last coupled pass (02, 3/14).
--
--   Unmoved, Streams     streams before the run; streams at every moment of it
--   Empty, AllEmpty, Unnamed, Fresh   registers before any calculation; those that no operation named
--   Promise2
use Rattle.std.specs.Prelude.{◌≡◌, ℕ, ◌<◌, ◌≤◌, List, [], ◌∷◌, length, take, replicate, Ok}
use Rattle.codec.specs.declared.operation.Operation.{Operation}
use Rattle.engine.specs.Loops.{elements}
use Rattle.engine.specs.Registers.{reg}
use Rattle.engine.specs.Configure.{register_of}
use Rattle.engine.specs.Run.{Progress}
use Rattle.engine.specs.Sheets.{run}
use Rattle.engine.specs.Allowed.{Fits}
use Rattle.engine.specs.Histories.{world_at, moved_of, Ran}
use Rattle.engine.specs.Given.{Stream, stops_of, elements_in, pattern_of, ended, given_for, AtMoment}
use Rattle.engine.specs.Promise1.{DoneBefore, RunAt, LoopsOn, world}
use Rattle.engine.specs.declared.register.State.TheVariants.{Plain}
use Rattle.engine.specs.declared.register.Register.{Register}
use Rattle.engine.specs.declared.register.Machine.{Machine}
use Rattle.engine.specs.declared.run.Placed.{Placed}

-- the streams that the operations os ended, and that were not opened anew, nothing moved yet
abbrev pub Unmoved : List Operation → Machine → Type 0
Unmoved os m = (i : ℕ) → i < 32 → (t : Stream) → given_for i os ≡ ended t → AtMoment t [] m i

-- "no valid lanes and all bytes zero"
pub record Empty (r : Register) : Type 0 where
  pub valid : r.valid ≡ 0
  pub lanes : r.lanes ≡ replicate 64 0

-- each of the 32 registers is so: fresh, being configured, ended
abbrev pub AllEmpty : Machine → Type 0
AllEmpty m = (i : ℕ) → i < 32 → Empty (reg m i)

-- no operation is of register i
unfoldable pub Unnamed : ℕ → List Operation → Type 0
Unnamed i [] = Unit {0}
Unnamed i (o ∷ os) = ¬ (register_of o ≡ i) × Unnamed i os

-- "A fresh one is plain, width 1, no valid lanes, all bytes zero"
pub record Fresh (r : Register) : Type 0 where
  pub plain : r.state ≡ Plain
  pub width : r.width ≡ 1
  pub empty : Empty r

-- the same streams at every moment k of a run: they have gone past the stops that its first k calculations went past, joined
pub record Streams (vl : ℕ) (os : List Operation) (m : Machine) (memory : List ℕ) (loop : ℕ) (cs : List Placed) (r : Progress) : Type 0 where
  pub ran : Ran vl loop cs (world m memory) r
  pub moments : (i : ℕ) → i < 32 → (t : Stream) → given_for i os ≡ ended t → (k : ℕ) → k ≤ length ran.entries
      → AtMoment t (moved_of (take k ran.entries) i) (world_at (world m memory) ran.entries k).machine i
  -- the loop register's stream is one of them; done, it has gone past all its stops, and all its elements have moved
  pub stream : Stream
  pub is-ended : given_for loop os ≡ ended stream
  pub all : r.verdict ≡ Ok tt → moved_of ran.entries loop ≡ stops_of stream
  pub all_moved : r.verdict ≡ Ok tt → elements_in stream (moved_of ran.entries loop) ≡ elements (pattern_of stream).shape

-- promise 2 for a vector length, a sheet and a memory: each element once, at every moment
pub record Promise2 (vl : ℕ) (s memory : List ℕ) : Type 0 where
  -- while the sheet configures
  pub prepared : (os : List Operation) (at : ℕ) (m : Machine) → DoneBefore s os at m → Unmoved os m
  pub empty : (os : List Operation) (at : ℕ) (m : Machine) → DoneBefore s os at m → AllEmpty m
  pub fresh : (os : List Operation) (at : ℕ) (m : Machine) → DoneBefore s os at m → (i : ℕ) → i < 32 → Unnamed i os → Fresh (reg m i)
  -- while it runs
  pub runs : Fits vl (length memory) → (os : List Operation) (at : ℕ) (m : Machine) (loop : ℕ) (cs : List Placed) → DoneBefore s os at m
      → RunAt s at loop cs (length s) → LoopsOn loop cs m → Streams vl os m memory loop cs (run vl s memory)
