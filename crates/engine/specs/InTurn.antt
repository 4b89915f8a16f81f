-- Row by row (02, 3/14): where no pass of the coupled dimension is longer than the lanes, each sum is that of the row whose turn it is, a row
-- with nothing in it has its turn too, and "row n of the sums" is "row n of the image". Proof: proofs/InTurn.
--
--   turn_at             how many chunks a stream has given before a moment: the number of the row whose turn it is
--   RowSum             a calculation 8 over the stream
--   InTurn             of every run
use Rattle.std.specs.Prelude.{◌≡◌, ℕ, suc, ◌/◌, ◌<◌, ◌≤◌, List, [], ◌∷◌, length, get_or, take, slice_index_or, Some}
use Rattle.codec.specs.declared.header.Kind.TheVariants.{Load}
use Rattle.codec.specs.declared.operation.Fold.TheVariants.{Sum}
use Rattle.codec.specs.declared.operation.Task.TheVariants.{All}
use Rattle.codec.specs.declared.operation.Operation.{Operation}
use Rattle.engine.specs.Members.{Each}
use Rattle.engine.specs.Calculate.{World}
use Rattle.engine.specs.Sheets.{run}
use Rattle.engine.specs.Allowed.{Fits}
use Rattle.engine.specs.Histories.{Entry, world_at}
use Rattle.engine.specs.Given.{Stream, ended, given_for}
use Rattle.engine.specs.Promise1.{DoneBefore, RunAt, LoopsOn, world}
use Rattle.engine.specs.Promise2.{Streams}
use Rattle.engine.specs.StreamSums.{stream_width, values_of, sum_of, entry_at, calculation_of, DidIn}
use Rattle.engine.specs.RowSums.{passes_of}
use Rattle.engine.specs.Listed.{chunks_of}
use Rattle.engine.specs.declared.register.Machine.{Machine}
use Rattle.engine.specs.declared.run.Placed.{Placed}

-- how many chunks register i's stream has given in the first k entries: the row whose turn it is, counted from 0
abbrev pub turn_at : List Entry → ℕ → ℕ → ℕ
turn_at es i k = length (chunks_of (take k es) i)

-- entry k of a history from w, a calculation 8 over the stream t, in register i, coupled to dimension c
pub record RowSum (vl : ℕ) (t : Stream) (w : World) (es : List Entry) (i c k : ℕ) : Type 0 where
  -- there is such a row, and after the entry it is the next one's turn
  pub inside : turn_at es i k < length (passes_of t c)
  pub next : turn_at es i (suc k) ≡ suc (turn_at es i k)
  -- 02, 3/14: "row n of the sums" is "row n of the image": the one lane that it gives is the sum over the row whose turn it is, with the values
  -- that memory holds then
  pub sum : (d : DidIn vl (world_at w es k) (entry_at es k))
      → d.out ≡ sum_of t (values_of t (world_at w es k).memory (slice_index_or (passes_of t c) (turn_at es i k) [])) ∷ []
  -- 02, 2/14: "A sum over no lanes is 0", of a row with nothing in it
  pub nothing : get_or (passes_of t c) (turn_at es i k) [] ≡ [] → (d : DidIn vl (world_at w es k) (entry_at es k)) → d.out ≡ 0 ∷ []

-- for a vector length, a sheet and a memory: of every coupled load stream that the sheet ended, at every calculation 8 over it
pub record InTurn (vl : ℕ) (s memory : List ℕ) : Type 0 where
  pub runs : Fits vl (length memory) → (os : List Operation) (at : ℕ) (m : Machine) (loop : ℕ) (cs : List Placed) → DoneBefore s os at m
      → RunAt s at loop cs (length s) → LoopsOn loop cs m → (q : Streams vl os m memory loop cs (run vl s memory))
      → (i : ℕ) → i < 32 → (t : Stream) → given_for i os ≡ ended t → t.header.kind ≡ Load → (c : ℕ) → t.header.coupling ≡ Some c
      → Each [] (λ g. length g ≤ vl / stream_width t) (passes_of t c)
      → (k : ℕ) → k < length q.ran.entries → (calculation_of (entry_at q.ran.entries k)).task ≡ All Sum
      → (calculation_of (entry_at q.ran.entries k)).first ≡ i → RowSum vl t (world m memory) q.ran.entries i c k
