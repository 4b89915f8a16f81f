-- The chunks of a load stream, listed in the order in which it gives them (02, 3/14): coupled, the passes of that dimension that the outer
-- loops reach, each cut by the lanes, a pass that holds no element giving one chunk with no valid lanes. Laws: ListedLaws; proof over the
-- history of Promise 2: proofs/Listed.
--
--   pieces, cut_pass      a pass cut by the lanes
--   listed               passes in order, each cut
--   chunks_of             the chunks that a stream gave over a history
--   Listed, Listing      they are the front of the list, and all of it once the end of stream shows; of every run
use Rattle.std.specs.Prelude.{◌≡◌, ℕ, zero, suc, ◌-◌, ◌/◌, ◌<◌, ◌≤◌, ◌↔◌, List, [], ◌∷◌, ◌++◌, map, length, take, drop, Ok, true, Some, None}
use Rattle.codec.specs.declared.header.Kind.TheVariants.{Load}
use Rattle.codec.specs.declared.operation.Operation.{Operation}
use Rattle.engine.specs.Loops.{size_at, join}
use Rattle.engine.specs.Members.{Each}
use Rattle.engine.specs.Chunks.{passes, with_elements}
use Rattle.engine.specs.Questions.{ask_end}
use Rattle.engine.specs.Sheets.{run}
use Rattle.engine.specs.Allowed.{Fits}
use Rattle.engine.specs.Histories.{Entry, world_at}
use Rattle.engine.specs.Given.{Stream, elements_in, pattern_of, ended, given_for}
use Rattle.engine.specs.Promise1.{DoneBefore, RunAt, LoopsOn, world}
use Rattle.engine.specs.Promise2.{Streams}
use Rattle.engine.specs.StreamSums.{stream_width, all_of}
use Rattle.engine.specs.declared.register.Machine.{Machine}
use Rattle.engine.specs.declared.run.Placed.{Placed}

-- the first n pieces of a list: "as many as there are lanes, fewer at the end"
unfoldable pub pieces : {A : Type 0} → ℕ → ℕ → List A → List (List A)
pieces lanes zero g = []
pieces lanes (suc n) g = take lanes g ∷ pieces lanes n (drop lanes g)

-- a pass cut by the lanes: one piece, and one more for each time that the lanes go into what stands before its last element. A pass that
-- holds no element is one empty piece: it "must give one chunk with no valid lanes"
unfoldable pub cut_pass : {A : Type 0} → ℕ → List A → List (List A)
cut_pass lanes g = pieces lanes (suc ((length g - 1) / lanes)) g

-- passes in order, each cut
unfoldable pub listed : {A : Type 0} → ℕ → List (List A) → List (List A)
listed lanes gs = join (map (cut_pass lanes) gs)

-- the chunks that register i's stream gave over a history: the stops that it went past in each entry that moved it
abbrev pub chunks_of : List Entry → ℕ → List (List (List ℕ))
chunks_of es i = with_elements (map (λ (e : Entry). e.taken i) es)

-- the stream t in register i of a machine, after the entries es, at so many lanes
pub record Listed (lanes : ℕ) (t : Stream) (es : List Entry) (m : Machine) (i : ℕ) : Type 0 where
  -- the elements of the chunks still to come
  pub to_come : List (List (List ℕ))
  -- 02, 3/14: "A pass of the coupled dimension that the outer loops reach and that holds no element must give one chunk with no valid lanes":
  -- the elements of the chunks that it gave, then those to come, are the passes of that dimension, each cut by the lanes
  pub coupled : (c : ℕ) → t.header.coupling ≡ Some c
      → map (elements_in t) (chunks_of es i) ++ to_come ≡ listed lanes (passes (size_at (pattern_of t).shape) c (length t.dimensions))
  -- "row n of the sums" is "row n of the image": where no pass is longer than the lanes, chunk n is pass n
  pub row-by-row : (c : ℕ) → t.header.coupling ≡ Some c
      → Each [] (λ g. length g ≤ lanes) (passes (size_at (pattern_of t).shape) c (length t.dimensions))
      → map (elements_in t) (chunks_of es i) ++ to_come ≡ passes (size_at (pattern_of t).shape) c (length t.dimensions)
  -- 01: "Passes with no element give no chunk": uncoupled, they are the elements cut by the lanes; no chunk if there is none
  pub uncoupled : t.header.coupling ≡ None → map (elements_in t) (chunks_of es i) ++ to_come ≡ listed lanes (with_elements (all_of t ∷ []))
  -- "in demand 2 the end of such a stream shows after its last coupled pass": none is to come exactly if the end of stream shows
  pub end-yes : (ask_end m i ≡ Ok true) ↔ (to_come ≡ [])

-- for a vector length, a sheet and a memory: of every load stream that the sheet ended, at every moment of its run
pub record Listing (vl : ℕ) (s memory : List ℕ) : Type 0 where
  pub runs : Fits vl (length memory) → (os : List Operation) (at : ℕ) (m : Machine) (loop : ℕ) (cs : List Placed) → DoneBefore s os at m
      → RunAt s at loop cs (length s) → LoopsOn loop cs m → (q : Streams vl os m memory loop cs (run vl s memory))
      → (i : ℕ) → i < 32 → (t : Stream) → given_for i os ≡ ended t → t.header.kind ≡ Load → (k : ℕ) → k ≤ length q.ran.entries
      → Listed (vl / stream_width t) t (take k q.ran.entries) (world_at (world m memory) q.ran.entries k).machine i
