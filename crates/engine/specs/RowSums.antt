-- Row sums (02, 2/14) over the history of Promise 2: "The vector length cuts rows", and a row's sum does not depend on where. The partial
-- sums of the chunks that a stream gave, added up, are the sum over the loop's elements, a number that no vector length stands in. Each
-- element is one term of it, and the loop lists each once (`loops-once`): no pixel counts twice, unless the loop itself comes to it twice.
-- Proof: proofs/RowSums.
--
--   Read                 the lanes of a source are the chunk read
--   Summed               a calculation 8 over a stream
--   RowRead              a row, and the moments between which it is read
--   passes_of, PassRead   the passes of the coupled dimension; one of them, and the moments between which it is read
--   Sums, SumsOver       the sums of a stream over a history; over a run
--   RowSums, SameSums    the promise; the same at two vector lengths
use Rattle.std.specs.Prelude.{◌≡◌, ℕ, suc, ◌+◌, ◌*◌, ◌<◌, ◌≤◌, false, List, [], ◌∷◌, ◌++◌, map, length, get_or, take, drop, slice_index_or, Ok, true, Some}
use Rattle.codec.specs.declared.header.Kind.TheVariants.{Load}
use Rattle.codec.specs.declared.operation.Fold.TheVariants.{Sum, Smallest, Largest}
use Rattle.codec.specs.declared.operation.Task.TheVariants.{All}
use Rattle.codec.specs.declared.operation.Operation.{Operation}
use Rattle.engine.specs.Loops.{size_at, join}
use Rattle.engine.specs.Chunks.{passes, stops, nothing_at, with_elements, stream_groups}
use Rattle.engine.specs.Memory.{stored, contents}
use Rattle.engine.specs.Lanes.{folded}
use Rattle.engine.specs.Registers.{shape_of, moved_to}
use Rattle.engine.specs.Questions.{ask_end}
use Rattle.engine.specs.Calculate.{World}
use Rattle.engine.specs.Run.{Progress}
use Rattle.engine.specs.Sheets.{run}
use Rattle.engine.specs.Allowed.{Fits}
use Rattle.engine.specs.Histories.{Entry, world_at, moved_of}
use Rattle.engine.specs.Given.{Stream, stops_of, elements_in, pattern_of, ended, given_for}
use Rattle.engine.specs.Promise1.{DoneBefore, RunAt, LoopsOn, world}
use Rattle.engine.specs.Promise2.{Streams}
use Rattle.engine.specs.StreamSums.{stream_width, all_of, values_of, sum_of, partial_sums, total, entry_at, calculation_of, DidIn, destination_of, chunk_read, chunks_read, between, Steady, StoresApart, Row}
use Rattle.engine.specs.declared.register.State.TheVariants.{Plain, Open}
use Rattle.engine.specs.declared.register.Machine.{Machine}
use Rattle.engine.specs.declared.run.Placed.{Placed}

-- ---- one entry, from w

-- what a source gives is what its stream t, in register i, reads; a load that is no source reads nothing
pub record Read (vl : ℕ) (t : Stream) (w : World) (e : Entry) (i : ℕ) : Type 0 where
  pub first : (calculation_of e).first ≡ i → (d : DidIn vl w e) → d.first ≡ chunk_read w e i
  pub second : (calculation_of e).second ≡ i → (d : DidIn vl w e) → d.second ≡ chunk_read w e i
  pub neither : t.header.kind ≡ Load → ¬ ((calculation_of e).first ≡ i) → ¬ ((calculation_of e).second ≡ i) → chunk_read w e i ≡ []

-- it is a calculation 8 over that stream: "the destination takes a single lane", the sum of the chunk read
pub record Summed (vl : ℕ) (t : Stream) (w : World) (e : Entry) (i : ℕ) : Type 0 where
  pub single : (d : DidIn vl w e) → d.out ≡ sum_of t (chunk_read w e i) ∷ []
  -- a plain destination has that lane afterwards, of the stream's width
  pub plain : (destination_of w e).state ≡ Plain
      → ((destination_of e.after e).width ≡ stream_width t) × (contents (destination_of e.after e) ≡ sum_of t (chunk_read w e i) ∷ [])
  -- of a store stream it stands at the next element, and the stream has moved on by 1; at a coupled pass that holds none (02, 3/14: "refuses
  -- more") it was refused
  pub store : (destination_of w e).state ≡ Open
      → (nothing_at (shape_of (destination_of w e)) (destination_of w e).moved ≡ false)
      × (e.after.memory
      ≡ stored (destination_of w e).pattern (destination_of w e).width w.memory
      (take 1 (drop (destination_of w e).moved (stops (shape_of (destination_of w e))))) (sum_of t (chunk_read w e i) ∷ []))
      × (destination_of e.after e ≡ moved_to ((destination_of w e).moved + 1) (destination_of w e))

-- ---- a history, from w

-- a row, given by its stops and those before it, is read between two moments, whole and alone; the partial sums of the chunks between them,
-- added up, are the sum over its elements
pub record RowRead (t : Stream) (w : World) (es : List Entry) (i : ℕ) (before row : List (List ℕ)) : Type 0 where
  pub from : ℕ
  pub to : ℕ
  pub in_order : from ≤ to
  pub in-history : to ≤ length es
  pub not_yet : moved_of (take from es) i ≡ before
  pub then : moved_of (take to es) i ≡ before ++ row
  pub sum : total t (between from to (chunks_read w es i)) ≡ sum_of t (values_of t w.memory (elements_in t row))

-- coupled to dimension c: the passes of that dimension that the outer loops reach, in order, those that hold no element too
abbrev pub passes_of : Stream → ℕ → List (List (List ℕ))
passes_of t c = passes (size_at (pattern_of t).shape) c (length t.dimensions)

-- where a stream stops before pass n, counted from 0: in the first n of them
abbrev pub stops_before : Stream → ℕ → List (List ℕ)
stops_before t n = join (take n (stream_groups (pattern_of t).shape))

-- 02, 3/14: "row n of the sums" is "row n of the image": pass n, counted from 0, is read between two moments, and nothing else is
pub record PassRead (t : Stream) (w : World) (es : List Entry) (i c n : ℕ) : Type 0 where
  pub from : ℕ
  pub to : ℕ
  -- a chunk at least is read for it, also if it holds no element: it "must give one chunk with no valid lanes"
  pub in_order : from < to
  pub in-history : to ≤ length es
  pub not_yet : moved_of (take from es) i ≡ stops_before t n
  pub then : moved_of (take to es) i ≡ stops_before t (suc n)
  -- the partial sums of its chunks, added up, are the sum over its elements; 0 if it holds none
  pub sum : total t (between from to (chunks_read w es i)) ≡ sum_of t (values_of t w.memory (slice_index_or (passes_of t c) n []))
  pub nothing : get_or (passes_of t c) n [] ≡ [] → total t (between from to (chunks_read w es i)) ≡ 0

-- the stream t in register i
pub record Sums (vl : ℕ) (t : Stream) (w : World) (es : List Entry) (i : ℕ) : Type 0 where
  -- the chunks are what sources gave, and their sums what calculations 8 gave
  pub read : (k : ℕ) → k < length es → Read vl t (world_at w es k) (entry_at es k) i
  pub summed : (k : ℕ) → k < length es → (calculation_of (entry_at es k)).task ≡ All Sum → (calculation_of (entry_at es k)).first ≡ i
      → Summed vl t (world_at w es k) (entry_at es k) i
  -- "folding the partial sums of any cutting gives the whole row's sum": between any two moments the partial sums, added up, are the sum of
  -- all lanes read, each with the value that memory held then; so is the sum of the partial sums
  pub lanes : (j k : ℕ) → total t (between j k (chunks_read w es i)) ≡ sum_of t (join (between j k (chunks_read w es i)))
  pub folding : (j k : ℕ) → sum_of t (partial_sums t (between j k (chunks_read w es i))) ≡ sum_of t (join (between j k (chunks_read w es i)))
  -- the smallest of the smallest, the largest of the largest, of the chunks that have a lane
  pub smallest : (j k : ℕ)
      → folded Smallest (8 * stream_width t) (map (folded Smallest (8 * stream_width t)) (with_elements (between j k (chunks_read w es i))))
      ≡ folded Smallest (8 * stream_width t) (join (between j k (chunks_read w es i)))
  pub largest : (j k : ℕ)
      → folded Largest (8 * stream_width t) (map (folded Largest (8 * stream_width t)) (with_elements (between j k (chunks_read w es i))))
      ≡ folded Largest (8 * stream_width t) (join (between j k (chunks_read w es i)))
  -- if steady, the lanes read are the values of the elements moved, in order, each once; the sum is theirs
  pub values : Steady t w es i → (j k : ℕ)
      → join (between j k (chunks_read w es i)) ≡ values_of t w.memory (elements_in t (moved_of (between j k es) i))
  pub moved : Steady t w es i → (j k : ℕ)
      → total t (between j k (chunks_read w es i)) ≡ sum_of t (values_of t w.memory (elements_in t (moved_of (between j k es) i)))
  -- once it has gone past all its stops, of all the loop's elements
  pub whole : Steady t w es i → moved_of es i ≡ stops_of t → total t (chunks_read w es i) ≡ sum_of t (values_of t w.memory (all_of t))
  -- and of each row of a load, once it has gone past it
  pub rows : Steady t w es i → t.header.kind ≡ Load → (before row behind : List (List ℕ)) → Row (pattern_of t).shape before row behind
      → length (before ++ row) ≤ length (moved_of es i) → RowRead t w es i before row

-- ---- the promise

-- the stream t in register i over a run, whose history q is Promise 2's
pub record SumsOver (vl : ℕ) (os : List Operation) (m : Machine) (memory : List ℕ) (loop : ℕ) (cs : List Placed) (r : Progress)
    (q : Streams vl os m memory loop cs r) (i : ℕ) (t : Stream) : Type 0 where
  pub sums : Sums vl t (world m memory) q.ran.entries i
  -- each pass of its coupled dimension is a row, whether it has elements or not; if it is uncoupled, all elements are one
  pub passes : (gs : List (List (List ℕ))) (g : List (List ℕ)) (hs : List (List (List ℕ))) → stream_groups (pattern_of t).shape ≡ gs ++ (g ∷ hs)
      → Row (pattern_of t).shape (join gs) g (join hs)
  -- coupled to dimension c: the elements of its groups, group by group, are the passes of that dimension that the outer loops reach
  pub in-passes : (c : ℕ) → t.header.coupling ≡ Some c → map (elements_in t) (stream_groups (pattern_of t).shape) ≡ passes_of t c
  -- if steady, each pass that a load has gone past has its sum, in order; once the question for the end of the stream is told yes, each pass
  pub by-pass : Steady t (world m memory) q.ran.entries i → t.header.kind ≡ Load → (c : ℕ) → t.header.coupling ≡ Some c → (n : ℕ)
      → n < length (passes_of t c) → length (stops_before t (suc n)) ≤ length (moved_of q.ran.entries i)
      → PassRead t (world m memory) q.ran.entries i c n
  pub all-sums : Steady t (world m memory) q.ran.entries i → t.header.kind ≡ Load → (c : ℕ) → t.header.coupling ≡ Some c
      → ask_end r.world.machine i ≡ Ok true → (n : ℕ) → n < length (passes_of t c) → PassRead t (world m memory) q.ran.entries i c n
  -- it is steady if the body stores nothing that the stream reads
  pub steady : StoresApart t os cs → Steady t (world m memory) q.ran.entries i
  -- it has gone past all its stops once the question for the end of the stream is told yes
  pub walked : ask_end r.world.machine i ≡ Ok true → moved_of q.ran.entries i ≡ stops_of t

-- for a vector length, a sheet and a memory: of every stream that the sheet ended, coupled or not
pub record RowSums (vl : ℕ) (s memory : List ℕ) : Type 0 where
  pub runs : Fits vl (length memory) → (os : List Operation) (at : ℕ) (m : Machine) (loop : ℕ) (cs : List Placed) → DoneBefore s os at m
      → RunAt s at loop cs (length s) → LoopsOn loop cs m → (q : Streams vl os m memory loop cs (run vl s memory))
      → (i : ℕ) → i < 32 → (t : Stream) → given_for i os ≡ ended t → SumsOver vl os m memory loop cs (run vl s memory) q i t

-- for two vector lengths, a and b: the runs of one sheet on one memory, with the histories p and q
pub record SameSums (a b : ℕ) (s memory : List ℕ) : Type 0 where
  -- a stream that went past all its stops in both has the same total
  pub walked : (os : List Operation) (m : Machine) (loop : ℕ) (cs : List Placed) (p : Streams a os m memory loop cs (run a s memory))
      (q : Streams b os m memory loop cs (run b s memory)) → (i : ℕ) → i < 32 → (t : Stream) → given_for i os ≡ ended t
      → Steady t (world m memory) p.ran.entries i → Steady t (world m memory) q.ran.entries i
      → moved_of p.ran.entries i ≡ stops_of t → moved_of q.ran.entries i ≡ stops_of t
      → total t (chunks_read (world m memory) p.ran.entries i) ≡ total t (chunks_read (world m memory) q.ran.entries i)
  -- so has the loop register's stream, if both runs are done and the body stores nothing that it reads
  pub done : Fits a (length memory) → Fits b (length memory) → (os : List Operation) (at : ℕ) (m : Machine) (loop : ℕ) (cs : List Placed)
      → DoneBefore s os at m → RunAt s at loop cs (length s) → LoopsOn loop cs m → (p : Streams a os m memory loop cs (run a s memory))
      (q : Streams b os m memory loop cs (run b s memory)) → (t : Stream) → given_for loop os ≡ ended t → StoresApart t os cs
      → (run a s memory).verdict ≡ Ok tt → (run b s memory).verdict ≡ Ok tt
      → total t (chunks_read (world m memory) p.ran.entries loop) ≡ total t (chunks_read (world m memory) q.ran.entries loop)
  -- and each row of its own, however many chunks it was cut into
  pub rows : (os : List Operation) (m : Machine) (loop : ℕ) (cs : List Placed) (p : Streams a os m memory loop cs (run a s memory))
      (q : Streams b os m memory loop cs (run b s memory)) (i : ℕ) (t : Stream) (before row : List (List ℕ))
      (x : RowRead t (world m memory) p.ran.entries i before row) (y : RowRead t (world m memory) q.ran.entries i before row)
      → total t (between x.from x.to (chunks_read (world m memory) p.ran.entries i))
      ≡ total t (between y.from y.to (chunks_read (world m memory) q.ran.entries i))
  -- and each pass of its coupled dimension, whether it holds elements or not
  pub passes : (os : List Operation) (m : Machine) (loop : ℕ) (cs : List Placed) (p : Streams a os m memory loop cs (run a s memory))
      (q : Streams b os m memory loop cs (run b s memory)) (i : ℕ) (t : Stream) (c n : ℕ)
      (x : PassRead t (world m memory) p.ran.entries i c n) (y : PassRead t (world m memory) q.ran.entries i c n)
      → total t (between x.from x.to (chunks_read (world m memory) p.ran.entries i))
      ≡ total t (between y.from y.to (chunks_read (world m memory) q.ran.entries i))
