-- Each sum is that of the row whose turn it is (`InTurn` of specs/InTurn): the chunk that a calculation 8 reads is the next of those that the
-- stream gives, and these are its passes.
--
--   reads-some            a source that has a stream goes past a stop at least
--   read-values           what an entry reads, by the stream
--   one_more              an entry that goes past a stop gives one chunk more
--   in-place, at-seam     the member behind a list, and its place
--   by-chunk              a calculation 8, from the chunks given
--   in-turn               of every sheet
use Rattle.std.proofs.Common.{◌≡◌, ℕ, suc, ◌*◌, ◌<◌, ◌≤◌, List, [], ◌∷◌, ◌++◌, map, length, get_or, take, sym, ap, ◌∙◌, subst, append_assoc, arith, length-append, take-suc}
use mathlib.Core.List.{map-append}
use lib.ListN.{length-map}
use lib.Seq.{get_or-append_seam}
use Rattle.codec.specs.NumberLaws.{AreBytes}
use Rattle.engine.specs.Chunks.{held_in, with_elements}
use Rattle.engine.specs.Memory.{fetch}
use Rattle.engine.specs.FoldLaws.{sum-none}
use Rattle.engine.specs.Registers.{reg}
use Rattle.engine.specs.Calculate.{World}
use Rattle.engine.specs.Sheets.{run}
use Rattle.engine.specs.Histories.{Gives, Entry, world_at, moved_of}
use Rattle.engine.specs.Given.{Stream, elements_in, AtMoment}
use Rattle.engine.specs.Promise1.{world}
use Rattle.engine.specs.StreamSums.{stream_width, values_of, sum_of, no_entry, entry_at, calculation_of, DidIn, chunk_read}
use Rattle.engine.specs.RowSums.{passes_of, Summed}
use Rattle.engine.specs.SumLaws.{did_at, open-or-finished}
use Rattle.engine.specs.Listed.{chunks_of}
use Rattle.engine.specs.InTurn.{turn_at, RowSum, InTurn}
use Rattle.engine.proofs.RowSums.{row-sums}
use Rattle.engine.proofs.Promise2.{not_plain}
use Rattle.engine.proofs.Listed.{with_append, with-one, listing}
use Rattle.engine.specs.declared.register.State.TheVariants.{Plain}

-- ---- lists

-- ---- one entry

-- a source that has a stream goes past a stop at least
reads-some : (vl : ℕ) (t : Stream) (w : World) (e : Entry) (i : ℕ) (so_far : List (List ℕ)) → AtMoment t so_far w.machine i → DidIn vl w e
    → (calculation_of e).first ≡ i → 1 ≤ length (e.taken i)
reads-some vl t w e i so_far a d p = go d.gives-first
  where
    go : Gives vl w.memory (reg w.machine (calculation_of e).first) (e.taken (calculation_of e).first) d.first → 1 ≤ length (e.taken i)
    go (Gives.plain s x y) =
        not_plain (reg w.machine i).state (open-or-finished t so_far w.machine i a) (subst (λ k. (reg w.machine k).state ≡ Plain) p s)
    go (Gives.load o x y) = subst (λ k. 1 ≤ length (e.taken k)) p x.some

-- what it reads, by the stream
read-values : (t : Stream) (w : World) (e : Entry) (i : ℕ) (so_far : List (List ℕ)) → AtMoment t so_far w.machine i
    → chunk_read w e i ≡ values_of t w.memory (elements_in t (e.taken i))
read-values t w e i so_far a = λ z. map (fetch (a.pattern z) (a.width z) w.memory) (held_in (a.pattern z).shape (e.taken i))

-- an entry that goes past a stop gives one chunk more
one_more : (es : List Entry) (i k : ℕ) → k < length es → 1 ≤ length ((entry_at es k).taken i)
    → chunks_of (take (suc k) es) i ≡ chunks_of (take k es) i ++ ((entry_at es k).taken i ∷ [])
one_more es i k l h =
    ap (λ y. chunks_of y i) (take-suc es k no_entry l)
    ∙ ap with_elements (map-append (λ (e : Entry). e.taken i) (take k es) (entry_at es k ∷ []))
    ∙ with_append (map (λ (e : Entry). e.taken i) (take k es)) ((entry_at es k).taken i ∷ [])
    ∙ ap (λ l. chunks_of (take k es) i ++ l) (with-one ((entry_at es k).taken i) h)

-- what is made of the member behind a list stands there
in-place : {A B : Type 0} (f : A → B) (xs : List A) (x : A) (rest all : List B) → map f (xs ++ (x ∷ [])) ++ rest ≡ all → map f xs ++ (f x ∷ rest) ≡ all
in-place f xs x rest all e = sym (append_assoc (map f xs) (f x ∷ []) rest) ∙ ap (λ l. l ++ rest) (sym (map-append f xs (x ∷ []))) ∙ e

-- at the place that is the length of the list
at-seam : {A B : Type 0} (f : A → B) (z : B) (xs : List A) (x : A) (rest all : List B) → map f xs ++ (f x ∷ rest) ≡ all
    → (length xs < length all) × (get_or all (length xs) z ≡ f x)
at-seam f z xs x rest all e = (
  omega (arith, length-map xs f, length-append (map f xs) (f x ∷ rest), ap length e),
  ap (λ n. get_or all n z) (sym (length-map xs f)) ∙ ap (λ l. get_or l (length (map f xs)) z) (sym e) ∙ get_or-append_seam (map f xs) (f x) rest z,
)

-- a calculation 8, from the chunks that the stream has given after it: the last of these is the row whose turn it was
by-chunk : (vl : ℕ) (t : Stream) (w : World) (es : List Entry) (i c k : ℕ) (so_far : List (List ℕ)) → k < length es
    → AtMoment t so_far (world_at w es k).machine i → Summed vl t (world_at w es k) (entry_at es k) i → 1 ≤ length ((entry_at es k).taken i)
    → (rest : List (List (List ℕ))) → map (elements_in t) (chunks_of (take (suc k) es) i) ++ rest ≡ passes_of t c → RowSum vl t w es i c k
by-chunk vl t w es i c k so_far n a summed some rest e = record {
  inside = seam.0;
  next = ap length more ∙ omega (arith, length-append (chunks_of (take k es) i) (taken ∷ []));
  sum = sum;
  nothing = λ z d. sum d ∙ ap (λ vs. sum_of t (values_of t (world_at w es k).memory vs) ∷ []) z ∙ ap (λ y. y ∷ []) (sum-none (8 * stream_width t));
}
  where
    taken : List (List ℕ)
    taken = (entry_at es k).taken i

    more : chunks_of (take (suc k) es) i ≡ chunks_of (take k es) i ++ (taken ∷ [])
    more = one_more es i k n some

    seam : (turn_at es i k < length (passes_of t c)) × (get_or (passes_of t c) (turn_at es i k) [] ≡ elements_in t taken)
    seam =
        at-seam (elements_in t) [] (chunks_of (take k es) i) taken rest (passes_of t c)
        (in-place (elements_in t) (chunks_of (take k es) i) taken rest (passes_of t c) (ap (λ y. map (elements_in t) y ++ rest) (sym more) ∙ e))

    sum : (d : DidIn vl (world_at w es k) (entry_at es k))
        → d.out ≡ sum_of t (values_of t (world_at w es k).memory (get_or (passes_of t c) (turn_at es i k) [])) ∷ []
    sum d =
        summed.single d
        ∙ ap (λ xs. sum_of t xs ∷ []) (read-values t (world_at w es k) (entry_at es k) i so_far a)
        ∙ ap (λ vs. sum_of t (values_of t (world_at w es k).memory vs) ∷ []) (sym seam.1)

-- ---- the promise

-- for every sheet
pub in-turn : (vl : ℕ) (s memory : List ℕ) → AreBytes s → InTurn vl s memory
in-turn vl s memory b = record {
  runs = λ f os at m loop cs d r l q i h t g load c e short k n task first.
      let es : List Entry = q.ran.entries in
      let a = q.moments i h t g k (omega arith) in
      let did = did_at vl es (world m memory) (run vl s memory).world k q.ran.follow n in
      let x = (listing vl s memory b).runs f os at m loop cs d r l q i h t g load (suc k) n in
      let summed = ((row-sums vl s memory b).runs f os at m loop cs d r l q i h t g).sums.summed k n task first in
      by-chunk vl t (world m memory) es i c k (moved_of (take k es) i) n a summed
      (reads-some vl t (world_at (world m memory) es k) (entry_at es k) i (moved_of (take k es) i) a did first) x.to_come (x.row-by-row c e short);
}
