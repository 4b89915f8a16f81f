-- What a stream reads over a history, entry by entry.
--
--   did_at, after-at, named-entry        entry k: a completed calculation, the world after it, the registers that it names
--   moved-append, moved-between          the stops gone past in two parts of a history; between two moments
--   chunks-length, chunks-at             the chunks read, and each of them
--   between-map, join-values             what is made of each entry; values of the elements gone past, joined
--   At, open-or-finished                 a stream at every moment of a history; its state
--   moved-next, taken-place, taken-past  what an entry goes past are the next stops
--   held_all, held_place, held-past      the elements among the stops; those of an entry are the next elements of the loop
use Rattle.std.specs.Prelude.{◌≡◌, ℕ, zero, suc, ◌+◌, ◌<◌, ◌≤◌, ◌⊎◌, List, [], ◌∷◌, ◌++◌, map, length, get_or, take, drop, slice_index_or, refl}
use Rattle.std.proofs.Common.{sym, ◌∙◌, ap, inl, inr, append_assoc, append-nil, arith, length-append, take-append-drop, take-suc, take-take, get_or-append-add}
use Rattle.std.proofs.lemmas.List.{map-append}
use Rattle.std.proofs.Math.ListN.{get_or-append}
use Rattle.engine.specs.Loops.{size_at, join}
use Rattle.engine.specs.Chunks.{elements_among}
use Rattle.engine.specs.StopLaws.{among-append}
use Rattle.engine.specs.Registers.{reg}
use Rattle.engine.specs.Calculate.{World}
use Rattle.engine.specs.CalculationLaws.{Named}
use Rattle.engine.specs.HistoryLaws.{AllNamed}
use Rattle.engine.specs.Histories.{Entry, Follow, world_at, moved_of}
use Rattle.engine.specs.Given.{Stream, stops_of, elements_in, pattern_of, AtMoment}
use Rattle.engine.specs.StreamSums.{all_of, values_of, no_entry, entry_at, calculation_of, DidIn, chunk_read, chunks_read, between}
use Rattle.engine.specs.declared.register.State.TheVariants.{Open, Finished}
use Rattle.engine.specs.declared.register.Machine.{Machine}

-- ---- entries

-- entry k is a completed calculation
pub did_at : (vl : ℕ) (es : List Entry) (w v : World) (k : ℕ) → Follow vl w es v → k < length es
    → DidIn vl (world_at w es k) (entry_at es k)
unfolding Follow world_at
did_at vl [] w v k f h = absurd (omega arith)
did_at vl (e ∷ es) w v zero f h = f.0
did_at vl (e ∷ es) w v (suc k) f h = did_at vl es e.after v k f.1 (omega arith)

-- the world after it
pub after-at : (es : List Entry) (w : World) (k : ℕ) → k < length es → world_at w es (suc k) ≡ (entry_at es k).after
unfolding world_at
after-at [] w k h = absurd (omega arith)
after-at (e ∷ es) w zero h = refl
after-at (e ∷ es) w (suc k) h = after-at es e.after k (omega arith)

-- it names registers
pub named-entry : (es : List Entry) (k : ℕ) → AllNamed (map (λ (e : Entry). e.calculation) es) → k < length es
    → Named (calculation_of (entry_at es k))
unfolding AllNamed
named-entry [] k nm h = absurd (omega arith)
named-entry (e ∷ es) zero nm h = nm.0
named-entry (e ∷ es) (suc k) nm h = named-entry es k nm.1 (omega arith)

-- ---- stops gone past

-- in two parts of a history
pub moved-append : (ds es : List Entry) (i : ℕ) → moved_of (ds ++ es) i ≡ moved_of ds i ++ moved_of es i
unfolding moved_of
moved-append [] es i = refl
moved-append (d ∷ ds) es i = ap (λ l. d.taken i ++ l) (moved-append ds es i) ∙ sym (append_assoc (d.taken i) (moved_of ds i) (moved_of es i))

-- up to a moment, and from there to a later one
pub moved-between : (es : List Entry) (i j k : ℕ) → j ≤ k → moved_of (take j es) i ++ moved_of (between j k es) i ≡ moved_of (take k es) i
moved-between es i j k h =
    ap (λ l. moved_of l i ++ moved_of (between j k es) i) (sym (take-take j k es h))
    ∙ sym (moved-append (take j (take k es)) (drop j (take k es)) i)
    ∙ ap (λ l. moved_of l i) (take-append-drop j (take k es))

-- up to the next moment
pub moved-next : (es : List Entry) (i k : ℕ) → k < length es → moved_of (take (suc k) es) i ≡ moved_of (take k es) i ++ (entry_at es k).taken i
unfolding moved_of
moved-next es i k h =
    ap (λ l. moved_of l i) (take-suc es k no_entry h)
    ∙ moved-append (take k es) (entry_at es k ∷ []) i
    ∙ ap (λ l. moved_of (take k es) i ++ l) (append-nil ((entry_at es k).taken i))

-- ---- chunks read

-- a chunk for each entry
pub chunks-length : (w : World) (es : List Entry) (i : ℕ) → length (chunks_read w es i) ≡ length es
unfolding chunks_read
chunks-length w [] i = refl
chunks-length w (e ∷ es) i = ap suc (chunks-length e.after es i)

-- what it read
pub chunks-at : (w : World) (es : List Entry) (i k : ℕ) → k < length es → slice_index_or (chunks_read w es i) k [] ≡ chunk_read (world_at w es k) (entry_at es k) i
unfolding chunks_read world_at
chunks-at w [] i k h = absurd (omega arith)
chunks-at w (e ∷ es) i zero h = refl
chunks-at w (e ∷ es) i (suc k) h = chunks-at e.after es i k (omega arith)

module _ {A B : Type 0} (f : A → B) where
  -- what is made of each, up to a moment
  take-map : (k : ℕ) (l : List A) → take k (map f l) ≡ map f (take k l)
  take-map zero l = refl
  take-map (suc k) [] = refl
  take-map (suc k) (x ∷ l) = ap (λ r. f x ∷ r) (take-map k l)

  -- from a moment on
  drop-map : (k : ℕ) (l : List A) → drop k (map f l) ≡ map f (drop k l)
  drop-map zero l = refl
  drop-map (suc k) [] = refl
  drop-map (suc k) (x ∷ l) = drop-map k l

  -- between two
  pub between-map : (j k : ℕ) (l : List A) → between j k (map f l) ≡ map f (between j k l)
  between-map j k l = ap (drop j) (take-map k l) ∙ drop-map j (take k l)

-- the values of the elements that each entry moved, joined, are those of all of them
pub join-values : (t : Stream) (memory : List ℕ) (es : List Entry) (i : ℕ)
    → join (map (λ (e : Entry). values_of t memory (elements_in t (e.taken i))) es) ≡ values_of t memory (elements_in t (moved_of es i))
unfolding join moved_of elements_among
join-values t memory [] i = refl
join-values t memory (e ∷ es) i =
    ap (λ l. values_of t memory (elements_in t (e.taken i)) ++ l) (join-values t memory es i)
    ∙ sym (map-append _ (elements_in t (e.taken i)) (elements_in t (moved_of es i)))
    ∙ ap (values_of t memory) (sym (among-append (size_at (pattern_of t).shape) (e.taken i) (moved_of es i)))

-- ---- a stream at every moment

-- as Promise 2 has it
abbrev pub At : Stream → World → List Entry → ℕ → Type 0
At t w es i = (k : ℕ) → k ≤ length es → AtMoment t (moved_of (take k es) i) (world_at w es k).machine i

-- a stream is open or finished
pub open-or-finished : (t : Stream) (moved : List (List ℕ)) (m : Machine) (i : ℕ) → AtMoment t moved m i → ((reg m i).state ≡ Open) ⊎ ((reg m i).state ≡ Finished)
open-or-finished t moved m i a = go a.to_come refl
  where
    go : (l : List (List ℕ)) → a.to_come ≡ l → ((reg m i).state ≡ Open) ⊎ ((reg m i).state ≡ Finished)
    go [] e = inr (a.finished e)
    go (v ∷ l) e = inl (a.going_on (λ f. let z : ◌≡◌ {A = ℕ} 0 1 = cc in omega arith))

-- the elements among the stops of a stream are the loop's
pub held_all : (t : Stream) (past : List (List ℕ)) (m : Machine) (i : ℕ) → AtMoment t past m i → elements_in t (stops_of t) ≡ all_of t
held_all t past m i a =
    ap (elements_in t) (sym a.each-stop) ∙ among-append (size_at (pattern_of t).shape) past a.to_come ∙ a.each-once

module _ (t : Stream) (w : World) (es : List Entry) (i : ℕ) (a : At t w es i) (k : ℕ) (h : k < length es) where
  -- what it has gone past up to entry k, what it goes past in it, and what is to come then, are its stops
  parts : moved_of (take k es) i ++ ((entry_at es k).taken i ++ (a (suc k) h).to_come) ≡ stops_of t
  parts =
      sym (append_assoc (moved_of (take k es) i) ((entry_at es k).taken i) (a (suc k) h).to_come)
      ∙ ap (λ l. l ++ (a (suc k) h).to_come) (sym (moved-next es i k h))
      ∙ (a (suc k) h).each-stop

  -- what entry k goes past are the next stops
  pub taken-place : (j : ℕ) → j < length ((entry_at es k).taken i)
      → slice_index_or ((entry_at es k).taken i) j [] ≡ slice_index_or (stops_of t) (length (moved_of (take k es) i) + j) []
  taken-place j p =
      sym (get_or-append ((entry_at es k).taken i) (a (suc k) h).to_come [] j p)
      ∙ sym (get_or-append-add (moved_of (take k es) i) ((entry_at es k).taken i ++ (a (suc k) h).to_come) j [])
      ∙ ap (λ l. get_or l (length (moved_of (take k es) i) + j) []) parts

  -- there are so many
  pub taken-past : length (moved_of (take k es) i) + length ((entry_at es k).taken i) ≤ length (stops_of t)
  taken-past =
      omega (
        arith,
        ap length parts,
        length-append (moved_of (take k es) i) ((entry_at es k).taken i ++ (a (suc k) h).to_come),
        length-append ((entry_at es k).taken i) (a (suc k) h).to_come,
      )

  -- the elements that have moved up to entry k, those that move in it, and those to come then, are the loop's
  held-parts : elements_in t (moved_of (take k es) i) ++ (elements_in t ((entry_at es k).taken i) ++ elements_in t (a (suc k) h).to_come) ≡ all_of t
  held-parts =
      let size = size_at (pattern_of t).shape in
      ap (λ l. elements_in t (moved_of (take k es) i) ++ l) (sym (among-append size ((entry_at es k).taken i) (a (suc k) h).to_come))
      ∙ sym (among-append size (moved_of (take k es) i) ((entry_at es k).taken i ++ (a (suc k) h).to_come))
      ∙ ap (elements_in t) parts
      ∙ held_all t (moved_of (take (suc k) es) i) (world_at w es (suc k)).machine i (a (suc k) h)

  -- those that move in it are the next elements of the loop
  pub held_place : (j : ℕ) → j < length (elements_in t ((entry_at es k).taken i))
      → slice_index_or (elements_in t ((entry_at es k).taken i)) j [] ≡ slice_index_or (all_of t) (length (elements_in t (moved_of (take k es) i)) + j) []
  held_place j p =
      sym (get_or-append (elements_in t ((entry_at es k).taken i)) (elements_in t (a (suc k) h).to_come) [] j p)
      ∙ sym (get_or-append-add (elements_in t (moved_of (take k es) i)) (elements_in t ((entry_at es k).taken i) ++ elements_in t (a (suc k) h).to_come) j [])
      ∙ ap (λ l. get_or l (length (elements_in t (moved_of (take k es) i)) + j) []) held-parts

  -- there are so many
  pub held-past : length (elements_in t (moved_of (take k es) i)) + length (elements_in t ((entry_at es k).taken i)) ≤ length (all_of t)
  held-past =
      omega (
        arith,
        ap length held-parts,
        length-append (elements_in t (moved_of (take k es) i)) (elements_in t ((entry_at es k).taken i) ++ elements_in t (a (suc k) h).to_come),
        length-append (elements_in t ((entry_at es k).taken i)) (elements_in t (a (suc k) h).to_come),
      )
