-- Row sums, proved: at every vector length the partial sums of a stream's chunks, added up, are the sum over its elements.
--
--   lanes, values, moved, whole   the sums of a history: folding, then the values of the elements moved
--   uncrossed, met, each_row      no chunk crosses the end of a row, so each end is met; each row
--   passes-held, pass-read        the passes of a coupled stream, and each of them
--   history-sums, accepted, over, row-sums   the promise
--   same-at-every-length          at two vector lengths
use Rattle.std.specs.Prelude.{Some}
use Rattle.std.proofs.Common.{◌≡◌, ℕ, zero, suc, ◌+◌, ◌-◌, ◌*◌, ◌<◌, ◌≤◌, ◌⊎◌, List, [], ◌∷◌, ◌++◌, map, length, get_or, take, drop, sym, refl, ap, ◌∙◌, subst, inl, inr, ⊎_elim, append_assoc, append-nil, eq-or-lt_of_le, arith, length-append, take-append-drop, take-suc, take_at, ext_get_or, drop_at, Ok, true}
use native.Mathlib.Decide.{dec_lt}
use lib.ListN
use lib.ListN.{length-map}
use lib.Seq.{take-length, split_at}
use Rattle.codec.specs.NumberLaws.{AreBytes}
use Rattle.codec.specs.declared.header.Kind.TheVariants.{Load}
use Rattle.codec.specs.declared.operation.Fold.TheVariants.{Smallest, Largest}
use Rattle.codec.specs.declared.operation.Operation.{Operation}
use Rattle.engine.specs.Loops.{size_at, join}
use Rattle.engine.specs.Chunks.{elements_among, held_in, with_elements, groups, stream_groups}
use Rattle.engine.specs.Members.{get_d_map}
use Rattle.engine.specs.GroupLaws.{join-append, join-with_elements}
use Rattle.engine.specs.ChunkLaws.{groups-join}
use Rattle.engine.specs.Memory.{fetch}
use Rattle.engine.specs.Lanes.{folded}
use Rattle.engine.specs.FoldLaws.{sum-none, folding-sum, folding-added}
use Rattle.engine.specs.ExtremeLaws.{folding-smallest, folding-largest}
use Rattle.engine.specs.Registers.{is_open, is_finished, reg}
use Rattle.engine.specs.Questions.{ask_end}
use Rattle.engine.specs.Calculate.{World}
use Rattle.engine.specs.Sheets.{run}
use Rattle.engine.specs.Allowed.{Fits}
use Rattle.engine.specs.Good.{Accepted, Good}
use Rattle.engine.specs.HistoryLaws.{AllNamed}
use Rattle.engine.specs.Histories.{PassEnds, Entry, Follow, world_at, moved_of}
use Rattle.engine.specs.RanLaws.{ran_named}
use Rattle.engine.specs.MovingLaws.{world-last}
use Rattle.engine.specs.Given.{Stream, stops_of, elements_in, pattern_of, ended, given_for}
use Rattle.engine.specs.Promise1.{DoneBefore, RunAt, LoopsOn, world}
use Rattle.engine.specs.Promise2.{Streams}
use Rattle.engine.specs.StreamSums.{stream_width, all_of, values_of, sum_of, total, no_entry, entry_at, chunks_read, between, Steady, Row}
use Rattle.engine.specs.RowSums.{RowRead, passes_of, stops_before, PassRead, Sums, SumsOver, RowSums, SameSums}
use Rattle.engine.specs.SumLaws.{did_at, named-entry, moved-between, moved-next, chunks-length, chunks-at, between-map, join-values, At, open-or-finished, held_all, taken-place, taken-past}
use Rattle.engine.specs.BorderLaws.{with-elements, groups-held, group-some, pass-row}
use Rattle.engine.proofs.Promise1.{sheet-runs}
use Rattle.engine.proofs.Steadiness.{apart-steady}
use Rattle.engine.proofs.Summing.{load_moved, read, summed}
use Rattle.engine.specs.declared.stream.Pattern.{Pattern}
use Rattle.engine.specs.declared.register.Machine.{Machine}
use Rattle.engine.specs.declared.run.Placed.{Placed}

-- ---- sums

module _ (t : Stream) (w : World) (es : List Entry) (i : ℕ) where
  -- the chunks read between two moments
  abbrev chunks : ℕ → ℕ → List (List ℕ)
  chunks j k = between j k (chunks_read w es i)

  -- "folding the partial sums of any cutting gives the whole row's sum"
  lanes : (j k : ℕ) → total t (chunks j k) ≡ sum_of t (join (chunks j k))
  lanes j k = sym (folding-added (8 * stream_width t) (chunks j k))

  module _ (a : At t w es i) (s : Steady t w es i) where
    -- what an entry reads is what memory held at the start
    read-steady : (k : ℕ) → k < length es → get_or (chunks_read w es i) k [] ≡ values_of t w.memory (elements_in t ((entry_at es k).taken i))
    read-steady k h =
        let m = a k (omega arith) in
        chunks-at w es i k h ∙ (λ z. map (fetch (m.pattern z) (m.width z) (world_at w es k).memory) (held_in (m.pattern z).shape ((entry_at es k).taken i))) ∙ s k h

    -- so it is in all of them
    chunks-steady : chunks_read w es i ≡ map (λ (e : Entry). values_of t w.memory (elements_in t (e.taken i))) es
    unfolding elements_among
    chunks-steady =
        ext_get_or [] (chunks_read w es i) (map (λ (e : Entry). values_of t w.memory (elements_in t (e.taken i))) es)
        (chunks-length w es i ∙ sym (length-map es _))
        (λ k h. read-steady k (omega (arith, chunks-length w es i)) ∙ sym (ListN.get_or-map (λ (e : Entry). values_of t w.memory (elements_in t (e.taken i))) es k no_entry))

    -- joined, they are the values of the elements moved
    values : (j k : ℕ) → join (chunks j k) ≡ values_of t w.memory (elements_in t (moved_of (between j k es) i))
    values j k = ap (λ l. join (between j k l)) chunks-steady ∙ ap join (between-map _ j k es) ∙ join-values t w.memory (between j k es) i

    -- so the sum is theirs
    moved : (j k : ℕ) → total t (chunks j k) ≡ sum_of t (values_of t w.memory (elements_in t (moved_of (between j k es) i)))
    moved j k = lanes j k ∙ ap (sum_of t) (values j k)

    -- once it has gone past all, of all
    whole : moved_of es i ≡ stops_of t → total t (chunks_read w es i) ≡ sum_of t (values_of t w.memory (all_of t))
    whole e =
        sym (folding-added (8 * stream_width t) (chunks_read w es i))
        ∙ ap (λ l. sum_of t (join l)) chunks-steady
        ∙ ap (sum_of t) (join-values t w.memory es i ∙ ap (values_of t w.memory) (ap (elements_in t) e ∙ held_all t (moved_of (take 0 es) i) (world_at w es 0).machine i (a 0 (omega arith))))

-- ---- rows

-- two fronts of one list that are equally long are the same
same-front : {A : Type 0} (xs ys us vs : List A) → xs ++ us ≡ ys ++ vs → length xs ≡ length ys → xs ≡ ys
same-front xs ys us vs e h = sym (take_at xs us (length ys) h) ∙ ap (take (length ys)) e ∙ take_at ys vs (length ys) refl

-- and so is what stands behind the same front
same_back : {A : Type 0} (xs us vs : List A) → xs ++ us ≡ xs ++ vs → us ≡ vs
same_back xs us vs e = sym (drop_at xs us (length xs) refl) ∙ ap (drop (length xs)) e ∙ drop_at xs vs (length xs) refl

-- where a row may begin or end: where the stream does, or a pass of the coupled dimension
abbrev Border : Stream → ℕ → Type 0
Border t b = (b ≡ 0) ⊎ ((b ≡ length (stops_of t)) ⊎ PassEnds (pattern_of t).shape b)

module _ (vl : ℕ) (t : Stream) (w v : World) (es : List Entry) (i : ℕ) (h : i < 32) (f : Follow vl w es v) (a : At t w es i) (load : t.header.kind ≡ Load)
  where
    -- how many stops it has gone past
    abbrev count : ℕ → ℕ
    count k = length (moved_of (take k es) i)

    -- those of one chunk are of one pass
    one-pass : (k : ℕ) → k < length es → (c : ℕ) → (pattern_of t).shape.coupling ≡ Some c → (j : ℕ) → suc j < length ((entry_at es k).taken i)
        → drop c (get_or ((entry_at es k).taken i) j []) ≡ drop c (get_or ((entry_at es k).taken i) (suc j) [])
    one-pass k l c e j p =
        let m = a k (omega arith) in
        ⊎_elim (λ x. absurd (omega (arith, ap length x))) (λ x. x.1.one-pass c (ap (λ (z : Pattern). z.shape.coupling) m.pattern ∙ e) j p)
        (load_moved vl t (world_at w es k) (entry_at es k) i (moved_of (take k es) i) m (did_at vl es w v k f l) h load)

    -- so none crosses a border
    uncrossed : (b k : ℕ) → Border t b → k < length es → count k < b → b < count (suc k) → ⊥
    uncrossed b k (inl z) l p q = omega arith
    uncrossed b k (inr (inl z)) l p q = omega (arith, taken-past t w es i a k l, ap length (moved-next es i k l), length-append (moved_of (take k es) i) ((entry_at es k).taken i))
    uncrossed b k (inr (inr e)) l p q =
        let j = b - 1 - count k in
        let n : suc j < length ((entry_at es k).taken i) = omega (arith, ap length (moved-next es i k l), length-append (moved_of (take k es) i) ((entry_at es k).taken i)) in
        let x : count k + j ≡ b - 1 = omega arith in
        let y : count k + suc j ≡ b = omega arith in
        e.other (
        ap (λ m. drop e.dimension (get_or (stops_of t) m [])) (sym x)
        ∙ ap (drop e.dimension) (sym (taken-place t w es i a k l j (omega arith)))
        ∙ one-pass k l e.dimension e.coupled j n
        ∙ ap (drop e.dimension) (taken-place t w es i a k l (suc j) n)
        ∙ ap (λ m. drop e.dimension (get_or (stops_of t) m [])) y
        )

    -- and each is met
    met : (b last : ℕ) → Border t b → last ≤ length es → b ≤ count last → (k : ℕ) × (k ≤ last) × (count k ≡ b)
    unfolding moved_of
    met b zero e l p = (0, omega arith, omega arith)
    met b (suc last) e l p = go (met b last e (omega arith)) (dec_lt (count last) b) (dec_lt b (count (suc last)))
      where
        go : (b ≤ count last → (k : ℕ) × (k ≤ last) × (count k ≡ b)) → Dec (count last < b) → Dec (b < count (suc last)) → (k : ℕ) × (k ≤ suc last) × (count k ≡ b)
        go ih (no x) y = let (k, q, z) = ih (omega arith) in (k, omega arith, z)
        go ih (yes x) (yes y) = absurd (uncrossed b last e l x y)
        go ih (yes x) (no y) = (suc last, omega arith, omega arith)

    -- a row is read between the moments at which its ends are met
    each_row : Steady t w es i → (before row behind : List (List ℕ)) → Row (pattern_of t).shape before row behind
        → length (before ++ row) ≤ length (moved_of es i) → RowRead t w es i before row
    each_row s before row behind r n =
        let (k, p, e) = met (length (before ++ row)) (length es) ends (omega arith) (omega (arith, ap (λ l. length (moved_of l i)) (take-length es))) in
        let (j, q, g) = met (length before) k begins p (omega (arith, length-append before row)) in
        found j k q p (front j (omega arith) before (row ++ behind) r.all g) (front k p (before ++ row) behind (append_assoc before row behind ∙ r.all) e)
      where
        begins : Border t (length before)
        begins = ⊎_elim (λ e. inl (ap length e)) (λ e. inr (inr e)) r.begins

        all : behind ≡ [] → before ++ row ≡ stops_of t
        all e = ap (λ l. before ++ l) (sym (append-nil row) ∙ ap (λ l. row ++ l) (sym e)) ∙ r.all

        ends : Border t (length (before ++ row))
        ends = ⊎_elim (λ e. inr (inl (ap length (all e)))) (λ e. inr (inr e)) r.ends

        -- at a moment it has gone past the front of its stops
        front : (k : ℕ) → k ≤ length es → (vs us : List (List ℕ)) → vs ++ us ≡ stops_of t → count k ≡ length vs → moved_of (take k es) i ≡ vs
        front k l vs us e g = same-front (moved_of (take k es) i) vs (a k l).to_come us ((a k l).each-stop ∙ sym e) g

        -- and between two moments the row
        found : (j k : ℕ) → j ≤ k → k ≤ length es → moved_of (take j es) i ≡ before → moved_of (take k es) i ≡ before ++ row → RowRead t w es i before row
        found j k q l x y = record {
          from = j;
          to = k;
          in_order = q;
          in-history = l;
          not_yet = x;
          then = y;
          sum = moved t w es i a s j k ∙ ap (λ vs. sum_of t (values_of t w.memory (elements_in t vs))) alone;
        }
          where
            alone : moved_of (between j k es) i ≡ row
            alone = same_back before (moved_of (between j k es) i) row (ap (λ l. l ++ moved_of (between j k es) i) (sym x) ∙ moved-between es i j k q ∙ y)

-- ---- the promise

-- coupled, the groups are the passes, with only elements kept
passes-held : (t : Stream) (c : ℕ) → t.header.coupling ≡ Some c → map (elements_in t) (stream_groups (pattern_of t).shape) ≡ passes_of t c
passes-held t c e =
    ap (λ k. map (elements_in t) (groups (size_at (pattern_of t).shape) (length t.dimensions) k)) e ∙ groups-held (size_at (pattern_of t).shape) (length t.dimensions) c

-- a stream over a history whose calculations name registers
pub history-sums : (vl : ℕ) (t : Stream) (w v : World) (es : List Entry) (i : ℕ) → i < 32 → AllNamed (map (λ (e : Entry). e.calculation) es) → Follow vl w es v
    → At t w es i → Sums vl t w es i
history-sums vl t w v es i h nm f a = record {
  read = λ k l. read vl t (world_at w es k) (entry_at es k) i (moved_of (take k es) i) (a k (omega arith)) (did_at vl es w v k f l) h;
  summed = λ k l task first.
      summed vl t (world_at w es k) (entry_at es k) i (moved_of (take k es) i) (a k (omega arith)) task first (named-entry es k nm l).destination (did_at vl es w v k f l);
  lanes = lanes t w es i;
  folding = λ j k. sym (folding-sum n (chunks t w es i j k));
  smallest = λ j k. let xss = chunks t w es i j k in sym (folding-smallest n (with_elements xss) (with-elements xss)) ∙ ap (folded Smallest n) (join-with_elements xss);
  largest = λ j k. let xss = chunks t w es i j k in sym (folding-largest n (with_elements xss) (with-elements xss)) ∙ ap (folded Largest n) (join-with_elements xss);
  values = values t w es i a;
  moved = moved t w es i a;
  whole = whole t w es i a;
  rows = λ s load. each_row vl t w v es i h f a load s;
}
  where
    n : ℕ
    n = 8 * stream_width t

module _ (vl : ℕ) (s memory : List ℕ) (b : AreBytes s) (f : Fits vl (length memory)) (os : List Operation) (at : ℕ) (m : Machine) (loop : ℕ) (cs : List Placed)
    (d : DoneBefore s os at m) (r : RunAt s at loop cs (length s)) (l : LoopsOn loop cs m) (q : Streams vl os m memory loop cs (run vl s memory))
  where
    -- a stream that was ended has a shape that end accepts
    pub accepted : (i : ℕ) → i < 32 → (t : Stream) → given_for i os ≡ ended t → Accepted (pattern_of t).shape
    unfolding world_at
    accepted i h t g =
        let good : Good vl (reg m i) = (sheet-runs vl s memory b os at m loop cs d f r l).running.good.good i h in
        let a = q.moments i h t g 0 (omega arith) in
        subst (λ (p : Pattern). Accepted p.shape) a.pattern
        (⊎_elim (λ o. (good.opened (ap is_open o)).0.accepted) (λ e. (good.finished (ap is_finished e)).0.accepted) (open-or-finished t _ m i a))

    -- coupled to dimension c, each pass that it has gone past, from that pass's row
    pass-read : (i : ℕ) → i < 32 → (t : Stream) → given_for i os ≡ ended t → Steady t (world m memory) q.ran.entries i → t.header.kind ≡ Load → (c : ℕ)
        → t.header.coupling ≡ Some c → (n : ℕ) → n < length (passes_of t c) → length (stops_before t (suc n)) ≤ length (moved_of q.ran.entries i)
        → PassRead t (world m memory) q.ran.entries i c n
    unfolding join
    pass-read i h t g steady load c e n p z = found (eq-or-lt_of_le x.in_order)
      where
        es : List Entry
        es = q.ran.entries

        gs : List (List (List ℕ))
        gs = stream_groups (pattern_of t).shape

        -- the pass, as its stops
        row : List (List ℕ)
        row = get_or gs n []

        held : map (elements_in t) gs ≡ passes_of t c
        held = passes-held t c e

        inside : n < length gs
        inside = omega (arith, ap length held, length-map gs (elements_in t))

        split : gs ≡ take n gs ++ (row ∷ drop (suc n) gs)
        split = split_at gs n [] inside

        up_to : stops_before t n ++ row ≡ stops_before t (suc n)
        up_to = sym (ap join (take-suc gs n [] inside) ∙ join-append (take n gs) (row ∷ []) ∙ ap (λ l. stops_before t n ++ l) (append-nil row))

        x : RowRead t (world m memory) es i (stops_before t n) row
        x =
            each_row vl t (world m memory) (run vl s memory).world es i h q.ran.follow (q.moments i h t g) load steady (stops_before t n) row (join (drop (suc n) gs))
            (pass-row (pattern_of t).shape (accepted i h t g) (take n gs) row (drop (suc n) gs) split) (omega (arith, ap length up_to))

        then : moved_of (take x.to es) i ≡ stops_before t (suc n)
        then = x.then ∙ up_to

        pass : elements_in t row ≡ get_or (passes_of t c) n []
        pass = sym (get_d_map (elements_in t) gs n [] [] inside) ∙ ap (λ l. get_or l n []) held

        total-is : total t (between x.from x.to (chunks_read (world m memory) es i)) ≡ sum_of t (values_of t memory (get_or (passes_of t c) n []))
        total-is = x.sum ∙ ap (λ vs. sum_of t (values_of t memory vs)) pass

        found : (x.from ≡ x.to) ⊎ (x.from < x.to) → PassRead t (world m memory) es i c n
        found (inl same) =
            absurd
            (omega (
              arith,
              ap (λ k. length (moved_of (take k es) i)) same,
              ap length x.not_yet,
              ap length x.then,
              length-append (stops_before t n) row,
              group-some (pattern_of t).shape (accepted i h t g) (take n gs) row (drop (suc n) gs) split,
            ))
        found (inr less) = record {
          from = x.from;
          to = x.to;
          in_order = less;
          in-history = x.in-history;
          not_yet = x.not_yet;
          then = then;
          sum = total-is;
          nothing = λ f. total-is ∙ ap (λ vs. sum_of t (values_of t memory vs)) f ∙ sum-none (8 * stream_width t);
        }

    -- a stream of the sheet over its run
    over : (i : ℕ) → i < 32 → (t : Stream) → given_for i os ≡ ended t → SumsOver vl os m memory loop cs (run vl s memory) q i t
    over i h t g =
        let x = sheet-runs vl s memory b os at m loop cs d f r l in
        let nm = ran_named vl loop cs (world m memory) x.running x.some (run vl s memory) q.ran in
        let es = q.ran.entries in
        let a : At t (world m memory) es i = q.moments i h t g in
        record {
          sums = history-sums vl t (world m memory) (run vl s memory).world es i h nm q.ran.follow a;
          passes = pass-row (pattern_of t).shape (accepted i h t g);
          in-passes = passes-held t;
          by-pass = pass-read i h t g;
          all-sums = λ y load c e z n p. pass-read i h t g y load c e n p (omega (arith, ap length (walked z), within t (suc n)));
          steady = λ p. apart-steady vl s memory os at m loop cs (run vl s memory) d q x.some nm t p i a;
          walked = walked;
        }
      where
        walked : ask_end (run vl s memory).world.machine i ≡ Ok true → moved_of q.ran.entries i ≡ stops_of t
        walked y =
            let es = q.ran.entries in
            ap (λ z. moved_of z i) (sym (take-length es))
            ∙ (q.moments i h t g (length es) (omega arith)).end-yes.0
            (ap (λ (z : World). ask_end z.machine i) (world-last vl es (world m memory) (run vl s memory).world q.ran.follow) ∙ y)

        -- the passes up to one have no more stops than there are
        within : (t : Stream) (k : ℕ) → length (stops_before t k) ≤ length (stops_of t)
        within t k =
            let gs = stream_groups (pattern_of t).shape in
            omega (
              arith,
              ap length (sym (join-append (take k gs) (drop k gs)) ∙ ap join (take-append-drop k gs)),
              length-append (join (take k gs)) (join (drop k gs)),
              ap length (groups-join (size_at (pattern_of t).shape) (length t.dimensions) t.header.coupling),
            )

    -- that of the loop register, once the run is done
    loop-walked : (t : Stream) → given_for loop os ≡ ended t → (run vl s memory).verdict ≡ Ok tt → moved_of q.ran.entries loop ≡ stops_of t
    loop-walked t g v = let e : q.stream ≡ t = cc q.is-ended in q.all v ∙ ap stops_of e

-- for every sheet
pub row-sums : (vl : ℕ) (s memory : List ℕ) → AreBytes s → RowSums vl s memory
row-sums vl s memory b = record { runs = over vl s memory b }

-- the same number at every vector length
pub same-at-every-length : (a b : ℕ) (s memory : List ℕ) → AreBytes s → SameSums a b s memory
same-at-every-length a b s memory x = record {
  walked = two;
  done = λ f g os at m loop cs d r l p q t e apart v y.
      let h = (sheet-runs a s memory x os at m loop cs d f r l).running.below in
      two os m loop cs p q loop h t e
      ((over a s memory x f os at m loop cs d r l p loop h t e).steady apart) ((over b s memory x g os at m loop cs d r l q loop h t e).steady apart)
      (loop-walked a s memory x f os at m loop cs d r l p t e v) (loop-walked b s memory x g os at m loop cs d r l q t e y);
  rows = λ os m loop cs p q i t before row y z. y.sum ∙ sym z.sum;
  passes = λ os m loop cs p q i t c n y z. y.sum ∙ sym z.sum;
}
  where
    two : (os : List Operation) (m : Machine) (loop : ℕ) (cs : List Placed) (p : Streams a os m memory loop cs (run a s memory))
        (q : Streams b os m memory loop cs (run b s memory)) → (i : ℕ) → i < 32 → (t : Stream) → given_for i os ≡ ended t
        → Steady t (world m memory) p.ran.entries i → Steady t (world m memory) q.ran.entries i
        → moved_of p.ran.entries i ≡ stops_of t → moved_of q.ran.entries i ≡ stops_of t
        → total t (chunks_read (world m memory) p.ran.entries i) ≡ total t (chunks_read (world m memory) q.ran.entries i)
    two os m loop cs p q i h t e sp sq wp wq =
        whole t (world m memory) p.ran.entries i (p.moments i h t e) sp wp ∙ sym (whole t (world m memory) q.ran.entries i (q.moments i h t e) sq wq)
