-- One entry of a history: what a stream gives in it is what it reads, and a calculation 8 gives the sum of that.
--
--   source, load_moved    a source gives the chunk read; what a load goes past
--   read                  what is read (`Read` of specs/RowSums)
--   summed                what a calculation 8 gives (`Summed`)
use Rattle.std.proofs.Common.{◌≡◌, ℕ, zero, suc, ◌+◌, ◌*◌, ◌/◌, ◌^◌, ◌<◌, ◌≤◌, min, false, ◌⊎◌, List, [], ◌∷◌, map, length, get_or, take, drop, sym, refl, ap, ◌∙◌, subst, ap₂, inl, inr, ⊎_elim, mod-lt, arith, length-take, get_or-drop, get_or-take, pow_pos}
use borrow.Author.Tests.{not-false}
use Rattle.codec.specs.declared.header.Kind.TheVariants.{Load}
use Rattle.codec.specs.declared.operation.Fold.TheVariants.{Sum}
use Rattle.codec.specs.declared.operation.Task.TheVariants.{All}
use Rattle.engine.specs.Loops.{size_at}
use Rattle.engine.specs.Chunks.{stops, is_element, elements_among, held_in, nothing_at}
use Rattle.engine.specs.StopLaws.{among-all}
use Rattle.engine.specs.Memory.{fetch, stored, contents, holding}
use Rattle.engine.specs.Lanes.{folded, outcome}
use Rattle.engine.specs.Registers.{shape_of, moved_to, reg}
use Rattle.engine.specs.Calculate.{World}
use Rattle.engine.specs.Allowed.{Destination}
use Rattle.engine.specs.Histories.{Chunk, Gives, Becomes, Stores, Entry}
use Rattle.engine.specs.LaneLaws.{width-range}
use Rattle.engine.specs.GoodLaws.{is-width}
use Rattle.engine.specs.ContentLaws.{holding-width, holding-contents}
use Rattle.engine.specs.Given.{Stream, AtMoment}
use Rattle.engine.specs.StreamSums.{stream_width, sum_of, calculation_of, DidIn, destination_of, chunk_read}
use Rattle.engine.specs.RowSums.{Read, Summed}
use Rattle.engine.specs.SumLaws.{open-or-finished}
use Rattle.engine.specs.declared.stream.Shape.{Shape}
use Rattle.engine.specs.declared.register.State.{State}
use Rattle.engine.specs.declared.register.State.TheVariants.{Plain, Open, Finished}
use Rattle.engine.specs.declared.register.Register.{Register}

-- a register has one state
not-open : {X : Type 0} (k : State) → k ≡ Plain → k ≡ Open → X
not-open k p o = absurd (let z : ◌≡◌ {A = ℕ} 0 1 = cc in omega arith)

-- one with a stream is not plain
not_plain : {X : Type 0} (k : State) → (k ≡ Open) ⊎ (k ≡ Finished) → k ≡ Plain → X
not_plain k (inl e) p = absurd (let z : ◌≡◌ {A = ℕ} 0 1 = cc in omega arith)
not_plain k (inr e) p = absurd (let z : ◌≡◌ {A = ℕ} 0 1 = cc in omega arith)

-- a register that takes one lane gives it
one_lane : (width x : ℕ) (r : Register) → x < 2 ^ (8 * width) → width ≤ 8 → contents (holding width (x ∷ []) r) ≡ x ∷ []
one_lane width x r h l = holding-contents width (x ∷ []) r small (omega arith)
  where
    small : (k : ℕ) → get_or (x ∷ []) k 0 < 2 ^ (8 * width)
    small zero = h
    small (suc k) = pow_pos (8 * width)

-- the next stop, where it is an element
next-held : (s : Shape) (n : ℕ) → nothing_at s n ≡ false → held_in s (take 1 (drop n (stops s))) ≡ take 1 (drop n (stops s))
unfolding nothing_at
next-held s n e =
    among-all (size_at s) (take 1 (drop n (stops s)))
    (λ j h.
    let m : length (take 1 (drop n (stops s))) ≡ min 1 (length (drop n (stops s))) = length-take 1 (drop n (stops s)) in
    let z : n + j ≡ n = omega arith in
    ap (is_element (size_at s) 0) (get_or-take 1 (drop n (stops s)) j [] (omega arith) ∙ get_or-drop n (stops s) j [] ∙ ap (λ k. get_or (stops s) k []) z)
    ∙ not-false (is_element (size_at s) 0 (get_or (stops s) n [])) e)

-- ---- one entry

module _ (vl : ℕ) (t : Stream) (w : World) (e : Entry) (i : ℕ) (so_far : List (List ℕ)) (a : AtMoment t so_far w.machine i) where
  -- a source that has the stream gives the chunk read
  source : (j : ℕ) (xs : List ℕ) → j ≡ i → Gives vl w.memory (reg w.machine j) (e.taken j) xs → xs ≡ chunk_read w e i
  source j xs p (Gives.plain s x y) =
      not_plain (reg w.machine i).state (open-or-finished t so_far w.machine i a) (subst (λ k. (reg w.machine k).state ≡ Plain) p s)
  source j xs p (Gives.load o x y) = y ∙ ap (chunk_read w e) p

  -- a load is no destination
  no_store : t.header.kind ≡ Load → Destination (reg w.machine i) → (reg w.machine i).state ≡ Open → ⊥
  no_store k (Destination.plain p) o = not-open _ p o
  no_store k (Destination.store p s) o = let z : ◌≡◌ {A = ℕ} 0 1 = cc a.kind in omega arith

  module _ (d : DidIn vl w e) where
    -- a load stays, or goes past a chunk as a source
    pub load_moved : i < 32 → t.header.kind ≡ Load
        → (e.taken i ≡ [])
        ⊎ (((i ≡ (calculation_of e).first) ⊎ (i ≡ (calculation_of e).second))
        × Chunk (shape_of (reg w.machine i)) (vl / (reg w.machine i).width) (reg w.machine i).moved (e.taken i))
    load_moved h k = go (d.becomes i h)
      where
        go : Becomes vl (calculation_of e) w d.out i (e.taken i) (reg e.after.machine i)
            → (e.taken i ≡ [])
            ⊎ (((i ≡ (calculation_of e).first) ⊎ (i ≡ (calculation_of e).second))
            × Chunk (shape_of (reg w.machine i)) (vl / (reg w.machine i).width) (reg w.machine i).moved (e.taken i))
        go (Becomes.plain p s x y) = inl x
        go (Becomes.store p o t x y) = absurd (no_store k (subst (λ n. Destination (reg w.machine n)) (sym p) d.calculates.destination) o)
        go (Becomes.past p o t z x y) = absurd (no_store k (subst (λ n. Destination (reg w.machine n)) (sym p) d.calculates.destination) o)
        go (Becomes.load n f o x y) = inr (f, x)
        go (Becomes.source n f s x y) = inl x
        go (Becomes.other n f g x y) = inl x

    -- what is read
    pub read : i < 32 → Read vl t w e i
    unfolding elements_among
    read h = record {
      first = λ p c. source (calculation_of e).first c.first p c.gives-first;
      second = λ p c. source (calculation_of e).second c.second p c.gives-second;
      neither = λ k f s. ap (λ l. map (fetch (reg w.machine i).pattern (reg w.machine i).width w.memory) (held_in (shape_of (reg w.machine i)) l)) (none k f s);
    }
      where
        none : t.header.kind ≡ Load → ¬ ((calculation_of e).first ≡ i) → ¬ ((calculation_of e).second ≡ i) → e.taken i ≡ []
        none k f s = ⊎_elim (λ x. x) (λ x. absurd (⊎_elim (λ p. f (sym p)) (λ p. s (sym p)) x.0)) (load_moved h k)

-- a calculation 8
module _ (vl : ℕ) (t : Stream) (w : World) (e : Entry) (i : ℕ) (so_far : List (List ℕ)) (a : AtMoment t so_far w.machine i)
    (task : (calculation_of e).task ≡ All Sum) (first : (calculation_of e).first ≡ i)
    (below : (calculation_of e).destination < 32) (d : DidIn vl w e)
  where
    -- the lane that it gives
    abbrev lane : List ℕ
    lane = sum_of t (chunk_read w e i) ∷ []

    -- the source's width is the stream's
    wide : (reg w.machine (calculation_of e).first).width ≡ stream_width t
    wide = ap (λ j. (reg w.machine j).width) first ∙ a.width

    -- it is the calculation's lanes
    single : (c : DidIn vl w e) → c.out ≡ lane
    single c =
        c.calculated
        ∙ ap (λ y. outcome y (8 * (reg w.machine (calculation_of e).first).width) c.first c.second) task
        ∙ ap₂ (λ n xs. folded Sum (8 * n) xs ∷ []) wide (source vl t w e i so_far a (calculation_of e).first c.first first c.gives-first)

    -- a plain destination takes it
    takes : (destination_of w e).state ≡ Plain → destination_of e.after e ≡ holding (stream_width t) lane (destination_of w e)
    takes p = go (d.becomes (calculation_of e).destination below)
      where
        go : Becomes vl (calculation_of e) w d.out (calculation_of e).destination (e.taken (calculation_of e).destination) (destination_of e.after e)
            → destination_of e.after e ≡ holding (stream_width t) lane (destination_of w e)
        go (Becomes.plain q s x y) = y ∙ ap₂ (λ n xs. holding n xs (destination_of w e)) wide (single d)
        go (Becomes.store q o s x y) = not-open _ p o
        go (Becomes.past q o s z x y) = not-open _ p o
        go (Becomes.load n f o x y) = absurd (n refl)
        go (Becomes.source n f q x y) = absurd (n refl)
        go (Becomes.other n f q x y) = absurd (n refl)

    -- a store has it written, and has moved on
    abbrev Stored : Type 0
    Stored =
        (nothing_at (shape_of (destination_of w e)) (destination_of w e).moved ≡ false)
        × (e.after.memory
        ≡ stored (destination_of w e).pattern (destination_of w e).width w.memory
        (take 1 (drop (destination_of w e).moved (stops (shape_of (destination_of w e))))) lane)
        × (destination_of e.after e ≡ moved_to ((destination_of w e).moved + 1) (destination_of w e))

    -- so it does
    stores : (destination_of w e).state ≡ Open → Stored
    stores o = go (d.becomes (calculation_of e).destination below) d.stores
      where
        go : Becomes vl (calculation_of e) w d.out (calculation_of e).destination (e.taken (calculation_of e).destination) (destination_of e.after e)
            → Stores (calculation_of e) w d.out (e.taken (calculation_of e).destination) e.after.memory → Stored
        go b (Stores.nothing p z) = not-open _ p o
        go (Becomes.plain u p x y) (Stores.lanes v z) = not-open _ p o
        go (Becomes.store u p s x y) (Stores.lanes v z) = (
          s,
          z
              ∙ ap₂ (stored (destination_of w e).pattern (destination_of w e).width w.memory)
              (ap (held_in (shape_of (destination_of w e))) (x ∙ ap (λ l. take (length l) (drop (destination_of w e).moved (stops (shape_of (destination_of w e))))) (single d))
              ∙ next-held (shape_of (destination_of w e)) (destination_of w e).moved s) (single d),
          y ∙ ap (λ l. moved_to ((destination_of w e).moved + length l) (destination_of w e)) (single d),
        )
        go (Becomes.past u p s f x y) (Stores.lanes v z) = absurd (omega (arith, ap length (sym (single d) ∙ f)))
        go (Becomes.load n f p x y) (Stores.lanes v z) = absurd (n refl)
        go (Becomes.source n f p x y) (Stores.lanes v z) = absurd (n refl)
        go (Becomes.other n f g x y) (Stores.lanes v z) = absurd (n refl)

    -- the destination takes that lane
    pub summed : Summed vl t w e i
    summed = record {
      single = single;
      plain = λ p. (
        ap (λ (r : Register). r.width) (takes p) ∙ holding-width (stream_width t) lane (destination_of w e),
        ap contents (takes p) ∙ one_lane (stream_width t) _ (destination_of w e) (mod-lt _ (pow_pos (8 * stream_width t))) (width-range _ (is-width t.header.width)).1,
      );
      store = stores;
    }
