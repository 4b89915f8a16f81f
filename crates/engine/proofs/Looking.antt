-- A chunk looked at: what is known after k elements, one element more, and a part of a row at once.
--
--   Going, going, goes_on         after k elements, where the chunk goes on
--   ends-here, count-full         the chunk ends with the next one; it is as long as is asked for
--   shown-behind, looked, full-count, full-addressed, full-gone   what is known at the end
--   here-stop, size-told, gone-told   what a register remembers of the stop where it stands
--   part-added                    the addresses of one part more
--   part-within, part-on, part-last   a part more, of elements of one row
use Rattle.std.specs.Prelude.{Option, Some, None}
use Rattle.std.proofs.Common.{◌≡◌, ℕ, zero, suc, ◌+◌, ◌-◌, ◌<◌, ◌≤◌, min, Bool, true, false, cond, not, ◌||◌, eqb, ltb, List, [], ◌∷◌, ◌++◌, length, get_or, take, drop, set, replicate, ℤ, pos, ◌+ℤ◌, ◌*ℤ◌, sym, refl, ap, ◌∙◌, subst, ap₂, append_assoc, append-nil, add-one, arith, length-drop, length-set, get_or-drop, take-suc, get_or-set_same, take-suc-set, ltb-false, ltb-true, lt-ltb}
use mathlib.Core.List.{map-append}
use lib.Seq.{set-get_or}
use lib.IntN.{+ℤ_assoc, +ℤ_idr, *ℤ-one, *ℤ-zero}
use Rattle.codec.specs.TestLaws.{never}
use Rattle.codec.specs.declared.amounts.Bytes.{Bytes}
use Rattle.engine.specs.Configure.{Covers}
use Rattle.engine.specs.Loops.{size_at}
use Rattle.engine.specs.Chunks.{stops_in, stops, held_in, nothing_at, groups, stream_groups, chunk, height, differ}
use Rattle.engine.specs.FlagLaws.{differ_next, height-between}
use Rattle.engine.specs.GroupLaws.{left_in_group, left-some}
use Rattle.engine.specs.ChunkLaws.{groups-join, chunk-length, chunk-stops}
use Rattle.engine.specs.StopLaws.{stop-length, chunk-full, next-held}
use Rattle.engine.specs.PassLaws.{group-goes-on, group-ends, group-last, group-uncoupled}
use Rattle.engine.specs.Addresses.{address}
use Rattle.engine.specs.AddressLaws.{mul-add-right}
use Rattle.engine.specs.Registers.{is_open, index_of, shape_of, standing, moved_to, stops_for, moved_by}
use Rattle.engine.specs.ComeLaws.{past-lanes}
use Rattle.engine.specs.IndexLaws.{address-index, index-length}
use Rattle.engine.specs.StopWalk.{covers, here-small}
use Rattle.engine.specs.StopPlaces.{size-nothing}
use Rattle.engine.specs.Walk.{Stop}
use Rattle.engine.specs.Places.{Place, place_at, in_row, along_of, Onward, ends_at, Ready}
use Rattle.engine.specs.Stretches.{progression, addresses_in, joined_in, addresses_of}
use Rattle.engine.specs.Runnings.{place_of, view_of, Remembers, Near, gone_by, behind, Looks}
use Rattle.engine.proofs.Moves.{moved-to}
use Rattle.engine.proofs.PartSteps.{parts-append, part-alone}
use Rattle.engine.proofs.RowSteps.{row-onward, in-row-along, place-fits}
use Rattle.engine.specs.declared.part.Part.{Part}
use Rattle.engine.specs.declared.stream.Shape.{Shape}
use Rattle.engine.specs.declared.stream.Pattern.{Pattern}
use Rattle.engine.specs.declared.running.Running.{Running}
use Rattle.engine.specs.declared.ahead.Ahead.{Ahead}
use Rattle.engine.specs.declared.register.State.TheVariants.{Open, Finished}
use Rattle.engine.specs.declared.register.Register.{Register}

-- how many stops are left of the group at a position, where the chunk stops and where it goes on
record Left (s : Shape) (n : ℕ) (stopped : Bool) : Type 0 where
  last : stopped ≡ true → left_in_group (stream_groups s) n ≡ 1
  more : stopped ≡ false → (left_in_group (stream_groups s) n ≡ suc (left_in_group (stream_groups s) (suc n))) × (suc n < length (stops s))

-- of an uncoupled stream all that are left
left-all : (s : Shape) → s.coupling ≡ None → (n : ℕ) → left_in_group (stream_groups s) n ≡ length (stops s) - n
unfolding stops_in
left-all s f n = subst (λ k. left_in_group (groups (size_at s) s.dims k) n ≡ length (stops_in (size_at s) s.dims k) - n) (sym f) (group-uncoupled (size_at s) s.dims n)

left-free : (s : Shape) → s.coupling ≡ None → (n : ℕ) (found : Bool) → n < length (stops s) → found ≡ ltb (suc n) (length (stops s)) → Left s n (not found)
left-free s f n true q e =
    let h : suc n < length (stops s) = ltb-true _ _ (sym e) in
    record {
      last = λ t. absurd (let z : ◌≡◌ {A = ℕ} 0 1 = cc in omega arith);
      more = λ t. (omega (arith, left-all s f n, left-all s f (suc n)), h);
    }
left-free s f n false q e =
    let h : length (stops s) ≤ suc n = ltb-false _ _ (sym e) in
    record {
      last = λ t. omega (arith, left-all s f n);
      more = λ t. absurd (let z : ◌≡◌ {A = ℕ} 0 1 = cc in omega arith);
    }

-- where a group ends, goes on, or is the last, in a stream's words
module _ (s : Shape) (c : ℕ) (f : s.coupling ≡ Some c) (w : c ≤ s.dims) (n : ℕ) where
  at_last : suc n ≡ length (stops s) → left_in_group (stream_groups s) n ≡ 1
  at_last =
      subst (λ k. suc n ≡ length (stops_in (size_at s) s.dims k) → left_in_group (groups (size_at s) s.dims k) n ≡ 1) (sym f)
      (group-last (size_at s) s.dims c w n)

  at-end : suc n < length (stops s) → c < differ_next (stops s) n → left_in_group (stream_groups s) n ≡ 1
  at-end =
      subst (λ k. suc n < length (stops_in (size_at s) s.dims k) → c < differ_next (stops_in (size_at s) s.dims k) n → left_in_group (groups (size_at s) s.dims k) n ≡ 1) (sym f)
      (group-ends (size_at s) s.dims c w n)

  within : suc n < length (stops s) → differ_next (stops s) n ≤ c → left_in_group (stream_groups s) n ≡ suc (left_in_group (stream_groups s) (suc n))
  within =
      subst
      (λ k. suc n < length (stops_in (size_at s) s.dims k) → differ_next (stops_in (size_at s) s.dims k) n ≤ c
      → left_in_group (groups (size_at s) s.dims k) n ≡ suc (left_in_group (groups (size_at s) s.dims k) (suc n))) (sym f)
      (group-goes-on (size_at s) s.dims c w n)

left-coupled : (s : Shape) (c : ℕ) → s.coupling ≡ Some c → c ≤ s.dims → (n : ℕ) (found : Bool) (h : ℕ) → n < length (stops s)
    → found ≡ ltb (suc n) (length (stops s)) → h ≡ height s (suc n) → Left s n (not found || ltb c h)
left-coupled s c g w n false h q e f =
    let m : suc n ≡ length (stops s) = omega (arith, ltb-false (suc n) (length (stops s)) (sym e)) in
    record {
      last = λ t. at_last s c g w n m;
      more = λ t. absurd (let z : ◌≡◌ {A = ℕ} 0 1 = cc in omega arith);
    }
left-coupled s c g w n true h q e f =
    let m : suc n < length (stops s) = ltb-true _ _ (sym e) in
    let z : suc n - 1 ≡ n = omega arith in
    let d : h ≡ differ_next (stops s) n = f ∙ height-between s (suc n) (omega arith) m ∙ ap (λ j. differ (get_or (stops s) j []) (get_or (stops s) (suc n) [])) z in
    record {
      last = λ t. at-end s c g w n m (omega (arith, ltb-true c h t, d));
      more = λ t. (within s c g w n m (omega (arith, ltb-false c h t, d)), m);
    }

left_at : (s : Shape) (k : Option ℕ) → s.coupling ≡ k → Covers s.dims k → (n : ℕ) (found : Bool) (h : ℕ) → n < length (stops s)
    → found ≡ ltb (suc n) (length (stops s)) → h ≡ height s (suc n) → Left s n (ends_at k found h)
left_at s None g w n found h q e f = left-free s g n found q e
left_at s (Some c) g w n found h q e f = left-coupled s c g w n found h q e f

-- where a chunk goes on, there is a stop
pub goes-found : (k : Option ℕ) (found : Bool) (h : ℕ) → ends_at k found h ≡ false → found ≡ true
goes-found k true h e = refl
goes-found None false h e = sym e
goes-found (Some c) false h e = sym e

-- after k elements, where the chunk goes on: their addresses are xs, and the walk stands behind them
pub record Going (r : Register) (most k : ℕ) (place : Place) (h : ℕ) (xs : List ℤ) : Type 0 where
  pub few : k ≤ most
  pub below : r.moved + k < length (stops (shape_of r))
  pub rest : left_in_group (stream_groups (shape_of r)) r.moved ≡ k + left_in_group (stream_groups (shape_of r)) (r.moved + k)
  pub onward : Onward r.pattern r.width (r.moved + k) true place h
  pub held : nothing_at (shape_of r) (r.moved + k) ≡ false
  pub addressed : xs ≡ addresses_of r.pattern r.width (take k (drop r.moved (stops (shape_of r))))

take-drop-suc : (k n : ℕ) (es : List (List ℕ)) → n + k < length es → take (suc k) (drop n es) ≡ take k (drop n es) ++ (get_or es (n + k) [] ∷ [])
take-drop-suc k n es h =
    take-suc (drop n es) k [] (simp length-drop (omega arith)) ∙ ap (λ v. take k (drop n es) ++ (v ∷ [])) (get_or-drop n es k [])

module _ (r : Register) (y : Ready r) (most k : ℕ) (place : Place) (h : ℕ) (xs : List ℤ) (g : Going r most k place h xs) where
  here : place ≡ place_at r.pattern r.width (index_of (get_or (stops (shape_of r)) (r.moved + k) []))
  here = g.onward.here refl

  -- the element's index and its place
  pub here-index : place.index ≡ index_of (get_or (stops (shape_of r)) (r.moved + k) [])
  here-index = ap (λ t. t.index) here

  pub here_place : place ≡ place_at r.pattern r.width place.index
  here_place = here ∙ ap (place_at r.pattern r.width) (sym here-index)

  here-address : place.address.0 ≡ address r.pattern r.width (get_or (stops (shape_of r)) (r.moved + k) [])
  here-address =
      ap (λ t. t.address.0) here
      ∙ address-index r.pattern r.width (get_or (stops (shape_of r)) (r.moved + k) []) (stop-length (shape_of r) (covers (shape_of r) y.accepted) (r.moved + k) g.below) y.accepted.ranged.dims

  -- its address behind the others
  pub one_more : xs ++ (place.address.0 ∷ []) ≡ addresses_of r.pattern r.width (take (k + 1) (drop r.moved (stops (shape_of r))))
  one_more =
      rw (add-one k)
      (ap₂ (λ l a. l ++ (a ∷ [])) g.addressed here-address
      ∙ sym (map-append _ (take k (drop r.moved (stops (shape_of r)))) (get_or (stops (shape_of r)) (r.moved + k) [] ∷ []))
      ∙ ap (addresses_of r.pattern r.width) (sym (take-drop-suc k r.moved (stops (shape_of r)) g.below)))

  module _ (found : Bool) (place' : Place) (h' : ℕ) (on : Onward r.pattern r.width (suc (r.moved + k)) found place' h') where
    left : Left (shape_of r) (r.moved + k) (ends_at (shape_of r).coupling found h')
    left = left_at (shape_of r) (shape_of r).coupling refl (covers (shape_of r) y.accepted) (r.moved + k) found h' g.below on.told on.high

    further : suc (r.moved + k) ≡ r.moved + (k + 1)
    further = omega arith

    -- where the walk stands after it
    pub onward-more : Onward r.pattern r.width (r.moved + (k + 1)) found place' h'
    onward-more = subst (λ n. Onward r.pattern r.width n found place' h') further on

    -- the chunk ends with it
    pub ends-here : ends_at (shape_of r).coupling found h' ≡ true → left_in_group (stream_groups (shape_of r)) r.moved ≡ k + 1
    ends-here t = omega (arith, g.rest, left.last t)

    -- or it goes on
    pub goes_on : k < most → ends_at (shape_of r).coupling found h' ≡ false → Going r most (k + 1) place' h' (xs ++ (place.address.0 ∷ []))
    goes_on f t =
        let l = left.more t in
        record {
          few = omega arith;
          below = omega (arith, l.1);
          rest = omega (arith, g.rest, l.0, ap (left_in_group (stream_groups (shape_of r))) further);
          onward = subst (λ b. Onward r.pattern r.width (r.moved + (k + 1)) b place' h') (goes-found (shape_of r).coupling found h' t) onward-more;
          held =
              subst (λ n. nothing_at (shape_of r) n ≡ false) further
              (next-held (shape_of r) (r.moved + k) g.below g.held
              (omega (arith, l.0, left-some (stream_groups (shape_of r)) (suc (r.moved + k)) (omega (arith, l.1, ap length (groups-join (size_at (shape_of r)) (shape_of r).dims (shape_of r).coupling))))));
          addressed = one_more;
        }

-- before the first element
pub going : (r : Register) → Ready r → nothing_at (shape_of r) r.moved ≡ false → (most : ℕ) (place : Place) → place ≡ place_at r.pattern r.width r.index → Going r most 0 place r.height []
going r y t most place e =
    let z : r.moved ≡ r.moved + 0 = omega arith in
    record {
      few = omega arith;
      below = omega (arith, y.some);
      rest = omega (arith, ap (left_in_group (stream_groups (shape_of r))) z);
      onward = subst (λ n. Onward r.pattern r.width n true place r.height) z
          (record { told = sym (lt-ltb _ _ y.some); here = λ t. e ∙ ap (place_at r.pattern r.width) y.index; high = y.height });
      held = subst (λ n. nothing_at (shape_of r) n ≡ false) z t;
      addressed = refl;
    }

-- ---- what is known at the end

module _ (p : Pattern) (before : List ℕ) (q : Running) (y : Ready (view_of p [] before q)) (most count gone : ℕ) (xs : List ℤ) (row : List ℕ) (after : Running)
    (c : count ≡ length (held_in p.shape (chunk p.shape most q.moved)))
    (a : xs ≡ addresses_of p q.width (held_in p.shape (chunk p.shape most q.moved)))
    (g : gone ≡ stops_for (view_of p [] before q) count) where
  -- the walk stands behind the chunk, and the register says so
  pub looked : (found : Bool) (place : Place) (h : ℕ) → Onward p q.width (q.moved + gone) found place h
      → ((lanes : List ℕ) → view_of p lanes row after ≡ standing (cond found Open Finished) (q.moved + gone) (cond found place.index (replicate 7 0)) h (view_of p lanes before q))
      → Remembers p row after → Looks p before q most count xs row after
  unfolding moved_by
  looked found place h on s m = record {
    counted = c;
    addressed = a;
    moved =
        λ lanes. s lanes
        ∙ moved-to (view_of p lanes before q) (q.moved + gone) found place.index h on.told (λ t. ap (λ z. z.index) (on.here t)) on.high
        ∙ ap (λ n. moved_to (q.moved + n) (view_of p lanes before q)) g;
    remembers = m;
  }

-- the elements of a chunk from an element on
module _ (p : Pattern) (before : List ℕ) (q : Running) (y : Ready (view_of p [] before q)) (t : nothing_at p.shape q.moved ≡ false) (most count : ℕ)
    (c : count ≡ min most (left_in_group (stream_groups p.shape) q.moved)) where
  long : length (chunk p.shape most q.moved) ≡ count
  long = chunk-length (stream_groups p.shape) most q.moved ∙ sym c

  pub full-count : count ≡ length (held_in p.shape (chunk p.shape most q.moved))
  full-count = sym long ∙ ap length (sym (chunk-full p.shape most q.moved y.some t))

  pub full-addressed : (xs : List ℤ) → xs ≡ addresses_of p q.width (take count (drop q.moved (stops p.shape)))
      → xs ≡ addresses_of p q.width (held_in p.shape (chunk p.shape most q.moved))
  full-addressed xs a =
      a
      ∙ ap (addresses_of p q.width)
      (sym (chunk-full p.shape most q.moved y.some t ∙ chunk-stops p.shape most q.moved ∙ ap (λ j. take j (drop q.moved (stops p.shape))) long))

  pub full-gone : count ≡ stops_for (view_of p [] before q) count
  full-gone = sym (past-lanes (view_of p [] before q) count t)

-- the register behind a chunk stands where the walk does
module _ (p : Pattern) (before row : List ℕ) (q : Running) (o : Ahead) (e : o.index ≡ get_or row 0 0) where
  same_row : set row 0 o.index ≡ row
  same_row = ap (set row 0) e ∙ set-get_or row 0 0

  row-behind : (found : Bool) → (found ≡ false → row ≡ replicate 7 0) → set row 0 o.index ≡ cond found row (replicate 7 0)
  row-behind true z = same_row
  row-behind false z = same_row ∙ z refl

  pub shown-behind : (o.found ≡ false → row ≡ replicate 7 0) → (n : ℕ) → gone_by q o.count ≡ n → (lanes : List ℕ)
      → view_of p lanes row (behind o q) ≡ standing (cond o.found Open Finished) (q.moved + n) (cond o.found row (replicate 7 0)) o.height (view_of p lanes before q)
  shown-behind z n g lanes = λ i. standing (cond o.found Open Finished) (q.moved + g i) (row-behind o.found z i) o.height (view_of p lanes before q)

  pub remembers-behind : (o.found ≡ true → record { index = row; address = o.address; size = o.size; step = o.step } ≡ place_at p q.width row)
      → Remembers p row (behind o q)
  remembers-behind f t = go o.found refl
    where
      go : (b : Bool) → o.found ≡ b → place_of row (behind o q) ≡ place_at p q.width (set row 0 o.index)
      go true k = ap (λ v. record { index = v; address = o.address; size = o.size; step = o.step }) same_row ∙ f k ∙ ap (place_at p q.width) (sym same_row)
      go false k = absurd (let w : is_open (cond o.found Open Finished) ≡ true = t in let y : ◌≡◌ {A = Bool} false true = rw k at w in never y)

-- ---- a row at once

-- so many steps and one more
step-more : (a s : ℤ) (k : ℕ) → (a +ℤ (s *ℤ pos k)) +ℤ s ≡ a +ℤ (s *ℤ pos (k + 1))
unfolding lib.IntN.one
step-more a s k =
    +ℤ_assoc a (s *ℤ pos k) s
    ∙ ap (λ z. a +ℤ z) (ap (λ z. (s *ℤ pos k) +ℤ z) (sym (*ℤ-one s)) ∙ sym (mul-add-right s k 1))

-- one step and so many more
step-first : (a s : ℤ) (k : ℕ) → (a +ℤ s) +ℤ (s *ℤ pos k) ≡ a +ℤ (s *ℤ pos (suc k))
unfolding lib.IntN.one
step-first a s k =
    let z : 1 + k ≡ suc k = omega arith in
    +ℤ_assoc a s (s *ℤ pos k)
    ∙ ap (λ z. a +ℤ z) (ap (λ z. z +ℤ (s *ℤ pos k)) (sym (*ℤ-one s)) ∙ sym (mul-add-right s 1 k) ∙ ap (λ n. s *ℤ pos n) z)

-- no step
step-none : (a s : ℤ) → a +ℤ (s *ℤ pos 0) ≡ a
step-none a s = ap (λ z. a +ℤ z) (*ℤ-zero s) ∙ +ℤ_idr a

-- a progression of one address more
progression-more : (a s : ℤ) (k : ℕ) → progression a s (k + 1) ≡ progression a s k ++ ((a +ℤ (s *ℤ pos k)) ∷ [])
unfolding progression
progression-more a s zero = ap (λ z. z ∷ []) (sym (step-none a s))
progression-more a s (suc k) =
    let z : suc k + 1 ≡ suc (k + 1) = omega arith in
    ap (progression a s) z ∙ ap (λ l. a ∷ l) (progression-more (a +ℤ s) s k ∙ ap (λ y. progression (a +ℤ s) s k ++ (y ∷ [])) (step-first a s k))

-- the place k elements further along a row
abbrev pub row_place : List ℕ → ℕ → Bytes → ℕ → Bytes → ℕ → Place
row_place row i a size step k = in_row row (i + k) (record { 0 = a.0 +ℤ (step.0 *ℤ pos k) }) size step

-- the height of the flags there
abbrev pub row_height : ℕ → ℕ → ℕ
row_height h zero = h
row_height h (suc k) = 1

row_first : (row : List ℕ) (i : ℕ) (a : Bytes) (size : ℕ) (step : Bytes) → in_row row i a size step ≡ row_place row i a size step 0
row_first row i a size step =
    let z : i ≡ i + 0 = omega arith in
    λ t. in_row row (z t) (record { 0 = sym (step-none a.0 step.0) t }) size step

row_next : (row : List ℕ) (i : ℕ) (a : Bytes) (size : ℕ) (step : Bytes) → 0 < length row → (k : ℕ) → along_of (row_place row i a size step k) ≡ row_place row i a size step (k + 1)
row_next row i a size step l k =
    let z : i + k + 1 ≡ i + (k + 1) = omega arith in
    in-row-along row (i + k) (row_place row i a size step k).address size step l
    ∙ (λ t. in_row row (z t) (record { 0 = step-more a.0 step.0 k t }) size step)

-- a row of indices has seven
pub row-long : (p : Pattern) (row : List ℕ) (q : Running) → Ready (view_of p [] row q) → length row ≡ 7
row-long p row q y = sym (length-set row 0 q.index) ∙ ap length y.index ∙ index-length (get_or (stops p.shape) q.moved [])

-- the addresses of one part more
pub part-added : (rows : List Part) (m : ℕ) (part : Part) → m < length rows → joined_in (take (m + 1) (set rows m part)) ≡ joined_in (take m rows) ++ addresses_in part
part-added rows m part h =
    ap joined_in (rw (add-one m) (take-suc-set rows m part h)) ∙ parts-append (take m rows) (part ∷ []) ∙ ap (λ l. joined_in (take m rows) ++ l) (part-alone part)

-- a part more, of n elements of the row at which the walk stands after c elements
module _ (r : Register) (y : Ready r) (most c : ℕ) (row : List ℕ) (i : ℕ) (a : Bytes) (size : ℕ) (step : Bytes) (h : ℕ) (xs : List ℤ)
    (g : Going r most c (in_row row i a size step) h xs) (l : 0 < length row) where
  -- after k elements of the row the chunk goes on
  row-going : (k : ℕ) → c + k ≤ most → i + k < size → (1 ≤ k → ends_at (shape_of r).coupling true 1 ≡ false)
      → Going r most (c + k) (row_place row i a size step k) (row_height h k) (xs ++ progression a.0 step.0 k)
  unfolding progression
  row-going zero f b s =
      let z : c ≡ c + 0 = omega arith in
      subst (λ w. w) (λ t. Going r most (z t) (row_first row i a size step t) h (sym (append-nil xs) t)) g
  row-going (suc k) f b s =
      let o = row-going k (omega arith) (omega arith) (λ t. s (omega arith)) in
      let v = row_place row i a size step k in
      let ys = xs ++ progression a.0 step.0 k in
      let e : get_or v.index 0 0 ≡ i + k = get_or-set_same row 0 (i + k) 0 l in
      let on = row-onward r.pattern r.width y.accepted v (r.moved + (c + k)) o.below (here-index r y most (c + k) v (row_height h k) ys o) (here_place r y most (c + k) v (row_height h k) ys o) (omega (arith, e)) in
      let w = goes_on r y most (c + k) v (row_height h k) ys o true (along_of v) 1 on (omega arith) (s (omega arith)) in
      let z : c + k + 1 ≡ c + suc k = omega arith in
      subst (λ u. u) (λ t. Going r most (z t) ((row_next row i a size step l k ∙ ap (row_place row i a size step) (add-one k)) t) 1
      ((append_assoc xs (progression a.0 step.0 k) (v.address.0 ∷ []) ∙ ap (λ u. xs ++ u) (sym (progression-more a.0 step.0 k) ∙ ap (progression a.0 step.0) (add-one k))) t)) w

  -- a part that does not end its row
  pub part-within : (n : ℕ) → 1 ≤ n → c + n ≤ most → i + n < size → ends_at (shape_of r).coupling true 1 ≡ false
      → Going r most (c + n) (in_row row (i + n) (record { 0 = a.0 +ℤ (step.0 *ℤ pos n) }) size step) 1 (xs ++ progression a.0 step.0 n)
  part-within zero p f b s = absurd (omega arith)
  part-within (suc n) p f b s = row-going (suc n) f b (λ t. s)

  -- a part up to the end of its row, or of one element
  module _ (n : ℕ) (some : 1 ≤ n) (f : c + n ≤ most) (b : i + n ≤ size) (s : 2 ≤ n → ends_at (shape_of r).coupling true 1 ≡ false) where
    short : Going r most (c + (n - 1)) (row_place row i a size step (n - 1)) (row_height h (n - 1)) (xs ++ progression a.0 step.0 (n - 1))
    short = row-going (n - 1) (omega arith) (omega arith) (λ t. s (omega arith))

    pub last-index : set row 0 (i + n - 1) ≡ index_of (get_or (stops (shape_of r)) (r.moved + (c + (n - 1))) [])
    last-index =
        let z : i + n - 1 ≡ i + (n - 1) = omega arith in
        ap (set row 0) z ∙ here-index r y most (c + (n - 1)) _ _ _ short

    pub last-below : r.moved + (c + (n - 1)) < length (stops (shape_of r))
    last-below = short.below

    -- its last element
    pub last-element : Stop (shape_of r) (set row 0 (i + n - 1)) false
    last-element = record { position = r.moved + (c + (n - 1)); below = last-below; here = last-index; told = sym short.held }

    last-count : c + (n - 1) + 1 ≡ c + n
    last-count = omega arith

    whole : (xs ++ progression a.0 step.0 (n - 1)) ++ ((a.0 +ℤ (step.0 *ℤ pos (n - 1))) ∷ []) ≡ xs ++ progression a.0 step.0 n
    whole =
        let z : n - 1 + 1 ≡ n = omega arith in
        append_assoc xs (progression a.0 step.0 (n - 1)) _ ∙ ap (λ u. xs ++ u) (sym (progression-more a.0 step.0 (n - 1)) ∙ ap (progression a.0 step.0) z)

    pub part-addressed : xs ++ progression a.0 step.0 n ≡ addresses_of r.pattern r.width (take (c + n) (drop r.moved (stops (shape_of r))))
    part-addressed =
        sym whole ∙ one_more r y most (c + (n - 1)) _ _ _ short ∙ ap (λ j. addresses_of r.pattern r.width (take j (drop r.moved (stops (shape_of r))))) last-count

    module _ (found : Bool) (place : Place) (h' : ℕ) (on : Onward r.pattern r.width (suc (r.moved + (c + (n - 1)))) found place h') where
      pub part-onward : Onward r.pattern r.width (r.moved + (c + n)) found place h'
      part-onward = subst (λ j. Onward r.pattern r.width (r.moved + j) found place h') last-count (onward-more r y most (c + (n - 1)) _ _ _ short found place h' on)

      -- the chunk ends with it
      pub part-last : ends_at (shape_of r).coupling found h' ≡ true → left_in_group (stream_groups (shape_of r)) r.moved ≡ c + n
      part-last t = omega (arith, ends-here r y most (c + (n - 1)) _ _ _ short found place h' on t)

      -- or goes on in another row
      pub part-on : ends_at (shape_of r).coupling found h' ≡ false → Going r most (c + n) place h' (xs ++ progression a.0 step.0 n)
      part-on t =
          subst (λ u. u) (λ k. Going r most (last-count k) place h' (whole k)) (goes_on r y most (c + (n - 1)) _ _ _ short found place h' on (omega arith) t)

-- the stop at which a stream stands
pub here-stop : (p : Pattern) (row : List ℕ) (q : Running) → Ready (view_of p [] row q) → Stop p.shape (set row 0 q.index) (nothing_at p.shape q.moved)
here-stop p row q y = record { position = q.moved; below = y.some; here = y.index; told = refl }

-- what is remembered of its size is 0 exactly where it stands at a coupled pass that holds no element
pub size-told : (p : Pattern) (row : List ℕ) (q : Running) → Ready (view_of p [] row q) → place_of row q ≡ place_at p q.width (set row 0 q.index)
    → eqb q.size 0 ≡ nothing_at p.shape q.moved
size-told p row q y m =
    ap (λ (z : Place). eqb z.size 0) (m ∙ ap (place_at p q.width) y.index) ∙ size-nothing p q.width y.accepted q.moved y.some

-- so as many stops are gone past as the register says
pub gone-told : (p : Pattern) (row : List ℕ) (q : Running) → Ready (view_of p [] row q) → place_of row q ≡ place_at p q.width (set row 0 q.index)
    → (n : ℕ) → gone_by q n ≡ stops_for (view_of p [] row q) n
gone-told p row q y m n = ap (λ b. cond b 1 n) (size-told p row q y m)

-- the address and the step that are remembered are far from overflowing
pub near : (p : Pattern) (row : List ℕ) (q : Running) → Ready (view_of p [] row q) → place_of row q ≡ place_at p q.width (set row 0 q.index) → Near q.address q.step
near p row q y m =
    place-fits p y.pattern q.width y.width y.accepted (place_of row q) _ (here-stop p row q y) m

-- indices are below 4,096
pub inner-small : (p : Pattern) (row : List ℕ) (q : Running) → Ready (view_of p [] row q) → q.index ≤ 4095
inner-small p row q y =
    omega (arith, here-small p.shape y.accepted (set row 0 q.index) _ (here-stop p row q y) 0, get_or-set_same row 0 q.index 0 (omega (arith, row-long p row q y)))
