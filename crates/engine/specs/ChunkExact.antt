-- The engine's chunk is a chunk, and the only one.
--
--   chunk-at             the elements of a chunk by their places
--   chunk-same           a stream has one chunk at a place
--   left_by              some elements further, as many less are left of the group
--   chunk-is, chunk-one  the engine's chunk is that one
use Rattle.std.specs.Prelude.{◌≡◌, ℕ, zero, suc, ◌+◌, ◌-◌, ◌<◌, ◌≤◌, min, ◌⊎◌, ◌↔◌, List, [], length, get_or, take, drop, slice_index_or, Option, Some, None}
use Rattle.std.proofs.Math.Path.{refl, ap, subst}
use Rattle.std.proofs.Common.{sym, ◌∙◌, ⊎_elim, eq-or-lt_of_le, length-take, length-drop, get_or-take, get_or-drop}
use Rattle.std.proofs.Math.Logic.{⊎_map}
use native.Mathlib.Omega.{arith}
use Rattle.std.proofs.Math.Decide.{dec_lt}
use Rattle.engine.specs.Configure.{Covers}
use Rattle.engine.specs.Loops.{size_at}
use Rattle.engine.specs.Chunks.{stops_in, stops, groups, stream_groups, chunk}
use Rattle.engine.specs.FlagLaws.{differ-drop, differ_next}
use Rattle.engine.specs.StopLaws.{stop-even}
use Rattle.engine.specs.GroupLaws.{left_in_group, left-most, left_step}
use Rattle.engine.specs.ChunkLaws.{covered, groups-join, chunk-length, chunk-lanes, chunk-some, chunk-stops}
use Rattle.engine.specs.PassLaws.{same-group, group-uncoupled}
use Rattle.engine.specs.Good.{Accepted}
use Rattle.engine.specs.Histories.{PassEnds, Chunk}
use Rattle.engine.specs.declared.stream.Shape.{Shape}

-- ---- one at most

-- the stops of a chunk by their places
pub chunk-at : (s : Shape) (n : ℕ) (vs : List (List ℕ)) → vs ≡ take (length vs) (drop n (stops s)) → (k : ℕ) → k < length vs
    → slice_index_or vs k [] ≡ slice_index_or (stops s) (n + k) []
chunk-at s n vs e k h = ap (λ l. get_or l k []) e ∙ get_or-take (length vs) (drop n (stops s)) k [] h ∙ get_or-drop n (stops s) k []

module _ (s : Shape) (lanes n : ℕ) where
  -- a chunk does not pass the end of the stream
  within : (vs : List (List ℕ)) → Chunk s lanes n vs → length vs ≤ length (stops s) - n
  within vs c = omega (arith, ap length c.front ∙ length-take (length vs) (drop n (stops s)), length-drop n (stops s))

  -- no chunk is shorter than another: it would end inside the stream and inside a pass
  shorter : (vs ws : List (List ℕ)) → Chunk s lanes n vs → Chunk s lanes n ws → length vs < length ws → ⊥
  shorter vs ws c d h =
      ⊎_elim (λ e. omega (arith, within ws d, d.most)) (λ p. p.other (sym (before p) ∙ inside p ∙ at p)) (c.full (omega (arith, d.most)))
    where
      k : ℕ
      k = length vs - 1

      before : (p : PassEnds s (n + length vs)) → drop p.dimension (slice_index_or ws k []) ≡ drop p.dimension (slice_index_or (stops s) (n + length vs - 1) [])
      before p =
          let e : n + k ≡ n + length vs - 1 = omega (arith, c.some) in
          ap (drop p.dimension) (chunk-at s n ws d.front k (omega arith) ∙ ap (λ j. get_or (stops s) j []) e)

      at : (p : PassEnds s (n + length vs)) → drop p.dimension (slice_index_or ws (suc k) []) ≡ drop p.dimension (slice_index_or (stops s) (n + length vs) [])
      at p =
          let e : n + suc k ≡ n + length vs = omega (arith, c.some) in
          ap (drop p.dimension) (chunk-at s n ws d.front (suc k) (omega (arith, c.some)) ∙ ap (λ j. get_or (stops s) j []) e)

      inside : (p : PassEnds s (n + length vs)) → drop p.dimension (slice_index_or ws k []) ≡ drop p.dimension (slice_index_or ws (suc k) [])
      inside p = d.one-pass p.dimension p.coupled k (omega (arith, c.some))

  -- a stream has one chunk at a place
  pub chunk-same : (vs ws : List (List ℕ)) → Chunk s lanes n vs → Chunk s lanes n ws → vs ≡ ws
  chunk-same vs ws c d = go (dec_lt (length vs) (length ws)) (dec_lt (length ws) (length vs))
    where
      go : Dec (length vs < length ws) → Dec (length ws < length vs) → vs ≡ ws
      go (yes h) q = absurd (shorter vs ws c d h)
      go (no p) (yes h) = absurd (shorter ws vs d c h)
      go (no p) (no q) =
          let e : length vs ≡ length ws = omega arith in
          c.front ∙ ap (λ k. take k (drop n (stops s))) e ∙ sym d.front

-- ---- the engine's

-- some elements further, as many less are left of the group
pub left_by : {A : Type 0} (gs : List (List A)) (n k : ℕ) → k < left_in_group gs n → left_in_group gs (n + k) ≡ left_in_group gs n - k
left_by gs n zero h = let e : n + 0 ≡ n = omega arith in ap (left_in_group gs) e ∙ omega arith
left_by gs n (suc k) h =
    let r = left_by gs n k (omega arith) in
    let e : n + suc k ≡ suc (n + k) = omega arith in
    ap (left_in_group gs) e ∙ omega (arith, left_step gs (n + k) (omega arith))

module _ (s : Shape) (a : Accepted s) where
  -- the coupled dimension is there
  cover : Covers s.dims s.coupling
  cover = covered s s.coupling a.covered

  -- a group ends where the stream does, or before
  left_in : (n : ℕ) → n ≤ length (stops s) → n + left_in_group (stream_groups s) n ≤ length (stops s)
  left_in n h = omega (arith, left-most (stream_groups s) n, ap length (groups-join (size_at s) s.dims s.coupling))

  -- coupled to dimension c: the next stop differs in no index above it exactly if it is of the same group
  same-pass : (c : ℕ) → s.coupling ≡ Some c → (n : ℕ) → suc n < length (stops s)
      → (drop c (slice_index_or (stops s) n []) ≡ drop c (slice_index_or (stops s) (suc n) [])) ↔ (1 < left_in_group (stream_groups s) n)
  same-pass c e n h =
      let d = differ-drop c _ _ (stop-even s cover n (suc n) (omega arith) h) in
      let g = same-group (size_at s) s.dims c (subst (Covers s.dims) e cover) n (subst (λ k. suc n < length (stops_in (size_at s) s.dims k)) e h) in
      let f : (differ_next (stops s) n ≤ c) ↔ (1 < left_in_group (stream_groups s) n) =
      subst (λ k. (differ_next (stops_in (size_at s) s.dims k) n ≤ c) ↔ (1 < left_in_group (groups (size_at s) s.dims k) n)) (sym e) g in
      (λ q. f.0 (d.1 q), λ q. d.0 (f.1 q))

  -- where a group ends before the stream does, a pass ends
  pass-ends : (n : ℕ) → 1 ≤ n → n < length (stops s) → left_in_group (stream_groups s) (n - 1) ≡ 1 → PassEnds s n
  unfolding stops_in
  pass-ends n p h e = go s.coupling refl
    where
      go : (k : Option ℕ) → s.coupling ≡ k → PassEnds s n
      go None f =
          let l : n < length (stops_in (size_at s) s.dims None) = subst (λ k. n < length (stops_in (size_at s) s.dims k)) f h in
          absurd (omega (arith, ap (λ k. left_in_group (groups (size_at s) s.dims k) (n - 1)) f, group-uncoupled (size_at s) s.dims (n - 1)))
      go (Some c) f =
          let j : n ≡ suc (n - 1) = omega arith in
          record {
            dimension = c;
            coupled = f;
            other = λ q. omega (arith, (same-pass c f (n - 1) (omega arith)).0 (q ∙ ap (λ i. drop c (slice_index_or (stops s) i [])) j));
          }

  module _ (lanes n : ℕ) (p : 1 ≤ lanes) (h : n < length (stops s)) where
    -- its length: the lanes, or what is left of the group if that is less
    size : length (chunk s lanes n) ≡ min lanes (left_in_group (stream_groups s) n)
    size = chunk-length (stream_groups s) lanes n

    -- it has a stop
    some : 1 ≤ length (chunk s lanes n)
    some = chunk-some (stream_groups s) lanes n p (omega (arith, ap length (groups-join (size_at s) s.dims s.coupling)))

    -- if coupled, its stops are of one pass
    one-pass : (c : ℕ) → s.coupling ≡ Some c → (k : ℕ) → suc k < length (chunk s lanes n)
        → drop c (slice_index_or (chunk s lanes n) k []) ≡ drop c (slice_index_or (chunk s lanes n) (suc k) [])
    one-pass c e k q =
        let f = chunk-at s n (chunk s lanes n) (chunk-stops s lanes n) in
        let j : n + suc k ≡ suc (n + k) = omega arith in
        ap (drop c) (f k (omega arith))
        ∙ (same-pass c e (n + k) (omega (arith, size, left_in n (omega arith)))).1 (omega (arith, size, left_by (stream_groups s) n k (omega (arith, size))))
        ∙ ap (drop c) (sym (f (suc k) q ∙ ap (λ i. get_or (stops s) i []) j))

    -- it is shorter than the lanes only at the end of the stream or of a pass
    full : length (chunk s lanes n) < lanes
        → (n + length (chunk s lanes n) ≡ length (stops s)) ⊎ PassEnds s (n + length (chunk s lanes n))
    full q =
        let e : length (chunk s lanes n) ≡ left_in_group (stream_groups s) n = omega (arith, size) in
        let k : ℕ = length (chunk s lanes n) - 1 in
        let j : n + length (chunk s lanes n) - 1 ≡ n + k = omega (arith, some) in
        let l : left_in_group (stream_groups s) (n + k) ≡ 1 = omega (arith, some, left_by (stream_groups s) n k (omega (arith, some))) in
        ⊎_map (λ r. r) (λ r. pass-ends _ (omega (arith, some)) r (ap (left_in_group (stream_groups s)) j ∙ l))
        (eq-or-lt_of_le (subst (λ i. n + i ≤ length (stops s)) (sym e) (left_in n (omega arith))))

    -- the engine's chunk is one
    pub chunk-is : Chunk s lanes n (chunk s lanes n)
    chunk-is = record {
      front = chunk-stops s lanes n;
      some = some;
      most = chunk-lanes (stream_groups s) lanes n;
      one-pass = one-pass;
      full = full;
    }

    -- and the only one
    pub chunk-one : (vs : List (List ℕ)) → Chunk s lanes n vs → vs ≡ chunk s lanes n
    chunk-one vs c = chunk-same s lanes n vs (chunk s lanes n) c chunk-is
