-- Chunks take the stops in order, each once.
--
--   passes-join, groups-join  the passes joined are the elements, the groups joined the stops
--   covered                   a coupled dimension is one of the dimensions
--   chunk_of-front             the next chunk is the front of what is left
--   chunk-length, chunk-lanes, chunk-most   its length: the lanes, or what is left of the group if that is less; at most the lanes; at most what is left
--   chunk-some                it is not empty where a stop is left
--   take-of-chunk             the front of a chunk is the chunk of fewer lanes
--   chunks_from, chunks-front  the chunks taken one after the other; joined they are the front of what is left
--   EachOnce, each-once       from the first on they are the members, each once
--   chunk-stops               the next chunk of a stream is the front of its stops that are left
use Rattle.std.specs.Prelude.{◌≡◌, ℕ, zero, suc, ◌+◌, ◌-◌, ◌<◌, ◌≤◌, min, false, ◌↔◌, List, [], ◌∷◌, ◌++◌, map, length, take, drop, Option, Some, None}
use Rattle.std.proofs.Math.Path.{refl, sym, ap}
use Rattle.std.proofs.Common.{◌∙◌, append-nil, arith, zero-add, add-zero, add-suc, length-append, length-drop, take-append-drop, take_all, drop-drop, ltb-false}
use Rattle.std.proofs.lemmas.List.{map-append}
use Rattle.std.proofs.Math.Decide.{dec_le}
use Rattle.std.proofs.Math.ListN.{length-take}
use Rattle.std.proofs.Math.Seq.{take-take, take-add, take-length}
use Rattle.engine.specs.Loops.{size_at, join, span, loops}
use Rattle.engine.specs.Chunks.{passes, stops_in, stops, groups, left_after, next_group, chunk_of, chunk}
use Rattle.engine.specs.GroupLaws.{join-append, join-with_elements, left_after-join, left_in_group, left-some, left-most, next_group-front}
use Rattle.engine.specs.Configure.{uncovered, Covers}
use Rattle.engine.specs.declared.stream.Shape.{Shape}

-- what f gives of all members, joined, is what it gives part by part, joined
span-join : {A B : Type 0} (f : A → List B) (g : ℕ → List A) (h : ℕ → List B) (k n : ℕ)
    → ((i : ℕ) → join (map f (g i)) ≡ h i) → join (map f (span g k n)) ≡ span h k n
unfolding span join
span-join f g h k zero e = refl
span-join f g h k (suc n) e =
    ap join (map-append f (g k) (span g (suc k) n))
    ∙ join-append (map f (g k)) (map f (span g (suc k) n))
    ∙ ap (λ l. l ++ join (map f (span g (suc k) n))) (e k)
    ∙ ap (λ l. h k ++ l) (span-join f g h (suc k) n e)

-- the loops of c dimensions inside each turn of the m outside them, joined, are the loops of all
loops-join : (size : ℕ → List ℕ → ℕ) (c m : ℕ) (outer : List ℕ) → join (map (loops size 0 c) (loops size c m outer)) ≡ loops size 0 (c + m) outer
unfolding loops join
loops-join size c zero outer = rw (add-zero c) (append-nil (loops size 0 c outer))
loops-join size c (suc m) outer =
    rw (add-suc c m, zero-add (c + m))
    (span-join (loops size 0 c) (λ k. loops size c m (k ∷ outer)) (λ k. loops size 0 (c + m) (k ∷ outer)) 0 (size (c + m) outer)
    (λ k. loops-join size c m (k ∷ outer)))

-- the passes joined are the elements
pub passes-join : (size : ℕ → List ℕ → ℕ) (c D : ℕ) → c ≤ D → join (passes size c D) ≡ loops size 0 D []
unfolding passes
passes-join size c D h = let e : c + (D - c) ≡ D = omega arith in loops-join size c (D - c) [] ∙ ap (λ n. loops size 0 n []) e

-- a coupled dimension is one of the dimensions, as end asks
pub covered : (s : Shape) (k : Option ℕ) → uncovered s k ≡ false → Covers s.dims k
covered s None e = tt
covered s (Some c) e = ltb-false s.dims c e

-- the groups joined are the stops
pub groups-join : (size : ℕ → List ℕ → ℕ) (D : ℕ) (k : Option ℕ) → join (groups size D k) ≡ stops_in size D k
unfolding groups join stops_in
groups-join size D None = join-with_elements _ ∙ append-nil (loops size 0 D [])
groups-join size D (Some c) = join-with_elements _

module _ {A : Type 0} where
  -- no more can be taken than there are
  take_min : (k : ℕ) (l : List A) → take (min k (length l)) l ≡ take k l
  take_min k l = go (dec_le k (length l))
    where
      go : Dec (k ≤ length l) → take (min k (length l)) l ≡ take k l
      go (yes h) = let e : min k (length l) ≡ k = omega arith in ap (λ j. take j l) e
      go (no h) = let e : min k (length l) ≡ length l = omega arith in ap (λ j. take j l) e ∙ take-length l ∙ sym (take_all k l (omega arith))

  -- a front of a front
  front : (k : ℕ) (l m : List A) → l ≡ take (length l) m → take k l ≡ take (length (take k l)) m
  front k l m e =
      let n : length (take k l) ≡ min k (length l) = length-take k l in
      let h : min k (length l) ≤ length l = omega arith in
      sym (ap (λ j. take j m) n ∙ sym (take-take (min k (length l)) (length l) m h) ∙ ap (take (min k (length l))) (sym e) ∙ take_min k l)

  -- the next chunk is the front of what is left
  pub chunk_of-front : (gs : List (List A)) (lanes n : ℕ) → chunk_of gs lanes n ≡ take (length (chunk_of gs lanes n)) (drop n (join gs))
  unfolding chunk_of
  chunk_of-front gs lanes n =
      front lanes (next_group (left_after n gs)) (drop n (join gs))
      (next_group-front (left_after n gs) ∙ ap (take (left_in_group gs n)) (left_after-join n gs))

  -- its length: the lanes, or what is left of the group if that is less
  pub chunk-length : (gs : List (List A)) (lanes n : ℕ) → length (chunk_of gs lanes n) ≡ min lanes (left_in_group gs n)
  unfolding chunk_of
  chunk-length gs lanes n = length-take lanes (next_group (left_after n gs))

  -- at most the lanes
  pub chunk-lanes : (gs : List (List A)) (lanes n : ℕ) → length (chunk_of gs lanes n) ≤ lanes
  chunk-lanes gs lanes n = omega (arith, chunk-length gs lanes n)

  -- at most what is left
  pub chunk-most : (gs : List (List A)) (lanes n : ℕ) → length (chunk_of gs lanes n) ≤ length (join gs) - n
  chunk-most gs lanes n = omega (arith, chunk-length gs lanes n, left-most gs n)

  -- not empty where a stop is left
  pub chunk-some : (gs : List (List A)) (lanes n : ℕ) → 0 < lanes → n < length (join gs) → 0 < length (chunk_of gs lanes n)
  chunk-some gs lanes n p h = omega (arith, chunk-length gs lanes n, left-some gs n h)

  -- the front of a chunk is the chunk of fewer lanes
  pub take-of-chunk : (gs : List (List A)) (lanes m n : ℕ) → n ≤ lanes → take n (chunk_of gs lanes m) ≡ chunk_of gs n m
  unfolding chunk_of
  take-of-chunk gs lanes m n h = take-take n lanes (next_group (left_after m gs)) h

  -- the chunks taken one after the other, with these lanes, from position n on
  unfoldable pub chunks_from : List (List A) → ℕ → List ℕ → List (List A)
  chunks_from gs n [] = []
  chunks_from gs n (lanes ∷ ls) = chunk_of gs lanes n ∷ chunks_from gs (n + length (chunk_of gs lanes n)) ls

  -- joined they are the front of what is left
  pub chunks-front : (gs : List (List A)) (ls : List ℕ) (n : ℕ)
      → join (chunks_from gs n ls) ≡ take (length (join (chunks_from gs n ls))) (drop n (join gs))
  unfolding chunks_from join
  chunks-front gs [] n = refl
  chunks-front gs (lanes ∷ ls) n = go (chunk_of gs lanes n) (chunk_of-front gs lanes n) (chunks-front gs ls (n + length (chunk_of gs lanes n)))
    where
      go : (c : List A) → c ≡ take (length c) (drop n (join gs))
          → join (chunks_from gs (n + length c) ls) ≡ take (length (join (chunks_from gs (n + length c) ls))) (drop (n + length c) (join gs))
          → c ++ join (chunks_from gs (n + length c) ls) ≡ take (length (c ++ join (chunks_from gs (n + length c) ls))) (drop n (join gs))
      go c e f =
          let r : List A = join (chunks_from gs (n + length c) ls) in
          sym
          (ap (λ k. take k (drop n (join gs))) (length-append c r)
          ∙ take-add (length c) (length r) (drop n (join gs))
          ∙ ap (λ l. take (length c) (drop n (join gs)) ++ take (length r) l) (drop-drop (length c) n (join gs))
          ∙ ap (λ l. l ++ take (length r) (drop (n + length c) (join gs))) (sym e)
          ∙ ap (λ l. c ++ l) (sym f))

  -- k members in chunks: they are the first k, and the rest is left; the rest is empty exactly if k is the number of all; while it is
  -- not, the next chunk is not
  pub record EachOnce (gs : List (List A)) (cs : List (List A)) (k : ℕ) : Type 0 where
    pub count : length (join cs) ≡ k
    pub most : k ≤ length (join gs)
    pub taken : join cs ≡ take k (join gs)
    pub rest : join (left_after k gs) ≡ drop k (join gs)
    pub all : join cs ++ join (left_after k gs) ≡ join gs
    pub ended : (join (left_after k gs) ≡ []) ↔ (k ≡ length (join gs))
    pub more : (lanes : ℕ) → 0 < lanes → k < length (join gs) → 0 < length (chunk_of gs lanes k)

  -- the chunks taken one after the other are the members from the first on, each once
  pub each-once : (gs : List (List A)) (ls : List ℕ) → EachOnce gs (chunks_from gs 0 ls) (length (join (chunks_from gs 0 ls)))
  each-once gs ls = record {
    count = refl;
    most = most;
    taken = chunks-front gs ls 0;
    rest = left_after-join k gs;
    all = ap (λ l. l ++ join (left_after k gs)) (chunks-front gs ls 0) ∙ ap (λ l. take k (join gs) ++ l) (left_after-join k gs) ∙ take-append-drop k (join gs);
    ended = (λ e. omega (arith, most, ap length e, size), λ e. nothing (join (left_after k gs)) (omega (arith, size)));
    more = λ lanes p h. chunk-some gs lanes k p h;
  }
    where
      k : ℕ
      k = length (join (chunks_from gs 0 ls))

      most : k ≤ length (join gs)
      most = omega (arith, ap length (chunks-front gs ls 0) ∙ length-take k (join gs))

      size : length (join (left_after k gs)) ≡ length (join gs) - k
      size = ap length (left_after-join k gs) ∙ length-drop k (join gs)

      nothing : (l : List A) → length l ≤ 0 → l ≡ []
      nothing [] h = refl
      nothing (x ∷ l) h = absurd (omega arith)

-- the next chunk of a stream is the front of its stops that are left
pub chunk-stops : (s : Shape) (lanes n : ℕ) → chunk s lanes n ≡ take (length (chunk s lanes n)) (drop n (stops s))
chunk-stops s lanes n = chunk_of-front _ lanes n ∙ ap (λ l. take (length (chunk s lanes n)) (drop n l)) (groups-join (size_at s) s.dims s.coupling)
