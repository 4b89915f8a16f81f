-- Each pass of the coupled dimension is a row of its stream, whether it has elements or not; all elements of an uncoupled stream are one.
--
--   with-elements, AllSome, with_all, groups-some   every group that is left has a member; groups that all have one are left; those of a stream
--   groups-coupled, groups-held   coupled, the groups are the passes, of stops; with only elements kept, of elements
--   left-border     at the last stop of some groups, one is left of its group
--   group-ends      where groups end, the stream ends or a pass does
--   pass-row        the row
use Rattle.std.specs.Prelude.{◌≡◌, ℕ, zero, suc, ◌+◌, ◌-◌, ◌<◌, ◌≤◌, ◌⊎◌, List, [], ◌∷◌, ◌++◌, map, length, slice_index_or, refl, Option, Some}
use Rattle.std.proofs.Math.Path.{sym, ap, subst}
use Rattle.std.proofs.Common.{◌∙◌, inl, inr, ⊎_elim, append_assoc, append-nil, arith}
use Rattle.std.proofs.Math.Decide.{dec_lt}
use Rattle.std.proofs.Math.ListN.{length-append}
use Rattle.std.proofs.Math.Seq.{get_or-append_seam}
use Rattle.engine.specs.Loops.{size_at, join, loops}
use Rattle.engine.specs.Members.{Each}
use Rattle.engine.specs.Chunks.{passes, pass_stops, stops, elements_among, with_elements, grouped, groups, stream_groups, chunk}
use Rattle.engine.specs.StopLaws.{pass-some, outer-reached, among-passes}
use Rattle.engine.specs.GroupLaws.{join-append, left_in_group, left-head, left-tail}
use Rattle.engine.specs.ChunkLaws.{groups-join, chunk-length}
use Rattle.engine.specs.ChunkExact.{chunk-is}
use Rattle.engine.specs.Good.{Accepted}
use Rattle.engine.specs.Histories.{PassEnds}
use Rattle.engine.specs.StreamSums.{Row}
use Rattle.engine.specs.declared.stream.Shape.{Shape}

-- every group that is left has an element
pub with-elements : {A : Type 0} (gs : List (List A)) → Each [] (λ g. 1 ≤ length g) (with_elements gs)
unfolding with_elements
with-elements [] j h = absurd (omega arith)
with-elements ([] ∷ gs) j h = with-elements gs j h
with-elements ((x ∷ g) ∷ gs) zero h = omega arith
with-elements ((x ∷ g) ∷ gs) (suc j) h = with-elements gs j (omega arith)

-- every group has a member
abbrev pub AllSome : {A : Type 0} → List (List A) → Type 0
AllSome gs = Each [] (λ g. 1 ≤ length g) gs

-- such groups are all left
pub with_all : {A : Type 0} (gs : List (List A)) → AllSome gs → with_elements gs ≡ gs
unfolding with_elements
with_all [] h = refl
with_all ([] ∷ gs) h = absurd (omega (arith, h 0 (omega arith)))
with_all ((x ∷ g) ∷ gs) h = ap (λ l. (x ∷ g) ∷ l) (with_all gs (λ j p. h (suc j) (omega arith)))

-- every group of a stream has a stop
pub groups-some : (size : ℕ → List ℕ → ℕ) (D : ℕ) (k : Option ℕ) → AllSome (groups size D k)
unfolding groups
groups-some size D k = with-elements (grouped size D k)

module _ (size : ℕ → List ℕ → ℕ) where
  -- so has every pass
  passes-some : (c : ℕ) (os : List (List ℕ)) → AllSome (map (pass_stops size c) os)
  passes-some c [] j p = absurd (omega arith)
  passes-some c (o ∷ os) zero p = pass-some size c o
  passes-some c (o ∷ os) (suc j) p = passes-some c os j (omega arith)

  -- coupled, the groups are the stops of the passes, of all that the outer loops reach
  pub groups-coupled : (D c : ℕ) → groups size D (Some c) ≡ map (pass_stops size c) (loops size c (D - c) [])
  unfolding groups
  groups-coupled D c = with_all (map (pass_stops size c) (loops size c (D - c) [])) (passes-some c (loops size c (D - c) []))

  -- with only elements kept they are the passes, also those that hold none
  pub groups-held : (D c : ℕ) → map (elements_among size) (groups size D (Some c)) ≡ passes size c D
  unfolding passes
  groups-held D c = ap (map (elements_among size)) (groups-coupled D c) ∙ among-passes size c (loops size c (D - c) []) (outer-reached size c (D - c))

-- at the last member of some groups, one is left of its group
left-border : {A : Type 0} (gs hs : List (List A)) → 1 ≤ length (join gs) → left_in_group (gs ++ hs) (length (join gs) - 1) ≡ 1
unfolding join
left-border [] hs h = absurd (omega arith)
left-border (g ∷ gs) hs h = go (left-border gs hs) (dec_lt 0 (length (join gs)))
  where
    n : ℕ
    n = length (g ++ join gs) - 1

    l : length (g ++ join gs) ≡ length g + length (join gs)
    l = length-append g (join gs)

    go : (1 ≤ length (join gs) → left_in_group (gs ++ hs) (length (join gs) - 1) ≡ 1) → Dec (0 < length (join gs)) → left_in_group (g ∷ (gs ++ hs)) n ≡ 1
    go ih (yes p) =
        let e : n - length g ≡ length (join gs) - 1 = omega (arith, l) in
        left-tail n g (gs ++ hs) (omega (arith, l)) ∙ ap (left_in_group (gs ++ hs)) e ∙ ih p
    go ih (no p) = omega (arith, left-head n g (gs ++ hs) (omega (arith, l)), l)

-- no element
no_length : {A : Type 0} (xs : List A) → length xs ≡ 0 → xs ≡ []
no_length [] e = refl
no_length (x ∷ xs) e = absurd (omega arith)

module _ (s : Shape) (a : Accepted s) where
  -- the groups, joined, are all stops
  all-joined : join (stream_groups s) ≡ stops s
  all-joined = groups-join (size_at s) s.dims s.coupling

  -- where groups end, the stream ends or a pass does
  group-ends : (gs hs : List (List (List ℕ))) → stream_groups s ≡ gs ++ hs → 1 ≤ length (join gs)
      → (length (join gs) ≡ length (stops s)) ⊎ PassEnds s (length (join gs))
  group-ends gs hs e h =
      let n = length (join gs) - 1 in
      let p : n < length (stops s) = omega (arith, ap length (sym all-joined ∙ ap join e ∙ join-append gs hs), length-append (join gs) (join hs)) in
      let one : length (chunk s 2 n) ≡ 1 = omega (arith, chunk-length (stream_groups s) 2 n, ap (λ l. left_in_group l n) e ∙ left-border gs hs h) in
      let m : n + length (chunk s 2 n) ≡ length (join gs) = omega arith in
      subst (λ k. (k ≡ length (stops s)) ⊎ PassEnds s k) m ((chunk-is s a 2 n (omega arith) p).full (omega arith))

  -- every group has a stop
  pub group-some : (gs : List (List (List ℕ))) (g : List (List ℕ)) (hs : List (List (List ℕ))) → stream_groups s ≡ gs ++ (g ∷ hs) → 1 ≤ length g
  unfolding groups
  group-some gs g hs e =
      subst (λ x. 1 ≤ length x) (ap (λ l. slice_index_or l (length gs) []) e ∙ get_or-append_seam gs g hs [])
      (with-elements (grouped (size_at s) s.dims s.coupling) (length gs) (omega (arith, ap length e, length-append gs (g ∷ hs))))

  -- a pass is a row
  pub pass-row : (gs : List (List (List ℕ))) (g : List (List ℕ)) (hs : List (List (List ℕ))) → stream_groups s ≡ gs ++ (g ∷ hs)
      → Row s (join gs) g (join hs)
  unfolding join
  pass-row gs g hs e = record { all = all; begins = begins (dec_lt 0 (length (join gs))); ends = ends (dec_lt 0 (length (join hs))) }
    where
      all : join gs ++ (g ++ join hs) ≡ stops s
      all = sym (join-append gs (g ∷ hs)) ∙ ap join (sym e) ∙ all-joined

      counts : length (join gs) + (length g + length (join hs)) ≡ length (stops s)
      counts = omega (arith, ap length all, length-append (join gs) (g ++ join hs), length-append g (join hs))

      begins : Dec (0 < length (join gs)) → (join gs ≡ []) ⊎ PassEnds s (length (join gs))
      begins (yes h) = ⊎_elim (λ f. absurd (omega (arith, counts, group-some gs g hs e))) inr (group-ends gs (g ∷ hs) e h)
      begins (no h) = inl (no_length (join gs) (omega arith))

      with_it : join (gs ++ (g ∷ [])) ≡ join gs ++ g
      with_it = join-append gs (g ∷ []) ∙ ap (λ l. join gs ++ l) (append-nil g)

      border : (length (join gs ++ g) ≡ length (stops s)) ⊎ PassEnds s (length (join gs ++ g))
      border =
          subst (λ l. (length l ≡ length (stops s)) ⊎ PassEnds s (length l)) with_it
          (group-ends (gs ++ (g ∷ [])) hs (e ∙ sym (append_assoc gs (g ∷ []) hs))
          (omega (arith, ap length with_it, length-append (join gs) g, group-some gs g hs e)))

      ends : Dec (0 < length (join hs)) → (join hs ≡ []) ⊎ PassEnds s (length (join gs ++ g))
      ends (yes h) = ⊎_elim (λ f. absurd (omega (arith, counts, length-append (join gs) g))) inr border
      ends (no h) = inl (no_length (join hs) (omega arith))
