-- Where a coupled chunk ends: the group that a position stands in, measured stop by stop.
--
--   group-some                some stop is left of it
--   same-group                the next stop is of the same group exactly if it differs in no index above the coupled dimension
--   group-goes-on             then one less is left at the next position
--   group-ends, group-last    else one is left; one at the last stop
--   group-uncoupled           uncoupled, all that are left
use Rattle.std.specs.Prelude.{◌≡◌, ℕ, suc, ◌-◌, ◌<◌, ◌≤◌, ◌↔◌, List, [], ◌∷◌, length, drop, slice_index_or, Some, None}
use Rattle.std.proofs.Math.Path.{sym}
use Rattle.std.proofs.Common.{◌∙◌, ap, arith}
use Rattle.std.proofs.Math.Decide.{dec_le, dec_lt}
use Rattle.engine.specs.Loops.{loops}
use Rattle.engine.specs.Members.{Ordered}
use Rattle.engine.specs.LoopLaws.{before-not-self, loops-order}
use Rattle.engine.specs.Chunks.{pass_stops, stops_in, grouped, groups, left_after}
use Rattle.engine.specs.StopLaws.{pass-drop, stops_in-length}
use Rattle.engine.specs.FlagLaws.{differ-drop, differ_next}
use Rattle.engine.specs.GroupLaws.{left_in_group, left-head, left-tail, left-some, left-most, left_step, left-with_elements, key-same, key-other}
use Rattle.engine.specs.ChunkLaws.{groups-join}

-- the next group of stops coupled to dimension c (counted from 1) of D
module _ (size : ℕ → List ℕ → ℕ) (D c : ℕ) (h : c ≤ D) where
  -- the stops
  abbrev vs : List (List ℕ)
  vs = stops_in size D (Some c)

  -- no two index vectors of the dimensions above c are the same
  distinct : Ordered [] (λ u v. ¬ (u ≡ v)) (loops size c (D - c) [])
  distinct j k p q e = before-not-self _ (rw e at (loops-order size c (D - c) [] j k p q))

  -- more than one left: the next stop differs in no index above dimension c
  alike : (n : ℕ) → 1 < left_in_group (grouped size D (Some c)) n → drop c (slice_index_or vs n []) ≡ drop c (slice_index_or vs (suc n) [])
  unfolding stops_in
  alike n p = key-same [] [] (pass_stops size c) (drop c) (pass-drop size c) (loops size c (D - c) []) n p

  -- one left: the next stop differs in an index above dimension c
  unlike : (n : ℕ) → suc n < length vs → left_in_group (grouped size D (Some c)) n ≡ 1 → ¬ (drop c (slice_index_or vs n []) ≡ drop c (slice_index_or vs (suc n) []))
  unfolding stops_in
  unlike n = key-other [] [] (pass_stops size c) (drop c) (pass-drop size c) (loops size c (D - c) []) distinct n

  -- some stop is left of the group that a position stands in
  pub group-some : (n : ℕ) → n < length vs → 1 ≤ left_in_group (groups size D (Some c)) n
  group-some n p = left-some (groups size D (Some c)) n (rw (groups-join size D (Some c)) p)

  -- the next stop is of the same group exactly if it differs in no index above the coupled dimension
  pub same-group : (n : ℕ) → suc n < length vs → (differ_next vs n ≤ c) ↔ (1 < left_in_group (groups size D (Some c)) n)
  unfolding groups
  same-group n p =
      (λ q. go (e.0 q) (dec_le (left_in_group (groups size D (Some c)) n) 1), λ q. e.1 (alike n (rw (left-with_elements (grouped size D (Some c)) n) at q)))
    where
      e : (differ_next vs n ≤ c) ↔ (drop c (slice_index_or vs n []) ≡ drop c (slice_index_or vs (suc n) []))
      e = differ-drop c _ _ (stops_in-length size D (Some c) h n (omega arith) ∙ sym (stops_in-length size D (Some c) h (suc n) p))

      go : drop c (slice_index_or vs n []) ≡ drop c (slice_index_or vs (suc n) []) → Dec (left_in_group (groups size D (Some c)) n ≤ 1)
          → 1 < left_in_group (groups size D (Some c)) n
      go t (yes q) = absurd (unlike n p (omega (arith, group-some n (omega arith), left-with_elements (grouped size D (Some c)) n)) t)
      go t (no q) = omega arith

  -- then the group goes on
  pub group-goes-on : (n : ℕ) → suc n < length vs → differ_next vs n ≤ c
      → left_in_group (groups size D (Some c)) n ≡ suc (left_in_group (groups size D (Some c)) (suc n))
  group-goes-on n p q = left_step (groups size D (Some c)) n ((same-group n p).0 q)

  -- else it ends
  pub group-ends : (n : ℕ) → suc n < length vs → c < differ_next vs n → left_in_group (groups size D (Some c)) n ≡ 1
  group-ends n p q = go (dec_le (left_in_group (groups size D (Some c)) n) 1)
    where
      go : Dec (left_in_group (groups size D (Some c)) n ≤ 1) → left_in_group (groups size D (Some c)) n ≡ 1
      go (yes r) = omega (arith, group-some n (omega arith))
      go (no r) = absurd (omega (arith, (same-group n p).1 (omega arith)))

  -- as it does at the last stop
  pub group-last : (n : ℕ) → suc n ≡ length vs → left_in_group (groups size D (Some c)) n ≡ 1
  group-last n p = omega (arith, group-some n (omega arith), left-most (groups size D (Some c)) n, ap length (groups-join size D (Some c)))

-- uncoupled loops are one group
pub group-uncoupled : (size : ℕ → List ℕ → ℕ) (D n : ℕ) → left_in_group (groups size D None) n ≡ length (loops size 0 D []) - n
unfolding groups left_after
group-uncoupled size D n = left-with_elements (loops size 0 D [] ∷ []) n ∙ go (dec_lt n (length (loops size 0 D [])))
  where
    go : Dec (n < length (loops size 0 D [])) → left_in_group (loops size 0 D [] ∷ []) n ≡ length (loops size 0 D []) - n
    go (yes p) = left-head n (loops size 0 D []) [] p
    go (no p) =
        let e : ◌≡◌ {A = ℕ} 0 (length (loops size 0 D []) - n) = omega arith in
        left-tail n (loops size 0 D []) [] (omega arith) ∙ e
