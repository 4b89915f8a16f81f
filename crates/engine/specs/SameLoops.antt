-- Loops, the groups that no chunk crosses and the elements among stops, at the same sizes.
--
--   loops-same, groups-same, among_same    they are the same
use Rattle.std.specs.Prelude.{◌≡◌, ℕ, zero, suc, ◌+◌, ◌-◌, cond, ◌&&◌, List, [], ◌∷◌, ◌++◌, map, length, replicate, nat_lt, Option, Some, None}
use Rattle.std.proofs.Math.Path.{refl, ap, ap₂}
use Rattle.std.proofs.Common.{◌∙◌, arith}
use Rattle.engine.specs.Configure.{Covers}
use Rattle.engine.specs.Loops.{span, loops}
use Rattle.engine.specs.Members.{Each}
use Rattle.engine.specs.LoopLaws.{loops-length}
use Rattle.engine.specs.Chunks.{or_one, pass_stops, is_element, elements_among, with_elements, groups}

-- spans of the same
span_same : {A : Type 0} (f g : ℕ → List A) (k n : ℕ) → ((i : ℕ) → f i ≡ g i) → span f k n ≡ span g k n
unfolding span
span_same f g k zero h = refl
span_same f g k (suc n) h = ap₂ ◌++◌ (h k) (span_same f g (suc k) n h)

module _ (f g : ℕ → List ℕ → ℕ) (D : ℕ) (same : (d : ℕ) (outer : List ℕ) → suc d + length outer ≡ D → f d outer ≡ g d outer) where
  -- loops at the same sizes
  pub loops-same : (d n : ℕ) (outer : List ℕ) → d + n + length outer ≡ D → loops f d n outer ≡ loops g d n outer
  unfolding loops
  loops-same d zero outer e = refl
  loops-same d (suc n) outer e =
      ap (span (λ k. loops f d n (k ∷ outer)) 0) (same (d + n) outer (omega arith))
      ∙ span_same _ _ 0 (g (d + n) outer) (λ k. loops-same d n (k ∷ outer) (omega arith))

  -- the stops of passes at outer indices
  map_same : (c : ℕ) (vs : List (List ℕ)) → Each [] (λ v. 0 + c + length v ≡ D) vs → map (pass_stops f c) vs ≡ map (pass_stops g c) vs
  unfolding pass_stops
  map_same c [] h = refl
  map_same c (v ∷ vs) h =
      ap₂ ◌∷◌ (ap (or_one (replicate c 0 ++ v)) (loops-same 0 c v (h 0 (omega arith)))) (map_same c vs (λ k l. h (suc k) (omega arith)))

  -- groups at the same sizes
  pub groups-same : (k : Option ℕ) → Covers D k → groups f D k ≡ groups g D k
  unfolding groups
  groups-same None h = ap (λ l. with_elements (l ∷ [])) (loops-same 0 D [] (omega arith))
  groups-same (Some c) h =
      ap with_elements
      (ap (map (pass_stops f c)) (loops-same c (D - c) [] (omega arith))
      ∙ map_same c (loops g c (D - c) []) (λ j l. omega (arith, loops-length g c (D - c) [] j l)))

  -- whether a stop is an element, at the same sizes
  element-same : (d : ℕ) (v : List ℕ) → d + length v ≡ D → is_element f d v ≡ is_element g d v
  unfolding is_element
  element-same d [] e = refl
  element-same d (i ∷ outer) e = ap₂ (λ n b. nat_lt i n && b) (same d outer (omega arith)) (element-same (suc d) outer (omega arith))

  -- the elements among stops, at the same sizes
  pub among_same : (vs : List (List ℕ)) → Each [] (λ v. length v ≡ D) vs → elements_among f vs ≡ elements_among g vs
  unfolding elements_among
  among_same [] h = refl
  among_same (v ∷ vs) h =
      let l : length v ≡ D = h 0 (omega arith) in
      ap₂ (λ b us. cond b (v ∷ us) us) (element-same 0 v (omega arith)) (among_same vs (λ k p. h (suc k) (omega arith)))
