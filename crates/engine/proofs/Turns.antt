-- The laws of a search in the code's words, d - 1 and d + 1, and the bounds of the indices that it moves.
use Rattle.std.proofs.Common.{◌≡◌, ℕ, zero, suc, ◌+◌, ◌-◌, ◌<◌, ◌≤◌, List, length, get_or, drop, set, replicate, sym, ap, ◌∙◌, subst, add-one, sub-one, arith, get_or-drop, drop-cons, get_or-set_other, get_or-set_same, drop-set-lt}
use native.Mathlib.Decide.{ℕ_discrete}
use Rattle.engine.specs.Loops.{size_at}
use Rattle.engine.specs.BoundLaws.{Under, lasts_from, lasts-next, under_more}
use Rattle.engine.specs.Walk.{at, cost_at}
use Rattle.engine.specs.WalkLaws.{at-down, at_up, cost-down, cost-up, get_d-zeros}
use Rattle.engine.specs.declared.stream.Shape.{Shape}

module _ (size : ℕ → List ℕ → ℕ) (b n : ℕ) where
  pub goes_down : (d : ℕ) (v : List ℕ) → b < d → d < n → d < length v → get_or v d 0 < size d (drop (suc d) v) → at size b n d v ≡ at size b n (d - 1) (set v (d - 1) 0)
  goes_down zero v z p h k = absurd (omega arith)
  goes_down (suc d) v z p h k = rw sub-one (at-down size b n d v (omega arith) p h k)

  pub cost-goes-down : (d : ℕ) (v : List ℕ) → b < d → d < n → d < length v → get_or v d 0 < size d (drop (suc d) v) → cost_at size b n (d - 1) (set v (d - 1) 0) < cost_at size b n d v
  cost-goes-down zero v z p h k = absurd (omega arith)
  cost-goes-down (suc d) v z p h k = rw sub-one (cost-down size b n d v (omega arith) p h k)

  pub goes-up : (d : ℕ) (v : List ℕ) → d + 1 < n → d + 1 < length v → size d (drop (suc d) v) ≤ get_or v d 0 → at size b n d v ≡ at size b n (d + 1) (set v (d + 1) (get_or v (d + 1) 0 + 1))
  goes-up d v p h k = rw (add-one d, add-one (get_or v (suc d) 0)) (at_up size b n d v (omega arith) (omega arith) k)

  pub cost-goes-up : (d : ℕ) (v : List ℕ) → d + 1 < n → d + 1 < length v → cost_at size b n (d + 1) (set v (d + 1) (get_or v (d + 1) 0 + 1)) < cost_at size b n d v
  cost-goes-up d v p h = rw (add-one d, add-one (get_or v (suc d) 0)) (cost-up size b n d v (omega arith) (omega arith))

-- a store of a small number keeps all small
pub all_small : (v : List ℕ) (d x b : ℕ) → d < length v → x ≤ b → ((k : ℕ) → get_or v k 0 ≤ b) → (k : ℕ) → get_or (set v d x) k 0 ≤ b
all_small v d x b h p f k = go (ℕ_discrete k d)
  where
    go : Dec (k ≡ d) → get_or (set v d x) k 0 ≤ b
    go (yes e) = subst (λ j. get_or (set v d x) j 0 ≤ b) (sym e) (rw (get_or-set_same v d x 0 h) p)
    go (no e) = rw (get_or-set_other v d k x 0 e) (f k)

-- found: the index that dimension d runs is under its high, as those outside it are
pub under-found : (s : Shape) (d : ℕ) (v : List ℕ) → d < s.dims → d < length v → get_or v d 0 < size_at s d (drop (suc d) v)
    → Under s (suc d) (drop (suc d) v) → Under s d (drop d v)
under-found s d v p h k u = rw (drop-cons v d 0 h) (under_more s d p (drop (suc d) v) u (get_or v d 0) k)

-- down: so it is before dimension d - 1 starts
pub under-down : (s : Shape) (b d : ℕ) (v : List ℕ) → b < d → d < s.dims → d < length v → get_or v d 0 < size_at s d (drop (suc d) v)
    → Under s (suc d) (drop (suc d) v) → Under s (suc (d - 1)) (drop (suc (d - 1)) (set v (d - 1) 0))
under-down s b zero v z p h k u = absurd (omega arith)
under-down s b (suc d) v z p h k u = rw (sub-one, drop-set-lt (suc d) v d 0 (omega arith)) (under-found s (suc d) v p h k u)

-- what lies outside a dimension is under its highs, if what lies from it on is
pub under-out : (s : Shape) (d : ℕ) (v : List ℕ) → d < s.dims → Under s d (drop d v) → Under s (suc d) (drop (suc d) v)
under-out s d v p u k =
    let a : get_or (drop (suc d) v) k 0 ≡ get_or (drop d v) (suc k) 0 = get_or-drop (suc d) v k 0 ∙ ap (λ j. get_or v j 0) (omega arith) ∙ sym (get_or-drop d v (suc k) 0) in
    let b : get_or (lasts_from s d) (suc k) 0 ≡ get_or (lasts_from s (suc d)) k 0 = ap (λ l. get_or l (suc k) 0) (lasts-next s d p) in
    omega (arith, a, b, u (suc k))

-- so it is outside any number of dimensions
pub under-from : (s : Shape) (v : List ℕ) → Under s 0 v → (d : ℕ) → d ≤ s.dims → Under s d (drop d v)
under-from s v u zero h = u
under-from s v u (suc d) h = under-out s d v h (under-from s v u d (omega arith))

-- up: what lies outside the next dimension was under its high already
pub under_up : (s : Shape) (d : ℕ) (v : List ℕ) (x : ℕ) → d + 1 < s.dims → Under s (suc d) (drop (suc d) v) → Under s (suc (d + 1)) (drop (suc (d + 1)) (set v (d + 1) x))
under_up s d v x p u = rw (add-one d, drop-set-lt (suc (suc d)) v (suc d) x (omega arith)) (under-out s (suc d) v (omega arith) u)

-- zeros are under every high
pub under_none : (s : Shape) (d n : ℕ) → Under s d (drop n (replicate 7 0))
under_none s d n k = omega (arith, get_or-drop {A = ℕ} n (replicate 7 0) k 0, get_d-zeros 7 (n + k))
