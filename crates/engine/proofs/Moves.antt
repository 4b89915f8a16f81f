-- A register after its stream moved, from what the walk says of the position.
use Rattle.std.proofs.Common.{◌≡◌, ℕ, ◌<◌, Bool, true, false, cond, ltb, List, [], length, get_or, replicate, sym, refl, ap, ltb-false, ltb-true, le-leb}
use lib.ListN.{get_or-eq_default}
use borrow.Author.Tests.{lt-leb}
use Rattle.engine.specs.Chunks.{stops, height}
use Rattle.engine.specs.Registers.{shape_of, index_of, state_after, standing, moved_to}
use Rattle.engine.specs.declared.stream.Shape.{Shape}
use Rattle.engine.specs.declared.register.State.TheVariants.{Open, Finished}
use Rattle.engine.specs.declared.register.Register.{Register}

state-found : (s : Shape) (n : ℕ) (found : Bool) → found ≡ ltb n (length (stops s)) → cond found Open Finished ≡ state_after s n
state-found s n true e = ap (λ b. cond b Finished Open) (sym (lt-leb (length (stops s)) n (ltb-true n (length (stops s)) (sym e))))
state-found s n false e = ap (λ b. cond b Finished Open) (sym (le-leb (length (stops s)) n (ltb-false n (length (stops s)) (sym e))))

index-found : (s : Shape) (n : ℕ) (found : Bool) (index : List ℕ) → found ≡ ltb n (length (stops s)) → (found ≡ true → index ≡ index_of (get_or (stops s) n []))
    → cond found index (replicate 7 0) ≡ index_of (get_or (stops s) n [])
index-found s n true index e h = h refl
index-found s n false index e h = ap index_of (sym (get_or-eq_default (stops s) [] (ltb-false _ _ (sym e))))

-- where the walk found the stop at position n, or that there is none
pub moved-to : (r : Register) (n : ℕ) (found : Bool) (index : List ℕ) (h : ℕ)
    → found ≡ ltb n (length (stops (shape_of r))) → (found ≡ true → index ≡ index_of (get_or (stops (shape_of r)) n [])) → h ≡ height (shape_of r) n
    → standing (cond found Open Finished) n (cond found index (replicate 7 0)) h r ≡ moved_to n r
moved-to r n found index h e f g =
    λ i. standing (state-found (shape_of r) n found e i) n (index-found (shape_of r) n found index e f i) (g i) r

pub height-first : (s : Shape) → 0 < length (stops s) → height s 0 ≡ 0
unfolding height
height-first s h = rw (lt-leb (length (stops s)) 0 h)
