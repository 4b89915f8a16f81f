-- `walk::seek` meets its contract: what is to come stays the same at each turn, until an element or the end is met.
use Rattle.std.proofs.Common.{◌≡◌, ℕ, suc, ◌<◌, ◌≤◌, List, length, get_or, drop}
use Rattle.engine.specs.Loops.{size_at}
use Rattle.engine.specs.BoundLaws.{Under}
use Rattle.engine.specs.Walk.{at, cost_at}
use Rattle.engine.specs.declared.stream.Shape.{Shape}
use Rattle.engine.proofs.Remembered.{Remembered}
use Rattle.engine.proofs.walk.seek.Given as goal

-- where the search stands: with dimension d about to run the index that it has, the same is to come as at the start
abbrev pub Search : (shape : Shape) (index₀ : List ℕ) (start bottom top : ℕ) (index : List ℕ) (d : ℕ) → Type 0
Search shape index₀ start bottom top index d =
    (bottom ≤ d) × (d < top) × (length index ≡ 7) × (at (size_at shape) bottom top start index₀ ≡ at (size_at shape) bottom top d index)
    × ((k : ℕ) → get_or index k 0 ≤ 4096) × Under shape (suc d) (drop (suc d) index) × (drop top index ≡ drop top index₀)

abbrev pub invariant-loop-size : goal.invariant-loop-size
invariant-loop-size l = Search l.shape l.initial.index l.start l.bottom l.top l.index l.d × (length l.sizes ≡ 7) × (l.size ≡ size_at l.shape l.d (drop (suc l.d) l.index))
    × Remembered (size_at l.shape) l.d l.sizes l.index

abbrev pub decreases-loop-size : goal.decreases-loop-size
decreases-loop-size l = cost_at (size_at l.shape) l.bottom l.top l.d l.index
