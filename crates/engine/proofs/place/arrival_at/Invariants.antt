-- `place::arrival_at` meets its contract: whether the stop is an element depends on the dimensions that are not looked at yet.
use Rattle.std.proofs.Common.{◌≡◌, ℕ, Bool, List, take, drop}
use Rattle.engine.specs.Loops.{size_at}
use Rattle.engine.specs.Chunks.{is_element}
use Rattle.engine.specs.declared.stream.Shape.{Shape}
use Rattle.engine.proofs.place.arrival_at.Given as goal

-- what is left to look at from dimension d on
abbrev pub left : Shape → List ℕ → ℕ → Bool
left s v d = is_element (size_at s) d (drop d (take s.dims v))

abbrev pub invariant-loop-d : goal.invariant-loop-d
invariant-loop-d l = left l.shape l.index l.d ≡ left l.shape l.index 0
