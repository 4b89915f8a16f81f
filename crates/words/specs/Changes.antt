-- Memories before and after a run.
--   changed_in l m == how many places have another byte in m than in l
use Rattle.std.specs.Prelude.{ℕ, ◌+◌, cond, List, [], ◌∷◌, ◌==◌}

-- how many memory bytes a run changed: the places, as far as both go, at which the two are not the same
unfoldable pub changed_in : List ℕ → List ℕ → ℕ
changed_in [] m = 0
changed_in (a ∷ l) [] = 0
changed_in (a ∷ l) (b ∷ m) = cond (a == b) 0 1 + changed_in l m
