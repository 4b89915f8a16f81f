-- Words that the programs print.
--   counted n one several == a number and the word for it: one of a thing, or several
use Rattle.std.specs.Prelude.{ℕ, cond, List, ◌∷◌, ◌++◌, ◌==◌, decimal}

-- a number and the word for it
abbrev pub counted : ℕ → List ℕ → List ℕ → List ℕ
counted n one several = decimal n ++ 32 ∷ cond (n == 1) one several
