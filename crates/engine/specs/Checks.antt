-- Ordered checks.
--
--   Why                     that nothing is refused, or the refusal
--   Check, _if_            a refusal and whether it applies
--   first_of                the first of a list that applies
use Rattle.std.specs.Prelude.{Bool, cond, List, [], ◌∷◌, Result, Ok, Err}
use Rattle.codec.specs.declared.refusal.Refusal.{Refusal}

-- that nothing is refused, or the refusal
abbrev pub Why : Type 0
Why = Result (Unit {0}) Refusal

-- a refusal, and whether it applies
pub record Check : Type 0 where
  pub refusal : Refusal
  pub applies : Bool

infix 90 ◌if◌
-- refusal x, which applies if b
abbrev pub ◌if◌ : Refusal → Bool → Check
x if b = record { refusal = x; applies = b }

-- the first that applies
unfoldable pub first_of : List Check → Why
first_of [] = Ok tt
first_of (c ∷ cs) = cond c.applies (Err c.refusal) (first_of cs)
