-- Counting the bytes that changed.
--   changed_in-pairs == they are the pairs of bytes, one of each memory, that differ
use Rattle.std.proofs.Common.{◌≡◌, ℕ, ◌+◌, Bool, true, false, cond, not, eqb, List, [], ◌∷◌, sym, refl, ap, ◌∙◌}
use Rattle.std.specs.Prelude.{count_by}
use Rattle.std.specs.List.{zip}
use Rattle.std.proofs.lemmas.List.Sums.{sum_by-cons}
use Rattle.words.specs.Changes.{changed_in}

differing : (t : Bool) (n : ℕ) → cond t 0 1 + n ≡ cond (not t) 1 0 + n
differing true n = refl
differing false n = refl

pub changed_in-pairs : (l m : List ℕ) → changed_in l m ≡ count_by (λ p. not (eqb p.0 p.1)) (zip l m)
unfolding changed_in
changed_in-pairs [] m = refl
changed_in-pairs (a ∷ l) [] = refl
changed_in-pairs (a ∷ l) (b ∷ m) =
    ap (λ n. cond (eqb a b) 0 1 + n) (changed_in-pairs l m)
    ∙ differing (eqb a b) _
    ∙ sym (sum_by-cons (λ p. cond (not (eqb p.0 p.1)) 1 0) (a, b) (zip l m))
