-- Laws of ordered checks.
--
--   first-of, first-behind   the first check, or else the others; other checks behind it
--   or_else, first-append     the first of two lists joined is that of the first list, or else of the second
--   first_stops, first_goes  by whether the first list refuses
use Rattle.std.specs.Prelude.{◌≡◌, Bool, true, false, cond, List, [], ◌∷◌, ◌++◌, refl, Ok, Err}
use Rattle.std.proofs.Common.{◌∙◌, ap}
use Rattle.codec.specs.declared.refusal.Refusal.{Refusal}
use Rattle.engine.specs.Checks.{Check, ◌if◌, first_of, Why}

-- the first check decides, or else the others
pub first-of : (x : Refusal) (b : Bool) (cs : List Check) → first_of (x if b ∷ cs) ≡ cond b (Err x) (first_of cs)
unfolding first_of
first-of x b cs = refl

-- other checks behind one
pub first-behind : (c : Check) (xs ys : List Check) → first_of xs ≡ first_of ys → first_of (c ∷ xs) ≡ first_of (c ∷ ys)
unfolding first_of
first-behind c xs ys e = ap (cond c.applies (Err c.refusal)) e

-- a refusal, or else the other
abbrev pub or_else : Why → Why → Why
or_else (Ok _) w = w
or_else (Err x) w = Err x

-- a refusal of the first list comes first
pub first-append : (xs ys : List Check) → first_of (xs ++ ys) ≡ or_else (first_of xs) (first_of ys)
unfolding first_of
first-append [] ys = refl
first-append (x ∷ xs) ys = go x.applies (first-append xs ys)
  where
    go : (b : Bool) → first_of (xs ++ ys) ≡ or_else (first_of xs) (first_of ys)
        → cond b (Err x.refusal) (first_of (xs ++ ys)) ≡ or_else (cond b (Err x.refusal) (first_of xs)) (first_of ys)
    go true e = refl
    go false e = e

-- where the first list refuses, so does the whole
pub first_stops : (xs ys : List Check) (w : Why) {x : Refusal} → first_of xs ≡ w → w ≡ Err x → first_of (xs ++ ys) ≡ w
first_stops xs ys w e f = first-append xs ys ∙ rw (e ∙ f, f)

-- where the first list does not refuse, the second decides
pub first_goes : (xs ys : List Check) → first_of xs ≡ Ok tt → first_of (xs ++ ys) ≡ first_of ys
first_goes xs ys e = first-append xs ys ∙ rw e
