-- What follows on a value that there is only where a test fails.
use Rattle.std.proofs.Common.{◌≡◌, refl, ap, Bool, true, false, cond, Some, None}

pub some-if : {A X : Type 0} (b : Bool) (q x : A) (k : X) (f : A → X) → Some q ≡ cond b None (Some x) → f q ≡ cond b k (f x)
some-if true q x k f e = cc
some-if false q x k f e = let g : q ≡ x = cc in ap f g

pub none-if : {A X : Type 0} (b : Bool) (x : A) (k : X) (f : A → X) → None ≡ cond b None (Some x) → k ≡ cond b k (f x)
none-if true x k f e = refl
none-if false x k f e = cc
