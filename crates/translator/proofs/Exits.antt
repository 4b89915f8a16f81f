-- What a `?` returns where it leaves: the refusal that it met.
use Rattle.std.proofs.Common.{◌≡◌, ◌∙◌, ap, Result, Err}
use Rattle.std.specs.Result.{IsErr, IsErrAnd}
use Rattle.std.proofs.lemmas.Result.{err_from_is_err_and}
use Rattle.codec.specs.declared.refusal.Refused.{Refused}

pub left : {X : Type 0} (r : Result X Refused) (e : Refused) → IsErr r × IsErrAnd r (λ y. y ≡ e) → r ≡ Err e
left r e h = let p = err_from_is_err_and r h.1 in p.1 ∙ ap Err p.2
