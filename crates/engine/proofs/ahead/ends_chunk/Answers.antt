-- `ahead::ends_chunk` meets its contract.
use Rattle.std.specs.Prelude.{Option, Some, None}
use Rattle.std.proofs.Common.{◌≡◌, ℕ, Bool, true, false}
use Rattle.engine.specs.Places.{ends_at}
use Rattle.engine.proofs.ahead.ends_chunk.Goals as goal

-- where there is no element
stops-none : (k : Option ℕ) (found : Bool) (h : ℕ) → found ≡ false → true ≡ ends_at k found h
stops-none None found h e = rw e
stops-none (Some c) found h e = rw e

-- where there is one: never if uncoupled, at the end of a pass if coupled
stops-free : (k : Option ℕ) (found : Bool) (h : ℕ) → k ≡ None → found ≡ true → false ≡ ends_at k found h
stops-free k found h z e = rw (z, e)

stops-coupled : (k : Option ℕ) (c : ℕ) (found : Bool) (h : ℕ) → k ≡ Some c → found ≡ true → ends_at (Some c) true h ≡ ends_at k found h
stops-coupled k c found h z e = rw (z, e)

pub returns-then-not-found : goal.returns-then-not-found
returns-then-not-found c =
    stops-none c.args.shape.now.coupling c.args.found c.args.height c.if-not-found.true

pub returns-in-None : goal.returns-in-None
returns-in-None c =
    stops-free c.args.shape.now.coupling c.args.found c.args.height c.in-None.is c.if-not-found.false

pub returns-in-Some : goal.returns-in-Some
returns-in-Some c =
    stops-coupled c.args.shape.now.coupling c.in-Some.dimension c.args.found c.args.height c.in-Some.is c.if-not-found.false
