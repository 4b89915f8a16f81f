-- `number::signed_of` meets its contract: half of an even number, and -1 less half of an odd one.
use Prim.Native.Nat.{ℕ, zero, suc, ◌/◌}
use mathlib.Core.Path.{◌≡◌, refl, ap}
use native.Mathlib.Nat.{zero-add}
use native.Mathlib.Omega.{arith}
use lib.IntN.{negsuc, pos, ◌-ℤ◌}
use borrow.Author.Tests.{eq-eqb, ne_eqb}
use Rattle.codec.specs.Numbers.{signed_of}
use Rattle.codec.proofs.Integers.{fits, back, cast}
use Rattle.codec.proofs.number.signed_of.Goals as goal

one_less : (h : ℕ) → negsuc 0 -ℤ pos h ≡ negsuc h
one_less zero = refl
one_less (suc h) = ap (λ k. negsuc (suc k)) (zero-add h)

pub overflow_sub-result : goal.overflow_sub-result
overflow_sub-result c =
    let n = c.args.n in rw (cast (n / 2) (omega arith), one_less (n / 2)) (fits (negsuc (n / 2)) (omega arith))

pub returns-then-n-eq0 : goal.returns-then-n-eq0
unfolding signed_of
returns-then-n-eq0 c =
    rw (cast (c.args.n / 2) (omega arith), eq-eqb _ _ c.if-n-eq0.true)

pub returns-else-n-eq0 : goal.returns-else-n-eq0
unfolding signed_of
returns-else-n-eq0 c =
    let n = c.args.n in
    rw (cast (n / 2) (omega arith), one_less (n / 2), back (negsuc (n / 2)) (omega arith), ne_eqb _ _ c.if-n-eq0.false)
