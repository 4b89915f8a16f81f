-- Addresses that are not below 0, and whether they lie inside memory.
use Rattle.std.proofs.Common.{◌≡◌, ℕ, ◌+◌, ◌≤◌, true, leb, ℤ, pos, negsuc, nat_abs, refl, leb-true}
use lib.Signed.{non_neg}
use Rattle.codec.specs.TestLaws.{never, both}
use Rattle.engine.specs.Loops.{natural}
use Rattle.engine.specs.Addresses.{inside}

-- the size of an address that is not below 0 is its place
pub place_is : (z : ℤ) → non_neg z ≡ true → nat_abs z ≡ natural z
place_is (pos n) e = refl
place_is (negsuc n) e = never e

-- an element inside memory: its place, and room behind it
pub inside-room : (len width : ℕ) (z : ℤ) → inside len width z ≡ true → (non_neg z ≡ true) × (natural z + width ≤ len)
inside-room len width z e =
    let h = both (non_neg z) (leb (nat_abs z + width) len) e in
    (h.0, rw (place_is z h.0) at (leb-true (nat_abs z + width) len h.1))
