-- An address, dimension after dimension.
use Rattle.std.proofs.Common.{◌≡◌, ℕ, suc, ◌+◌, List, get_or, drop, ◌+ℤ◌, refl, add-one}
use Rattle.engine.specs.Addresses.{offset_at, stride_at, in_bytes, address_up_to}
use Rattle.engine.specs.declared.stream.Pattern.{Pattern}

-- over none it is the base
pub up-to-none : (p : Pattern) (width : ℕ) (v : List ℕ) → p.base.0 ≡ address_up_to p width v 0
unfolding address_up_to
up-to-none p width v = refl

-- over one more
pub up-to-next : (p : Pattern) (width : ℕ) (v : List ℕ) (d : ℕ)
    → address_up_to p width v (d + 1) ≡ address_up_to p width v d +ℤ (offset_at p d (drop (suc d) v) +ℤ in_bytes (stride_at p d (drop (suc d) v)) (get_or v d 0) width)
unfolding address_up_to
up-to-next p width v d = rw (add-one d)
