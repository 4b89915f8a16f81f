-- The laws of a shape without modifiers: its sizes, offsets and strides are the configured ones.
use Rattle.std.proofs.Common.{◌≡◌, ℕ, List, get_or, take, pos, ◌+ℤ◌, sym, ap, ◌∙◌}
use lib.IntN.{+ℤ_idr}
use Rattle.codec.specs.declared.operation.Parameter.{Parameter}
use Rattle.codec.specs.declared.operation.Parameter.TheVariants.{Size, Offset, Stride}
use Rattle.engine.specs.Loops.{modifiers_of, added, natural, size_at}
use Rattle.engine.specs.Addresses.{no_bytes, no_elements, offset_at, stride_at, in_bytes}
use Rattle.engine.specs.declared.stream.Shape.{Shape}
use Rattle.engine.specs.declared.stream.Pattern.{Pattern}

-- nothing is added
none-added : (q : Parameter) (d : ℕ) (outer : List ℕ) (s : Shape) → s.mods ≡ 0 → added q d outer (modifiers_of s) ≡ pos 0
unfolding added
none-added q d outer s e = ap (λ n. added q d outer (take n s.modifiers)) e

pub plain_size : (s : Shape) (d : ℕ) (outer : List ℕ) → s.mods ≡ 0 → size_at s d outer ≡ get_or s.sizes d 0
unfolding size_at
plain_size s d outer e = ap (λ z. natural (pos (get_or s.sizes d 0) +ℤ z)) (none-added Size d outer s e) ∙ ap natural (+ℤ_idr (pos (get_or s.sizes d 0)))

pub plain-offset : (p : Pattern) (d : ℕ) (outer : List ℕ) → p.shape.mods ≡ 0 → offset_at p d outer ≡ (get_or p.offsets d no_bytes).0
plain-offset p d outer e = ap (λ z. (get_or p.offsets d no_bytes).0 +ℤ z) (none-added Offset d outer p.shape e) ∙ +ℤ_idr (get_or p.offsets d no_bytes).0

pub plain-stride : (p : Pattern) (d : ℕ) (outer : List ℕ) → p.shape.mods ≡ 0 → stride_at p d outer ≡ (get_or p.strides d no_elements).0
plain-stride p d outer e = ap (λ z. (get_or p.strides d no_elements).0 +ℤ z) (none-added Stride d outer p.shape e) ∙ +ℤ_idr (get_or p.strides d no_elements).0

-- what a dimension adds to an address
pub plain-term : (p : Pattern) → p.shape.mods ≡ 0 → (d : ℕ) (outer : List ℕ) (i width : ℕ)
    → (get_or p.offsets d no_bytes).0 +ℤ in_bytes (get_or p.strides d no_elements).0 i width ≡ offset_at p d outer +ℤ in_bytes (stride_at p d outer) i width
plain-term p z d outer i width =
    ap (λ x. x +ℤ in_bytes (get_or p.strides d no_elements).0 i width) (sym (plain-offset p d outer z))
    ∙ ap (λ x. offset_at p d outer +ℤ in_bytes x i width) (sym (plain-stride p d outer z))
