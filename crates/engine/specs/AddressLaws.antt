-- Where elements lie: how far, and the next in a row.
--
--   Is                        a number that is z, sign aside at most n
--   Small                     indices of at most 4,096
--   offset-most, stride_most  offsets and strides, modified, stay within 2^36
--   bytes_most                a stride in bytes
--   address-most              an address over the first n dimensions stays within 2^20 + n x 2^52
--   address-fits              so that of an element stays within 2^55
--   mul-add-right             an integer times a sum
--   bytes_next, address-next  the next element of a row lies one stride further
use Rattle.std.specs.Prelude.{◌≡◌, ℕ, zero, suc, ◌+◌, ◌-◌, ◌*◌, ◌^◌, ◌<◌, ◌≤◌, Bool, true, false, cond, ◌&&◌, List, [], ◌∷◌, take, drop, ℤ, pos, negsuc, ◌+ℤ◌, ◌*ℤ◌, neg_ℤ, ◌==◌, slice_index, slice_index_or, unsigned_abs, refl}
use Rattle.std.proofs.Common.{sym, ◌∙◌, ap, arith, mul-le-mul, suc-mul, mul-add, one-mul, get_or-drop}
use Rattle.std.proofs.Math.IntN.{+ℤ_assoc, +ℤ_comm, neg_ℤ-+ℤ}
use Rattle.codec.proofs.Integers.{abs-add, abs-mul}
use Rattle.codec.specs.declared.operation.Parameter.{Parameter}
use Rattle.codec.specs.declared.operation.Parameter.TheVariants.{Offset, Stride}
use Rattle.codec.specs.declared.operation.Behaviour.{Behaviour}
use Rattle.codec.specs.declared.operation.Behaviour.TheVariants.{Add, Subtract}
use Rattle.engine.specs.Loops.{same_parameter, signed, owner_index, modifiers_of, share, added}
use Rattle.engine.specs.Addresses.{offset_at, stride_at, in_bytes, address_up_to, address, no_bytes, no_elements}
use Rattle.engine.specs.Good.{Ranged, RangedPattern}
use Rattle.engine.specs.Registers.{no_modifier}
use Rattle.engine.specs.declared.stream.Modifier.{Modifier}
use Rattle.engine.specs.declared.stream.Shape.{Shape}
use Rattle.engine.specs.declared.stream.Pattern.{Pattern}

-- ---- how far

-- a number that is z, sign aside at most n
pub record Is (z : ℤ) (n : ℕ) (r : ℤ) : Type 0 where
  pub exact : r ≡ z
  pub most : unsigned_abs r ≤ n

-- -n is n, sign aside
abs_neg : (n : ℕ) → unsigned_abs (neg_ℤ (pos n)) ≡ n
abs_neg zero = refl
abs_neg (suc n) = refl

-- indices of at most 4,096
abbrev pub Small : List ℕ → Type 0
Small v = (k : ℕ) → slice_index v k ≤ 4096

-- small indices are small from any dimension on
pub small-drop : (n : ℕ) (v : List ℕ) → Small v → Small (drop n v)
small-drop n v h k = rw (get_or-drop n v k 0) (h (n + k))

-- what one modifier adds to a parameter is at most 2^32, sign aside
share-most : (q : Parameter) (d : ℕ) (outer : List ℕ) (m : Modifier) → Small outer → m.displacement ≤ 1048576 → unsigned_abs (share q d outer m) ≤ 2 ^ 32
share-most q d outer m h p = go (same_parameter m.parameter q && m.target == d) m.behaviour
  where
    k : ℕ
    k = owner_index m d outer * m.displacement

    few : k ≤ 2 ^ 32
    few = mul-le-mul {n₂ = 4096} {m₂ = 1048576} (h (m.owner - suc d)) p

    go : (t : Bool) (b : Behaviour) → unsigned_abs (cond t (signed b k) (pos 0)) ≤ 2 ^ 32
    go true Add = few
    go true Subtract = omega (arith, abs_neg k, few)
    go false b = omega arith

-- what n modifiers add to a parameter is at most n x 2^32, sign aside
added-most : (q : Parameter) (d : ℕ) (outer : List ℕ) (ms : List Modifier) (n : ℕ) → Small outer
    → ((k : ℕ) → k < n → (slice_index_or ms k no_modifier).displacement ≤ 1048576) → unsigned_abs (added q d outer (take n ms)) ≤ n * 2 ^ 32
unfolding added
added-most q d outer [] zero h p = omega arith
added-most q d outer [] (suc n) h p = omega arith
added-most q d outer (m ∷ ms) zero h p = omega arith
added-most q d outer (m ∷ ms) (suc n) h p =
    omega (
      arith,
      abs-add (share q d outer m) (added q d outer (take n ms)),
      share-most q d outer m h (p 0 (omega arith)),
      added-most q d outer ms n h (λ k r. p (suc k) (omega arith)),
    )

-- what the modifiers of a shape in range add to a parameter is at most 2^35, sign aside
shape-most : (q : Parameter) (d : ℕ) (outer : List ℕ) (s : Shape) → Ranged s → Small outer → unsigned_abs (added q d outer (modifiers_of s)) ≤ 2 ^ 35
shape-most q d outer s r h = omega (arith, added-most q d outer s.modifiers s.mods h (λ k p. (r.modifier k p).displaced), r.mods)

module _ (p : Pattern) (r : RangedPattern p) where
  -- an offset, modified
  pub offset-most : (d : ℕ) (outer : List ℕ) → Small outer → unsigned_abs (offset_at p d outer) ≤ 2 ^ 36
  offset-most d outer h =
      omega (arith, abs-add (slice_index_or p.offsets d no_bytes).0 (added Offset d outer (modifiers_of p.shape)), r.offset d, shape-most Offset d outer p.shape r.shape h)

  -- a stride, modified
  pub stride_most : (d : ℕ) (outer : List ℕ) → Small outer → unsigned_abs (stride_at p d outer) ≤ 2 ^ 36
  stride_most d outer h =
      omega (arith, abs-add (slice_index_or p.strides d no_elements).0 (added Stride d outer (modifiers_of p.shape)), r.stride d, shape-most Stride d outer p.shape r.shape h)

-- a stride in bytes
pub bytes_most : (stride : ℤ) (index width : ℕ) → unsigned_abs stride ≤ 2 ^ 36 → index ≤ 4096 → width ≤ 8 → unsigned_abs (in_bytes stride index width) ≤ 2 ^ 51
bytes_most stride index width h i w =
    let n : index * width ≤ 32768 = mul-le-mul {n₂ = 4096} {m₂ = 8} i w in
    let b : unsigned_abs stride * (index * width) ≤ 2 ^ 36 * 32768 = mul-le-mul h n in
    omega (arith, abs-mul stride (pos (index * width)))

-- an address over the first n dimensions
pub address-most : (p : Pattern) → RangedPattern p → (width : ℕ) → width ≤ 8 → (v : List ℕ) → Small v → (n : ℕ) → unsigned_abs (address_up_to p width v n) ≤ 2 ^ 20 + n * 2 ^ 52
unfolding address_up_to
address-most p r width w v h zero = omega (arith, r.base)
address-most p r width w v h (suc d) =
    let outer : List ℕ = drop (suc d) v in
    let o : ℤ = offset_at p d outer in
    let b : ℤ = in_bytes (stride_at p d outer) (slice_index v d) width in
    omega (
      arith,
      address-most p r width w v h d,
      abs-add (address_up_to p width v d) (o +ℤ b),
      abs-add o b,
      offset-most p r d outer (small-drop (suc d) v h),
      bytes_most (stride_at p d outer) (slice_index v d) width (stride_most p r d outer (small-drop (suc d) v h)) (h d) w,
    )

-- an element's address
pub address-fits : (p : Pattern) → RangedPattern p → (width : ℕ) → width ≤ 8 → (v : List ℕ) → Small v → unsigned_abs (address p width v) ≤ 2 ^ 55
address-fits p r width w v h = omega (arith, address-most p r width w v h p.shape.dims, r.shape.dims)

-- ---- the next in a row

-- an integer times a sum is the sum of both products
pub mul-add-right : (z : ℤ) (a b : ℕ) → z *ℤ pos (a + b) ≡ z *ℤ pos a +ℤ z *ℤ pos b
mul-add-right (pos n) a b = ap pos (mul-add n a b)
mul-add-right (negsuc n) a b = ap (λ k. neg_ℤ (pos k)) (mul-add (suc n) a b) ∙ neg_ℤ-+ℤ (pos (suc n * a)) (pos (suc n * b))

-- one index more is one stride more
pub bytes_next : (stride : ℤ) (i width : ℕ) → in_bytes stride (suc i) width ≡ in_bytes stride i width +ℤ in_bytes stride 1 width
bytes_next stride i width =
    let z : suc i * width ≡ i * width + 1 * width = omega (arith, suc-mul i width, one-mul width) in
    ap (λ n. stride *ℤ pos n) z ∙ mul-add-right stride (i * width) (1 * width)

-- of three summands the last two may change places
swap : (a b c : ℤ) → (a +ℤ b) +ℤ c ≡ (a +ℤ c) +ℤ b
swap a b c = +ℤ_assoc a b c ∙ ap (λ y. a +ℤ y) (+ℤ_comm b c) ∙ sym (+ℤ_assoc a c b)

-- the next element of a row lies one stride further: no other dimension's offset or stride depends on the innermost index
pub address-next : (p : Pattern) (width i : ℕ) (outer : List ℕ) (n : ℕ) → 1 ≤ n
    → address_up_to p width (suc i ∷ outer) n ≡ address_up_to p width (i ∷ outer) n +ℤ in_bytes (stride_at p 0 outer) 1 width
unfolding address_up_to
address-next p width i outer zero h = absurd (omega arith)
address-next p width i outer (suc zero) h =
    let a : ℤ = p.base.0 in
    let o : ℤ = offset_at p 0 outer in
    let x : ℤ = in_bytes (stride_at p 0 outer) i width in
    let y : ℤ = in_bytes (stride_at p 0 outer) 1 width in
    ap (λ z. a +ℤ (o +ℤ z)) (bytes_next (stride_at p 0 outer) i width) ∙ ap (λ z. a +ℤ z) (sym (+ℤ_assoc o x y)) ∙ sym (+ℤ_assoc a (o +ℤ x) y)
address-next p width i outer (suc (suc m)) h =
    let t : ℤ = offset_at p (suc m) (drop (suc m) outer) +ℤ in_bytes (stride_at p (suc m) (drop (suc m) outer)) (slice_index outer m) width in
    ap (λ z. z +ℤ t) (address-next p width i outer (suc m) (omega arith)) ∙ swap (address_up_to p width (i ∷ outer) (suc m)) (in_bytes (stride_at p 0 outer) 1 width) t
