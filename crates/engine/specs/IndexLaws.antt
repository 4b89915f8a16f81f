-- A register keeps an element as seven indices, zeros behind: nothing is lost by that, and the walk over them visits the elements.
--
--   Roomy                    a shape with 1 to 7 dimensions
--   element-length           an element has an index for each dimension
--   walk_start, walk-next    where the search finds the first element, and the next one
--   index-get_d, index-under, element-under, element-small  the indices themselves, and that they are under the highs
--   size-index, address-index  sizes and addresses at seven indices are those of the element
use Rattle.std.specs.Prelude.{◌≡◌, ℕ, zero, suc, ◌-◌, ◌<◌, ◌≤◌, List, [], ◌∷◌, ◌++◌, map, length, get_or, drop, replicate, ◌+ℤ◌, slice_index, slice_index_or, refl}
use Rattle.std.proofs.Common.{sym, ◌∙◌, ap, ap₂, subst, arith, length-append, length-take}
use Rattle.std.proofs.lemmas.List.{drop-append-le}
use Rattle.codec.specs.declared.operation.Parameter.TheVariants.{Offset, Stride}
use Rattle.engine.specs.Loops.{modifiers_of, size_at, loops, elements}
use Rattle.engine.specs.Addresses.{no_bytes, no_elements, in_bytes, offset_at, stride_at, address_up_to, address}
use Rattle.engine.specs.Registers.{index_of}
use Rattle.engine.specs.BoundLaws.{Under, at_under, under-small}
use Rattle.engine.specs.Good.{Accepted}
use Rattle.engine.specs.Walk.{at, after, Element}
use Rattle.engine.specs.WalkLaws.{get_d-zeros, drop-replicate, get_d-pad, added-pad, size-pad, index-pad, standing, start, loops-padded}
use Rattle.engine.specs.declared.stream.Shape.{Shape}
use Rattle.engine.specs.declared.stream.Pattern.{Pattern}

-- two functions that agree on a list's elements
pub map_same : {A B : Type 0} (f g : A → B) (l : List A) (z : A) → ((k : ℕ) → k < length l → f (slice_index_or l k z) ≡ g (slice_index_or l k z)) → map f l ≡ map g l
map_same f g [] z h = refl
map_same f g (x ∷ l) z h = ap₂ ◌∷◌ (h 0 (omega arith)) (map_same f g l z (λ k q. h (suc k) (omega arith)))

-- the images of a list without its first k are the images of the rest
pub drop-map : {A B : Type 0} (f : A → B) (k : ℕ) (l : List A) → drop k (map f l) ≡ map f (drop k l)
drop-map f zero l = refl
drop-map f (suc k) [] = refl
drop-map f (suc k) (x ∷ l) = drop-map f k l

-- a shape with dimensions that a register has room for
pub record Roomy (s : Shape) : Type 0 where
  pub some : 1 ≤ s.dims
  pub most : s.dims ≤ 7

-- an element has an index for each dimension
pub element-length : (s : Shape) → Roomy s → (k : ℕ) → k < length (elements s) → length (slice_index_or (elements s) k []) ≡ s.dims
element-length s r k q = (standing s r.some r.most k q).0

-- the elements as seven indices each
seven : (s : Shape) → Roomy s → map (λ v. v ++ replicate (7 - s.dims) 0) (elements s) ≡ map index_of (elements s)
seven s r =
    map_same (λ v. v ++ replicate (7 - s.dims) 0) index_of (elements s) []
    (λ k q. sym (index-pad (slice_index_or (elements s) k []) s.dims (element-length s r k q) r.most))

-- the search for the first element: the outermost dimension is about to run index 0
pub walk_start : (s : Shape) → Roomy s → at (size_at s) 0 s.dims (s.dims - 1) (replicate 7 0) ≡ map index_of (elements s)
unfolding elements
walk_start s r =
    let n : ℕ = s.dims in
    let z : List ℕ = replicate (7 - n) 0 in
    let o : n - 0 ≡ n = omega arith in
    sym (start (size_at s) 0 n (replicate 7 0) r.some (get_d-zeros 7 (n - 1)))
    ∙ ap (loops (size_at s) 0 (n - 0)) (drop-replicate 0 n 7)
    ∙ ap (λ j. loops (size_at s) 0 j z) o
    ∙ sym (loops-padded (size_at s) z (size-pad s (7 - n)) 0 n [])
    ∙ seven s r

-- one element further on, the first of what is left is gone
pub tail_of : {A : Type 0} (k : ℕ) (l : List A) (x : A) (t : List A) → drop k l ≡ x ∷ t → drop (suc k) l ≡ t
tail_of zero [] x t e = absurd (let z : ◌≡◌ {A = ℕ} 0 1 = cc in omega arith)
tail_of (suc k) [] x t e = absurd (let z : ◌≡◌ {A = ℕ} 0 1 = cc in omega arith)
tail_of zero (y ∷ l) x t e = cc
tail_of (suc k) (y ∷ l) x t e = tail_of k l x t e

-- the search for what comes after the element at position k
pub walk-next : (s : Shape) → Roomy s → (k : ℕ) → k < length (elements s)
    → after (size_at s) 0 s.dims (index_of (slice_index_or (elements s) k [])) ≡ map index_of (drop (suc k) (elements s))
walk-next s r k q =
    let f = ap (drop k) (sym (seven s r)) ∙ (standing s r.some r.most k q).1 in
    sym (tail_of k (map index_of (elements s)) _ _ f) ∙ drop-map index_of (suc k) (elements s)

-- what lies outside a dimension, at seven indices
drop-index : (v : List ℕ) (n d : ℕ) → length v ≡ n → n ≤ 7 → d ≤ n → drop d (index_of v) ≡ drop d v ++ replicate (7 - n) 0
drop-index v n d e h p = ap (drop d) (index-pad v n e h) ∙ drop-append-le d v (replicate (7 - n) 0) (omega arith)

-- the size of a dimension at an element's seven indices
pub size-index : (s : Shape) (v : List ℕ) (n d : ℕ) → length v ≡ n → n ≤ 7 → d < n → size_at s d (drop (suc d) (index_of v)) ≡ size_at s d (drop (suc d) v)
size-index s v n d e h p = ap (size_at s d) (drop-index v n (suc d) e h p) ∙ size-pad s (7 - n) d (drop (suc d) v)

-- the address over the first d dimensions is the same at an element's seven indices
address-up : (p : Pattern) (w : ℕ) (v : List ℕ) (n d : ℕ) → length v ≡ n → n ≤ 7 → d ≤ n → address_up_to p w (index_of v) d ≡ address_up_to p w v d
unfolding address_up_to
address-up p w v n zero e h q = refl
address-up p w v n (suc d) e h q =
    let o = drop-index v n (suc d) e h q in
    let off : offset_at p d (drop (suc d) (index_of v)) ≡ offset_at p d (drop (suc d) v) =
    ap (offset_at p d) o ∙ ap (λ y. (get_or p.offsets d no_bytes).0 +ℤ y) (added-pad Offset d (drop (suc d) v) (7 - n) (modifiers_of p.shape)) in
    let str : stride_at p d (drop (suc d) (index_of v)) ≡ stride_at p d (drop (suc d) v) =
    ap (stride_at p d) o ∙ ap (λ y. (get_or p.strides d no_elements).0 +ℤ y) (added-pad Stride d (drop (suc d) v) (7 - n) (modifiers_of p.shape)) in
    let i : get_or (index_of v) d 0 ≡ get_or v d 0 = ap (λ l. slice_index l d) (index-pad v n e h) ∙ get_d-pad v (7 - n) d in
    λ j. address-up p w v n d e h (omega arith) j +ℤ (off j +ℤ in_bytes (str j) (i j) w)

-- an element's address at its seven indices
pub address-index : (p : Pattern) (w : ℕ) (v : List ℕ) → length v ≡ p.shape.dims → p.shape.dims ≤ 7 → address p w (index_of v) ≡ address p w v
address-index p w v e h = address-up p w v p.shape.dims p.shape.dims e h (omega arith)

-- the indices of an element, among the seven
pub index-get_d : (v : List ℕ) (n j : ℕ) → length v ≡ n → n ≤ 7 → slice_index (index_of v) j ≡ slice_index v j
index-get_d v n j e h = ap (λ l. slice_index l j) (index-pad v n e h) ∙ get_d-pad v (7 - n) j

-- an element's seven indices are under the highs
pub index-under : (s : Shape) → Roomy s → (k : ℕ) → k < length (elements s) → Under s 0 (index_of (slice_index_or (elements s) k []))
index-under s r k q j = omega (arith, index-get_d (slice_index_or (elements s) k []) s.dims j (element-length s r k q) r.most, at_under s k j)

-- an accepted shape has room
pub roomy : (s : Shape) → Accepted s → Roomy s
roomy s a = record { some = a.some; most = a.ranged.dims }

-- what is an element's index is under the highs
pub element-under : (s : Shape) → Accepted s → (v : List ℕ) → Element s v → Under s 0 v
element-under s a v e = subst (Under s 0) (sym e.here) (index-under s (roomy s a) e.position e.below)

-- what is an element's index is below 4,096
pub element-small : (s : Shape) → Accepted s → (v : List ℕ) → Element s v → (k : ℕ) → slice_index v k ≤ 4095
element-small s a v e = under-small s a.bounded 0 (omega arith) v (element-under s a v e)

-- there are seven of them
pub index-length : (v : List ℕ) → length (index_of v) ≡ 7
index-length v = simp (length-take, length-append) (omega arith)
