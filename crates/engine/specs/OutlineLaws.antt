-- Laws of a stream in outline, and 01's examples.
--
--   extent                           an extent by its five values
--   extent-none, extent-some         of no element; of n + 1 elements: the first is at position 0, the last at position n
--   outline-stream, outline-unended  of a stream that was ended, and of none
--   outline-moved                    what has moved makes no difference
--   located-some, located-nothing, located-none   the address of the element at a stop; none at a coupled pass without one, nor past the last
--   element-stream, element-unended, element-moved   the same of a register: of a stream that was ended, of none, whatever has moved
--   element-lane                     a lane of the next chunk is the element at the stop so many behind those gone past
--   examples                         01's bench rows in outline
use Rattle.std.specs.Prelude.{◌≡◌, ℕ, suc, ◌+◌, ◌-◌, ◌/◌, ◌<◌, ◌≤◌, true, false, not, ◌||◌, List, [], ◌∷◌, length, get_or, pos, slice_index_or, refl, None, Some}
use Rattle.std.proofs.Common.{sym, ◌∙◌, ap, lt-ltb, le-ltb}
use native.Mathlib.Omega.{arith}
use Rattle.std.proofs.lemmas.List.{length-map}
use Rattle.std.proofs.Math.ListN.{get_or-eq_default}
use Rattle.codec.specs.Numbers.{groups_at, number_at, signed_of}
use Rattle.codec.specs.Headers.{header_said, header_of}
use Rattle.codec.specs.Operations.{open_at, dimension_at, modifier_at, end_at, operation_at}
use Rattle.codec.specs.declared.amounts.Bytes.{Bytes}
use Rattle.engine.specs.Loops.{size_at, added, join, span, loops, elements}
use Rattle.engine.specs.Chunks.{pass_stops, stops_in, stops, is_element, nothing_at}
use Rattle.engine.specs.Rules.{only, highs, low_or_high_from, product}
use Rattle.engine.specs.Addresses.{no_bytes, address_up_to, address}
use Rattle.engine.specs.Stretches.{addresses_of}
use Rattle.engine.specs.Checks.{first_of}
use Rattle.engine.specs.Registers.{is_open, is_finished, shape_of, next_stops, next_chunk, moved_by}
use Rattle.engine.specs.Configure.{why_not, configured}
use Rattle.engine.specs.Sheets.{operations_from}
use Rattle.engine.specs.Members.{get_d_map}
use Rattle.engine.specs.Good.{Good}
use Rattle.engine.specs.StopLaws.{chunk-kind}
use Rattle.engine.specs.ComeLaws.{IsStream, stream-moved, lanes-some, next-within, Next, elements as holds, nothing, next-is, next-lane}
use Rattle.engine.specs.Table.{register, prepared, grown, triangle, words, three}
use Rattle.engine.specs.Outlines.{address_at, extent_of, outline_of, located_in, element_of}
use Rattle.engine.specs.declared.stream.Pattern.{Pattern}
use Rattle.engine.specs.declared.register.Register.{Register}
use Rattle.engine.specs.declared.outline.Extent.{Extent}

-- dimensions, modifiers, elements, first and last address
abbrev pub extent : ℕ → ℕ → ℕ → Bytes → Bytes → Extent
extent dims mods n first last = record { dims = dims; mods = mods; elements = n; first = first; last = last }

module _ (p : Pattern) (width : ℕ) where
  -- past the last element the address is 0
  address-none : (k : ℕ) → length (elements p.shape) ≤ k → address_at p width k ≡ no_bytes
  address-none k h =
      ap (λ z. record { 0 = z })
      (get_or-eq_default (addresses_of p width (elements p.shape)) (pos 0) (omega (arith, length-map (elements p.shape) (address p width))))

  -- at a position the address of the element there
  address-some : (k : ℕ) → k < length (elements p.shape) → address_at p width k ≡ record { 0 = address p width (slice_index_or (elements p.shape) k []) }
  address-some k h = ap (λ z. record { 0 = z }) (get_d_map (address p width) (elements p.shape) k [] (pos 0) h)

  -- of no element
  pub extent-none : length (elements p.shape) ≡ 0 → extent_of p width ≡ extent p.shape.dims p.shape.mods 0 no_bytes no_bytes
  unfolding extent_of
  extent-none e =
      λ i. extent p.shape.dims p.shape.mods (e i) (address-none 0 (omega arith) i) (address-none (length (elements p.shape) - 1) (omega arith) i)

  -- of n + 1 elements: the first is at position 0, the last at position n
  pub extent-some : (n : ℕ) → length (elements p.shape) ≡ suc n
      → extent_of p width
      ≡ extent p.shape.dims p.shape.mods (suc n) (record { 0 = address p width (slice_index_or (elements p.shape) 0 []) })
      (record { 0 = address p width (slice_index_or (elements p.shape) n []) })
  unfolding extent_of
  extent-some n e =
      let l : length (elements p.shape) - 1 ≡ n = omega arith in
      λ i. extent p.shape.dims p.shape.mods (e i) (address-some 0 (omega arith) i) ((ap (address_at p width) l ∙ address-some n (omega arith)) i)

  -- the element at a stop
  pub located-some : (k : ℕ) → k < length (stops p.shape) → nothing_at p.shape k ≡ false
      → located_in p width k ≡ Some (record { 0 = address p width (slice_index_or (stops p.shape) k []) })
  unfolding located_in
  located-some k h t = rw (lt-ltb k (length (stops p.shape)) h, t)

  -- none at a coupled pass that holds none
  pub located-nothing : (k : ℕ) → k < length (stops p.shape) → nothing_at p.shape k ≡ true → located_in p width k ≡ None
  unfolding located_in
  located-nothing k h t = rw (lt-ltb k (length (stops p.shape)) h, t)

  -- past the last there is none
  pub located-none : (k : ℕ) → length (stops p.shape) ≤ k → located_in p width k ≡ None
  unfolding located_in
  located-none k h = rw (le-ltb k (length (stops p.shape)) h)

-- of a stream that was ended
pub outline-stream : (r : Register) → IsStream r → outline_of r ≡ Some (extent_of r.pattern r.width)
unfolding outline_of
outline-stream r e = rw e

-- of none
pub outline-unended : (r : Register) → (is_open r.state || is_finished r.state) ≡ false → outline_of r ≡ None
unfolding outline_of
outline-unended r e = rw e

-- a stream's outline stays, however many of its elements have moved
pub outline-moved : (n : ℕ) (r : Register) → IsStream r → outline_of (moved_by n r) ≡ outline_of r
unfolding moved_by
outline-moved n r e = outline-stream (moved_by n r) (stream-moved n r) ∙ sym (outline-stream r e)

module _ (n : ℕ) (r : Register) where
  -- an element of a stream that was ended
  pub element-stream : IsStream r → element_of r n ≡ located_in r.pattern r.width n
  unfolding element_of
  element-stream e = rw e

  -- of none
  pub element-unended : (is_open r.state || is_finished r.state) ≡ false → element_of r n ≡ None
  unfolding element_of
  element-unended e = rw e

-- a stream's elements stay, however many of them have moved
pub element-moved : (k n : ℕ) (r : Register) → IsStream r → element_of (moved_by k r) n ≡ element_of r n
unfolding moved_by
element-moved k n r e = element-stream n (moved_by k r) (stream-moved k r) ∙ sym (element-stream n r e)

-- a lane of an open stream's next chunk lies where the element does that stands at the stop so many behind those gone past
pub element-lane : (vl k : ℕ) (r : Register) → 8 ≤ vl → Good vl r → is_open r.state ≡ true → k < length (next_chunk vl r)
    → element_of r (r.moved + k) ≡ Some (record { 0 = address r.pattern r.width (slice_index_or (next_chunk vl r) k []) })
unfolding nothing_at next_stops
element-lane vl k r m g e h = go (next-is vl r m g e)
  where
    lane : get_or (next_chunk vl r) k [] ≡ slice_index_or (stops (shape_of r)) (r.moved + k) []
    lane = next-lane vl r m g e k h

    go : Next vl r → element_of r (r.moved + k) ≡ Some (record { 0 = address r.pattern r.width (slice_index_or (next_chunk vl r) k []) })
    go (holds t a) =
        let n : k < length (next_stops vl r) = omega (arith, ap length a) in
        let i = (chunk-kind (shape_of r) (vl / r.width) r.moved (lanes-some vl r.width m g.width) (g.opened e).1).0 t k n in
        let f : is_element (size_at (shape_of r)) 0 (slice_index_or (stops (shape_of r)) (r.moved + k) []) ≡ true = ap (is_element (size_at (shape_of r)) 0) (sym lane ∙ ap (λ l. get_or l k []) a) ∙ i in
        element-stream (r.moved + k) r (rw e)
        ∙ located-some r.pattern r.width (r.moved + k) (omega (arith, next-within vl r g e)) (ap not f)
        ∙ ap (λ v. Some (record { 0 = address r.pattern r.width v })) (sym lane)
    go (nothing t a b) = absurd (omega (arith, ap length b))

-- bytes, size 0 growing by 1 over four rows, coupled to 1: the first row holds no element
unfoldable pub risen : List ℕ
risen =
    1 ∷ 0x8b ∷ 0x81 ∷ 0x81 ∷ 0x80 ∷ 4 ∷ 0 ∷ 2 ∷ 1 ∷ 0 ∷ 0 ∷ 2 ∷ 2 ∷ 1 ∷ 0 ∷ 4 ∷ 0x10 ∷ 3 ∷ 1 ∷ 0 ∷ 0 ∷ 0 ∷ 1 ∷ 4 ∷ 1 ∷ []

-- bytes, size 1 growing by 1 over four rows: 0 to 27; words, base 4, size 5, stride 2: 4 to 36. Behind the first, register 2 is being
-- configured, and register 3 has a stream without elements. The sixth element of the first lies at 18, the fifth of the second, its last,
-- at 36. Where the first of four coupled rows holds none, the first stop has no element, the second has the first one, the seventh the last
pub examples :
    (outline_of (register 1 (prepared triangle)) ≡ Some (extent 2 1 10 (record { 0 = pos 0 }) (record { 0 = pos 27 })))
    × (outline_of (register 1 (prepared words)) ≡ Some (extent 1 0 5 (record { 0 = pos 4 }) (record { 0 = pos 36 })))
    × (outline_of (register 0 (prepared three)) ≡ None)
    × (outline_of (register 2 (prepared three)) ≡ None)
    × (outline_of (register 3 (prepared three)) ≡ Some (extent 1 0 0 no_bytes no_bytes))
    × (outline_of (register 32 (prepared three)) ≡ None)
    × (element_of (register 1 (prepared triangle)) 5 ≡ Some (record { 0 = pos 18 }))
    × (element_of (register 1 (prepared words)) 4 ≡ Some (record { 0 = pos 36 }))
    × (element_of (register 1 (prepared words)) 5 ≡ None)
    × (element_of (register 2 (prepared three)) 0 ≡ None)
    × (element_of (register 1 (prepared risen)) 0 ≡ None)
    × (element_of (register 1 (prepared risen)) 1 ≡ Some (record { 0 = pos 8 }))
    × (element_of (register 1 (prepared risen)) 6 ≡ Some (record { 0 = pos 26 }))
    × (element_of (register 1 (prepared risen)) 7 ≡ None)
unfolding extent_of outline_of located_in element_of register prepared grown triangle words three risen
    groups_at number_at signed_of header_said header_of open_at dimension_at modifier_at end_at operation_at
    size_at added join span loops elements pass_stops stops_in is_element nothing_at only highs low_or_high_from product
    address_up_to first_of moved_by why_not configured operations_from
examples = (refl, refl, refl, refl, refl, refl, refl, refl, refl, refl, refl, refl, refl, refl)
