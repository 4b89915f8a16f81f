-- `ahead::part_by_part` meets its contract: after some parts what was looked at is the front of the chunk, and the walk stands behind it.
use Rattle.std.proofs.Common.{◌≡◌, ℕ, suc, ◌+◌, ◌-◌, ◌<◌, ◌≤◌, min, Bool, true, false, not, [], ◌++◌, length, get_or, take, drop, set, ◌+ℤ◌, sym, refl, ap, ◌∙◌, subst, arith, length-set, get_or-set_same, rules}
use Rattle.engine.specs.Loops.{size_at}
use Rattle.engine.specs.Walk.{Stop}
use Rattle.engine.specs.IndexLaws.{index-length}
use Rattle.engine.specs.StopWalk.{here-small}
use Rattle.engine.specs.StopPlaces.{stop-told, size-held, inner_below}
use Rattle.engine.specs.Registers.{index_of, shape_of, standing}
use Rattle.engine.specs.Chunks.{stops, is_element, stream_groups}
use Rattle.engine.specs.GroupLaws.{left_in_group, left-some}
use Rattle.engine.specs.ChunkLaws.{groups-join}
use Rattle.engine.specs.ComeLaws.{past-lanes}
use Rattle.engine.specs.declared.register.State.TheVariants.{Open}
use Rattle.engine.specs.declared.register.Register.{Register}
use Rattle.engine.specs.declared.ahead.Ahead.{Ahead}
use Rattle.engine.specs.Places.{Place, Onward, in_row, place_at, ends_at}
use Rattle.engine.specs.Stretches.{progression, addresses_in, joined_in, addresses_of}
use Rattle.engine.specs.Runnings.{view_of, spotted, Near, gone_by, behind}
use Rattle.engine.proofs.RowSteps.{place-fits, in-row-same}
use Rattle.engine.proofs.Looking.{Going, going, here-index, here_place, goes-found, looked, full-count, full-addressed, full-gone, gone-told, shown-behind, remembers-behind, part-added, part-within, last-index, last-below, last-element, part-addressed, part-onward, part-last, part-on, row-long}
use Rattle.engine.specs.declared.part.Part.{Part}
use Rattle.engine.proofs.ahead.part_by_part.Goals as goal

pub loop-count-init : goal.loop-count-init
unfolding joined_in
loop-count-init c =
    let a = c in
    let y = a.requires.ready.0 in (
      going _ y a.requires.most_bound.1 a.args.most _ a.requires.ready.1,
      y,
      a.requires.most_bound.0,
      row-long _ a.args.index.now a.args.r y,
      search rules,
      omega arith,
    )

pub overflow_sub-size : goal.overflow_sub-size
overflow_sub-size c =
    let index-here : let l = c.loop-count in let a = c.args in set l.index 0 l.i ≡ index_of (get_or (stops a.pattern.now.shape) (a.r.moved + l.count) []) = let l = c.loop-count in
    here-index _ l.invariant.1 _ l.count (in_row l.index l.i l.address l.size l.step) l.height _ l.invariant.0 in
    let place_here : let l = c.loop-count in let a = c.args in in_row l.index l.i l.address l.size l.step ≡ place_at (a.pattern.now) a.r.width (set l.index 0 l.i) = let l = c.loop-count in
    here_place _ l.invariant.1 _ l.count (in_row l.index l.i l.address l.size l.step) l.height _ l.invariant.0 in
    let innermost : get_or (set c.loop-count.index 0 c.loop-count.i) 0 0 ≡ c.loop-count.i = get_or-set_same c.loop-count.index 0 c.loop-count.i 0 (omega (arith, c.loop-count.invariant.3)) in
    let left : c.loop-count.i < c.loop-count.size = let l = c.loop-count in
    let a = c.args in
    let s = a.pattern.now.shape in
    let y = l.invariant.1.accepted in
    let k = a.r.moved + l.count in
    let v = index_of (get_or (stops s) k []) in
    let i : is_element (size_at s) 0 (take s.dims (set l.index 0 l.i)) ≡ true =
    ap (λ u. is_element (size_at s) 0 (take s.dims u)) (index-here) ∙ stop-told s y k l.invariant.0.below ∙ ap not l.invariant.0.held in
    omega (
      arith,
      innermost,
      ap (λ u. get_or u 0 0) (index-here),
      ap (λ t. t.size) (place_here) ∙ size-held (a.pattern.now) a.r.width (set l.index 0 l.i) i,
      ap (λ u. size_at s 0 (drop 1 u)) (index-here),
      inner_below s y k l.invariant.0.below l.invariant.0.held,
    ) in
    omega (arith, left)

pub overflow_sub-most : goal.overflow_sub-most
overflow_sub-most c =
    omega (arith, c.loop-count-test.true)

pub part_size-n-requires : goal.part_size-n-requires
part_size-n-requires c =
    let index-here : let l = c.loop-count in let a = c.args in set l.index 0 l.i ≡ index_of (get_or (stops a.pattern.now.shape) (a.r.moved + l.count) []) = let l = c.loop-count in
    here-index _ l.invariant.1 _ l.count (in_row l.index l.i l.address l.size l.step) l.height _ l.invariant.0 in
    let place_here : let l = c.loop-count in let a = c.args in in_row l.index l.i l.address l.size l.step ≡ place_at (a.pattern.now) a.r.width (set l.index 0 l.i) = let l = c.loop-count in
    here_place _ l.invariant.1 _ l.count (in_row l.index l.i l.address l.size l.step) l.height _ l.invariant.0 in
    let innermost : get_or (set c.loop-count.index 0 c.loop-count.i) 0 0 ≡ c.loop-count.i = get_or-set_same c.loop-count.index 0 c.loop-count.i 0 (omega (arith, c.loop-count.invariant.3)) in
    let left : c.loop-count.i < c.loop-count.size = let l = c.loop-count in
    let a = c.args in
    let s = a.pattern.now.shape in
    let y = l.invariant.1.accepted in
    let k = a.r.moved + l.count in
    let v = index_of (get_or (stops s) k []) in
    let i : is_element (size_at s) 0 (take s.dims (set l.index 0 l.i)) ≡ true =
    ap (λ u. is_element (size_at s) 0 (take s.dims u)) (index-here) ∙ stop-told s y k l.invariant.0.below ∙ ap not l.invariant.0.held in
    omega (
      arith,
      innermost,
      ap (λ u. get_or u 0 0) (index-here),
      ap (λ t. t.size) (place_here) ∙ size-held (a.pattern.now) a.r.width (set l.index 0 l.i) i,
      ap (λ u. size_at s 0 (drop 1 u)) (index-here),
      inner_below s y k l.invariant.0.below l.invariant.0.held,
    ) in
    (omega (arith, left), omega (arith, c.loop-count-test.true))

pub invariant_of-parts : goal.invariant_of-parts
invariant_of-parts c =
    let index-here : let l = c.loop-count in let a = c.args in set l.index 0 l.i ≡ index_of (get_or (stops a.pattern.now.shape) (a.r.moved + l.count) []) = let l = c.loop-count in
    here-index _ l.invariant.1 _ l.count (in_row l.index l.i l.address l.size l.step) l.height _ l.invariant.0 in
    let place_here : let l = c.loop-count in let a = c.args in in_row l.index l.i l.address l.size l.step ≡ place_at (a.pattern.now) a.r.width (set l.index 0 l.i) = let l = c.loop-count in
    here_place _ l.invariant.1 _ l.count (in_row l.index l.i l.address l.size l.step) l.height _ l.invariant.0 in
    let element : Stop c.args.pattern.now.shape (set c.loop-count.index 0 c.loop-count.i) false = record { position = _; below = c.loop-count.invariant.0.below; here = index-here; told = sym c.loop-count.invariant.0.held } in
    let fits : Near c.loop-count.address c.loop-count.step = let y = c.loop-count.invariant.1 in
    place-fits _ y.pattern _ y.width y.accepted _ false (element) (place_here) in
    let in-most : c.loop-count.count + c.part_size-n.result ≤ c.args.most = omega (arith, c.part_size-n.ensures.0.1.1, c.loop-count-test.true) in
    record { near = fits; few = omega (arith, in-most, c.loop-count.invariant.2) }

pub offset_bounds-parts-m : goal.offset_bounds-parts-m
offset_bounds-parts-m c =
    let room : c.loop-count.m < 64 = omega (arith, c.loop-count.invariant.5, c.loop-count-test.true, c.loop-count.invariant.2) in
    omega (arith, room)

pub bounds-parts-m : goal.bounds-parts-m
bounds-parts-m c =
    let room : c.loop-count.m < 64 = omega (arith, c.loop-count.invariant.5, c.loop-count-test.true, c.loop-count.invariant.2) in
    room

pub overflow_add-m : goal.overflow_add-m
overflow_add-m c =
    let room : c.loop-count.m < 64 = omega (arith, c.loop-count.invariant.5, c.loop-count-test.true, c.loop-count.invariant.2) in
    omega (arith, room)

pub overflow_add-count : goal.overflow_add-count
overflow_add-count c =
    let n : ℕ = c.part_size-n.result in
    let in-most : c.loop-count.count + (n) ≤ c.args.most = omega (arith, c.part_size-n.ensures.0.1.1, c.loop-count-test.true) in
    omega (arith, in-most, c.loop-count.invariant.2)

pub overflow_add-i : goal.overflow_add-i
overflow_add-i c =
    let index-here : let l = c.loop-count in let a = c.args in set l.index 0 l.i ≡ index_of (get_or (stops a.pattern.now.shape) (a.r.moved + l.count) []) = let l = c.loop-count in
    here-index _ l.invariant.1 _ l.count (in_row l.index l.i l.address l.size l.step) l.height _ l.invariant.0 in
    let element : Stop c.args.pattern.now.shape (set c.loop-count.index 0 c.loop-count.i) false = record { position = _; below = c.loop-count.invariant.0.below; here = index-here; told = sym c.loop-count.invariant.0.held } in
    let innermost : get_or (set c.loop-count.index 0 c.loop-count.i) 0 0 ≡ c.loop-count.i = get_or-set_same c.loop-count.index 0 c.loop-count.i 0 (omega (arith, c.loop-count.invariant.3)) in
    let small : c.loop-count.i ≤ 4095 = omega (arith, innermost, here-small _ c.loop-count.invariant.1.accepted _ false (element) 0) in
    let n : ℕ = c.part_size-n.result in
    let in-most : c.loop-count.count + (n) ≤ c.args.most = omega (arith, c.part_size-n.ensures.0.1.1, c.loop-count-test.true) in
    omega (arith, small, in-most, c.loop-count.invariant.2)

pub times-requires : goal.times-requires
times-requires c =
    let index-here : let l = c.loop-count in let a = c.args in set l.index 0 l.i ≡ index_of (get_or (stops a.pattern.now.shape) (a.r.moved + l.count) []) = let l = c.loop-count in
    here-index _ l.invariant.1 _ l.count (in_row l.index l.i l.address l.size l.step) l.height _ l.invariant.0 in
    let place_here : let l = c.loop-count in let a = c.args in in_row l.index l.i l.address l.size l.step ≡ place_at (a.pattern.now) a.r.width (set l.index 0 l.i) = let l = c.loop-count in
    here_place _ l.invariant.1 _ l.count (in_row l.index l.i l.address l.size l.step) l.height _ l.invariant.0 in
    let element : Stop c.args.pattern.now.shape (set c.loop-count.index 0 c.loop-count.i) false = record { position = _; below = c.loop-count.invariant.0.below; here = index-here; told = sym c.loop-count.invariant.0.held } in
    let fits : Near c.loop-count.address c.loop-count.step = let y = c.loop-count.invariant.1 in
    place-fits _ y.pattern _ y.width y.accepted _ false (element) (place_here) in
    let n : ℕ = c.part_size-n.result in
    let in-most : c.loop-count.count + (n) ≤ c.args.most = omega (arith, c.part_size-n.ensures.0.1.1, c.loop-count-test.true) in
    ((fits).1, omega (arith, in-most, c.loop-count.invariant.2))

pub plus-address-requires : goal.plus-address-requires
plus-address-requires c =
    let index-here : let l = c.loop-count in let a = c.args in set l.index 0 l.i ≡ index_of (get_or (stops a.pattern.now.shape) (a.r.moved + l.count) []) = let l = c.loop-count in
    here-index _ l.invariant.1 _ l.count (in_row l.index l.i l.address l.size l.step) l.height _ l.invariant.0 in
    let place_here : let l = c.loop-count in let a = c.args in in_row l.index l.i l.address l.size l.step ≡ place_at (a.pattern.now) a.r.width (set l.index 0 l.i) = let l = c.loop-count in
    here_place _ l.invariant.1 _ l.count (in_row l.index l.i l.address l.size l.step) l.height _ l.invariant.0 in
    let element : Stop c.args.pattern.now.shape (set c.loop-count.index 0 c.loop-count.i) false = record { position = _; below = c.loop-count.invariant.0.below; here = index-here; told = sym c.loop-count.invariant.0.held } in
    let fits : Near c.loop-count.address c.loop-count.step = let y = c.loop-count.invariant.1 in
    place-fits _ y.pattern _ y.width y.accepted _ false (element) (place_here) in
    (omega (arith, (fits).0), omega (arith, c.times.ensures.most))

pub loop-count-smaller-then-i-size : goal.loop-count-smaller-then-i-size
loop-count-smaller-then-i-size c =
    let n : ℕ = c.part_size-n.result in
    let some : 1 ≤ (n) = c.part_size-n.ensures.0.0 in
    let in-most : c.loop-count.count + (n) ≤ c.args.most = omega (arith, c.part_size-n.ensures.0.1.1, c.loop-count-test.true) in
    let p = c in omega (arith, some, in-most)

pub loop-count-preserved-then-i-size : goal.loop-count-preserved-then-i-size
loop-count-preserved-then-i-size c =
    let index-here : let l = c.loop-count in let a = c.args in set l.index 0 l.i ≡ index_of (get_or (stops a.pattern.now.shape) (a.r.moved + l.count) []) = let l = c.loop-count in
    here-index _ l.invariant.1 _ l.count (in_row l.index l.i l.address l.size l.step) l.height _ l.invariant.0 in
    let place_here : let l = c.loop-count in let a = c.args in in_row l.index l.i l.address l.size l.step ≡ place_at (a.pattern.now) a.r.width (set l.index 0 l.i) = let l = c.loop-count in
    here_place _ l.invariant.1 _ l.count (in_row l.index l.i l.address l.size l.step) l.height _ l.invariant.0 in
    let element : Stop c.args.pattern.now.shape (set c.loop-count.index 0 c.loop-count.i) false = record { position = _; below = c.loop-count.invariant.0.below; here = index-here; told = sym c.loop-count.invariant.0.held } in
    let fits : Near c.loop-count.address c.loop-count.step = let y = c.loop-count.invariant.1 in
    place-fits _ y.pattern _ y.width y.accepted _ false (element) (place_here) in
    let n : ℕ = c.part_size-n.result in
    let some : 1 ≤ (n) = c.part_size-n.ensures.0.0 in
    let in-most : c.loop-count.count + (n) ≤ c.args.most = omega (arith, c.part_size-n.ensures.0.1.1, c.loop-count-test.true) in
    let row : 0 < length c.loop-count.index = omega (arith, c.loop-count.invariant.3) in
    let room : c.loop-count.m < 64 = omega (arith, c.loop-count.invariant.5, c.loop-count-test.true, c.loop-count.invariant.2) in
    let listed : (w : Part) → addresses_in w ≡ progression c.loop-count.address.0 c.loop-count.step.0 n → joined_in (take (c.loop-count.m + 1) (set c.loop-count.parts c.loop-count.m w)) ≡ joined_in (take c.loop-count.m c.loop-count.parts) ++ progression c.loop-count.address.0 c.loop-count.step.0 n =
    λ w e. part-added c.loop-count.parts c.loop-count.m w (omega (arith, c.loop-count.invariant.4, room)) ∙ ap (λ l. joined_in (take c.loop-count.m c.loop-count.parts) ++ l) e in
    let r : Register = view_of (c.args.pattern.now) [] c.args.index.now c.args.r in
    let p = c in
    let l = p.loop-count in
    let w = p.ends_chunk-through in
    let a = p.args in
    let g = part-within (r) l.invariant.1 a.most l.count l.index l.i l.address l.size l.step l.height _ l.invariant.0 (row) p.part_size-n.result (some) (in-most) c.if-i-size.true
    (sym w.ensures ∙ c.if-through.true) in (
      subst (Going (r) a.most (l.count + n) _ 1) (sym (listed _ refl))
          (subst (λ z. Going (r) a.most (l.count + n) (in_row l.index (l.i + n) (record { 0 = z }) l.size l.step) 1 (joined_in (take l.m l.parts) ++ progression l.address.0 l.step.0 n))
          (sym (c.plus-address.ensures.exact ∙ ap (λ z. l.address.0 +ℤ z) c.times.ensures.exact)) g),
      l.invariant.1,
      l.invariant.2,
      l.invariant.3,
      length-set l.parts l.m _ ∙ l.invariant.4,
      omega (arith, l.invariant.5, some),
    )

pub overflow_sub-index : goal.overflow_sub-index
overflow_sub-index c =
    let n : ℕ = c.part_size-n.result in
    let some : 1 ≤ (n) = c.part_size-n.ensures.0.0 in
    omega (arith, some)

pub leave_row-t-requires : goal.leave_row-t-requires
leave_row-t-requires c =
    let index-here : let l = c.loop-count in let a = c.args in set l.index 0 l.i ≡ index_of (get_or (stops a.pattern.now.shape) (a.r.moved + l.count) []) = let l = c.loop-count in
    here-index _ l.invariant.1 _ l.count (in_row l.index l.i l.address l.size l.step) l.height _ l.invariant.0 in
    let place_here : let l = c.loop-count in let a = c.args in in_row l.index l.i l.address l.size l.step ≡ place_at (a.pattern.now) a.r.width (set l.index 0 l.i) = let l = c.loop-count in
    here_place _ l.invariant.1 _ l.count (in_row l.index l.i l.address l.size l.step) l.height _ l.invariant.0 in
    let innermost : get_or (set c.loop-count.index 0 c.loop-count.i) 0 0 ≡ c.loop-count.i = get_or-set_same c.loop-count.index 0 c.loop-count.i 0 (omega (arith, c.loop-count.invariant.3)) in
    let left : c.loop-count.i < c.loop-count.size = let l = c.loop-count in
    let a = c.args in
    let s = a.pattern.now.shape in
    let y = l.invariant.1.accepted in
    let k = a.r.moved + l.count in
    let v = index_of (get_or (stops s) k []) in
    let i : is_element (size_at s) 0 (take s.dims (set l.index 0 l.i)) ≡ true =
    ap (λ u. is_element (size_at s) 0 (take s.dims u)) (index-here) ∙ stop-told s y k l.invariant.0.below ∙ ap not l.invariant.0.held in
    omega (
      arith,
      innermost,
      ap (λ u. get_or u 0 0) (index-here),
      ap (λ t. t.size) (place_here) ∙ size-held (a.pattern.now) a.r.width (set l.index 0 l.i) i,
      ap (λ u. size_at s 0 (drop 1 u)) (index-here),
      inner_below s y k l.invariant.0.below l.invariant.0.held,
    ) in
    let n : ℕ = c.part_size-n.result in
    let some : 1 ≤ (n) = c.part_size-n.ensures.0.0 in
    let in-most : c.loop-count.count + (n) ≤ c.args.most = omega (arith, c.part_size-n.ensures.0.1.1, c.loop-count-test.true) in
    let in_size : c.loop-count.i + (n) ≤ c.loop-count.size = omega (arith, c.part_size-n.ensures.0.1.0, left) in
    let row : 0 < length c.loop-count.index = omega (arith, c.loop-count.invariant.3) in
    let along : 2 ≤ (n) → ends_at c.args.pattern.now.shape.coupling true 1 ≡ false = λ h. let go : (b : Bool) → c.ends_chunk-through.result ≡ b → ends_at c.args.pattern.now.shape.coupling true 1 ≡ false = λ b. elim b as (λ v. c.ends_chunk-through.result ≡ v → ends_at c.args.pattern.now.shape.coupling true 1 ≡ false) [ true ↦ λ e. absurd (omega (arith, h, c.part_size-n.ensures.1 (ap not e))) | false ↦ λ e. sym c.ends_chunk-through.ensures ∙ e ] in go c.ends_chunk-through.result refl in
    let r : Register = view_of (c.args.pattern.now) [] c.args.index.now c.args.r in
    let last_of : Stop c.args.pattern.now.shape (set c.loop-count.index 0 (c.loop-count.i + (n) - 1)) false = let l = c.loop-count in
    last-element (r) l.invariant.1 _ l.count l.index l.i l.address l.size l.step l.height _ l.invariant.0 (row) (n) (some) (in-most) (in_size) (along) in
    let y = c.loop-count.invariant.1 in
    record { ranged_pattern = (y.pattern, (y.width, y.accepted)); stop = last_of }

pub returns-then-ends_chunk : goal.returns-then-ends_chunk
returns-then-ends_chunk c =
    let index-here : let l = c.loop-count in let a = c.args in set l.index 0 l.i ≡ index_of (get_or (stops a.pattern.now.shape) (a.r.moved + l.count) []) = let l = c.loop-count in
    here-index _ l.invariant.1 _ l.count (in_row l.index l.i l.address l.size l.step) l.height _ l.invariant.0 in
    let place_here : let l = c.loop-count in let a = c.args in in_row l.index l.i l.address l.size l.step ≡ place_at (a.pattern.now) a.r.width (set l.index 0 l.i) = let l = c.loop-count in
    here_place _ l.invariant.1 _ l.count (in_row l.index l.i l.address l.size l.step) l.height _ l.invariant.0 in
    let element : Stop c.args.pattern.now.shape (set c.loop-count.index 0 c.loop-count.i) false = record { position = _; below = c.loop-count.invariant.0.below; here = index-here; told = sym c.loop-count.invariant.0.held } in
    let innermost : get_or (set c.loop-count.index 0 c.loop-count.i) 0 0 ≡ c.loop-count.i = get_or-set_same c.loop-count.index 0 c.loop-count.i 0 (omega (arith, c.loop-count.invariant.3)) in
    let left : c.loop-count.i < c.loop-count.size = let l = c.loop-count in
    let a = c.args in
    let s = a.pattern.now.shape in
    let y = l.invariant.1.accepted in
    let k = a.r.moved + l.count in
    let v = index_of (get_or (stops s) k []) in
    let i : is_element (size_at s) 0 (take s.dims (set l.index 0 l.i)) ≡ true =
    ap (λ u. is_element (size_at s) 0 (take s.dims u)) (index-here) ∙ stop-told s y k l.invariant.0.below ∙ ap not l.invariant.0.held in
    omega (
      arith,
      innermost,
      ap (λ u. get_or u 0 0) (index-here),
      ap (λ t. t.size) (place_here) ∙ size-held (a.pattern.now) a.r.width (set l.index 0 l.i) i,
      ap (λ u. size_at s 0 (drop 1 u)) (index-here),
      inner_below s y k l.invariant.0.below l.invariant.0.held,
    ) in
    let fits : Near c.loop-count.address c.loop-count.step = let y = c.loop-count.invariant.1 in
    place-fits _ y.pattern _ y.width y.accepted _ false (element) (place_here) in
    let n : ℕ = c.part_size-n.result in
    let some : 1 ≤ (n) = c.part_size-n.ensures.0.0 in
    let in-most : c.loop-count.count + (n) ≤ c.args.most = omega (arith, c.part_size-n.ensures.0.1.1, c.loop-count-test.true) in
    let in_size : c.loop-count.i + (n) ≤ c.loop-count.size = omega (arith, c.part_size-n.ensures.0.1.0, left) in
    let row : 0 < length c.loop-count.index = omega (arith, c.loop-count.invariant.3) in
    let along : 2 ≤ (n) → ends_at c.args.pattern.now.shape.coupling true 1 ≡ false = λ h. let go : (b : Bool) → c.ends_chunk-through.result ≡ b → ends_at c.args.pattern.now.shape.coupling true 1 ≡ false = λ b. elim b as (λ v. c.ends_chunk-through.result ≡ v → ends_at c.args.pattern.now.shape.coupling true 1 ≡ false) [ true ↦ λ e. absurd (omega (arith, h, c.part_size-n.ensures.1 (ap not e))) | false ↦ λ e. sym c.ends_chunk-through.ensures ∙ e ] in go c.ends_chunk-through.result refl in
    let room : c.loop-count.m < 64 = omega (arith, c.loop-count.invariant.5, c.loop-count-test.true, c.loop-count.invariant.2) in
    let listed : (w : Part) → addresses_in w ≡ progression c.loop-count.address.0 c.loop-count.step.0 n → joined_in (take (c.loop-count.m + 1) (set c.loop-count.parts c.loop-count.m w)) ≡ joined_in (take c.loop-count.m c.loop-count.parts) ++ progression c.loop-count.address.0 c.loop-count.step.0 n =
    λ w e. part-added c.loop-count.parts c.loop-count.m w (omega (arith, c.loop-count.invariant.4, room)) ∙ ap (λ l. joined_in (take c.loop-count.m c.loop-count.parts) ++ l) e in
    let r : Register = view_of (c.args.pattern.now) [] c.args.index.now c.args.r in
    let index-last : set c.loop-count.index 0 (c.loop-count.i + (n) - 1) ≡ index_of (get_or (stops (shape_of (r))) (r.moved + (c.loop-count.count + ((n) - 1))) []) = let l = c.loop-count in
    last-index (r) l.invariant.1 _ l.count l.index l.i l.address l.size l.step l.height _ l.invariant.0 (row) (n) (some) (in-most) (in_size) (along) in
    let below_last : r.moved + (c.loop-count.count + ((n) - 1)) < length (stops (shape_of (r))) = let l = c.loop-count in
    last-below (r) l.invariant.1 _ l.count l.index l.i l.address l.size l.step l.height _ l.invariant.0 (row) (n) (some) (in-most) (in_size) (along) in
    let addressed : (w : Part) → addresses_in w ≡ progression c.loop-count.address.0 c.loop-count.step.0 n → joined_in (take (c.loop-count.m + 1) (set c.loop-count.parts c.loop-count.m w)) ≡ addresses_of r.pattern r.width (take (c.loop-count.count + (n)) (drop r.moved (stops (shape_of (r))))) = λ w e. let l = c.loop-count in
    listed w e ∙ part-addressed (r) l.invariant.1 _ l.count l.index l.i l.address l.size l.step l.height _ l.invariant.0 (row) (n) (some) (in-most) (in_size) (along) in
    let onward-behind : (found : Bool) (place : Place) (h : ℕ) (on : Onward r.pattern r.width (suc (r.moved + (c.loop-count.count + ((n) - 1)))) found place h) → Onward r.pattern r.width (r.moved + (c.loop-count.count + (n))) found place h = λ found place h on. let l = c.loop-count in
    part-onward (r) l.invariant.1 _ l.count l.index l.i l.address l.size l.step l.height _ l.invariant.0 (row) (n) (some) (in-most) (in_size) (along) found place h on in
    let is_last : (found : Bool) (place : Place) (h : ℕ) (on : Onward r.pattern r.width (suc (r.moved + (c.loop-count.count + ((n) - 1)))) found place h) → ends_at (shape_of (r)).coupling found h ≡ true → left_in_group (stream_groups (shape_of (r))) r.moved ≡ c.loop-count.count + (n) = λ found place h on. let l = c.loop-count in
    part-last (r) l.invariant.1 _ l.count l.index l.i l.address l.size l.step l.height _ l.invariant.0 (row) (n) (some) (in-most) (in_size) (along) found place h on in
    let gone-by : (n : ℕ) → gone_by c.args.r n ≡ n = λ n. let q = c.args.r in
    gone-told (c.args.pattern.now) c.args.index.now q c.requires.ready.0 c.requires.ready.1 n
    ∙ past-lanes (view_of (c.args.pattern.now) [] c.args.index.now q) n c.requires.most_bound.1 in
    let stepped : let p = c in Onward r.pattern r.width (suc (r.moved + (p.loop-count.count + (p.part_size-n.result - 1)))) c.leave_row-t.result.found (spotted c.leave_row-t.new.index c.leave_row-t.result.spot) c.leave_row-t.result.height = let p = c in c.leave_row-t.ensures.by_index _ (below_last) (index-last) in
    let v = c in
    let p = v in
    let l = p.loop-count in
    let a = p.args in
    let t = v.leave_row-t in
    let to = t.new.index in
    let w = onward-behind t.result.found (spotted to t.result.spot) t.result.height (stepped) in
    let e = is_last t.result.found (spotted to t.result.spot) t.result.height (stepped) (sym c.ends_chunk.ensures ∙ c.if-ends_chunk.true) in
    let held = p.requires.most_bound.1 in
    let counted : l.count + p.part_size-n.result ≡ min a.most (left_in_group (stream_groups (shape_of (r))) r.moved) = omega (arith, e, in-most) in
    let o : Ahead = record { live = true; found = t.result.found; count = l.count + p.part_size-n.result; parts = l.m + 1; height = t.result.height; index = get_or to 0 0; address = t.result.spot.address; size = t.result.spot.size; step = t.result.spot.step } in record {
      looked = (
        refl,
        (
          omega (arith, room),
          looked _ a.index.now a.r l.invariant.1 a.most (l.count + p.part_size-n.result) (l.count + p.part_size-n.result) _ to (behind o a.r)
              (full-count _ a.index.now a.r l.invariant.1 held a.most (l.count + p.part_size-n.result) counted)
              (full-addressed _ a.index.now a.r l.invariant.1 held a.most (l.count + p.part_size-n.result) counted _ (addressed _ refl))
              (full-gone _ a.index.now a.r l.invariant.1 held a.most (l.count + p.part_size-n.result) counted)
              t.result.found (spotted to t.result.spot) t.result.height w
              (shown-behind _ a.index.now to a.r o refl t.ensures.index_after (l.count + p.part_size-n.result) (gone-by (l.count + p.part_size-n.result)))
              (remembers-behind _ a.index.now to a.r o refl (λ u. w.here u ∙ ap (place_at r.pattern r.width) (sym (ap (λ q. q.index) (w.here u))))),
        ),
      );
      parts_long = length-set l.parts l.m _ ∙ l.invariant.4;
    }

pub loop-count-smaller : goal.loop-count-smaller
loop-count-smaller c =
    let n : ℕ = c.part_size-n.result in
    let some : 1 ≤ (n) = c.part_size-n.ensures.0.0 in
    let in-most : c.loop-count.count + (n) ≤ c.args.most = omega (arith, c.part_size-n.ensures.0.1.1, c.loop-count-test.true) in
    let p = c in omega (arith, some, in-most)

pub loop-count-preserved : goal.loop-count-preserved
loop-count-preserved c =
    let index-here : let l = c.loop-count in let a = c.args in set l.index 0 l.i ≡ index_of (get_or (stops a.pattern.now.shape) (a.r.moved + l.count) []) = let l = c.loop-count in
    here-index _ l.invariant.1 _ l.count (in_row l.index l.i l.address l.size l.step) l.height _ l.invariant.0 in
    let place_here : let l = c.loop-count in let a = c.args in in_row l.index l.i l.address l.size l.step ≡ place_at (a.pattern.now) a.r.width (set l.index 0 l.i) = let l = c.loop-count in
    here_place _ l.invariant.1 _ l.count (in_row l.index l.i l.address l.size l.step) l.height _ l.invariant.0 in
    let element : Stop c.args.pattern.now.shape (set c.loop-count.index 0 c.loop-count.i) false = record { position = _; below = c.loop-count.invariant.0.below; here = index-here; told = sym c.loop-count.invariant.0.held } in
    let innermost : get_or (set c.loop-count.index 0 c.loop-count.i) 0 0 ≡ c.loop-count.i = get_or-set_same c.loop-count.index 0 c.loop-count.i 0 (omega (arith, c.loop-count.invariant.3)) in
    let left : c.loop-count.i < c.loop-count.size = let l = c.loop-count in
    let a = c.args in
    let s = a.pattern.now.shape in
    let y = l.invariant.1.accepted in
    let k = a.r.moved + l.count in
    let v = index_of (get_or (stops s) k []) in
    let i : is_element (size_at s) 0 (take s.dims (set l.index 0 l.i)) ≡ true =
    ap (λ u. is_element (size_at s) 0 (take s.dims u)) (index-here) ∙ stop-told s y k l.invariant.0.below ∙ ap not l.invariant.0.held in
    omega (
      arith,
      innermost,
      ap (λ u. get_or u 0 0) (index-here),
      ap (λ t. t.size) (place_here) ∙ size-held (a.pattern.now) a.r.width (set l.index 0 l.i) i,
      ap (λ u. size_at s 0 (drop 1 u)) (index-here),
      inner_below s y k l.invariant.0.below l.invariant.0.held,
    ) in
    let fits : Near c.loop-count.address c.loop-count.step = let y = c.loop-count.invariant.1 in
    place-fits _ y.pattern _ y.width y.accepted _ false (element) (place_here) in
    let n : ℕ = c.part_size-n.result in
    let some : 1 ≤ (n) = c.part_size-n.ensures.0.0 in
    let in-most : c.loop-count.count + (n) ≤ c.args.most = omega (arith, c.part_size-n.ensures.0.1.1, c.loop-count-test.true) in
    let in_size : c.loop-count.i + (n) ≤ c.loop-count.size = omega (arith, c.part_size-n.ensures.0.1.0, left) in
    let row : 0 < length c.loop-count.index = omega (arith, c.loop-count.invariant.3) in
    let along : 2 ≤ (n) → ends_at c.args.pattern.now.shape.coupling true 1 ≡ false = λ h. let go : (b : Bool) → c.ends_chunk-through.result ≡ b → ends_at c.args.pattern.now.shape.coupling true 1 ≡ false = λ b. elim b as (λ v. c.ends_chunk-through.result ≡ v → ends_at c.args.pattern.now.shape.coupling true 1 ≡ false) [ true ↦ λ e. absurd (omega (arith, h, c.part_size-n.ensures.1 (ap not e))) | false ↦ λ e. sym c.ends_chunk-through.ensures ∙ e ] in go c.ends_chunk-through.result refl in
    let room : c.loop-count.m < 64 = omega (arith, c.loop-count.invariant.5, c.loop-count-test.true, c.loop-count.invariant.2) in
    let listed : (w : Part) → addresses_in w ≡ progression c.loop-count.address.0 c.loop-count.step.0 n → joined_in (take (c.loop-count.m + 1) (set c.loop-count.parts c.loop-count.m w)) ≡ joined_in (take c.loop-count.m c.loop-count.parts) ++ progression c.loop-count.address.0 c.loop-count.step.0 n =
    λ w e. part-added c.loop-count.parts c.loop-count.m w (omega (arith, c.loop-count.invariant.4, room)) ∙ ap (λ l. joined_in (take c.loop-count.m c.loop-count.parts) ++ l) e in
    let r : Register = view_of (c.args.pattern.now) [] c.args.index.now c.args.r in
    let index-last : set c.loop-count.index 0 (c.loop-count.i + (n) - 1) ≡ index_of (get_or (stops (shape_of (r))) (r.moved + (c.loop-count.count + ((n) - 1))) []) = let l = c.loop-count in
    last-index (r) l.invariant.1 _ l.count l.index l.i l.address l.size l.step l.height _ l.invariant.0 (row) (n) (some) (in-most) (in_size) (along) in
    let below_last : r.moved + (c.loop-count.count + ((n) - 1)) < length (stops (shape_of (r))) = let l = c.loop-count in
    last-below (r) l.invariant.1 _ l.count l.index l.i l.address l.size l.step l.height _ l.invariant.0 (row) (n) (some) (in-most) (in_size) (along) in
    let more : (found : Bool) (place : Place) (h : ℕ) (on : Onward r.pattern r.width (suc (r.moved + (c.loop-count.count + ((n) - 1)))) found place h) → ends_at (shape_of (r)).coupling found h ≡ false → Going (r) c.args.most (c.loop-count.count + (n)) place h (joined_in (take c.loop-count.m c.loop-count.parts) ++ progression c.loop-count.address.0 c.loop-count.step.0 n) = λ found place h on t. let l = c.loop-count in
    part-on (r) l.invariant.1 _ l.count l.index l.i l.address l.size l.step l.height _ l.invariant.0 (row) (n) (some) (in-most) (in_size) (along) found place h on t in
    let stepped : let p = c in Onward r.pattern r.width (suc (r.moved + (p.loop-count.count + (p.part_size-n.result - 1)))) c.leave_row-t.result.found (spotted c.leave_row-t.new.index c.leave_row-t.result.spot) c.leave_row-t.result.height = let p = c in c.leave_row-t.ensures.by_index _ (below_last) (index-last) in
    let v = c in
    let t = v.leave_row-t in
    let to = t.new.index in
    let p = v in
    let l = p.loop-count in
    let a = p.args in
    let s = sym c.ends_chunk.ensures ∙ c.if-ends_chunk.false in
    let f : t.result.found ≡ true = goes-found (shape_of (r)).coupling t.result.found t.result.height s in
    let g = more t.result.found (spotted to t.result.spot) t.result.height (stepped) s in (
      subst (Going (r) a.most (l.count + n) _ t.result.height) (sym (listed _ refl))
          (subst (λ q. Going (r) a.most (l.count + n) q t.result.height (joined_in (take l.m l.parts) ++ progression l.address.0 l.step.0 n)) (sym (in-row-same (spotted to t.result.spot))) g),
      l.invariant.1,
      l.invariant.2,
      omega (arith, ap (λ q. length q.index) (stepped.here f), index-length (get_or (stops (shape_of (r))) (suc (r.moved + (l.count + (p.part_size-n.result - 1)))) [])),
      length-set l.parts l.m _ ∙ l.invariant.4,
      omega (arith, l.invariant.5, some),
    )

pub returns : goal.returns
returns c =
    let gone-by : (n : ℕ) → gone_by c.args.r n ≡ n = λ n. let q = c.args.r in
    gone-told (c.args.pattern.now) c.args.index.now q c.requires.ready.0 c.requires.ready.1 n
    ∙ past-lanes (view_of (c.args.pattern.now) [] c.args.index.now q) n c.requires.most_bound.1 in
    let l = c.loop-count in
    let a = c.args in
    let v = in_row l.index l.i l.address l.size l.step in
    let held = c.requires.most_bound.1 in
    let counted : l.count ≡ min a.most (left_in_group (stream_groups a.pattern.now.shape) a.r.moved) =
    omega (arith, l.invariant.0.few, c.loop-count-test.false, l.invariant.0.rest, left-some (stream_groups a.pattern.now.shape) (a.r.moved + l.count) (omega (arith, l.invariant.0.below, ap length (groups-join (size_at a.pattern.now.shape) a.pattern.now.shape.dims a.pattern.now.shape.coupling)))) in
    let o : Ahead = record { live = true; found = true; count = l.count; parts = l.m; height = l.height; index = l.i; address = l.address; size = l.size; step = l.step } in record {
      looked = (
        refl,
        (
          omega (arith, l.invariant.5, l.invariant.0.few, l.invariant.2),
          looked _ a.index.now a.r l.invariant.1 a.most l.count l.count _ l.index (behind o a.r)
              (full-count _ a.index.now a.r l.invariant.1 held a.most l.count counted)
              (full-addressed _ a.index.now a.r l.invariant.1 held a.most l.count counted _ l.invariant.0.addressed)
              (full-gone _ a.index.now a.r l.invariant.1 held a.most l.count counted) true v l.height l.invariant.0.onward
              (λ lanes k. standing Open (a.r.moved + gone-by l.count k) (set l.index 0 l.i) l.height (view_of (a.pattern.now) lanes a.index.now a.r))
              (λ t. here_place _ l.invariant.1 a.most l.count v l.height _ l.invariant.0),
        ),
      );
      parts_long = l.invariant.4;
    }
