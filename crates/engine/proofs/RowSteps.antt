-- A walk along a row: only the innermost index and the address move.
use Rattle.std.proofs.Common.{◌≡◌, ℕ, suc, ◌+◌, ◌^◌, ◌<◌, ◌≤◌, Bool, true, false, List, [], ◌∷◌, length, get_or, take, drop, set, ◌+ℤ◌, nat_abs, sym, refl, ap, ◌∙◌, arith, get_or-set_same, lt-ltb}
use lib.Seq.{set-get_or}
use borrow.Author.Tests.{not-true}
use Rattle.codec.specs.declared.amounts.Bytes.{Bytes}
use Rattle.engine.specs.Loops.{size_at}
use Rattle.engine.specs.Chunks.{stops, is_element, nothing_at}
use Rattle.engine.specs.Addresses.{stride_at}
use Rattle.engine.specs.AddressLaws.{Small, small-drop, address-fits, bytes_most, stride_most}
use Rattle.engine.specs.Registers.{index_of}
use Rattle.engine.specs.Good.{RangedPattern, Accepted}
use Rattle.engine.specs.Walk.{Stop}
use Rattle.engine.specs.IndexLaws.{index-length}
use Rattle.engine.specs.StopWalk.{here-small}
use Rattle.engine.specs.StopPlaces.{stop-told, size-held, size-some, row_next}
use Rattle.engine.specs.Places.{Place, place_at, in_row, along_of, Onward}
use Rattle.engine.proofs.Rows.{along-place, height-next, row-height}
use Rattle.engine.specs.declared.stream.Pattern.{Pattern}

-- where a row has another element, the walk goes on there
pub row-onward : (p : Pattern) (width : ℕ) → Accepted p.shape → (here : Place) (k : ℕ) → k < length (stops p.shape)
    → here.index ≡ index_of (get_or (stops p.shape) k []) → here ≡ place_at p width here.index
    → get_or here.index 0 0 + 1 < here.size → Onward p width (suc k) true (along_of here) 1
row-onward p width y here k q e f h =
    let v = here.index in
    let l : 0 < length v = omega (arith, ap length e, index-length (get_or (stops p.shape) k [])) in
    let z : here.size ≡ (place_at p width v).size = ap (λ t. t.size) f in
    let i : is_element (size_at p.shape) 0 (take p.shape.dims v) ≡ true = size-some p width v (omega (arith, z)) in
    let t : nothing_at p.shape k ≡ false =
    not-true (nothing_at p.shape k) (sym (stop-told p.shape y k q) ∙ ap (λ u. is_element (size_at p.shape) 0 (take p.shape.dims u)) (sym e) ∙ i) in
    let st = row_next p.shape y k q v e t (omega (arith, h, z, size-held p width v i)) in
    record {
      told = sym (lt-ltb _ _ st.0);
      here = λ t. ap along_of f ∙ along-place p width v y.some l i st.2 ∙ ap (place_at p width) st.1;
      high = sym (height-next p.shape y k q v e _ st.0 st.1 ∙ row-height v (get_or v 0 0 + 1) l (λ z. omega arith));
    }

-- the address and the step of a place are far from overflowing
pub place-fits : (p : Pattern) → RangedPattern p → (width : ℕ) → width ≤ 8 → Accepted p.shape → (here : Place)
    → (empty : Bool) → Stop p.shape here.index empty → here ≡ place_at p width here.index
    → (nat_abs here.address.0 ≤ 2 ^ 55) × (nat_abs here.step.0 ≤ 2 ^ 51)
place-fits p r width w y here empty n e =
    let v = here.index in
    let s : Small v = λ k. omega (arith, here-small p.shape y v empty n k) in (
      omega (arith, ap (λ t. nat_abs t.address.0) e, address-fits p r width w v s),
      omega (arith, ap (λ t. nat_abs t.step.0) e, bytes_most (stride_at p 0 (drop 1 v)) 1 width (stride_most p r 0 (drop 1 v) (small-drop 1 v s)) (omega arith) w),
    )

set-again : (v : List ℕ) (i j : ℕ) → set (set v 0 i) 0 j ≡ set v 0 j
set-again [] i j = refl
set-again (x ∷ v) i j = refl

-- one element further, in a row's words
pub in-row-along : (v : List ℕ) (i : ℕ) (address : Bytes) (size : ℕ) (step : Bytes) → 0 < length v
    → along_of (in_row v i address size step) ≡ in_row v (i + 1) (record { 0 = address.0 +ℤ step.0 }) size step
in-row-along v i address size step l =
    let e : get_or (set v 0 i) 0 0 + 1 ≡ i + 1 = ap (λ k. k + 1) (get_or-set_same v 0 i 0 l) in
    ap (λ w. record { index = w; address = record { 0 = address.0 +ℤ step.0 }; size = size; step = step })
    (ap (set (set v 0 i) 0) e ∙ set-again v i (i + 1))

-- a place is in its own row
pub in-row-same : (here : Place) → in_row here.index (get_or here.index 0 0) here.address here.size here.step ≡ here
in-row-same here = ap (λ w. record { index = w; address = here.address; size = here.size; step = here.step }) (set-get_or here.index 0 0)
