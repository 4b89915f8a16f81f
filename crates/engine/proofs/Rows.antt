-- A step along a row, and the height of the flags between two stops.
use Rattle.std.proofs.Common.{◌≡◌, ℕ, suc, ◌+◌, ◌-◌, ◌<◌, ◌≤◌, true, List, [], ◌∷◌, length, get_or, take, set, sym, ap, ◌∙◌, ap₂, add-one, arith, get_or-set_same, drop-set-lt}
use Rattle.engine.specs.Loops.{size_at}
use Rattle.engine.specs.Chunks.{stops, is_element, differ, height}
use Rattle.engine.specs.FlagLaws.{differ-pad, differ-at, height-between, height-end}
use Rattle.engine.specs.Addresses.{address}
use Rattle.engine.specs.AddressLaws.{address-next}
use Rattle.engine.specs.Registers.{index_of}
use Rattle.engine.specs.Good.{Accepted}
use Rattle.engine.specs.WalkLaws.{index-pad}
use Rattle.engine.specs.StopLaws.{stop-length}
use Rattle.engine.specs.StopWalk.{covers}
use Rattle.engine.specs.StopPlaces.{further, size-held}
use Rattle.engine.specs.Places.{place_at, along_of}
use Rattle.engine.specs.declared.stream.Shape.{Shape}
use Rattle.engine.specs.declared.stream.Pattern.{Pattern}

-- adding the step gives the next place of the row, if both are elements
pub along-place : (p : Pattern) (width : ℕ) (v : List ℕ) → 1 ≤ p.shape.dims → 0 < length v → is_element (size_at p.shape) 0 (take p.shape.dims v) ≡ true
    → is_element (size_at p.shape) 0 (take p.shape.dims (further v)) ≡ true → along_of (place_at p width v) ≡ place_at p width (further v)
along-place p width [] d h i j = absurd (omega arith)
along-place p width (i ∷ outer) d h e f =
    let n = address-next p width i outer p.shape.dims d in
    let m : address p width ((i + 1) ∷ outer) ≡ address p width (suc i ∷ outer) = ap (λ j. address p width (j ∷ outer)) (add-one i) in
    λ j. record {
      index = (i + 1) ∷ outer;
      address = record { 0 = (sym (m ∙ n)) j };
      size = (size-held p width (i ∷ outer) e ∙ sym (size-held p width (further (i ∷ outer)) f)) j;
      step = (place_at p width (i ∷ outer)).step;
    }

-- the height between a stop and the next
pub height-next : (s : Shape) → Accepted s → (k : ℕ) → k < length (stops s) → (v : List ℕ) → v ≡ index_of (get_or (stops s) k [])
    → (w : List ℕ) → suc k < length (stops s) → w ≡ index_of (get_or (stops s) (suc k) []) → height s (suc k) ≡ differ v w
height-next s r k q v e w h f =
    let x : List ℕ = get_or (stops s) k [] in
    let y : List ℕ = get_or (stops s) (suc k) [] in
    let a = stop-length s (covers s r) k q in
    let b = stop-length s (covers s r) (suc k) h in
    let z : suc k - 1 ≡ k = omega arith in
    height-between s (suc k) (omega arith) h
    ∙ ap (λ j. differ (get_or (stops s) j []) y) z
    ∙ sym (differ-pad x y (7 - s.dims) (a ∙ sym b))
    ∙ ap₂ differ (sym (index-pad x s.dims a r.ranged.dims) ∙ sym e) (sym (index-pad y s.dims b r.ranged.dims) ∙ sym f)

-- along a row only the innermost index differs
pub row-height : (v : List ℕ) (x : ℕ) → 0 < length v → (get_or v 0 0 ≡ x → ⊥) → differ v (set v 0 x) ≡ 1
row-height v x h n =
    differ-at 0 v (set v 0 x) (sym (lib.ListN.length-set v 0 x)) (sym (drop-set-lt 1 v 0 x (omega arith)))
    (λ p. n (p ∙ get_or-set_same v 0 x 0 h))

pub height-none : (s : Shape) (k : ℕ) → length (stops s) ≤ suc k → height s (suc k) ≡ s.dims + 1
height-none s k h = height-end s (suc k) h ∙ sym (add-one s.dims)
