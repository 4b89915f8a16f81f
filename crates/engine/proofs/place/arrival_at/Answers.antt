-- `place::arrival_at` meets its contract: whether the stop is an element depends on the dimensions that are not looked at yet.
use Rattle.std.proofs.Common.{◌≡◌, ℕ, suc, ◌<◌, ◌≤◌, true, false, ◌&&◌, not, ltb, List, length, get_or, take, drop, sym, ap, ◌∙◌, add-one, arith, drop_of_length-le, length-take-le, drop-cons, get_or-take, le-ltb, lt-ltb}
use Rattle.engine.specs.Loops.{size_at}
use Rattle.engine.specs.Chunks.{is_element}
use Rattle.engine.specs.Registers.{index_of}
use Rattle.engine.specs.IndexLaws.{index-length, size-index}
use Rattle.engine.specs.declared.stream.Shape.{Shape}
use Rattle.engine.proofs.place.arrival_at.Invariants.{left}
use Rattle.engine.proofs.place.arrival_at.Goals as goal

module _ (s : Shape) (v : List ℕ) (e : v ≡ index_of (take s.dims v)) (m : s.dims ≤ 7) where
  long : length (take s.dims v) ≡ s.dims
  long = length-take-le s.dims v (omega (arith, ap length e, index-length (take s.dims v)))

  -- dimension d, then the others
  left-next : (d : ℕ) → d < s.dims → left s v d ≡ (ltb (get_or v d 0) (size_at s d (drop (suc d) v)) && left s v (suc d))
  unfolding is_element
  left-next d h =
      let u : List ℕ = take s.dims v in
      let a : get_or u d 0 ≡ get_or v d 0 = get_or-take s.dims v d 0 h in
      let b : size_at s d (drop (suc d) u) ≡ size_at s d (drop (suc d) v) =
      sym (size-index s u s.dims d long m h) ∙ ap (λ w. size_at s d (drop (suc d) w)) (sym e) in
      ap (is_element (size_at s) d) (drop-cons u d 0 (omega (arith, long))) ∙ (λ i. ltb (a i) (b i) && left s v (suc d))

  -- the index has reached the size
  left-reached : (d : ℕ) → d < s.dims → size_at s d (drop (suc d) v) ≤ get_or v d 0 → left s v d ≡ false
  left-reached d h k = left-next d h ∙ ap (λ b. b && left s v (suc d)) (le-ltb (get_or v d 0) (size_at s d (drop (suc d) v)) k)

  -- it is below
  left_below : (d : ℕ) → d < s.dims → get_or v d 0 < size_at s d (drop (suc d) v) → left s v d ≡ left s v (suc d)
  left_below d h k = left-next d h ∙ ap (λ b. b && left s v (suc d)) (lt-ltb (get_or v d 0) (size_at s d (drop (suc d) v)) k)

  -- none is left
  left-none : (d : ℕ) → s.dims ≤ d → left s v d ≡ true
  unfolding is_element
  left-none d h =
      let l : length (take s.dims v) ≤ d = omega (arith, long) in
      ap (is_element (size_at s) d) (drop_of_length-le (take s.dims v) l)

pub returns-then-size_at-index : goal.returns-then-size_at-index
returns-then-size_at-index c =
    let l = c.loop-d in
    let k = c.size_at.ensures in
    ap not (sym (sym l.invariant ∙ left-reached c.args.shape.now c.args.index.now c.requires.2 c.requires.0.dims l.d (omega arith) (omega (arith, k, c.if-size_at-index.true))))

pub loop-d-preserved : goal.loop-d-preserved
loop-d-preserved c =
    let l = c.loop-d in
    let s = c.args.shape.now in
    let v = c.args.index.now in
    let k = c.size_at.ensures in
    ap (left s v) (add-one l.d) ∙ sym (left_below s v c.requires.2 c.requires.0.dims l.d (omega arith) (omega (arith, k, c.if-size_at-index.false))) ∙ l.invariant

pub returns : goal.returns
returns c =
    let l = c.loop-d in
    ap not (sym (sym l.invariant ∙ left-none c.args.shape.now c.args.index.now c.requires.2 c.requires.0.dims l.d (omega arith)))
