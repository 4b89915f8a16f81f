-- A calculation carried out on running registers is the calculation on the registers that they stand for.
--
--   fetched-narrow, from-narrow   lanes are numbers of their width
--   read-back, result-back        lanes put into a register's bytes are read back
--   chunk-same, bytewise-read     the bytes of a source after it was read
--   taken_live, taken-plain       a register taken as an operand
--   source-shown, target-shown    a source and a destination after a calculation
--   shown                         all three, and the memory
use Rattle.std.proofs.Common.{◌≡◌, ℕ, zero, suc, ◌+◌, ◌*◌, ◌^◌, ◌<◌, ◌≤◌, Bool, true, false, cond, List, [], ◌∷◌, ◌++◌, length, get_or, take, set, replicate, ℤ, sym, refl, ap, ◌∙◌, subst, ap₂, arith, pow_pos}
use lib.ListN.{length-map}
use Rattle.codec.specs.declared.operation.Task.{Task}
use Rattle.engine.specs.Lanes.{outcome, outcome_count}
use Rattle.codec.specs.TestLaws.{never}
use Rattle.engine.specs.Loops.{natural}
use Rattle.engine.specs.Addresses.{no_bytes, address}
use Rattle.engine.specs.Memory.{value_at, little_endian, lanes_from, joined, packed, holding}
use Rattle.engine.specs.Registers.{is_open}
use Rattle.engine.specs.Places.{place_at}
use Rattle.engine.specs.Stretches.{fetched_at}
use Rattle.engine.specs.Runnings.{view_of, Remembers, filled_with, behind, afterwards, listed_in, Looks}
use Rattle.engine.specs.ByteLaws.{Bytewise, bytewise-little, value-small}
use Rattle.engine.specs.LaneLaws.{width-range}
use Rattle.engine.specs.PackedLaws.{lanes-packed}
use Rattle.engine.specs.EffectLaws.{length-lanes, outcome-length}
use Rattle.engine.specs.EffectGood.{outcome_fits}
use Rattle.engine.specs.FoldLaws.{outcome-small}
use Rattle.engine.specs.Good.{IsWidth}
use Rattle.engine.proofs.LaneCounts.{few-lanes}
use Rattle.engine.specs.Operands.{front_of, operand_from, Taken, lanes_of}
use Rattle.engine.specs.Calculations.{lanes_in}
use Rattle.engine.specs.declared.stream.Pattern.{Pattern}
use Rattle.engine.specs.declared.running.Running.{Running}
use Rattle.engine.specs.declared.ahead.Ahead.{Ahead}
use Rattle.engine.specs.declared.part.Part.{Part}

-- a running register with another content stands for the register that holds it
filled-shown : (p : Pattern) (lanes row : List ℕ) (q : Running) (width n : ℕ) (xs : List ℕ) → n ≡ length xs
    → view_of p (packed width xs) row (filled_with width n q) ≡ holding width xs (view_of p lanes row q)
unfolding holding
filled-shown p lanes row q width n xs e = λ i. record {
  state = q.state;
  width = width;
  valid = e i;
  lanes = packed width xs;
  kind = q.kind;
  pattern = p;
  moved = q.moved;
  index = set row 0 q.index;
  height = q.height;
}

-- values read from bytes are numbers of their width
fetched-narrow : (memory : List ℕ) (w : ℕ) (l : List ℤ) → Bytewise memory → (k : ℕ) → get_or (fetched_at memory w l) k 0 < 2 ^ (8 * w)
fetched-narrow memory w [] b k = pow_pos (8 * w)
fetched-narrow memory w (a ∷ l) b zero = value-small w memory (natural a) b
fetched-narrow memory w (a ∷ l) b (suc k) = fetched-narrow memory w l b k

-- so are the lanes of a register's bytes
from-narrow : (bytes : List ℕ) (w at n : ℕ) → Bytewise bytes → (k : ℕ) → get_or (lanes_from bytes w at n) k 0 < 2 ^ (8 * w)
unfolding lanes_from
from-narrow bytes w at zero b k = pow_pos (8 * w)
from-narrow bytes w at (suc n) b zero = value-small w bytes at b
from-narrow bytes w at (suc n) b (suc k) = from-narrow bytes w (at + w) n b k

bytewise-append : (xs ys : List ℕ) → Bytewise xs → Bytewise ys → Bytewise (xs ++ ys)
bytewise-append [] ys p q k = q k
bytewise-append (x ∷ xs) ys p q zero = p 0
bytewise-append (x ∷ xs) ys p q (suc k) = bytewise-append xs ys (λ i. p (suc i)) q k

bytewise-take : (n : ℕ) (xs : List ℕ) → Bytewise xs → Bytewise (take n xs)
bytewise-take zero xs p k = omega arith
bytewise-take (suc n) [] p k = omega arith
bytewise-take (suc n) (x ∷ xs) p zero = p 0
bytewise-take (suc n) (x ∷ xs) p (suc k) = bytewise-take n xs (λ i. p (suc i)) k

bytewise-zeros : (n : ℕ) → Bytewise (replicate n 0)
bytewise-zeros zero k = omega arith
bytewise-zeros (suc n) zero = omega arith
bytewise-zeros (suc n) (suc k) = bytewise-zeros n k

bytewise-joined : (w : ℕ) (xs : List ℕ) → Bytewise (joined w xs)
unfolding joined
bytewise-joined w [] k = omega arith
bytewise-joined w (x ∷ xs) k = bytewise-append (little_endian w x) (joined w xs) (bytewise-little w x) (bytewise-joined w xs) k

-- what a source has after it was read is bytes
pub bytewise-read : (live : Bool) (w : ℕ) (xs lanes : List ℕ) {after : List ℕ} → after ≡ cond live (packed w xs) lanes → Bytewise lanes → Bytewise after
bytewise-read true w xs lanes e b = subst Bytewise (sym e) (bytewise-take 64 (joined w xs ++ replicate 64 0) (bytewise-append (joined w xs) (replicate 64 0) (bytewise-joined w xs) (bytewise-zeros 64)))
bytewise-read false w xs lanes e b = subst Bytewise (sym e) b

-- the bytes of a source after it was read
pub chunk-same : (live : Bool) (w : ℕ) (f g : List ℕ) (lanes : List ℕ) → cond live (packed w f) lanes ≡ cond live (packed w (cond live f g)) lanes
chunk-same true w f g lanes = refl
chunk-same false w f g lanes = refl

module _ (w n : ℕ) (memory : List ℕ) (x : Ahead) (xs : List Part) (lanes lanes' : List ℕ) (c : x.count ≡ n) (room : n * w ≤ 64) (long : x.live ≡ true → length (listed_in x xs) ≡ x.count)
    (b : Bytewise memory) (e : lanes' ≡ cond x.live (packed w (fetched_at memory w (listed_in x xs))) lanes) where
  -- the lanes of a source are read back from its bytes
  pub read_back : lanes_from lanes' w 0 n ≡ lanes_in w memory x xs lanes
  read_back = go x.live refl
    where
      go : (t : Bool) → x.live ≡ t → lanes_from lanes' w 0 n ≡ lanes_in w memory x xs lanes
      go true f =
          let l : length (fetched_at memory w (listed_in x xs)) ≡ n = length-map (listed_in x xs) (λ a. value_at memory (natural a) w) ∙ long f ∙ c in
          rw f (ap (λ m. lanes_from m w 0 n) (rw f at e) ∙ ap (λ j. lanes_from (packed w (fetched_at memory w (listed_in x xs))) w 0 j) (sym l)
          ∙ lanes-packed w (fetched_at memory w (listed_in x xs)) (fetched-narrow memory w (listed_in x xs) b) (omega (arith, ap (λ j. j * w) l)))
      go false f = rw f (ap (λ m. lanes_from m w 0 n) (rw f at e) ∙ ap (λ j. lanes_from lanes w 0 j) (sym c))

-- the lanes of a result are read back from its bytes
pub result-back : (t : Task) (w n : ℕ) (first second : List ℕ) → IsWidth w → n * w ≤ 64 → Bytewise first → Bytewise second
    → let xs = outcome t (8 * w) (lanes_from first w 0 n) (lanes_from second w 0 n) in lanes_from (packed w xs) w 0 (outcome_count t n) ≡ xs
result-back t w n first second i room p q =
    let xs = outcome t (8 * w) (lanes_from first w 0 n) (lanes_from second w 0 n) in
    let f = length-lanes first w 0 n in
    let r = width-range w i in
    let l : length xs ≡ outcome_count t n = outcome-length t _ (lanes_from first w 0 n) (lanes_from second w 0 n) (f ∙ sym (length-lanes second w 0 n)) ∙ ap (outcome_count t) f in
    ap (λ j. lanes_from (packed w xs) w 0 j) (sym l)
    ∙ lanes-packed w xs
    (outcome-small (8 * w) (omega (arith, r.0)) t (lanes_from first w 0 n) (lanes_from second w 0 n) (omega (arith, f, few-lanes n w r.0 room)) (from-narrow first w 0 n p) (from-narrow second w 0 n q))
    (subst (λ j. j * w ≤ 64) (sym l) (outcome_fits t 64 n w (omega arith) i room))

-- an open stream taken as an operand
pub taken_live : (p : Pattern) (before row : List ℕ) (q : Running) (most plain : ℕ) (xs : List Part) (o : Ahead) → is_open q.state ≡ true → o.live ≡ true
    → o.parts ≤ 64 → Looks p before q most o.count (listed_in o xs) row (behind o q) → length xs ≡ 64 → Taken p before q most plain row xs o
taken_live p before row q most plain xs o e l n s long = record {
  operates = λ lanes. record { told = l ∙ sym e; counted = rw e s.counted; addressed = λ t. s.addressed; after = rw (e, l) (s.moved lanes) };
  parts = n;
  remembers = rw l s.remembers;
  long = long;
}

-- any other register
pub taken-plain : (p : Pattern) (row : List ℕ) (q : Running) (most plain : ℕ) (xs : List Part) → is_open q.state ≡ false → Remembers p row q → length xs ≡ 64
    → Taken p row q most plain row xs (record { live = false; found = false; count = plain; parts = 0; height = 0; index = 0; address = no_bytes; size = 0; step = no_bytes })
taken-plain p row q most plain xs e m long = record {
  operates = λ lanes. record { told = sym e; counted = rw e; addressed = λ t. never (sym e ∙ t); after = rw e };
  parts = omega arith;
  remembers = m;
  long = long;
}

-- how many addresses an operand has
pub taken-long : (p : Pattern) (before row : List ℕ) (q : Running) (most plain : ℕ) (xs : List Part) (o : Ahead) → Taken p before q most plain row xs o
    → o.live ≡ true → length (listed_in o xs) ≡ o.count
taken-long p before row q most plain xs o t e =
    let h = t.operates [] in
    let f : is_open q.state ≡ true = sym h.told ∙ e in
    ap length (h.addressed f) ∙ length-map (front_of (view_of p [] before q) most) (address p q.width) ∙ sym (rw f at h.counted)

-- a source after a calculation
module _ (p : Pattern) (before row : List ℕ) (q : Running) (most plain : ℕ) (xs : List Part) (o : Ahead) (t : Taken p before q most plain row xs o) (memory lanes : List ℕ) where
  -- the lanes that it gives
  pub source-lanes : plain ≡ q.valid → lanes_in q.width memory o xs lanes ≡ lanes_of (view_of p lanes before q) (operand_from p lanes row xs q o) memory
  source-lanes e = go o.live refl
    where
      go : (b : Bool) → o.live ≡ b → lanes_in q.width memory o xs lanes ≡ lanes_of (view_of p lanes before q) (operand_from p lanes row xs q o) memory
      go true f = rw f
      go false f =
          let g : is_open q.state ≡ false = sym (t.operates lanes).told ∙ f in
          rw f (ap (λ n. lanes_from lanes q.width 0 n) ((rw g at (t.operates lanes).counted) ∙ e))

  -- the register
  pub source-shown : plain ≡ q.valid → (f : Running) (lanes' : List ℕ) → f ≡ cond o.live (filled_with q.width o.count (afterwards o q)) (afterwards o q)
      → lanes' ≡ cond o.live (packed q.width (lanes_in q.width memory o xs lanes)) lanes
      → view_of p lanes' row f ≡ cond o.live (holding q.width (lanes_of (view_of p lanes before q) (operand_from p lanes row xs q o) memory) (view_of p lanes row (afterwards o q))) (view_of p lanes before q)
  source-shown e f lanes' g h = go o.live refl
    where
      go : (b : Bool) → o.live ≡ b → view_of p lanes' row f ≡ cond o.live (holding q.width (lanes_of (view_of p lanes before q) (operand_from p lanes row xs q o) memory) (view_of p lanes row (afterwards o q))) (view_of p lanes before q)
      go true k =
          let n : o.count ≡ length (fetched_at memory q.width (listed_in o xs)) = sym (length-map (listed_in o xs) (λ a. value_at memory (natural a) q.width) ∙ taken-long p before row q most plain xs o t k) in
          rw k (ap₂ (λ l r. view_of p l row r) (rw k at h) (rw k at g) ∙ filled-shown p lanes row (behind o q) q.width o.count (fetched_at memory q.width (listed_in o xs)) n)
      go false k =
          let c : is_open q.state ≡ false = sym (t.operates lanes).told ∙ k in
          rw k (ap₂ (λ l r. view_of p l row r) (rw k at h) (rw k at g) ∙ (rw (c, k) at (t.operates lanes).after))

-- a destination after a calculation
module _ (p : Pattern) (before row : List ℕ) (q : Running) (most plain : ℕ) (xs : List Part) (o : Ahead) (t : Taken p before q most plain row xs o) (lanes : List ℕ) where
  pub target-shown : (width n : ℕ) (out : List ℕ) → n ≡ length out → (f : Running) (lanes' : List ℕ) → f ≡ cond o.live (afterwards o q) (filled_with width n (afterwards o q))
      → lanes' ≡ cond o.live lanes (packed width out) → view_of p lanes' row f ≡ cond o.live (view_of p lanes row (afterwards o q)) (holding width out (view_of p lanes before q))
  target-shown width n out e f lanes' g h = go o.live refl
    where
      go : (b : Bool) → o.live ≡ b → view_of p lanes' row f ≡ cond o.live (view_of p lanes row (afterwards o q)) (holding width out (view_of p lanes before q))
      go true k = rw k (ap₂ (λ l r. view_of p l row r) (rw k at h) (rw k at g))
      go false k =
          let c : is_open q.state ≡ false = sym (t.operates lanes).told ∙ k in
          rw k (ap₂ (λ l r. view_of p l row r) (rw k at h) (rw k at g) ∙ filled-shown p lanes row q width n out e ∙ ap (holding width out) (rw (c, k) at (t.operates lanes).after))

-- what is remembered does not depend on the content
pub remembers-filled : (p : Pattern) (row : List ℕ) (live : Bool) (width n : ℕ) (q f : Running) → q.width ≡ width → Remembers p row q → f ≡ cond live (filled_with width n q) q → Remembers p row f
remembers-filled p row true width n q f w m e = subst (Remembers p row) (sym e) (λ t. m t ∙ ap (λ k. place_at p k (set row 0 q.index)) w)
remembers-filled p row false width n q f w m e = subst (Remembers p row) (sym e) m
