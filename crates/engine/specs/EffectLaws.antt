-- What one calculation that is not refused does to each register.
--
--   changed, effect-reg, effect-length         each register after it
--   read-open, read-shut, written-open, written-shut   a source and a destination after it
--   memory-length                              memory keeps its length
--   length-lanes, given-fits                   so many lanes read; the lanes that a source gives fit the vector length
--   counts_same, results-length                both sources give equally many; so many has the result
--   open-store, room                           a store that is the destination has room for the result
use Rattle.std.specs.Prelude.{◌≡◌, ℕ, zero, suc, ◌+◌, ◌*◌, ◌/◌, ◌<◌, ◌≤◌, Bool, true, false, cond, not, ◌&&◌, ◌||◌, List, [], ◌∷◌, map, length, set, ◌==◌, nat_lt, slice_index_or, slice_set, refl, Ok}
use Rattle.std.proofs.Common.{sym, ◌∙◌, ap, subst, arith, mul-le-mul_right, div-mul-le_self, length-set, get_or-set_same, get_or-set_other, eqb-true, ltb-false}
use Rattle.std.proofs.lemmas.List.{length-map}
use Rattle.std.proofs.lemmas.List.Edits.{sets}
use Rattle.std.proofs.Math.Seq.{length-sets}
use Rattle.std.proofs.lemmas.Bool.{eqb-false, not-false}
use Rattle.codec.specs.TestLaws.{or-false, and-false}
use Rattle.codec.specs.declared.operation.Task.{Task}
use Rattle.codec.specs.declared.operation.Task.TheVariants.{Each, All}
use Rattle.codec.specs.declared.operation.Calculation.{Calculation}
use Rattle.engine.specs.Memory.{fetch, spot, little_endian, stored, lanes_from, contents, holding}
use Rattle.engine.specs.Lanes.{lane, lanewise, outcome, outcome_count}
use Rattle.engine.specs.Registers.{is_open, is_load, open_load, open_store, next_chunk, moved_by, no_register, reg}
use Rattle.engine.specs.Calculate.{World, given, results, refusal_of, read_from, written_to, memory_after, effect}
use Rattle.engine.specs.Good.{Good}
use Rattle.engine.specs.ComeLaws.{next-lanes}
use Rattle.engine.specs.CalculationLaws.{checked}
use Rattle.engine.specs.declared.stream.Pattern.{Pattern}
use Rattle.engine.specs.declared.register.Register.{Register}
use Rattle.engine.specs.declared.register.Machine.{Machine}

-- ---- each register

-- what stands at place i once x is put at place k: x if i is k, else what stood there
get_d_set : {A : Type 0} (l : List A) (k i : ℕ) (x z : A) → i < length l → slice_index_or (slice_set l k x) i z ≡ cond (i == k) x (slice_index_or l i z)
get_d_set l k i x z h = go (i == k) refl
  where
    go : (b : Bool) → (i == k) ≡ b → slice_index_or (slice_set l k x) i z ≡ cond b x (slice_index_or l i z)
    go true e = let q : i ≡ k = eqb-true i k e in rw q (get_or-set_same l k x z (rw q at h))
    go false e = get_or-set_other l k i x z (eqb-false i k e)

-- register i after a calculation: the destination written, else a source read, else as it was
abbrev pub changed : ℕ → Calculation → World → ℕ → Register
changed vl c w i =
    cond (i == c.destination) (written_to (reg w.machine c.first).width (results vl c w) (reg w.machine i))
    (cond (i == c.first || i == c.second) (read_from vl w.memory (reg w.machine i)) (reg w.machine i))

-- where i is k, what is made of register k is made of register i
at_same : (m : Machine) (f : Register → Register) (i k : ℕ) (y : Register) → cond (i == k) (f (reg m k)) y ≡ cond (i == k) (f (reg m i)) y
at_same m f i k y = go (i == k) refl
  where
    go : (b : Bool) → (i == k) ≡ b → cond b (f (reg m k)) y ≡ cond b (f (reg m i)) y
    go true e = ap (λ j. f (reg m j)) (sym (eqb-true i k e))
    go false e = refl

-- x if b, else x if a, is x if either holds
either : (a b : Bool) (x y : Register) → cond b x (cond a x y) ≡ cond (a || b) x y
either true true x y = refl
either true false x y = refl
either false true x y = refl
either false false x y = refl

-- each register after a calculation
pub effect-reg : (vl : ℕ) (c : Calculation) (w : World) (i : ℕ) → i < length w.machine.registers → reg (effect vl c w).machine i ≡ changed vl c w i
unfolding effect
effect-reg vl c w i h =
    let m : Machine = w.machine in
    let l1 : List Register = set m.registers c.first (read_from vl w.memory (reg m c.first)) in
    let l2 : List Register = set l1 c.second (read_from vl w.memory (reg m c.second)) in
    let h1 : i < length l1 = simp length-set h in
    let h2 : i < length l2 = simp length-set h in
    get_d_set l2 c.destination i _ no_register h2
    ∙ at_same m (written_to (reg m c.first).width (results vl c w)) i c.destination _
    ∙ ap (cond (i == c.destination) (written_to (reg m c.first).width (results vl c w) (reg m i)))
    (get_d_set l1 c.second i _ no_register h1
    ∙ at_same m (read_from vl w.memory) i c.second _
    ∙ ap (cond (i == c.second) (read_from vl w.memory (reg m i)))
    (get_d_set m.registers c.first i _ no_register h ∙ at_same m (read_from vl w.memory) i c.first _)
    ∙ either (i == c.first) (i == c.second) _ _)

-- as many registers as before
pub effect-length : (vl : ℕ) (c : Calculation) (w : World) → length (effect vl c w).machine.registers ≡ length w.machine.registers
unfolding effect
effect-length vl c w = simp length-set

-- an open source has moved on by its next chunk, which it holds
pub read-open : (vl : ℕ) (memory : List ℕ) (r : Register) → is_open r.state ≡ true
    → read_from vl memory r ≡ moved_by (length (next_chunk vl r)) (holding r.width (given vl memory r) r)
unfolding read_from
read-open vl memory r e = rw e

-- any other source stays
pub read-shut : (vl : ℕ) (memory : List ℕ) (r : Register) → is_open r.state ≡ false → read_from vl memory r ≡ r
unfolding read_from
read-shut vl memory r e = rw e

-- an open destination has moved on by the lanes of the result
pub written-open : (width : ℕ) (xs : List ℕ) (r : Register) → is_open r.state ≡ true → written_to width xs r ≡ moved_by (length xs) r
unfolding written_to
written-open width xs r e = rw e

-- any other destination holds the result
pub written-shut : (width : ℕ) (xs : List ℕ) (r : Register) → is_open r.state ≡ false → written_to width xs r ≡ holding width xs r
unfolding written_to
written-shut width xs r e = rw e

-- memory keeps its length when lanes are stored
stored-length : (p : Pattern) (width : ℕ) (memory : List ℕ) (vs : List (List ℕ)) (xs : List ℕ) → length (stored p width memory vs xs) ≡ length memory
unfolding stored
stored-length p width memory [] xs = refl
stored-length p width memory (v ∷ vs) [] = refl
stored-length p width memory (v ∷ vs) (x ∷ xs) =
    stored-length p width (sets memory (spot p width v) (little_endian width x)) vs xs ∙ length-sets memory (spot p width v) (little_endian width x)

-- memory keeps its length
pub memory-length : (vl : ℕ) (c : Calculation) (w : World) → length (effect vl c w).memory ≡ length w.memory
unfolding effect memory_after
memory-length vl c w = go (is_open d.state)
  where
    d : Register
    d = reg w.machine c.destination

    go : (b : Bool) → length (cond b (stored d.pattern d.width w.memory (next_chunk vl d) (results vl c w)) w.memory) ≡ length w.memory
    go true = stored-length d.pattern d.width w.memory (next_chunk vl d) (results vl c w)
    go false = refl

-- ---- lengths

-- lanes read are as many as were asked for
pub length-lanes : (bytes : List ℕ) (width k n : ℕ) → length (lanes_from bytes width k n) ≡ n
unfolding lanes_from
length-lanes bytes width k zero = refl
length-lanes bytes width k (suc n) = ap suc (length-lanes bytes width (k + width) n)

-- the lanes that a source gives fit the vector length
pub given-fits : (vl : ℕ) (memory : List ℕ) (r : Register) → Good vl r → length (given vl memory r) * r.width ≤ vl
unfolding given
given-fits vl memory r g = go (is_open r.state)
  where
    go : (b : Bool) → length (cond b (map (fetch r.pattern r.width memory) (next_chunk vl r)) (contents r)) * r.width ≤ vl
    go true =
        let l : length (map (fetch r.pattern r.width memory) (next_chunk vl r)) ≤ vl / r.width =
        omega (arith, length-map (next_chunk vl r) (fetch r.pattern r.width memory), next-lanes vl r) in
        omega (arith, mul-le-mul_right r.width l, div-mul-le_self vl r.width)
    go false = subst (λ n. n * r.width ≤ vl) (sym (length-lanes r.lanes r.width 0 r.valid)) g.valid

-- lane by lane, of equally many lanes come as many
pub lanewise-length : (f : ℕ → ℕ → ℕ) (xs ys : List ℕ) → length xs ≡ length ys → length (lanewise f xs ys) ≡ length xs
unfolding lanewise
lanewise-length f [] ys e = refl
lanewise-length f (x ∷ xs) [] e = absurd (omega arith)
lanewise-length f (x ∷ xs) (y ∷ ys) e = ap suc (lanewise-length f xs ys (omega arith))

-- both sources give equally many lanes
pub counts_same : (vl : ℕ) (c : Calculation) (w : World) → refusal_of vl c w ≡ Ok tt
    → length (given vl w.memory (reg w.machine c.first)) ≡ length (given vl w.memory (reg w.machine c.second))
counts_same vl c w e = eqb-true _ _ (not-false _ (or-false _ _ (checked vl c w e).counts).0)

-- of equally many lanes comes as many as the destination takes
pub outcome-length : (t : Task) (n : ℕ) (xs ys : List ℕ) → length xs ≡ length ys → length (outcome t n xs ys) ≡ outcome_count t (length xs)
outcome-length (Each action) n xs ys e = lanewise-length (lane action n) xs ys e
outcome-length (All fold) n xs ys e = refl

-- the result has as many
pub results-length : (vl : ℕ) (c : Calculation) (w : World) → refusal_of vl c w ≡ Ok tt
    → length (results vl c w) ≡ outcome_count c.task (length (given vl w.memory (reg w.machine c.first)))
unfolding results
results-length vl c w e =
    outcome-length c.task (8 * (reg w.machine c.first).width)
    (given vl w.memory (reg w.machine c.first))
    (given vl w.memory (reg w.machine c.second))
    (counts_same vl c w e)

-- an open register that is no open load is an open store
pub open-store : (r : Register) → open_load r ≡ false → is_open r.state ≡ true → open_store r ≡ true
open-store r e p = rw (p, and-false (is_open r.state) (is_load r.kind) e p)

-- an open destination that 10 and 13 do not refuse has a next chunk of at least i
store-room : (vl n m i : ℕ) (d : Register) → (not (n == m) || open_store d && nat_lt (length (next_chunk vl d)) i) ≡ false → open_load d ≡ false
    → is_open d.state ≡ true → i ≤ length (next_chunk vl d)
store-room vl n m i d e k o =
    let s = or-false (not (n == m)) (open_store d && nat_lt (length (next_chunk vl d)) i) e in
    ltb-false (length (next_chunk vl d)) i (and-false (open_store d) (nat_lt (length (next_chunk vl d)) i) s.1 (open-store d k o))

-- the next chunk of a store that is the destination has room for the result
pub room : (vl : ℕ) (c : Calculation) (w : World) → refusal_of vl c w ≡ Ok tt → is_open (reg w.machine c.destination).state ≡ true
    → length (results vl c w) ≤ length (next_chunk vl (reg w.machine c.destination))
room vl c w e o =
    let k = checked vl c w e in
    subst (λ n. n ≤ length (next_chunk vl (reg w.machine c.destination))) (sym (results-length vl c w e))
    (store-room vl (length (given vl w.memory (reg w.machine c.first))) (length (given vl w.memory (reg w.machine c.second))) _
    (reg w.machine c.destination) k.counts k.destination-kind o)
