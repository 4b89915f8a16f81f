-- The bytes of numbers, operations and calculations are bytes.
--
--   Bytewise, bytes-none, bytes-append   a list of bytes; none; in two parts
--   number-bytes                         a number
--   operation-bytes, calculation-bytes   an operation; a calculation
--   all_append                           the bytes of operations in two parts
use Rattle.std.specs.Prelude.{ℕ, zero, suc, ◌+◌, ◌%◌, ◌/◌, ◌^◌, ◌≤◌, ◌<◌, ◌≡◌, refl, List, [], ◌∷◌, ◌++◌, Bool, true, false, cond, get_or, ltb, ℤ, nat_abs}
use Rattle.std.proofs.Common.{sym, ◌∙◌, ap, append_assoc, arith, ltb-true, leb-true}
use Rattle.std.proofs.Math.Nat.{pow-succ'}
use Rattle.std.specs.Int.Signed.{non_neg}
use Rattle.codec.specs.Numbers.{groups_of, number_bytes, unsigned_of}
use Rattle.codec.specs.NumberLaws.{AreBytes, unsigned-range}
use Rattle.codec.specs.Headers.{word_of}
use Rattle.codec.specs.TestLaws.{both}
use Rattle.codec.specs.HeaderLaws.{free-none, word_below}
use Rattle.codec.specs.Operations.{is_base, is_reach, parameter_code, behaviour_code, task_code, operation_in_range, operation_bytes, bytes_of_all, calculation_bytes}
use Rattle.codec.specs.RangeLaws.{dimension-range, modifier-range, run-range, open-range, reach-small}
use Rattle.codec.specs.OperationLaws.{parameter-range, behaviour-range, task-range}
use Rattle.codec.specs.declared.operation.Calculation.{Calculation}
use Rattle.codec.specs.declared.operation.Operation.{Operation}
use Rattle.codec.specs.declared.operation.Operation.TheVariants as op

-- a list of bytes
pub record Bytewise (l : List ℕ) : Type 0 where
  pub are : AreBytes l

-- none
pub bytes-none : Bytewise []
bytes-none = record { are = λ i. omega arith }

-- one and more
bytes-cons : {x : ℕ} {l : List ℕ} → x < 256 → Bytewise l → Bytewise (x ∷ l)
bytes-cons {x} {l} h p = record { are = go }
  where
    go : (i : ℕ) → get_or (x ∷ l) i 0 < 256
    go zero = h
    go (suc i) = p.are i

-- in two parts
pub bytes-append : {l k : List ℕ} → Bytewise l → Bytewise k → Bytewise (l ++ k)
bytes-append {l} {k} p q = record { are = go l p.are }
  where
    go : (l : List ℕ) → AreBytes l → AreBytes (l ++ k)
    go [] p i = q.are i
    go (x ∷ l) p zero = p 0
    go (x ∷ l) p (suc i) = go l (λ j. p (suc j)) i

-- the groups of a number
groups-bytes : (n v : ℕ) → v < 128 ^ suc n → Bytewise (groups_of n v)
unfolding groups_of
groups-bytes zero v h = bytes-cons (omega arith) bytes-none
groups-bytes (suc n) v h = go (ltb v 128) refl (groups-bytes n (v / 128) (omega (arith, pow-succ' 128 (suc n))))
  where
    go : (b : Bool) → ltb v 128 ≡ b → Bytewise (groups_of n (v / 128)) → Bytewise (cond b (v ∷ []) ((v % 128 + 128) ∷ groups_of n (v / 128)))
    go true e p = bytes-cons (omega (arith, ltb-true v 128 e)) bytes-none
    go false e p = bytes-cons (omega arith) p

-- a number
pub number-bytes : (v : ℕ) → v < 4294967296 → Bytewise (number_bytes v)
number-bytes v h = groups-bytes 4 v (omega arith)

-- a signed number
signed-bytes : (z : ℤ) → is_reach z ≡ true → Bytewise (number_bytes (unsigned_of z))
signed-bytes z e = number-bytes (unsigned_of z) ((unsigned-range z).1 (reach-small z e).0)

-- behind bytes, a number
and-number : {l : List ℕ} → Bytewise l → (v : ℕ) → v < 4294967296 → Bytewise (l ++ number_bytes v)
and-number p v h = bytes-append p (number-bytes v h)

-- an operation in its ranges
pub operation-bytes : (o : Operation) → operation_in_range o ≡ true → Bytewise (operation_bytes 0 o)
unfolding operation_bytes operation_in_range
operation-bytes (op.Open h b) e =
    let r = open-range h b e in
    let start = and-number (number-bytes 1 (omega arith)) (word_of h + 0) (word_below h 0 r.0 free-none) in
    and-number start (nat_abs b.0) (omega (arith, leb-true (nat_abs b.0) 1048576 (both (non_neg b.0) (is_base (nat_abs b.0)) r.1).1))
operation-bytes (op.Dimension d) e =
    let r = dimension-range d e in
    let start = and-number (number-bytes 2 (omega arith)) d.register (omega (arith, r.0)) in
    let size = and-number (bytes-append start (signed-bytes d.offset.0 r.1)) d.size (omega (arith, r.2)) in
    bytes-append size (signed-bytes d.stride.0 r.3)
operation-bytes (op.Modifier m) e =
    let r = modifier-range m e in
    let p = parameter_code m.parameter in
    let b = behaviour_code m.behaviour in
    let target = and-number (and-number (number-bytes 3 (omega arith)) m.register (omega (arith, r.0))) m.target (omega (arith, r.1)) in
    let parameter = and-number target p (omega (arith, leb-true p 2 (parameter-range m.parameter))) in
    and-number (and-number parameter b (omega (arith, leb-true b 1 (behaviour-range m.behaviour)))) m.displacement (omega (arith, r.2))
operation-bytes (op.End i) e = and-number (number-bytes 4 (omega arith)) i (omega (arith, leb-true i 31 e))
operation-bytes (op.Run i n) e =
    let r = run-range i n e in
    and-number (and-number (number-bytes 5 (omega arith)) i (omega (arith, r.0))) n (omega (arith, r.1))

-- a calculation of registers
pub calculation-bytes : (c : Calculation) → c.destination ≤ 31 → c.first ≤ 31 → c.second ≤ 31 → Bytewise (calculation_bytes c)
unfolding calculation_bytes
calculation-bytes c d f s =
    let code = number-bytes (task_code c.task) (omega (arith, task-range c.task)) in
    and-number (and-number (and-number code c.destination (omega arith)) c.first (omega arith)) c.second (omega arith)

-- operations in two parts
pub all_append : (os ps : List Operation) → bytes_of_all (os ++ ps) ≡ bytes_of_all os ++ bytes_of_all ps
unfolding bytes_of_all
all_append [] ps = refl
all_append (o ∷ os) ps = ap (λ l. operation_bytes 0 o ++ l) (all_append os ps) ∙ sym (append_assoc (operation_bytes 0 o) (bytes_of_all os) (bytes_of_all ps))
