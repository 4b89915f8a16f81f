-- Laws of operations and calculations: what was written is read back, and what was read is what is written.
--
--   Decoding, Bodying                          what stands where an operation or a calculation was read
--   parameter-range, behaviour-range, action-range   the codes of parameters, behaviours and actions
--   action-back, action-there                  actions and their codes
--   task-range, task-there                     what a calculation does, and its code
--   task-before, second-before                 the codes up to 7 are read as they were
--   operation-written, calculation-written     written then read
--   operation-read, calculation-read           read then written
use Rattle.std.specs.Prelude.{ℕ, zero, suc, ◌+◌, ◌-◌, ◌≤◌, ◌<◌, ◌≡◌, refl, Bool, true, false, Option, Some, None, Result, Ok, Err, cond, not, ◌&&◌, ◌||◌, length, leb, ℤ, negsuc, nat_abs}
use Rattle.std.proofs.Common.{sym, ◌∙◌, ap, arith, length-append}
use mathlib.Core.List.{List, ◌++◌, append_assoc}
use Rattle.std.proofs.Math.Dec.{eqb}
use Rattle.std.proofs.Math.IntN.{pos}
use Rattle.std.specs.Int.Signed.{non_neg}
use borrow.Author.Tests.{leb-true, leb-false, le-leb, le-ltb}
use Rattle.codec.specs.declared.amounts.Bytes.{Bytes}
use Rattle.codec.specs.declared.number.Cursor.{Cursor}
use Rattle.codec.specs.declared.header.Header.{Header}
use Rattle.codec.specs.declared.operation.Dimension.{Dimension}
use Rattle.codec.specs.declared.operation.Parameter.{Parameter}
use Rattle.codec.specs.declared.operation.Parameter.TheVariants as parameter
use Rattle.codec.specs.declared.operation.Behaviour.{Behaviour}
use Rattle.codec.specs.declared.operation.Behaviour.TheVariants as behaviour
use Rattle.codec.specs.declared.operation.Modifier.{Modifier}
use Rattle.codec.specs.declared.operation.Operation.{Operation}
use Rattle.codec.specs.declared.operation.Operation.TheVariants as op
use Rattle.codec.specs.declared.operation.Action.{Action}
use Rattle.codec.specs.declared.operation.Action.TheVariants as action
use Rattle.codec.specs.declared.operation.Fold.{Fold}
use Rattle.codec.specs.declared.operation.Fold.TheVariants as fold
use Rattle.codec.specs.declared.operation.Task.{Task}
use Rattle.codec.specs.declared.operation.Task.TheVariants as task
use Rattle.codec.specs.declared.operation.Calculation.{Calculation}
use Rattle.codec.specs.declared.refusal.Refusal.{Refusal}
use Rattle.codec.specs.declared.refusal.Refusal.TheVariants.{BadNumber, OutOfRange}
use Rattle.codec.specs.Refusals.{err_at}
use Rattle.codec.specs.Numbers.{number_at, signed_at, number_bytes}
use Rattle.codec.specs.NumberLaws.{AreBytes, Stands, stands-join, number-below, number-written, number_read, number-some, signed-written, signed-read}
use Rattle.codec.specs.Headers.{header_of, header_in_range, word_of, free_bits}
use Rattle.codec.specs.Pairs.{ok-pair}
use Rattle.codec.specs.TestLaws.{both, and_both, or-none}
use Rattle.codec.specs.RangeLaws.{reach-small}
use Rattle.codec.specs.HeaderLaws.{IsFree, free-none, free-bits, word_below, header-written, header_read}
use Rattle.codec.specs.Operations.{Decoded, Body, field, any_number, up_to, is_register, is_base, is_size, is_reach, is_displacement, is_count, parameter_coded, behaviour_coded, action_coded, fold_coded, task_coded, open_of, open_at, dimension_at, modifier_at, end_at, run_at, operation_numbered, operation_at, has_one_source, is_second, calculation_at, parameter_code, behaviour_code, action_code, fold_code, task_code, base_in_range, operation_in_range, signed_bytes, operation_bytes, calculation_in_range, calculation_bytes}

-- ---- written, then read

-- a number is read back, with the place behind it as a length
read : (s pre post : List ℕ) (v : ℕ) → v < 4294967296 → s ≡ pre ++ (number_bytes v ++ post)
    → number_at s (length pre) ≡ Some (v, record { at = length (pre ++ number_bytes v) })
read s pre post v h e = rw (length-append pre (number_bytes v)) (number-written s pre post v h e)

-- the same for an offset or a stride
read-signed : (s pre post : List ℕ) (z : ℤ) → is_reach z ≡ true → s ≡ pre ++ (signed_bytes z ++ post)
    → signed_at s (length pre) ≡ Some (z, record { at = length (pre ++ signed_bytes z) })
read-signed s pre post z h e = rw (length-append pre (signed_bytes z)) (signed-written s pre post z (reach-small z h).0 e)

-- what is at most so much is below 2^32
most : (v k : ℕ) → leb v k ≡ true → k < 4294967296 → v < 4294967296
most v k e h = omega (arith, leb-true v k e)

-- an integer that is not negative is its absolute value
abs-back : (z : ℤ) → non_neg z ≡ true → pos (nat_abs z) ≡ z
abs-back (pos n) e = refl
abs-back (negsuc n) e = absurd (let z : ◌≡◌ {A = ℕ} 0 1 = cc in omega arith)

-- the codes of parameters are 0 to 2
pub parameter-range : (p : Parameter) → leb (parameter_code p) 2 ≡ true
parameter-range parameter.Size = refl
parameter-range parameter.Offset = refl
parameter-range parameter.Stride = refl

-- a parameter is read back from its code
parameter-back : (p : Parameter) → parameter_coded (parameter_code p) ≡ p
parameter-back parameter.Size = refl
parameter-back parameter.Offset = refl
parameter-back parameter.Stride = refl

-- the codes of behaviours are 0 and 1
pub behaviour-range : (b : Behaviour) → leb (behaviour_code b) 1 ≡ true
behaviour-range behaviour.Add = refl
behaviour-range behaviour.Subtract = refl

-- a behaviour is read back from its code
behaviour-back : (b : Behaviour) → behaviour_coded (behaviour_code b) ≡ b
behaviour-back behaviour.Add = refl
behaviour-back behaviour.Subtract = refl

-- the codes of actions are 0 to 7
pub action-range : (a : Action) → leb (action_code a) 7 ≡ true
action-range action.Copy = refl
action-range action.Add = refl
action-range action.Subtract = refl
action-range action.And = refl
action-range action.Or = refl
action-range action.Xor = refl
action-range action.Smaller = refl
action-range action.Larger = refl

-- an action and its code
pub action-back : (a : Action) → action_coded (action_code a) ≡ a
action-back action.Copy = refl
action-back action.Add = refl
action-back action.Subtract = refl
action-back action.And = refl
action-back action.Or = refl
action-back action.Xor = refl
action-back action.Smaller = refl
action-back action.Larger = refl

-- the codes of folds are at most 11
fold-range : (f : Fold) → fold_code f ≤ 11
fold-range fold.Sum = omega arith
fold-range fold.Smallest = omega arith
fold-range fold.Largest = omega arith
fold-range fold.FirstLargest = omega arith

-- the codes of calculations are 0 to 11
pub task-range : (t : Task) → task_code t ≤ 11
task-range (task.Each a) = omega (arith, leb-true (action_code a) 7 (action-range a))
task-range (task.All f) = fold-range f

-- what a calculation does and its code
task-back : (t : Task) → task_coded (task_code t) ≡ t
task-back (task.Each a) = rw (action-range a, action-back a)
task-back (task.All fold.Sum) = refl
task-back (task.All fold.Smallest) = refl
task-back (task.All fold.Largest) = refl
task-back (task.All fold.FirstLargest) = refl

-- three texts side by side in `s`: each stands behind those before it
record Three (s pre post n0 n1 n2 : List ℕ) : Type 0 where
  e0 : s ≡ pre ++ (n0 ++ (n1 ++ (n2 ++ post)))
  e1 : s ≡ (pre ++ n0) ++ (n1 ++ (n2 ++ post))
  e2 : s ≡ (pre ++ n0 ++ n1) ++ (n2 ++ post)
  g : pre ++ n0 ++ n1 ++ n2 ≡ pre ++ (n0 ++ n1 ++ n2)

-- the same from the three as one text
three : (s pre post n0 n1 n2 : List ℕ) → s ≡ pre ++ ((n0 ++ n1 ++ n2) ++ post) → Three s pre post n0 n1 n2
three s pre post n0 n1 n2 e =
    record { e0 = e ∙ simp append_assoc; e1 = e ∙ simp append_assoc; e2 = e ∙ simp append_assoc; g = simp append_assoc }

module _ (s pre post : List ℕ) where
  -- an open that was written is read back
  open-written : (free : ℕ) (h : Header) (b : Bytes) → IsFree free → operation_in_range (op.Open h b) ≡ true → s ≡ pre ++ (operation_bytes free (op.Open h b) ++ post)
      → operation_at s (length pre) ≡ Ok (op.Open h b, record { at = length (pre ++ operation_bytes free (op.Open h b)) })
  unfolding operation_in_range operation_bytes operation_at open_at
  open-written free h b f r e =
      let rh = (both (header_in_range h) (base_in_range b) r).0 in
      let rb = both (non_neg b.0) (is_base (nat_abs b.0)) (both (header_in_range h) (base_in_range b) r).1 in
      let n0 = number_bytes 1 in
      let n1 = number_bytes (word_of h + free) in
      let n2 = number_bytes (nat_abs b.0) in
      let k = three s pre post n0 n1 n2 e in
      rw (
        read s pre _ 1 (omega arith) k.e0,
        read s (pre ++ n0) _ (word_of h + free) (word_below h free rh f) k.e1,
        read s (pre ++ n0 ++ n1) _ (nat_abs b.0) (most (nat_abs b.0) 1048576 rb.1 (omega arith)) k.e2,
        rb.1,
        header-written h free rh f,
        abs-back b.0 rb.0,
        k.g,
      )

  -- a dimension that was written is read back
  dimension-written : (free : ℕ) (d : Dimension) → operation_in_range (op.Dimension d) ≡ true → s ≡ pre ++ (operation_bytes free (op.Dimension d) ++ post)
      → operation_at s (length pre) ≡ Ok (op.Dimension d, record { at = length (pre ++ operation_bytes free (op.Dimension d)) })
  unfolding operation_in_range operation_bytes operation_at dimension_at
  dimension-written free d r e =
      let r3 = both (is_register d.register && is_reach d.offset.0 && is_size d.size) (is_reach d.stride.0) r in
      let r2 = both (is_register d.register && is_reach d.offset.0) (is_size d.size) r3.0 in
      let r1 = both (is_register d.register) (is_reach d.offset.0) r2.0 in
      let n0 = number_bytes 2 in
      let n1 = number_bytes d.register in
      let n2 = signed_bytes d.offset.0 in
      let n3 = number_bytes d.size in
      let n4 = signed_bytes d.stride.0 in
      let e0 : s ≡ pre ++ (n0 ++ (n1 ++ (n2 ++ (n3 ++ (n4 ++ post))))) = e ∙ simp append_assoc in
      let e1 : s ≡ (pre ++ n0) ++ (n1 ++ (n2 ++ (n3 ++ (n4 ++ post)))) = e ∙ simp append_assoc in
      let e2 : s ≡ (pre ++ n0 ++ n1) ++ (n2 ++ (n3 ++ (n4 ++ post))) = e ∙ simp append_assoc in
      let e3 : s ≡ (pre ++ n0 ++ n1 ++ n2) ++ (n3 ++ (n4 ++ post)) = e ∙ simp append_assoc in
      let e4 : s ≡ (pre ++ n0 ++ n1 ++ n2 ++ n3) ++ (n4 ++ post) = e ∙ simp append_assoc in
      let g : pre ++ n0 ++ n1 ++ n2 ++ n3 ++ n4 ≡ pre ++ (n0 ++ n1 ++ n2 ++ n3 ++ n4) = simp append_assoc in
      rw (
        read s pre _ 2 (omega arith) e0,
        read s (pre ++ n0) _ d.register (most d.register 31 r1.0 (omega arith)) e1,
        r1.0,
        read-signed s (pre ++ n0 ++ n1) _ d.offset.0 r1.1 e2,
        r1.1,
        read s (pre ++ n0 ++ n1 ++ n2) _ d.size (most d.size 4096 r2.1 (omega arith)) e3,
        r2.1,
        read-signed s (pre ++ n0 ++ n1 ++ n2 ++ n3) _ d.stride.0 r3.1 e4,
        r3.1,
        g,
      )

  -- a modifier that was written is read back
  modifier-written : (free : ℕ) (m : Modifier) → operation_in_range (op.Modifier m) ≡ true → s ≡ pre ++ (operation_bytes free (op.Modifier m) ++ post)
      → operation_at s (length pre) ≡ Ok (op.Modifier m, record { at = length (pre ++ operation_bytes free (op.Modifier m)) })
  unfolding operation_in_range operation_bytes operation_at modifier_at
  modifier-written free m r e =
      let r2 = both (is_register m.register && up_to 6 m.target) (is_displacement m.displacement) r in
      let r1 = both (is_register m.register) (up_to 6 m.target) r2.0 in
      let rp = parameter-range m.parameter in
      let rb = behaviour-range m.behaviour in
      let n0 = number_bytes 3 in
      let n1 = number_bytes m.register in
      let n2 = number_bytes m.target in
      let n3 = number_bytes (parameter_code m.parameter) in
      let n4 = number_bytes (behaviour_code m.behaviour) in
      let n5 = number_bytes m.displacement in
      let e0 : s ≡ pre ++ (n0 ++ (n1 ++ (n2 ++ (n3 ++ (n4 ++ (n5 ++ post)))))) = e ∙ simp append_assoc in
      let e1 : s ≡ (pre ++ n0) ++ (n1 ++ (n2 ++ (n3 ++ (n4 ++ (n5 ++ post))))) = e ∙ simp append_assoc in
      let e2 : s ≡ (pre ++ n0 ++ n1) ++ (n2 ++ (n3 ++ (n4 ++ (n5 ++ post)))) = e ∙ simp append_assoc in
      let e3 : s ≡ (pre ++ n0 ++ n1 ++ n2) ++ (n3 ++ (n4 ++ (n5 ++ post))) = e ∙ simp append_assoc in
      let e4 : s ≡ (pre ++ n0 ++ n1 ++ n2 ++ n3) ++ (n4 ++ (n5 ++ post)) = e ∙ simp append_assoc in
      let e5 : s ≡ (pre ++ n0 ++ n1 ++ n2 ++ n3 ++ n4) ++ (n5 ++ post) = e ∙ simp append_assoc in
      let g : pre ++ n0 ++ n1 ++ n2 ++ n3 ++ n4 ++ n5 ≡ pre ++ (n0 ++ n1 ++ n2 ++ n3 ++ n4 ++ n5) = simp append_assoc in
      rw (
        read s pre _ 3 (omega arith) e0,
        read s (pre ++ n0) _ m.register (most m.register 31 r1.0 (omega arith)) e1,
        r1.0,
        read s (pre ++ n0 ++ n1) _ m.target (most m.target 6 r1.1 (omega arith)) e2,
        r1.1,
        read s (pre ++ n0 ++ n1 ++ n2) _ (parameter_code m.parameter) (most (parameter_code m.parameter) 2 rp (omega arith)) e3,
        rp,
        read s (pre ++ n0 ++ n1 ++ n2 ++ n3) _ (behaviour_code m.behaviour) (most (behaviour_code m.behaviour) 1 rb (omega arith)) e4,
        rb,
        read s (pre ++ n0 ++ n1 ++ n2 ++ n3 ++ n4) _ m.displacement (most m.displacement 1048576 r2.1 (omega arith)) e5,
        r2.1,
        parameter-back m.parameter,
        behaviour-back m.behaviour,
        g,
      )

  -- an end that was written is read back
  end-written : (free register : ℕ) → operation_in_range (op.End register) ≡ true → s ≡ pre ++ (operation_bytes free (op.End register) ++ post)
      → operation_at s (length pre) ≡ Ok (op.End register, record { at = length (pre ++ operation_bytes free (op.End register)) })
  unfolding operation_in_range operation_bytes operation_at end_at
  end-written free register r e =
      let n0 = number_bytes 4 in
      let n1 = number_bytes register in
      let e0 : s ≡ pre ++ (n0 ++ (n1 ++ post)) = e ∙ simp append_assoc in
      let e1 : s ≡ (pre ++ n0) ++ (n1 ++ post) = e ∙ simp append_assoc in
      let g : pre ++ n0 ++ n1 ≡ pre ++ (n0 ++ n1) = simp append_assoc in
      rw (read s pre _ 4 (omega arith) e0, read s (pre ++ n0) _ register (most register 31 r (omega arith)) e1, r, g)

  -- a run that was written is read back, up to its count
  run-written : (free register count : ℕ) → operation_in_range (op.Run register count) ≡ true → s ≡ pre ++ (operation_bytes free (op.Run register count) ++ post)
      → operation_at s (length pre) ≡ Ok (op.Run register count, record { at = length (pre ++ operation_bytes free (op.Run register count)) })
  unfolding operation_in_range operation_bytes operation_at run_at
  run-written free register count r e =
      let rr = both (is_register register) (is_count count) r in
      let n0 = number_bytes 5 in
      let n1 = number_bytes register in
      let n2 = number_bytes count in
      let k = three s pre post n0 n1 n2 e in
      rw (
        read s pre _ 5 (omega arith) k.e0,
        read s (pre ++ n0) _ register (most register 31 rr.0 (omega arith)) k.e1,
        rr.0,
        read s (pre ++ n0 ++ n1) _ count (most count 16 (both (leb 1 count) (leb count 16) rr.1).1 (omega arith)) k.e2,
        rr.1,
        k.g,
      )

  -- an operation in range that was written is read back, after anything and before anything
  pub operation-written : (free : ℕ) (o : Operation) → IsFree free → operation_in_range o ≡ true → s ≡ pre ++ (operation_bytes free o ++ post)
      → operation_at s (length pre) ≡ Ok (o, record { at = length (pre ++ operation_bytes free o) })
  operation-written free (op.Open h b) f r e = open-written free h b f r e
  operation-written free (op.Dimension d) f r e = dimension-written free d r e
  operation-written free (op.Modifier m) f r e = modifier-written free m r e
  operation-written free (op.End register) f r e = end-written free register r e
  operation-written free (op.Run register count) f r e = run-written free register count r e

  -- a calculation in range that was written is read back, after anything and before anything
  pub calculation-written : (c : Calculation) → calculation_in_range c ≡ true → s ≡ pre ++ (calculation_bytes c ++ post)
      → calculation_at s (length pre) ≡ Ok (c, record { at = length (pre ++ calculation_bytes c) })
  unfolding calculation_bytes calculation_at
  calculation-written c r e =
      let k = task_code c.task in
      let ra = le-leb k 11 (task-range c.task) in
      let r2 = both (is_register c.destination && is_register c.first) (is_second k c.first c.second) r in
      let r1 = both (is_register c.destination) (is_register c.first) r2.0 in
      let r3 = both (is_register c.second) (not (has_one_source k) || eqb c.second c.first) r2.1 in
      let n0 = number_bytes k in
      let n1 = number_bytes c.destination in
      let n2 = number_bytes c.first in
      let n3 = number_bytes c.second in
      let e0 : s ≡ pre ++ (n0 ++ (n1 ++ (n2 ++ (n3 ++ post)))) = e ∙ simp append_assoc in
      let e1 : s ≡ (pre ++ n0) ++ (n1 ++ (n2 ++ (n3 ++ post))) = e ∙ simp append_assoc in
      let e2 : s ≡ (pre ++ n0 ++ n1) ++ (n2 ++ (n3 ++ post)) = e ∙ simp append_assoc in
      let e3 : s ≡ (pre ++ n0 ++ n1 ++ n2) ++ (n3 ++ post) = e ∙ simp append_assoc in
      let g : pre ++ n0 ++ n1 ++ n2 ++ n3 ≡ pre ++ (n0 ++ n1 ++ n2 ++ n3) = simp append_assoc in
      rw (
        read s pre _ k (most k 11 ra (omega arith)) e0,
        ra,
        read s (pre ++ n0) _ c.destination (most c.destination 31 r1.0 (omega arith)) e1,
        r1.0,
        read s (pre ++ n0 ++ n1) _ c.first (most c.first 31 r1.1 (omega arith)) e2,
        r1.1,
        read s (pre ++ n0 ++ n1 ++ n2) _ c.second (most c.second 31 r3.0 (omega arith)) e3,
        r2.1,
        task-back c.task,
        g,
      )

-- ---- read, then written

-- a field that was not refused: its number, in range, and what came after it
record Good {A B : Type 0} (n : Option (B × Cursor)) (allowed : B → Bool) (next : B → ℕ → A) (a : A) : Type 0 where
  v : B
  c : Cursor
  got : n ≡ Some (v, c)
  fine : allowed v ≡ true
  went : next v c.at ≡ a

-- an answer that is no refusal comes from a field that was not refused
good : {A B : Type 0} (refused : Refusal → A) (n : Option (B × Cursor)) (allowed : B → Bool) (next : B → ℕ → A) (a : A) → ((x : Refusal) → refused x ≡ a → ⊥)
    → field refused n allowed next ≡ a → Good n allowed next a
good refused None allowed next a never e = absurd (never BadNumber e)
good refused (Some (v, c)) allowed next a never e = go (allowed v) refl e
  where
    go : (t : Bool) → allowed v ≡ t → cond t (next v c.at) (refused OutOfRange) ≡ a → Good (Some (v, c)) allowed next a
    go true t q = record { v = v; c = c; got = refl; fine = t; went = q }
    go false t q = absurd (never OutOfRange q)

-- what stands where an operation was read: it is in range, and its bytes are those written for it, free bits aside
pub record Decoding (s : List ℕ) (at : ℕ) (o : Operation) (to : ℕ) : Type 0 where
  pub free : ℕ
  pub is_free : IsFree free
  pub range : operation_in_range o ≡ true
  pub stands : Stands s at (operation_bytes free o) to
  pub on : at < to

-- a refusal is no operation
not-refused : (place : ℕ) (o : Operation) (c : Cursor) (x : Refusal) → ◌≡◌ {A = Decoded} (err_at place x) (Ok (o, c)) → ⊥
not-refused place o c x e = let z : ◌≡◌ {A = ℕ} 0 1 = cc in omega arith

-- an operation has at least one byte
operation-some : (free : ℕ) (o : Operation) → 0 < length (operation_bytes free o)
unfolding operation_bytes
operation-some free (op.Open h b) = simp length-append (omega (arith, number-some 1))
operation-some free (op.Dimension d) = simp length-append (omega (arith, number-some 2))
operation-some free (op.Modifier m) = simp length-append (omega (arith, number-some 3))
operation-some free (op.End register) = simp length-append (omega (arith, number-some 4))
operation-some free (op.Run register count) = simp length-append (omega (arith, number-some 5))

-- a calculation has at least one byte
calculation-some : (c : Calculation) → 0 < length (calculation_bytes c)
unfolding calculation_bytes
calculation-some c = simp length-append (omega (arith, number-some (task_code c.task)))

-- an operation in range whose bytes stand there
standing : (s : List ℕ) (place to free : ℕ) (o : Operation) → IsFree free → operation_in_range o ≡ true → Stands s place (operation_bytes free o) to → Decoding s place o to
standing s place to free o f r k =
    record { free = free; is_free = f; range = r; stands = k; on = omega (arith, k.behind, operation-some free o) }

-- the same operation with the same place behind it: what stands where one was read stands for the other
same : (s : List ℕ) (place : ℕ) (a o : Operation) (d c : Cursor) → ◌≡◌ {A = Decoded} (Ok (a, d)) (Ok (o, c)) → Decoding s place a d.at → Decoding s place o c.at
same s place a o d c e k = let p = ok-pair e in rw (p.0, p.1) at k

-- a code from 0 to 2 is that of the parameter that it stands for
parameter-there : (n : ℕ) → leb n 2 ≡ true → parameter_code (parameter_coded n) ≡ n
parameter-there zero e = refl
parameter-there (suc zero) e = refl
parameter-there (suc (suc n)) e = omega (arith, leb-true (suc (suc n)) 2 e)

-- a code 0 or 1 is that of the behaviour that it stands for
behaviour-there : (n : ℕ) → leb n 1 ≡ true → behaviour_code (behaviour_coded n) ≡ n
behaviour-there zero e = refl
behaviour-there (suc n) e = omega (arith, leb-true (suc n) 1 e)

-- a code and its action
pub action-there : (n : ℕ) → leb n 7 ≡ true → action_code (action_coded n) ≡ n
action-there zero e = refl
action-there (suc zero) e = refl
action-there (suc (suc zero)) e = refl
action-there (suc (suc (suc zero))) e = refl
action-there (suc (suc (suc (suc zero)))) e = refl
action-there (suc (suc (suc (suc (suc zero))))) e = refl
action-there (suc (suc (suc (suc (suc (suc zero)))))) e = refl
action-there (suc (suc (suc (suc (suc (suc (suc n))))))) e = omega (arith, leb-true (suc (suc (suc (suc (suc (suc (suc n))))))) 7 e)

-- a code from 8 to 11 is that of the fold that it stands for
fold-there : (n : ℕ) → 8 ≤ n → n ≤ 11 → fold_code (fold_coded n) ≡ n
fold-there n h k = go (n - 8) (omega arith)
  where
    go : (i : ℕ) → i + 8 ≡ n → fold_code (fold_coded n) ≡ n
    go zero e = rw (sym e)
    go (suc zero) e = rw (sym e)
    go (suc (suc zero)) e = rw (sym e)
    go (suc (suc (suc zero))) e = rw (sym e)
    go (suc (suc (suc (suc i)))) e = absurd (omega arith)

-- a code from 0 to 11 is that of what it stands for
pub task-there : (n : ℕ) → leb n 11 ≡ true → task_code (task_coded n) ≡ n
task-there n e = go (leb n 7) refl
  where
    go : (b : Bool) → leb n 7 ≡ b → task_code (task_coded n) ≡ n
    go true f = rw f (action-there n f)
    go false f = rw f (fold-there n (omega (arith, leb-false n 7 f)) (omega (arith, leb-true n 11 e)))

-- 02, 2/14 leaves the codes up to 7 as they were: what they stand for
pub task-before : (n : ℕ) → n ≤ 7 → task_coded n ≡ task.Each (action_coded n)
task-before n h = rw (le-leb n 7 h)

-- and which second source they take
pub second-before : (n first v : ℕ) → n ≤ 7 → is_second n first v ≡ (is_register v && (not (eqb n 0) || eqb v first))
second-before n first v h = ap (λ b. is_register v && (not b || eqb v first)) (ap (λ b. eqb n 0 || b) (le-ltb 7 n h) ∙ or-none (eqb n 0))

-- a header word that was not refused
opened-good : (w : Result Header Refusal) (place base to : ℕ) (o : Operation) (c : Cursor) → open_of (err_at place) w base to ≡ Ok (o, c)
    → (h : Header) × (w ≡ Ok h) × (◌≡◌ {A = Decoded} (Ok (op.Open h (record { 0 = pos base }), record { at = to })) (Ok (o, c)))
opened-good (Err x) place base to o c e = absurd (not-refused place o c x e)
opened-good (Ok h) place base to o c e = (h, refl, e)

-- a dimension whose numbers stand side by side
dimension-stands : (s : List ℕ) (place at a1 a2 a3 a4 r n : ℕ) (f t : ℤ) → is_register r ≡ true → is_reach f ≡ true → is_size n ≡ true → is_reach t ≡ true
    → Stands s place (number_bytes 2) at → Stands s at (number_bytes r) a1 → Stands s a1 (signed_bytes f) a2 → Stands s a2 (number_bytes n) a3 → Stands s a3 (signed_bytes t) a4
    → (o : Operation) (c : Cursor)
    → ◌≡◌ {A = Decoded} (Ok (op.Dimension (record { register = r; offset = record { 0 = f }; size = n; stride = record { 0 = t } }), record { at = a4 })) (Ok (o, c))
    → Decoding s place o c.at
unfolding operation_in_range operation_bytes
dimension-stands s place at a1 a2 a3 a4 r n f t hr hf hn ht k0 k1 k2 k3 k4 o c e =
    same s place _ o (record { at = a4 }) c e
    (standing s place a4 0 _ free-none
    (and_both _ _ (and_both _ _ (and_both _ _ hr hf) hn) ht)
    (stands-join (stands-join (stands-join (stands-join k0 k1) k2) k3) k4))

-- a modifier whose numbers stand side by side
modifier-stands : (s : List ℕ) (place at a1 a2 a3 a4 a5 r g q b d : ℕ)
    → is_register r ≡ true → up_to 6 g ≡ true → up_to 2 q ≡ true → up_to 1 b ≡ true → is_displacement d ≡ true
    → Stands s place (number_bytes 3) at → Stands s at (number_bytes r) a1 → Stands s a1 (number_bytes g) a2 → Stands s a2 (number_bytes q) a3
    → Stands s a3 (number_bytes b) a4 → Stands s a4 (number_bytes d) a5
    → (o : Operation) (c : Cursor)
    → ◌≡◌ {A = Decoded} (Ok (op.Modifier (record { register = r; target = g; parameter = parameter_coded q; behaviour = behaviour_coded b; displacement = d }), record { at = a5 })) (Ok (o, c))
    → Decoding s place o c.at
unfolding operation_in_range operation_bytes
modifier-stands s place at a1 a2 a3 a4 a5 r g q b d hr hg hq hb hd k0 k1 k2 k3 k4 k5 o c e =
    let j3 : Stands s a2 (number_bytes (parameter_code (parameter_coded q))) a3 = rw (parameter-there q hq) k3 in
    let j4 : Stands s a3 (number_bytes (behaviour_code (behaviour_coded b))) a4 = rw (behaviour-there b hb) k4 in
    same s place _ o (record { at = a5 }) c e
    (standing s place a5 0 _ free-none
    (and_both _ _ (and_both _ _ hr hg) hd)
    (stands-join (stands-join (stands-join (stands-join (stands-join k0 k1) k2) j3) j4) k5))

module _ (s : List ℕ) (place at : ℕ) (o : Operation) (c : Cursor) (p : AreBytes s) where
  -- an open that was read stands as it is written, free bits aside
  open-read : Stands s place (number_bytes 1) at → open_at s (err_at place) at ≡ Ok (o, c) → Decoding s place o c.at
  unfolding open_at operation_in_range operation_bytes
  open-read k e =
      let f = good _ (number_at s at) any_number _ _ (not-refused place o c) e in
      let g = good _ (number_at s f.c.at) is_base _ _ (not-refused place o c) f.went in
      let t = opened-good (header_of f.v) place g.v g.c.at o c g.went in
      let r = header_read f.v t.0 (number-below s at f.v f.c f.got) t.1 in
      let n1 : Stands s at (number_bytes (word_of t.0 + free_bits f.v)) f.c.at = rw r.0 at (number_read s at f.v f.c p f.got) in
      let n2 = number_read s f.c.at g.v g.c p g.got in
      same s place (op.Open t.0 (record { 0 = pos g.v })) o (record { at = g.c.at }) c t.2
      (standing s place g.c.at (free_bits f.v) (op.Open t.0 (record { 0 = pos g.v })) (free-bits f.v)
      (and_both _ _ r.1 g.fine)
      (stands-join (stands-join k n1) n2))

  -- a dimension that was read stands as it is written
  dimension-read : Stands s place (number_bytes 2) at → dimension_at s (err_at place) at ≡ Ok (o, c) → Decoding s place o c.at
  unfolding dimension_at
  dimension-read k e =
      let f1 = good _ (number_at s at) is_register _ _ (not-refused place o c) e in
      let f2 = good _ (signed_at s f1.c.at) is_reach _ _ (not-refused place o c) f1.went in
      let f3 = good _ (number_at s f2.c.at) is_size _ _ (not-refused place o c) f2.went in
      let f4 = good _ (signed_at s f3.c.at) is_reach _ _ (not-refused place o c) f3.went in
      dimension-stands s place at f1.c.at f2.c.at f3.c.at f4.c.at f1.v f3.v f2.v f4.v f1.fine f2.fine f3.fine f4.fine k
      (number_read s at f1.v f1.c p f1.got)
      (signed-read s f1.c.at f2.v f2.c p f2.got)
      (number_read s f2.c.at f3.v f3.c p f3.got)
      (signed-read s f3.c.at f4.v f4.c p f4.got)
      o c f4.went

  -- a modifier that was read stands as it is written
  modifier-read : Stands s place (number_bytes 3) at → modifier_at s (err_at place) at ≡ Ok (o, c) → Decoding s place o c.at
  unfolding modifier_at
  modifier-read k e =
      let f1 = good _ (number_at s at) is_register _ _ (not-refused place o c) e in
      let f2 = good _ (number_at s f1.c.at) (up_to 6) _ _ (not-refused place o c) f1.went in
      let f3 = good _ (number_at s f2.c.at) (up_to 2) _ _ (not-refused place o c) f2.went in
      let f4 = good _ (number_at s f3.c.at) (up_to 1) _ _ (not-refused place o c) f3.went in
      let f5 = good _ (number_at s f4.c.at) is_displacement
      (λ x to. Ok (op.Modifier (record { register = f1.v; target = f2.v; parameter = parameter_coded f3.v; behaviour = behaviour_coded f4.v; displacement = x }), record { at = to })) _ (not-refused place o c) f4.went in
      modifier-stands s place at f1.c.at f2.c.at f3.c.at f4.c.at f5.c.at f1.v f2.v f3.v f4.v f5.v f1.fine f2.fine f3.fine f4.fine f5.fine k
      (number_read s at f1.v f1.c p f1.got)
      (number_read s f1.c.at f2.v f2.c p f2.got)
      (number_read s f2.c.at f3.v f3.c p f3.got)
      (number_read s f3.c.at f4.v f4.c p f4.got)
      (number_read s f4.c.at f5.v f5.c p f5.got)
      o c f5.went

  -- an end that was read stands as it is written
  end_read : Stands s place (number_bytes 4) at → end_at s (err_at place) at ≡ Ok (o, c) → Decoding s place o c.at
  unfolding end_at operation_in_range operation_bytes
  end_read k e =
      let f = good _ (number_at s at) is_register _ _ (not-refused place o c) e in
      same s place (op.End f.v) o (record { at = f.c.at }) c f.went
      (standing s place f.c.at 0 (op.End f.v) free-none f.fine
      (stands-join k (number_read s at f.v f.c p f.got)))

  -- a run that was read, up to its count, stands as it is written
  run-read : Stands s place (number_bytes 5) at → run_at s (err_at place) at ≡ Ok (o, c) → Decoding s place o c.at
  unfolding run_at operation_in_range operation_bytes
  run-read k e =
      let f = good _ (number_at s at) is_register _ _ (not-refused place o c) e in
      let g = good _ (number_at s f.c.at) is_count _ _ (not-refused place o c) f.went in
      same s place (op.Run f.v g.v) o (record { at = g.c.at }) c g.went
      (standing s place g.c.at 0 (op.Run f.v g.v) free-none (and_both _ _ f.fine g.fine)
      (stands-join (stands-join k (number_read s at f.v f.c p f.got)) (number_read s f.c.at g.v g.c p g.got)))

  -- an operation of any kind that was read stands as it is written, free bits aside
  kind-read : (kind : ℕ) → Stands s place (number_bytes kind) at → operation_numbered s (err_at place) kind at ≡ Ok (o, c) → Decoding s place o c.at
  kind-read zero k e = absurd (not-refused place o c OutOfRange e)
  kind-read (suc zero) k e = open-read k e
  kind-read (suc (suc zero)) k e = dimension-read k e
  kind-read (suc (suc (suc zero))) k e = modifier-read k e
  kind-read (suc (suc (suc (suc zero)))) k e = end_read k e
  kind-read (suc (suc (suc (suc (suc zero))))) k e = run-read k e
  kind-read (suc (suc (suc (suc (suc (suc n)))))) k e = absurd (not-refused place o c OutOfRange e)

-- an operation that was read is in range, and its bytes are those that are written for it, free bits aside
pub operation-read : (s : List ℕ) (at : ℕ) (o : Operation) (c : Cursor) → AreBytes s → operation_at s at ≡ Ok (o, c) → Decoding s at o c.at
unfolding operation_at
operation-read s at o c p e =
    let f = good _ (number_at s at) any_number _ _ (not-refused at o c) e in
    kind-read s at f.c.at o c p f.v (number_read s at f.v f.c p f.got) f.went

-- what stands where a calculation was read: it is in range, and its bytes are those written for it
pub record Bodying (s : List ℕ) (at : ℕ) (b : Calculation) (to : ℕ) : Type 0 where
  pub range : calculation_in_range b ≡ true
  pub stands : Stands s at (calculation_bytes b) to
  pub on : at < to

-- a refusal is no calculation
not-refused-body : (place : ℕ) (b : Calculation) (c : Cursor) (x : Refusal) → ◌≡◌ {A = Body} (err_at place x) (Ok (b, c)) → ⊥
not-refused-body place b c x e = let z : ◌≡◌ {A = ℕ} 0 1 = cc in omega arith

-- the same calculation with the same place behind it: what stands where one was read stands for the other
same_body : (s : List ℕ) (place : ℕ) (a b : Calculation) (d c : Cursor) → ◌≡◌ {A = Body} (Ok (a, d)) (Ok (b, c)) → Bodying s place a d.at → Bodying s place b c.at
same_body s place a b d c e k = let p = ok-pair e in rw (p.0, p.1) at k

-- a calculation whose numbers stand side by side
calculation-stands : (s : List ℕ) (at a1 a2 a3 a4 k d f n : ℕ) → up_to 11 k ≡ true → is_register d ≡ true → is_register f ≡ true → is_second k f n ≡ true
    → Stands s at (number_bytes k) a1 → Stands s a1 (number_bytes d) a2 → Stands s a2 (number_bytes f) a3 → Stands s a3 (number_bytes n) a4
    → (o : Calculation) (c : Cursor)
    → ◌≡◌ {A = Body} (Ok (record { task = task_coded k; destination = d; first = f; second = n }, record { at = a4 })) (Ok (o, c))
    → Bodying s at o c.at
unfolding calculation_bytes
calculation-stands s at a1 a2 a3 a4 k d f n hk hd hf hn k1 k2 k3 k4 o c e =
    let b : Calculation = record { task = task_coded k; destination = d; first = f; second = n } in
    let j1 : Stands s at (number_bytes (task_code (task_coded k))) a1 = rw (task-there k hk) k1 in
    let r : is_second (task_code (task_coded k)) f n ≡ true = rw (task-there k hk) hn in
    let j : Stands s at (calculation_bytes b) a4 = stands-join (stands-join (stands-join j1 k2) k3) k4 in
    same_body s at b o (record { at = a4 }) c e
    (record { range = and_both _ _ (and_both _ _ hd hf) r; stands = j; on = omega (arith, j.behind, calculation-some b) })

-- a calculation that was read is in range, and its bytes are those that are written for it
pub calculation-read : (s : List ℕ) (at : ℕ) (b : Calculation) (c : Cursor) → AreBytes s → calculation_at s at ≡ Ok (b, c) → Bodying s at b c.at
unfolding calculation_at
calculation-read s at b c p e =
    let f1 = good _ (number_at s at) (up_to 11) _ _ (not-refused-body at b c) e in
    let f2 = good _ (number_at s f1.c.at) is_register _ _ (not-refused-body at b c) f1.went in
    let f3 = good _ (number_at s f2.c.at) is_register _ _ (not-refused-body at b c) f2.went in
    let f4 = good _ (number_at s f3.c.at) (is_second f1.v f3.v) _ _ (not-refused-body at b c) f3.went in
    calculation-stands s at f1.c.at f2.c.at f3.c.at f4.c.at f1.v f2.v f3.v f4.v f1.fine f2.fine f3.fine f4.fine
    (number_read s at f1.v f1.c p f1.got)
    (number_read s f1.c.at f2.v f2.c p f2.got)
    (number_read s f2.c.at f3.v f3.c p f3.got)
    (number_read s f3.c.at f4.v f4.c p f4.got)
    b c f4.went
