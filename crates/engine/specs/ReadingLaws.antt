-- Operations and calculations read, in the plain words of Promise 1: what stands in a sheet of bytes is what is read there, and a fault
-- is why nothing is.
--
--   word-plain                              a header word at fault
--   unread-refused, refused-unread          an operation that cannot be read
--   in-range                                an operation whose numbers are in range
--   written_read, read-written              an operation that stands in the sheet
--   uncalculated-refused, refused-uncalculated   a calculation that cannot be read
--   calculated-read, read-calculated        a calculation that stands in the sheet
use Rattle.std.specs.Prelude.{◌≡◌, ℕ, zero, suc, ◌≤◌, Bool, true, false, cond, not, ◌&&◌, ◌||◌, ◌⊎◌, ◌↔◌, List, [], ◌∷◌, take, drop, ℤ, ◌==◌, nat_le, slice_index, unsigned_abs, Some, None, Result, Ok, Err, Option}
use Rattle.std.proofs.Math.Path.{refl, ap}
use Rattle.std.proofs.Common.{sym, ◌∙◌, subst, inl, inr, eqb-true, eq-eqb, ne_eqb}
use native.Mathlib.Omega.{arith}
use Rattle.std.proofs.lemmas.Bool.{lt-leb, eqb-false, not-true}
use Rattle.codec.specs.declared.header.Header.{Header}
use Rattle.codec.specs.Pairs.{err-same}
use Rattle.codec.specs.TestLaws.{never, and_right}
use Rattle.codec.specs.Refusals.{number_of, is-numbered, err_at}
use Rattle.codec.specs.Numbers.{number_at, signed_of, as_signed, Number}
use Rattle.codec.specs.NumberLaws.{AreBytes}
use Rattle.codec.specs.StandingLaws.{stands-split}
use Rattle.codec.specs.Headers.{bits_of, fixed_bits, clear_bits, header_said, header_of, coupling_in_range}
use Rattle.codec.specs.Operations.{Decoded, Body, field, any_number, open_of, open_at, dimension_at, modifier_at, end_at, run_at, operation_numbered, operation_at, calculation_at, parameter_coded, behaviour_coded, task_coded, task_code, operation_in_range, calculation_in_range}
use Rattle.codec.specs.OperationLaws.{operation-written, operation-read, calculation-written, calculation-read}
use Rattle.codec.specs.declared.number.Cursor.{Cursor}
use Rattle.codec.specs.declared.operation.Operation.{Operation}
use Rattle.codec.specs.declared.operation.Operation.TheVariants as op
use Rattle.codec.specs.declared.operation.Calculation.{Calculation}
use Rattle.codec.specs.declared.refusal.Refusal.{Refusal}
use Rattle.codec.specs.declared.refusal.Refusal.TheVariants.{OutOfRange, FixedBits, NotCarried}
use Rattle.engine.specs.AllowedLaws.{fails, leb-plain, eqb-plain, and-plain, nonneg-plain}
use Rattle.engine.specs.Promise1.{NumberAt, Range, OneSource, fields_of, calculation_fields, NumbersFault, FixedRight, BothClear, WordFault, Unread, UnreadCalculation, CouplingInRange, OperationInRange, OperationAt, CalculationAt}
use Rattle.engine.specs.FieldLaws.{alone-plain, reads, Through, reads-fault, reads-through, reads-gives}

-- ---- header words

-- the fixed bits
fixed_plain : (w : ℕ) → (fixed_bits w ≡ true) ↔ FixedRight w
fixed_plain w =
    let t =
    and-plain _ _
    (and-plain _ _
    (and-plain _ _ (and-plain _ _ (eqb-plain (bits_of 0 7 w) 11) (eqb-plain (bits_of 20 2 w) 0)) (eqb-plain (bits_of 25 2 w) 0))
    (differs (bits_of 27 3 w) 7))
    (unless (bits_of 30 1 w) 1 (bits_of 27 3 w)) in (
      λ e. let h = t.0 e in record { opcode = h.0.0.0.0; bits-20 = h.0.0.0.1; bits-25 = h.0.0.1; coupled = h.0.1; uncoupled = h.1 },
      λ f. t.1 ((((f.opcode, f.bits-20), f.bits-25), f.coupled), f.uncoupled),
    )
  where
    differs : (a b : ℕ) → (not (a == b) ≡ true) ↔ (¬ (a ≡ b))
    differs a b = (λ e. eqb-false a b (not-true (a == b) e), λ h. ap not (ne_eqb a b h))

    unless : (a b c : ℕ) → ((a == b || c == 0) ≡ true) ↔ (¬ (a ≡ b) → c ≡ 0)
    unless a b c = (λ e n. eqb-true c 0 (rw (ne_eqb a b n) at e), λ h. back (a == b) refl h)
      where
        back : (t : Bool) → (a == b) ≡ t → (¬ (a ≡ b) → c ≡ 0) → (t || c == 0) ≡ true
        back true e h = refl
        back false e h = eq-eqb c 0 (h (eqb-false a b e))

-- inds and m
carried-plain : (w : ℕ) → (clear_bits w ≡ true) ↔ BothClear w
carried-plain w =
    let t = and-plain _ _ (eqb-plain (bits_of 24 1 w) 0) (eqb-plain (bits_of 31 1 w) 0) in
    (λ e. record { inds = (t.0 e).0; m = (t.0 e).1 }, λ h. t.1 (h.inds, h.m))

-- a header word at fault
pub word-plain : (w : ℕ) (x : Refusal) → (header_of w ≡ Err x) ↔ WordFault w x
unfolding header_of
word-plain w x = (λ e. there (fixed_bits w) (clear_bits w) refl refl e, back)
  where
    there : (f c : Bool) → fixed_bits w ≡ f → clear_bits w ≡ c → cond f (cond c (Ok (header_said w)) (Err NotCarried)) (Err FixedBits) ≡ Err x
        → WordFault w x
    there true true a b e = absurd (let z : ◌≡◌ {A = ℕ} 0 1 = cc in omega arith)
    there true false a b e = WordFault.carried (let q : x ≡ NotCarried = cc in ap number_of q) ((fixed_plain w).0 a) (λ h. never (sym b ∙ (carried-plain w).1 h))
    there false c a b e = WordFault.fixed (let q : x ≡ FixedBits = cc in ap number_of q) (λ h. never (sym a ∙ (fixed_plain w).1 h))

    back : WordFault w x → cond (fixed_bits w) (cond (clear_bits w) (Ok (header_said w)) (Err NotCarried)) (Err FixedBits) ≡ Err x
    back (WordFault.fixed e n) = rw (fails (fixed_bits w) (fixed_plain w) n, is-numbered x 3 e refl)
    back (WordFault.carried e f n) = rw ((fixed_plain w).1 f, fails (clear_bits w) (carried-plain w) n, is-numbered x 4 e refl)

-- ---- operations

-- what follows the numbers of each kind, nearest first
abbrev end_of : (Refusal → Decoded) → ℕ → List ℕ → ℕ → Decoded
end_of refused zero ns to = refused OutOfRange
end_of refused (suc zero) ns to = open_of refused (header_of (slice_index ns 1)) (slice_index ns 0) to
end_of refused (suc (suc zero)) ns to =
    Ok (op.Dimension (record { register = slice_index ns 3; offset = record { 0 = signed_of (slice_index ns 2) }; size = slice_index ns 1; stride = record { 0 = signed_of (slice_index ns 0) } }), record { at = to })
end_of refused (suc (suc (suc zero))) ns to =
    Ok (
      op.Modifier
          (record {
            register = slice_index ns 4;
            target = slice_index ns 3;
            parameter = parameter_coded (slice_index ns 2);
            behaviour = behaviour_coded (slice_index ns 1);
            displacement = slice_index ns 0;
          }),
      record { at = to },
    )
end_of refused (suc (suc (suc (suc zero)))) ns to = Ok (op.End (slice_index ns 0), record { at = to })
end_of refused (suc (suc (suc (suc (suc zero))))) ns to = Ok (op.Run (slice_index ns 1) (slice_index ns 0), record { at = to })
end_of refused (suc (suc (suc (suc (suc (suc n)))))) ns to = refused OutOfRange

-- a signed number is a number, read as signed
signed-field : {A : Type 0} (refused : Refusal → A) (n : Number) (allowed : ℤ → Bool) (next : ℤ → ℕ → A)
    → field refused (as_signed n) allowed next ≡ field refused n (λ v. allowed (signed_of v)) (λ v. next (signed_of v))
signed-field refused None allowed next = refl
signed-field refused (Some (v, c)) allowed next = refl

-- the operation of a kind is read number by number
kind-reads : (s : List ℕ) (refused : Refusal → Decoded) (k at : ℕ) → operation_numbered s refused k at ≡ reads refused s at [] (fields_of k) (end_of refused k)
unfolding reads open_at dimension_at modifier_at end_at run_at
kind-reads s refused zero at = refl
kind-reads s refused (suc zero) at = refl
kind-reads s refused (suc (suc zero)) at = simp signed-field
kind-reads s refused (suc (suc (suc zero))) at = refl
kind-reads s refused (suc (suc (suc (suc zero)))) at = refl
kind-reads s refused (suc (suc (suc (suc (suc zero))))) at = refl
kind-reads s refused (suc (suc (suc (suc (suc (suc n)))))) at = refl

-- the kind of an operation, 1 to 5
kind-range : (s : List ℕ) (refused : Refusal → Decoded) (k at : ℕ) → operation_numbered s refused k at ≡ cond (nat_le 1 k && nat_le k 5) (operation_numbered s refused k at) (refused OutOfRange)
kind-range s refused zero at = refl
kind-range s refused (suc zero) at = refl
kind-range s refused (suc (suc zero)) at = refl
kind-range s refused (suc (suc (suc zero))) at = refl
kind-range s refused (suc (suc (suc (suc zero)))) at = refl
kind-range s refused (suc (suc (suc (suc (suc zero))))) at = refl
kind-range s refused (suc (suc (suc (suc (suc (suc n)))))) at =
    let k : ℕ = suc (suc (suc (suc (suc (suc n))))) in
    let z : (nat_le 1 k && nat_le k 5) ≡ false = and_right (nat_le 1 k) (nat_le k 5) (lt-leb k 5 (omega arith)) in
    rw z

-- an operation is its kind, then what the kind reads
operation-reads : (s : List ℕ) (at : ℕ)
    → operation_at s at ≡ reads (err_at at) s at [] (Range.between 1 5 ∷ []) (λ ns to. operation_numbered s (err_at at) (slice_index ns 0) to)
unfolding operation_at reads
operation-reads s at = go (number_at s at)
  where
    go : (r : Number) → field (err_at at) r any_number (λ k to. operation_numbered s (err_at at) k to)
        ≡ field (err_at at) r (λ k. nat_le 1 k && nat_le k 5) (λ k to. operation_numbered s (err_at at) k to)
    go None = refl
    go (Some (k, c)) = kind-range s (err_at at) k c.at

module _ (s : List ℕ) (at : ℕ) (p : AreBytes s) where
  -- its kind stands there
  operation-kind : (k to : ℕ) → NumberAt s at k to → (1 ≤ k) × (k ≤ 5)
      → operation_at s at ≡ reads (err_at at) s to [] (fields_of k) (end_of (err_at at) k)
  unfolding Through
  operation-kind k to h r =
      operation-reads s at
      ∙ reads-through (err_at at) s p (λ ns to. operation_numbered s (err_at at) (slice_index ns 0) to) at [] (Range.between 1 5 ∷ []) (k ∷ []) to (k, to, h, r, (refl, refl))
      ∙ kind-reads s (err_at at) k to

  -- an operation that cannot be read is refused, at its first byte
  pub unread-refused : (x : Refusal) → Unread s at x → operation_at s at ≡ err_at at x
  unfolding Through
  unread-refused x (Unread.which h) = operation-reads s at ∙ reads-fault (err_at at) s p _ x at [] (Range.between 1 5 ∷ []) h
  unread-refused x (Unread.field k to h r f) = operation-kind k to h r ∙ reads-fault (err_at at) s p (end_of (err_at at) k) x to [] (fields_of k) f
  unread-refused x (Unread.word a w b base to h1 h2 h3 m f) =
      operation-kind 1 a h1 (omega arith, omega arith)
      ∙ reads-through (err_at at) s p (end_of (err_at at) 1) a [] (fields_of 1) (base ∷ w ∷ []) to (w, b, h2, tt, (base, to, h3, m, (refl, refl)))
      ∙ ap (λ r. open_of (err_at at) r base to) ((word-plain w x).1 f)

  -- a refusal that is another: the same, at the same place
  one : (x y : Refusal) (place : ℕ) → ◌≡◌ {A = Decoded} (err_at at y) (err_at place x) → Unread s at y → (place ≡ at) × Unread s at x
  one x y place e h = let k = err-same e in (sym k.0, subst (Unread s at) k.1 h)

  -- what follows the numbers of a kind refuses no more than a header word
  ends-refused : (x : Refusal) (place k a : ℕ) (ns : List ℕ) (to : ℕ) → NumberAt s at k a → (1 ≤ k) × (k ≤ 5) → Through s a [] (fields_of k) ns to
      → end_of (err_at at) k ns to ≡ err_at place x → (place ≡ at) × Unread s at x
  unfolding Through
  ends-refused x place zero a ns to h r t e = absurd (omega arith)
  ends-refused x place (suc zero) a ns to h r (w, b, h2, u, (base, c, h3, m, (z, y))) e =
      said (header_of w) refl (subst (λ l. open_of (err_at at) (header_of (slice_index l 1)) (slice_index l 0) to ≡ err_at place x) (sym z) e)
    where
      said : (r : Result Header Refusal) → header_of w ≡ r → open_of (err_at at) r base to ≡ err_at place x → (place ≡ at) × Unread s at x
      said (Err y) q e = one x y place e (Unread.word a w b base c h h2 h3 m ((word-plain w y).0 q))
      said (Ok g) q e = absurd (let z : ◌≡◌ {A = ℕ} 0 1 = cc in omega arith)
  ends-refused x place (suc (suc zero)) a ns to h r t e = absurd (let z : ◌≡◌ {A = ℕ} 0 1 = cc in omega arith)
  ends-refused x place (suc (suc (suc zero))) a ns to h r t e = absurd (let z : ◌≡◌ {A = ℕ} 0 1 = cc in omega arith)
  ends-refused x place (suc (suc (suc (suc zero)))) a ns to h r t e = absurd (let z : ◌≡◌ {A = ℕ} 0 1 = cc in omega arith)
  ends-refused x place (suc (suc (suc (suc (suc zero))))) a ns to h r t e = absurd (let z : ◌≡◌ {A = ℕ} 0 1 = cc in omega arith)
  ends-refused x place (suc (suc (suc (suc (suc (suc n)))))) a ns to h r t e = absurd (omega arith)

  -- one that is refused cannot be read; the place of the refusal is its first byte
  pub refused-unread : (x : Refusal) (place : ℕ) → operation_at s at ≡ err_at place x → (place ≡ at) × Unread s at x
  unfolding Through
  refused-unread x place e =
      kinds (reads-gives (err_at at) s p (λ ns to. operation_numbered s (err_at at) (slice_index ns 0) to) (err_at place x) at [] (Range.between 1 5 ∷ []) (sym (operation-reads s at) ∙ e))
    where
      fields : (k a : ℕ) → NumberAt s at k a → (1 ≤ k) × (k ≤ 5)
          → ((y : Refusal) × NumbersFault s y a [] (fields_of k) × (◌≡◌ {A = Decoded} (err_at at y) (err_at place x)))
          ⊎ ((ns : List ℕ) × (to : ℕ) × Through s a [] (fields_of k) ns to × (end_of (err_at at) k ns to ≡ err_at place x))
          → (place ≡ at) × Unread s at x
      fields k a h r (inl (y, f, q)) = one x y place q (Unread.field k a h r f)
      fields k a h r (inr (ns, to, t, q)) = ends-refused x place k a ns to h r t q

      kinds : ((y : Refusal) × NumbersFault s y at [] (Range.between 1 5 ∷ []) × (◌≡◌ {A = Decoded} (err_at at y) (err_at place x)))
          ⊎ ((ns : List ℕ) × (to : ℕ) × Through s at [] (Range.between 1 5 ∷ []) ns to × (operation_numbered s (err_at at) (slice_index ns 0) to ≡ err_at place x))
          → (place ≡ at) × Unread s at x
      kinds (inl (y, f, q)) = one x y place q (Unread.which f)
      kinds (inr (ns, to, (k, a, h, r, (z, y)), q)) =
          fields k a h r
          (reads-gives (err_at at) s p (end_of (err_at at) k) (err_at place x) a [] (fields_of k)
          (sym (kind-reads s (err_at at) k a) ∙ (λ i. operation_numbered s (err_at at) (slice_index (z i) 0) (y i)) ∙ q))

-- an operation whose numbers are in range
pub in-range : (o : Operation) → (operation_in_range o ≡ true) ↔ OperationInRange o
unfolding operation_in_range
in-range (op.Open h b) =
    let t = and-plain _ _ (and-plain _ _ (leb-plain h.register 31) (coupling h.coupling)) (and-plain _ _ (nonneg-plain b.0) (leb-plain (unsigned_abs b.0) 1048576)) in
    (λ e. let r = t.0 e in (r.0.0, (r.0.1, r.1)), λ r. t.1 ((r.0, r.1.0), r.1.1))
  where
    coupling : (c : Option ℕ) → (coupling_in_range c ≡ true) ↔ CouplingInRange c
    coupling None = (λ e. tt, λ h. refl)
    coupling (Some c) = and-plain (nat_le 1 c) (nat_le c 7) (leb-plain 1 c) (leb-plain c 7)
in-range (op.Dimension d) =
    let t =
    and-plain _ _
    (and-plain _ _ (and-plain _ _ (leb-plain d.register 31) (leb-plain (unsigned_abs d.offset.0) 1048576)) (leb-plain d.size 4096))
    (leb-plain (unsigned_abs d.stride.0) 1048576) in
    (λ e. let r = t.0 e in (r.0.0.0, (r.0.0.1, (r.0.1, r.1))), λ r. t.1 (((r.0, r.1.0), r.1.1.0), r.1.1.1))
in-range (op.Modifier m) =
    let t = and-plain _ _ (and-plain _ _ (leb-plain m.register 31) (leb-plain m.target 6)) (leb-plain m.displacement 1048576) in
    (λ e. let r = t.0 e in (r.0.0, (r.0.1, r.1)), λ r. t.1 ((r.0, r.1.0), r.1.1))
in-range (op.End i) = leb-plain i 31
in-range (op.Run i n) = and-plain _ _ (leb-plain i 31) (and-plain _ _ (leb-plain 1 n) (leb-plain n 16))

-- an operation that stands in the sheet is read
pub written_read : (s : List ℕ) (at : ℕ) (o : Operation) (to : ℕ) → OperationAt s at o to → operation_at s at ≡ Ok (o, record { at = to })
written_read s at o to h =
    let q = stands-split h.stands in
    rw q.1 at (operation-written s (take at s) (drop to s) h.free o h.is_free ((in-range o).1 h.range) q.0)
    ∙ ap (λ k. Ok (o, record { at = k })) q.2

-- one that is read stands there
pub read-written : (s : List ℕ) (at : ℕ) (o : Operation) (c : Cursor) → AreBytes s → operation_at s at ≡ Ok (o, c) → OperationAt s at o c.at
read-written s at o c p e =
    let d = operation-read s at o c p e in
    record { free = d.free; is_free = d.is_free; range = (in-range o).0 d.range; stands = d.stands }

-- ---- calculations

-- the calculation of its numbers, nearest first
abbrev of_numbers : List ℕ → ℕ → Body
of_numbers ns to =
    Ok (record { task = task_coded (slice_index ns 3); destination = slice_index ns 2; first = slice_index ns 1; second = slice_index ns 0 }, record { at = to })

-- a calculation is read number by number
calculation-reads : (s : List ℕ) (place : ℕ) → calculation_at s place ≡ reads (err_at place) s place [] calculation_fields of_numbers
unfolding reads calculation_at
calculation-reads s place = refl

-- one that cannot be read is refused, at its first byte
pub uncalculated-refused : (s : List ℕ) (at : ℕ) (x : Refusal) → AreBytes s → UnreadCalculation s at x → calculation_at s at ≡ err_at at x
uncalculated-refused s at x p h = calculation-reads s at ∙ reads-fault (err_at at) s p of_numbers x at [] calculation_fields h

-- one that is refused cannot be read; the place of the refusal is its first byte
pub refused-uncalculated : (s : List ℕ) (at : ℕ) (x : Refusal) (place : ℕ) → AreBytes s → calculation_at s at ≡ err_at place x
    → (place ≡ at) × UnreadCalculation s at x
refused-uncalculated s at x place p e =
    go (reads-gives (err_at at) s p of_numbers (err_at place x) at [] calculation_fields (sym (calculation-reads s at) ∙ e))
  where
    go : ((y : Refusal) × NumbersFault s y at [] calculation_fields × (◌≡◌ {A = Body} (err_at at y) (err_at place x)))
        ⊎ ((ns : List ℕ) × (to : ℕ) × Through s at [] calculation_fields ns to × (of_numbers ns to ≡ err_at place x))
        → (place ≡ at) × UnreadCalculation s at x
    go (inl (y, f, q)) = let k = err-same q in (sym k.0, subst (λ u. NumbersFault s u at [] calculation_fields) k.1 f)
    go (inr (ns, to, t, q)) = absurd (let z : ◌≡◌ {A = ℕ} 0 1 = cc in omega arith)

-- the numbers of a calculation in range
calculation-range : (c : Calculation) → (calculation_in_range c ≡ true)
    ↔ (((c.destination ≤ 31) × (c.first ≤ 31)) × ((c.second ≤ 31) × (OneSource (task_code c.task) → c.second ≡ c.first)))
calculation-range c =
    and-plain _ _ (and-plain _ _ (leb-plain c.destination 31) (leb-plain c.first 31))
    (and-plain _ _ (leb-plain c.second 31) (alone-plain (task_code c.task) c.first c.second))

-- a calculation that stands in the sheet is read
pub calculated-read : (s : List ℕ) (at : ℕ) (c : Calculation) (to : ℕ) → CalculationAt s at c to → calculation_at s at ≡ Ok (c, record { at = to })
calculated-read s at c to h =
    let q = stands-split h.stands in
    rw q.1 at (calculation-written s (take at s) (drop to s) c ((calculation-range c).1 ((h.destination, h.first), (h.second, h.alone))) q.0)
    ∙ ap (λ k. Ok (c, record { at = k })) q.2

-- one that is read stands there
pub read-calculated : (s : List ℕ) (at : ℕ) (c : Calculation) (to : Cursor) → AreBytes s → calculation_at s at ≡ Ok (c, to) → CalculationAt s at c to.at
read-calculated s at c to p e =
    let d = calculation-read s at c to p e in
    let r = (calculation-range c).0 d.range in
    record { destination = r.0.0; first = r.0.1; second = r.1.0; alone = r.1.1; stands = d.stands }
