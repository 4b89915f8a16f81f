-- Operations in turn, and the calculations of a run, as they stand in a sheet: what is read there is what stands there.
--
--   written_on, calculated-on                 each takes a byte at least
--   decoded-done, decoded-refused             one operation: done, refused
--   onward-written, turns-onward   the sheet from an operation on; from behind operations done in turn on
--   turns-append, turns-snoc                  turns behind turns; one more
--   turns-on, body-on                         places go up, and stay within the sheet
--   body-one                                  one calculation is a body
--   body-whole, body-broken, Breaks, body-either   a body: read whole, broken off; one of both
--   turns-cut, bytes_cut                      in a sheet that is cut behind it, the same stands
--   turns-bytes, body-bytes                   the bytes of what stands in a sheet, joined
use Rattle.std.specs.Prelude.{◌≡◌, ℕ, zero, suc, ◌<◌, ◌≤◌, ◌⊎◌, List, [], ◌∷◌, ◌++◌, length, take, refl, Ok, Err}
use Rattle.std.proofs.Common.{sym, ◌∙◌, subst, inl, inr, arith}
use Rattle.std.proofs.Math.Path.{ap}
use Rattle.codec.specs.NumberLaws.{AreBytes, Stands, stands-join}
use Rattle.codec.specs.StandingLaws.{stands-none, stands-cut}
use Rattle.codec.specs.Operations.{calculation_at, Body}
use Rattle.codec.specs.OperationLaws.{operation-read, calculation-read}
use Rattle.codec.specs.declared.number.Cursor.{Cursor}
use Rattle.codec.specs.declared.operation.Operation.{Operation}
use Rattle.codec.specs.declared.operation.Operation.TheVariants as op
use Rattle.codec.specs.declared.operation.Calculation.{Calculation}
use Rattle.codec.specs.declared.refusal.Refusal.{Refusal}
use Rattle.engine.specs.Registers.{reg}
use Rattle.engine.specs.Configure.{register_of, why_not, configured}
use Rattle.engine.specs.Sheets.{whole, broken, before, on_calculation, body_at, refused, Prepared, on_operation, on_decoded}
use Rattle.engine.specs.Reasons.{OperationRefused}
use Rattle.engine.specs.ReasonLaws.{operation-refused}
use Rattle.engine.specs.SheetLaws.{onward, onward-next}
use Rattle.engine.specs.Allowed.{Accepts}
use Rattle.engine.specs.AllowedLaws.{accepts-clear}
use Rattle.engine.specs.Promise1.{OperationAt, after, Turns, CalculationAt, BodyAt, UnreadCalculation, encodings, AllFree, body_bytes}
use Rattle.engine.specs.ReadingLaws.{written_read, calculated-read, read-calculated, uncalculated-refused, refused-uncalculated}
use Rattle.engine.specs.declared.register.Machine.{Machine}
use Rattle.engine.specs.declared.run.Placed.{Placed}

-- ---- operations

-- an operation takes a byte at least
pub written_on : (s : List ℕ) (at : ℕ) (o : Operation) (to : ℕ) → AreBytes s → OperationAt s at o to → (at < to) × (to ≤ length s)
written_on s at o to p h = ((operation-read s at o (record { at = to }) p (written_read s at o to h)).on, h.stands.within)

-- one that is not refused is done
operation-done : (at : ℕ) (o : Operation) (m : Machine) (f : Machine → Prepared) → why_not o m ≡ Ok tt → on_operation (why_not o m) at m f (configured o m) ≡ f (after o m)
unfolding configured
operation-done at o m f e = rw e

-- one that configures and is not refused is followed by the rest
pub decoded-done : (s : List ℕ) (at : ℕ) (m : Machine) (o : Operation) (c : Cursor) (rest : ℕ → Machine → Prepared) → Accepts o (reg m (register_of o))
    → on_decoded s at m (Ok (o, c)) rest ≡ rest c.at (after o m)
decoded-done s at m (op.Open h b) c rest a = operation-done at (op.Open h b) m (rest c.at) ((accepts-clear (op.Open h b) m tt).1 a)
decoded-done s at m (op.Dimension d) c rest a = operation-done at (op.Dimension d) m (rest c.at) ((accepts-clear (op.Dimension d) m tt).1 a)
decoded-done s at m (op.Modifier d) c rest a = operation-done at (op.Modifier d) m (rest c.at) ((accepts-clear (op.Modifier d) m tt).1 a)
decoded-done s at m (op.End i) c rest a = operation-done at (op.End i) m (rest c.at) ((accepts-clear (op.End i) m tt).1 a)
decoded-done s at m (op.Run i n) c rest a = absurd a

-- one that is refused ends the sheet
operation-stopped : (at : ℕ) (o : Operation) (m : Machine) (f : Machine → Prepared) (x : Refusal) → why_not o m ≡ Err x
    → on_operation (why_not o m) at m f (configured o m) ≡ record { machine = m; ending = refused x at }
operation-stopped at o m f x e = rw e

-- the same, of any operation
pub decoded-refused : (s : List ℕ) (at : ℕ) (m : Machine) (o : Operation) (c : Cursor) (rest : ℕ → Machine → Prepared) (x : Refusal)
    → OperationRefused o (reg m (register_of o)) x → on_decoded s at m (Ok (o, c)) rest ≡ record { machine = m; ending = refused x at }
decoded-refused s at m (op.Open h b) c rest x f = operation-stopped at (op.Open h b) m (rest c.at) x ((operation-refused (op.Open h b) m x).1 f)
decoded-refused s at m (op.Dimension d) c rest x f = operation-stopped at (op.Dimension d) m (rest c.at) x ((operation-refused (op.Dimension d) m x).1 f)
decoded-refused s at m (op.Modifier d) c rest x f = operation-stopped at (op.Modifier d) m (rest c.at) x ((operation-refused (op.Modifier d) m x).1 f)
decoded-refused s at m (op.End i) c rest x f = operation-stopped at (op.End i) m (rest c.at) x ((operation-refused (op.End i) m x).1 f)
decoded-refused s at m (op.Run i n) c rest x f = absurd f

-- the sheet from an operation on
pub onward-written : (s : List ℕ) (at : ℕ) (m : Machine) (o : Operation) (to : ℕ) → AreBytes s → OperationAt s at o to
    → onward s at m ≡ on_decoded s at m (Ok (o, record { at = to })) (onward s)
onward-written s at m o to p h =
    let w = written_on s at o to p h in
    onward-next s at m p (omega arith) ∙ ap (λ d. on_decoded s at m d (onward s)) (written_read s at o to h)

-- operations done in turn: what follows is the sheet from behind them on
pub turns-onward : (s : List ℕ) (at : ℕ) (m : Machine) (os : List Operation) (to : ℕ) (n : Machine) → AreBytes s → Turns s at m os to n → onward s at m ≡ onward s to n
unfolding Turns
turns-onward s at m [] to n p h = λ i. onward s (h.0 i) (h.1 i)
turns-onward s at m (o ∷ os) to n p (next, w, a, t) =
    onward-written s at m o next p w ∙ decoded-done s at m o (record { at = next }) (onward s) a ∙ turns-onward s next (after o m) os to n p t

-- turns behind turns
pub turns-append : (s : List ℕ) (at : ℕ) (m : Machine) (os : List Operation) (place : ℕ) (n : Machine) (ps : List Operation) (to : ℕ) (q : Machine)
    → Turns s at m os place n → Turns s place n ps to q → Turns s at m (os ++ ps) to q
unfolding Turns
turns-append s at m [] place n ps to q (e, f) t = subst (λ k. Turns s k m ps to q) (sym e) (subst (λ k. Turns s place k ps to q) (sym f) t)
turns-append s at m (o ∷ os) place n ps to q (next, w, a, r) t = (next, w, a, turns-append s next (after o m) os place n ps to q r t)

-- one more
pub turns-snoc : (s : List ℕ) (at : ℕ) (m : Machine) (os : List Operation) (place : ℕ) (n : Machine) (o : Operation) (to : ℕ) → Turns s at m os place n
    → OperationAt s place o to → Accepts o (reg n (register_of o)) → Turns s at m (os ++ (o ∷ [])) to (after o n)
unfolding Turns
turns-snoc s at m os place n o to t w a = turns-append s at m os place n (o ∷ []) to (after o n) t (to, w, a, (refl, refl))

-- places go up, and stay within the sheet
pub turns-on : (s : List ℕ) (at : ℕ) (m : Machine) (os : List Operation) (to : ℕ) (n : Machine) → AreBytes s → at ≤ length s → Turns s at m os to n
    → (at ≤ to) × (to ≤ length s)
unfolding Turns
turns-on s at m [] to n p h (e, f) = (omega arith, omega arith)
turns-on s at m (o ∷ os) to n p h (next, w, a, t) =
    let k = written_on s at o next p w in
    let r = turns-on s next (after o m) os to n p k.1 t in
    (omega arith, r.1)

-- ---- a body

-- a calculation takes a byte at least
pub calculated-on : (s : List ℕ) (at : ℕ) (c : Calculation) (to : ℕ) → AreBytes s → CalculationAt s at c to → (at < to) × (to ≤ length s)
calculated-on s at c to p h = ((calculation-read s at c (record { at = to }) p (calculated-read s at c to h)).on, h.stands.within)

-- places go up in a body, too
pub body-on : (s : List ℕ) (at : ℕ) (cs : List Placed) (to : ℕ) → AreBytes s → at ≤ length s → BodyAt s at cs to → (at ≤ to) × (to ≤ length s)
unfolding BodyAt
body-on s at [] to p h e = (omega arith, omega arith)
body-on s at (c ∷ cs) to p h (next, e, k, b) =
    let q = calculated-on s at c.calculation next p k in
    let r = body-on s next cs to p q.1 b in
    (omega arith, r.1)

-- one calculation is a body
pub body-one : (s : List ℕ) (at : ℕ) (c : Calculation) (to : ℕ) → CalculationAt s at c to → BodyAt s at (record { place = at; calculation = c } ∷ []) to
unfolding BodyAt
body-one s at c to k = (to, refl, k, refl)

-- one calculation that stands there, and the rest of its body
body-next : (s : List ℕ) (n at : ℕ) (c : Placed) (next : ℕ) → c.place ≡ at → CalculationAt s at c.calculation next → body_at s (suc n) at ≡ before c (body_at s n next)
unfolding body_at
body-next s n at c next e k =
    ap (λ b. on_calculation b at (body_at s n)) (calculated-read s at c.calculation next k)
    ∙ ap (λ a. before (record { place = a; calculation = c.calculation }) (body_at s n next)) (sym e)

-- a body that stands there is read whole
pub body-whole : (s : List ℕ) (at : ℕ) (cs : List Placed) (to : ℕ) → BodyAt s at cs to → body_at s (length cs) at ≡ whole cs to
unfolding BodyAt
body-whole s at [] to e = unfold body_at in ap (whole []) e
body-whole s at (c ∷ cs) to (next, e, k, b) = body-next s (length cs) at c next e k ∙ ap (before c) (body-whole s next cs to b)

-- one that breaks off is refused where it does
pub body-broken : (s : List ℕ) (n at : ℕ) (cs : List Placed) (place : ℕ) (x : Refusal) → AreBytes s → BodyAt s at cs place → length cs < n
    → UnreadCalculation s place x → body_at s n at ≡ broken x place
unfolding BodyAt
body-broken s zero at cs place x p b h u = absurd (omega arith)
body-broken s (suc n) at [] place x p e h u =
    unfold body_at in
    ap (λ b. on_calculation b at (body_at s n)) (uncalculated-refused s at x p (subst (λ k. UnreadCalculation s k x) (sym e) u)) ∙ ap (broken x) e
body-broken s (suc n) at (c ∷ cs) place x p (next, e, k, b) h u =
    body-next s n at c next e k ∙ ap (before c) (body-broken s n next cs place x p b (omega arith) u)

-- calculations that break off before there are n of them
pub record Breaks (s : List ℕ) (n at : ℕ) : Type 0 where
  pub calculations : List Placed
  pub place : ℕ
  pub refusal : Refusal
  pub body : BodyAt s at calculations place
  pub fewer : length calculations < n
  pub fault : UnreadCalculation s place refusal

-- either so many stand there, or they break off
pub body-either : (s : List ℕ) (n at : ℕ) → AreBytes s → ((cs : List Placed) × (to : ℕ) × BodyAt s at cs to × (length cs ≡ n)) ⊎ Breaks s n at
unfolding BodyAt
body-either s zero at p = inl ([], at, refl, refl)
body-either s (suc n) at p = go (calculation_at s at) refl (λ next. body-either s n next p)
  where
    joined : (c : Calculation) (next : ℕ) → CalculationAt s at c next
        → ((cs : List Placed) × (to : ℕ) × BodyAt s next cs to × (length cs ≡ n)) ⊎ Breaks s n next
        → ((cs : List Placed) × (to : ℕ) × BodyAt s at cs to × (length cs ≡ suc n)) ⊎ Breaks s (suc n) at
    joined c next k (inl (cs, to, b, e)) = inl (record { place = at; calculation = c } ∷ cs, to, (next, refl, k, b), ap suc e)
    joined c next k (inr b) = inr (record {
      calculations = record { place = at; calculation = c } ∷ b.calculations;
      place = b.place;
      refusal = b.refusal;
      body = (next, refl, k, b.body);
      fewer = omega (arith, b.fewer);
      fault = b.fault;
    })

    go : (r : Body) → calculation_at s at ≡ r → ((next : ℕ) → ((cs : List Placed) × (to : ℕ) × BodyAt s next cs to × (length cs ≡ n)) ⊎ Breaks s n next)
        → ((cs : List Placed) × (to : ℕ) × BodyAt s at cs to × (length cs ≡ suc n)) ⊎ Breaks s (suc n) at
    go (Ok (c, next)) e ih = joined c next.at (read-calculated s at c next p e) (ih next.at)
    go (Err r) e ih =
        inr (record { calculations = []; place = at; refusal = r.refusal; body = refl; fewer = omega arith; fault = (refused-uncalculated s at r.refusal r.place p e).1 })

-- ---- a sheet cut short

-- operations done before a place are done in the sheet cut there
pub turns-cut : (s : List ℕ) (cut at : ℕ) (m : Machine) (os : List Operation) (to : ℕ) (n : Machine) → AreBytes s → cut ≤ length s → to ≤ cut
    → Turns s at m os to n → Turns (take cut s) at m os to n
unfolding Turns
turns-cut s cut at m [] to n p h k t = t
turns-cut s cut at m (o ∷ os) to n p h k (next, w, a, t) =
    let r = turns-on s next (after o m) os to n p w.stands.within t in (
      next,
      record { free = w.free; is_free = w.is_free; range = w.range; stands = stands-cut s cut _ at next h (omega arith) w.stands },
      a,
      turns-cut s cut next (after o m) os to n p h k t,
    )

-- a cut sheet is one of bytes
pub bytes_cut : (s : List ℕ) (cut : ℕ) → AreBytes s → AreBytes (take cut s)
bytes_cut s zero p i = omega arith
bytes_cut [] (suc cut) p i = p i
bytes_cut (b ∷ s) (suc cut) p zero = p 0
bytes_cut (b ∷ s) (suc cut) p (suc i) = bytes_cut s cut (λ j. p (suc j)) i

-- ---- the bytes of a sheet

-- operations in turn: their encodings, with what their free bits are worth
pub turns-bytes : (s : List ℕ) (at : ℕ) (m : Machine) (os : List Operation) (to : ℕ) (n : Machine) → at ≤ length s → Turns s at m os to n
    → (frees : List ℕ) × AllFree frees × Stands s at (encodings frees os) to
unfolding Turns AllFree encodings
turns-bytes s at m [] to n h (e, f) = ([], tt, subst (Stands s at []) e (stands-none s at h))
turns-bytes s at m (o ∷ os) to n h (next, w, a, t) =
    let r = turns-bytes s next (after o m) os to n w.stands.within t in
    (w.free ∷ r.0, (w.is_free, r.1), stands-join w.stands r.2)

-- a body
pub body-bytes : (s : List ℕ) (at : ℕ) (cs : List Placed) (to : ℕ) → at ≤ length s → BodyAt s at cs to → Stands s at (body_bytes cs) to
unfolding BodyAt body_bytes
body-bytes s at [] to h e = subst (Stands s at []) e (stands-none s at h)
body-bytes s at (c ∷ cs) to h (next, e, k, b) = stands-join k.stands (body-bytes s next cs to k.stands.within b)
