-- Any list of calculations done one after the other, none refused.
--
--   AllNamed, Completed                each names registers; each is not refused in the world that those before it left
--   after_all, moved_over                the world after them; the stops of a register that they went past, joined
--   completed-append, after-append     of two lists, one after the other
--   after-length, after-good           the registers stay 32 and good
--   each-once                          the stops gone past, then those to come, are those to come at the start
--   pattern-kept, kind-kept, width-kept, stream-kept, moved_all   what a stream keeps, and how many stops it has gone past
--   moves, fewer                       if they name an open load, they have moved it; so fewer of it are to come
--   times, named-append, named-times, named-take   a body several times
use Rattle.std.specs.Prelude.{◌≡◌, ℕ, zero, suc, ◌+◌, ◌<◌, ◌≤◌, Bool, true, false, ◌||◌, List, [], ◌∷◌, ◌++◌, length, take, ◌==◌, refl, Ok}
use Rattle.std.proofs.Common.{sym, ◌∙◌, ap, subst, append_assoc, arith, length-append}
use Rattle.codec.specs.TestLaws.{never}
use Rattle.engine.specs.Registers.{open_load, to_come, reg}
use Rattle.engine.specs.Calculate.{World, refusal_of, effect}
use Rattle.engine.specs.Sheets.{names}
use Rattle.engine.specs.Good.{Good, AllGood}
use Rattle.engine.specs.ComeLaws.{IsStream}
use Rattle.engine.specs.CalculationLaws.{Named}
use Rattle.engine.specs.EffectLaws.{effect-length}
use Rattle.engine.specs.EffectGood.{effect-good}
use Rattle.engine.specs.StreamLaws.{moved_in, once, pattern-stays, kind-stays, width-stays, stream-stays, stream-was, moved-counts, read_some, unnamed}
use Rattle.engine.specs.declared.run.Placed.{Placed}

-- each calculation names registers
unfoldable pub AllNamed : List Placed → Type 0
AllNamed [] = Unit {0}
AllNamed (c ∷ cs) = Named c.calculation × AllNamed cs

-- each is not refused in the world that those before it left
unfoldable pub Completed : ℕ → World → List Placed → Type 0
Completed vl w [] = Unit {0}
Completed vl w (c ∷ cs) = (refusal_of vl c.calculation w ≡ Ok tt) × Completed vl (effect vl c.calculation w) cs

-- the world after them
unfoldable pub after_all : ℕ → World → List Placed → World
after_all vl w [] = w
after_all vl w (c ∷ cs) = after_all vl (effect vl c.calculation w) cs

-- the stops of register i that they went past, joined
unfoldable pub moved_over : ℕ → World → List Placed → ℕ → List (List ℕ)
moved_over vl w [] i = []
moved_over vl w (c ∷ cs) i = moved_in vl c.calculation w i ++ moved_over vl (effect vl c.calculation w) cs i

-- two lists one after the other
pub completed-append : (vl : ℕ) (cs ds : List Placed) (w : World) → Completed vl w cs → Completed vl (after_all vl w cs) ds → Completed vl w (cs ++ ds)
unfolding Completed after_all
completed-append vl [] ds w h k = k
completed-append vl (c ∷ cs) ds w h k = (h.0, completed-append vl cs ds (effect vl c.calculation w) h.1 k)

-- the world after both
pub after-append : (vl : ℕ) (cs ds : List Placed) (w : World) → after_all vl w (cs ++ ds) ≡ after_all vl (after_all vl w cs) ds
unfolding after_all
after-append vl [] ds w = refl
after-append vl (c ∷ cs) ds w = after-append vl cs ds (effect vl c.calculation w)

-- as many registers as before
pub after-length : (vl : ℕ) (cs : List Placed) (w : World) → length (after_all vl w cs).machine.registers ≡ length w.machine.registers
unfolding after_all
after-length vl [] w = refl
after-length vl (c ∷ cs) w = after-length vl cs (effect vl c.calculation w) ∙ effect-length vl c.calculation w

-- all registers stay good
pub after-good : (vl : ℕ) (cs : List Placed) (w : World) → 8 ≤ vl → AllNamed cs → AllGood vl w.machine → Completed vl w cs → AllGood vl (after_all vl w cs).machine
unfolding after_all Completed AllNamed
after-good vl [] w l nm g k = g
after-good vl (c ∷ cs) w l nm g k =
    after-good vl cs (effect vl c.calculation w) l nm.1 (effect-good vl c.calculation w l g nm.0 k.0) k.1

-- the stops of a register that the calculations went past, joined, then those to come, are those that were to come
pub each-once : (vl : ℕ) (cs : List Placed) (w : World) (i : ℕ) → 8 ≤ vl → i < 32 → AllNamed cs → AllGood vl w.machine → Completed vl w cs
    → moved_over vl w cs i ++ to_come (reg (after_all vl w cs).machine i) ≡ to_come (reg w.machine i)
unfolding moved_over after_all Completed AllNamed
each-once vl [] w i l h nm g k = refl
each-once vl (c ∷ cs) w i l h nm g k =
    let v : World = effect vl c.calculation w in
    append_assoc (moved_in vl c.calculation w i) (moved_over vl v cs i) (to_come (reg (after_all vl v cs).machine i))
    ∙ ap (λ vs. moved_in vl c.calculation w i ++ vs) (each-once vl cs v i l h nm.1 (effect-good vl c.calculation w l g nm.0 k.0) k.1)
    ∙ once vl c.calculation w i (omega (arith, g.all)) k.0 l (g.good i h)

-- what is a register before a calculation is one after it
next-length : (vl : ℕ) (c : Placed) (w : World) (i : ℕ) → i < length w.machine.registers → i < length (effect vl c.calculation w).machine.registers
next-length vl c w i h = subst (λ n. i < n) (sym (effect-length vl c.calculation w)) h

-- how many stops it has gone past
pub moved_all : (vl : ℕ) (cs : List Placed) (w : World) (i : ℕ) → 8 ≤ vl → i < 32 → AllNamed cs → AllGood vl w.machine → Completed vl w cs
    → (reg (after_all vl w cs).machine i).moved ≡ (reg w.machine i).moved + length (moved_over vl w cs i)
unfolding moved_over after_all Completed AllNamed
moved_all vl [] w i l h nm g k = omega arith
moved_all vl (c ∷ cs) w i l h nm g k =
    let v : World = effect vl c.calculation w in
    omega
    (arith, moved_all vl cs v i l h nm.1 (effect-good vl c.calculation w l g nm.0 k.0) k.1, moved-counts vl c.calculation w i (omega (arith, g.all)) k.0 l (g.good i h), length-append (moved_in vl c.calculation w i) (moved_over vl v cs i))

-- a register keeps its pattern
pub pattern-kept : (vl : ℕ) (cs : List Placed) (w : World) (i : ℕ) → i < length w.machine.registers → Completed vl w cs
    → (reg (after_all vl w cs).machine i).pattern ≡ (reg w.machine i).pattern
unfolding after_all Completed
pattern-kept vl [] w i h k = refl
pattern-kept vl (c ∷ cs) w i h k =
    pattern-kept vl cs (effect vl c.calculation w) i (next-length vl c w i h) k.1 ∙ pattern-stays vl c.calculation w i h k.0

-- and its kind
pub kind-kept : (vl : ℕ) (cs : List Placed) (w : World) (i : ℕ) → i < length w.machine.registers → Completed vl w cs
    → (reg (after_all vl w cs).machine i).kind ≡ (reg w.machine i).kind
unfolding after_all Completed
kind-kept vl [] w i h k = refl
kind-kept vl (c ∷ cs) w i h k =
    kind-kept vl cs (effect vl c.calculation w) i (next-length vl c w i h) k.1 ∙ kind-stays vl c.calculation w i h k.0

-- a stream stays one
pub stream-kept : (vl : ℕ) (cs : List Placed) (w : World) (i : ℕ) → i < length w.machine.registers → Completed vl w cs
    → IsStream (reg w.machine i) → IsStream (reg (after_all vl w cs).machine i)
unfolding after_all Completed
stream-kept vl [] w i h k s = s
stream-kept vl (c ∷ cs) w i h k s =
    stream-kept vl cs (effect vl c.calculation w) i (next-length vl c w i h) k.1 (stream-stays vl c.calculation w i h k.0 s)

-- and was one
pub stream-from : (vl : ℕ) (cs : List Placed) (w : World) (i : ℕ) → i < length w.machine.registers → Completed vl w cs
    → IsStream (reg (after_all vl w cs).machine i) → IsStream (reg w.machine i)
unfolding after_all Completed
stream-from vl [] w i h k s = s
stream-from vl (c ∷ cs) w i h k s =
    stream-was vl c.calculation w i h k.0 (stream-from vl cs (effect vl c.calculation w) i (next-length vl c w i h) k.1 s)

-- and keeps its width
pub width-kept : (vl : ℕ) (cs : List Placed) (w : World) (i : ℕ) → i < length w.machine.registers → Completed vl w cs
    → IsStream (reg w.machine i) → (reg (after_all vl w cs).machine i).width ≡ (reg w.machine i).width
unfolding after_all Completed
width-kept vl [] w i h k s = refl
width-kept vl (c ∷ cs) w i h k s =
    width-kept vl cs (effect vl c.calculation w) i (next-length vl c w i h) k.1 (stream-stays vl c.calculation w i h k.0 s)
    ∙ width-stays vl c.calculation w i h k.0 s

-- a body that is done and names an open load as a source has moved it past a stop at least
pub moves : (vl : ℕ) (cs : List Placed) (w : World) (i : ℕ) → 8 ≤ vl → i < length w.machine.registers → Good vl (reg w.machine i) → Completed vl w cs
    → open_load (reg w.machine i) ≡ true → names i cs ≡ true → 0 < length (moved_over vl w cs i)
unfolding Completed moved_over names
moves vl [] w i l h g k o n = never n
moves vl (c ∷ cs) w i l h g k o n =
    go (i == c.calculation.first || i == c.calculation.second) refl n
    (moves vl cs (effect vl c.calculation w) i l (subst (λ m. i < m) (sym (effect-length vl c.calculation w)) h))
  where
    v : World
    v = effect vl c.calculation w

    go : (b : Bool) → (i == c.calculation.first || i == c.calculation.second) ≡ b → (b || names i cs) ≡ true
        → (Good vl (reg v.machine i) → Completed vl v cs → open_load (reg v.machine i) ≡ true → names i cs ≡ true → 0 < length (moved_over vl v cs i))
        → 0 < length (moved_in vl c.calculation w i ++ moved_over vl v cs i)
    go true s n ih = omega (arith, length-append (moved_in vl c.calculation w i) (moved_over vl v cs i), read_some vl c.calculation w i l g o s)
    go false s n ih =
        let q : reg v.machine i ≡ reg w.machine i = unnamed vl c.calculation w i h k.0 o s in
        omega (
          arith,
          length-append (moved_in vl c.calculation w i) (moved_over vl v cs i),
          ih (subst (Good vl) (sym q) g) k.1 (ap open_load q ∙ o) n,
        )

-- so fewer of its stops are to come
pub fewer : (vl : ℕ) (cs : List Placed) (w : World) (i : ℕ) → 8 ≤ vl → i < 32 → AllNamed cs → AllGood vl w.machine → Completed vl w cs
    → open_load (reg w.machine i) ≡ true → names i cs ≡ true → length (to_come (reg (after_all vl w cs).machine i)) < length (to_come (reg w.machine i))
fewer vl cs w i l h nm g k o n =
    omega (
      arith,
      moves vl cs w i l (omega (arith, g.all)) (g.good i h) k o n,
      ap length (each-once vl cs w i l h nm g k),
      length-append (moved_over vl w cs i) (to_come (reg (after_all vl w cs).machine i)),
    )

-- a body, k times over
unfoldable pub times : ℕ → List Placed → List Placed
times zero body = []
times (suc k) body = body ++ times k body

-- the calculations of two lists name registers
pub named-append : (cs ds : List Placed) → AllNamed cs → AllNamed ds → AllNamed (cs ++ ds)
unfolding AllNamed
named-append [] ds h k = k
named-append (c ∷ cs) ds h k = (h.0, named-append cs ds h.1 k)

-- so do those of a body, k times over
pub named-times : (k : ℕ) (cs : List Placed) → AllNamed cs → AllNamed (times k cs)
unfolding times AllNamed
named-times zero cs h = tt
named-times (suc k) cs h = named-append cs (times k cs) h (named-times k cs h)

-- and the first k of it
pub named-take : (k : ℕ) (cs : List Placed) → AllNamed cs → AllNamed (take k cs)
unfolding AllNamed
named-take zero cs h = tt
named-take (suc k) [] h = tt
named-take (suc k) (c ∷ cs) h = (h.0, named-take k cs h.1)
