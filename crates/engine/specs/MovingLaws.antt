-- A stream moves on: by a calculation, and over a history.
--
--   inside-goes                      a stream goes on by a calculation that is not refused
--   world-last                       the world after all of a history
--   did-inside, follow-inside        a stream goes on by a completed calculation; at every moment of a history
use Rattle.std.specs.Prelude.{◌≡◌, ℕ, zero, suc, ◌+◌, ◌<◌, ◌≤◌, true, List, [], ◌∷◌, ◌++◌, map, length, take, drop, Ok}
use Rattle.std.proofs.Common.{sym, ◌∙◌, ap, subst, append_assoc, append-nil, arith, length-append, take-append-drop, drop-drop, take-take, length-take-le}
use Rattle.codec.specs.TestLaws.{never}
use Rattle.codec.specs.declared.operation.Calculation.{Calculation}
use Rattle.engine.specs.Chunks.{stops, height}
use Rattle.engine.specs.Memory.{holding}
use Rattle.engine.specs.Registers.{is_open, shape_of, next_stops, next_chunk, state_after, moved_to, stops_for, moved_by, reg}
use Rattle.engine.specs.Calculate.{World, given, results, refusal_of, effect}
use Rattle.engine.specs.Good.{Good, AllGood}
use Rattle.engine.specs.ComeLaws.{come-open, next-front, past-chunk, past-most}
use Rattle.engine.specs.CalculationLaws.{Named}
use Rattle.engine.specs.EffectGood.{effect-good}
use Rattle.engine.specs.StreamLaws.{moved_in, goes}
use Rattle.engine.specs.HistoryLaws.{AllNamed}
use Rattle.engine.specs.CalculatesLaws.{calculates-clear}
use Rattle.engine.specs.DidLaws.{did-one, did-taken}
use Rattle.engine.specs.Histories.{Did, Entry, Follow, world_at, moved_of}
use Rattle.engine.specs.Given.{Stream, stops_of, pattern_of}
use Rattle.engine.specs.GivenLaws.{Bears, InRegister}
use Rattle.engine.specs.MomentLaws.{inside-stream}
use Rattle.engine.specs.declared.register.Register.{Register}

-- ---- a calculation

-- those gone past and the next n, then those to come
next-once : {A : Type 0} (so_far vs all : List A) (n : ℕ) → length vs ≡ n → vs ≡ take n (drop (length so_far) all) → so_far ++ drop (length so_far) all ≡ all
    → (so_far ++ vs) ++ drop (length (so_far ++ vs)) all ≡ all
next-once so_far vs all n k e once =
    append_assoc so_far vs (drop (length (so_far ++ vs)) all)
    ∙ ap (λ l. so_far ++ l)
    (ap (λ j. vs ++ drop j all) (length-append so_far vs ∙ ap (λ j. length so_far + j) k)
    ∙ ap (λ l. vs ++ l) (sym (drop-drop n (length so_far) all))
    ∙ ap (λ l. l ++ drop n (drop (length so_far) all)) e
    ∙ take-append-drop n (drop (length so_far) all))
    ∙ once

-- it has gone past the next n stops; the register's lanes may be others
inside_on : (t : Stream) (so_far vs : List (List ℕ)) (n : ℕ) (r q : Register) → InRegister t so_far r → Bears t q → length vs ≡ n
    → vs ≡ take n (drop r.moved (stops (shape_of r))) → InRegister t (so_far ++ vs) (moved_to (r.moved + n) q)
inside_on t so_far vs n r q s b k e =
    let z : r.moved + n ≡ length (so_far ++ vs) = omega (arith, s.moved, length-append so_far vs) in
    let p : q.pattern ≡ pattern_of t = b.pattern in
    record {
      bears = record { pattern = p; kind = b.kind; width = b.width; most = b.most };
      moved = z;
      each-once = next-once so_far vs (stops_of t) n k (e ∙ (λ j. take n (drop (s.moved j) (stops (s.bears.pattern j).shape)))) s.each-once;
      state = λ j. state_after (p j).shape (z j);
      height = λ j. height (p j).shape (z j);
      covers = s.covers;
    }

-- a stream goes on so by a calculation that is not refused
pub inside-goes : (vl : ℕ) (c : Calculation) (w : World) (i : ℕ) (t : Stream) (so_far : List (List ℕ)) → 8 ≤ vl → i < length w.machine.registers
    → refusal_of vl c w ≡ Ok tt → Good vl (reg w.machine i) → InRegister t so_far (reg w.machine i)
    → InRegister t (so_far ++ moved_in vl c w i) (reg (effect vl c w).machine i)
unfolding holding moved_by
inside-goes vl c w i t so_far l h e g s =
    goes vl c w i (λ q vs. InRegister t (so_far ++ vs) q) h e
    (record {
      idle = subst (λ l. InRegister t l r) (sym (append-nil so_far)) s;
      kept = λ o f. never (sym (rw (o, f)) ∙ inside-stream t so_far r s);
      loaded =
          λ o. inside_on t so_far (next_stops vl r) (stops_for r (length (next_chunk vl r))) r _ s (bears s.bears) (sym (past-chunk vl r l g o))
          (front o ∙ ap (λ n. take n (drop r.moved (stops (shape_of r)))) (sym (past-chunk vl r l g o)));
      stored =
          λ o k. let m = past-most vl r l g o (length (results vl c w)) k in
          inside_on t so_far _ (stops_for r (length (results vl c w))) r r s s.bears (length-take-le (stops_for r (length (results vl c w))) (next_stops vl r) m)
          (ap (take (stops_for r (length (results vl c w)))) (front o) ∙ take-take (stops_for r (length (results vl c w))) (length (next_stops vl r)) _ m);
    })
  where
    r : Register
    r = reg w.machine i

    bears : Bears t r → Bears t (holding r.width (given vl w.memory r) r)
    bears b = record { pattern = b.pattern; kind = b.kind; width = b.width; most = b.most }

    front : is_open r.state ≡ true → next_stops vl r ≡ take (length (next_stops vl r)) (drop r.moved (stops (shape_of r)))
    front o = next-front vl r o ∙ ap (take (length (next_stops vl r))) (come-open r o)

-- ---- a history

-- the world after all of a history is its last
pub world-last : (vl : ℕ) (es : List Entry) (w v : World) → Follow vl w es v → world_at w es (length es) ≡ v
unfolding Follow world_at
world-last vl [] w v f = f
world-last vl (e ∷ es) w v f = world-last vl es e.after v f.1

-- a stream goes on by a completed calculation, which leaves all registers good
pub did-inside : (vl : ℕ) (c : Calculation) (w v : World) (taken : ℕ → List (List ℕ)) (i : ℕ) (t : Stream) (so_far : List (List ℕ)) → 8 ≤ vl
    → AllGood vl w.machine → Named c → Did vl c w v taken → i < 32 → InRegister t so_far (reg w.machine i)
    → AllGood vl v.machine × InRegister t (so_far ++ taken i) (reg v.machine i)
did-inside vl c w v taken i t so_far l g nm d h s =
    let e : refusal_of vl c w ≡ Ok tt = (calculates-clear vl c w).1 d.calculates in
    let x : AllGood vl (effect vl c w).machine × InRegister t (so_far ++ taken i) (reg (effect vl c w).machine i) = (
      effect-good vl c w l g nm e,
      subst (λ vs. InRegister t (so_far ++ vs) (reg (effect vl c w).machine i)) (sym (did-taken vl c w g nm l v taken d i h)) (inside-goes vl c w i t so_far l (omega (arith, g.all)) e (g.good i h) s),
    ) in
    subst (λ u. AllGood vl u.machine × InRegister t (so_far ++ taken i) (reg u.machine i)) (sym (did-one vl c w g nm l v taken d)) x

-- at every moment of a history
pub follow-inside : (vl : ℕ) (es : List Entry) (w v : World) (i : ℕ) (t : Stream) (so_far : List (List ℕ)) (k : ℕ) → 8 ≤ vl → AllGood vl w.machine
    → AllNamed (map (λ (e : Entry). e.calculation) es) → Follow vl w es v → i < 32 → InRegister t so_far (reg w.machine i)
    → InRegister t (so_far ++ moved_of (take k es) i) (reg (world_at w es k).machine i)
unfolding Follow world_at moved_of AllNamed
follow-inside vl es w v i t so_far zero l g nm f h s = subst (λ vs. InRegister t vs (reg w.machine i)) (sym (append-nil so_far)) s
follow-inside vl [] w v i t so_far (suc k) l g nm f h s = subst (λ vs. InRegister t vs (reg w.machine i)) (sym (append-nil so_far)) s
follow-inside vl (e ∷ es) w v i t so_far (suc k) l g nm f h s =
    let d = did-inside vl e.calculation.calculation w e.after e.taken i t so_far l g nm.0 f.0 h s in
    subst (λ vs. InRegister t vs (reg (world_at e.after es k).machine i)) (append_assoc so_far (e.taken i) (moved_of (take k es) i))
    (follow-inside vl es e.after v i t (so_far ++ e.taken i) k l d.0 nm.1 f.1 h d.1)
