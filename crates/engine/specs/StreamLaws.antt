-- What one calculation that is not refused does to one register's stream.
--
--   moved_in                            the stops of a register that a calculation goes past
--   Ways, goes                         the four ways that a register can go
--   once                               the stops gone past, then those to come, are those that were to come
--   pattern-stays, kind-stays, width-stays, stream-stays, stream-was   a stream keeps its pattern, kind and width, stays one, and was one
--   moved-counts                       they are counted
--   load_moves, store-moves            a load named as a source goes past its next chunk; the store that is the destination past the front of it
--   shut-idle, unnamed-idle            one that is not open, or not named, moves nothing
--   read_some                          a load that is read goes past at least one stop
--   not-destination, unnamed           an open load is no destination; where it is no source either, it stays
use Rattle.std.specs.Prelude.{◌≡◌, ℕ, ◌+◌, ◌<◌, ◌≤◌, Bool, true, false, cond, not, ◌&&◌, ◌||◌, List, [], ◌++◌, length, take, ◌==◌, nat_eq, Ok}
use Rattle.std.proofs.Math.Path.{refl, ap}
use Rattle.std.proofs.Common.{sym, ◌∙◌, subst, arith, take-take, length-take-le, eqb-true}
use Rattle.codec.specs.TestLaws.{never, and-false, both, and_left, and_right, and_both}
use Rattle.codec.specs.declared.operation.Calculation.{Calculation}
use Rattle.engine.specs.Memory.{holding}
use Rattle.engine.specs.Registers.{is_open, is_finished, is_load, open_load, open_store, to_come, next_stops, next_chunk, stops_for, moved_by, reg}
use Rattle.engine.specs.Calculate.{World, given, results, refusal_of, read_from, written_to, effect}
use Rattle.engine.specs.Good.{Good}
use Rattle.engine.specs.ComeLaws.{come-holding, come-moved-holding, split, next-front, next-some, past-chunk, past-most, IsStream, stream-moved}
use Rattle.engine.specs.CalculationLaws.{checked}
use Rattle.engine.specs.EffectLaws.{effect-reg, read-open, read-shut, written-open, written-shut, open-store, room}
use Rattle.engine.specs.declared.register.Register.{Register}

-- the stops of register i that a calculation goes past: of the open store that is the destination, as many as the result's lanes go past;
-- of an open load named as a source, its next chunk; else none
unfoldable pub moved_in : ℕ → Calculation → World → ℕ → List (List ℕ)
moved_in vl c w i =
    cond (open_store (reg w.machine i) && i == c.destination) (take (stops_for (reg w.machine i) (length (results vl c w))) (next_stops vl (reg w.machine i)))
    (cond (open_load (reg w.machine i) && (i == c.first || i == c.second)) (next_stops vl (reg w.machine i)) [])

-- what holds of register i after a calculation and of the stops gone past holds if it does for each way that the register can go: not
-- named or named and not open, it stays; a destination that is no stream holds the result; a load was read; a store was written
pub record Ways (vl : ℕ) (c : Calculation) (w : World) (i : ℕ) (P : Register → List (List ℕ) → Type 0) : Type 0 where
  pub idle : P (reg w.machine i) []
  pub kept : is_open (reg w.machine i).state ≡ false → is_finished (reg w.machine i).state ≡ false
      → P (holding (reg w.machine c.first).width (results vl c w) (reg w.machine i)) []
  pub loaded : is_open (reg w.machine i).state ≡ true
      → P
      (moved_by (length (next_chunk vl (reg w.machine i)))
      (holding (reg w.machine i).width (given vl w.memory (reg w.machine i)) (reg w.machine i)))
      (next_stops vl (reg w.machine i))
  pub stored : is_open (reg w.machine i).state ≡ true → length (results vl c w) ≤ length (next_chunk vl (reg w.machine i))
      → P (moved_by (length (results vl c w)) (reg w.machine i)) (take (stops_for (reg w.machine i) (length (results vl c w))) (next_stops vl (reg w.machine i)))

-- an open register that is no open store is an open load
open-load : (r : Register) → open_store r ≡ false → is_open r.state ≡ true → open_load r ≡ true
open-load r e o = and_both (is_open r.state) (is_load r.kind) o (go (is_load r.kind) (and-false (is_open r.state) (not (is_load r.kind)) e o))
  where
    go : (b : Bool) → not b ≡ false → b ≡ true
    go true f = refl
    go false f = never (sym f)

-- an open load is no open store
load-no-store : (r : Register) → open_load r ≡ true → open_store r ≡ false
load-no-store r e = and_right (is_open r.state) (not (is_load r.kind)) (ap not (both (is_open r.state) (is_load r.kind) e).1)

-- where the first test holds, its way is taken
first_way : {A : Type 0} (x : Bool) (s t : A) → x ≡ true → cond x s t ≡ s
first_way x s t e = rw e

-- where only the second test holds, its way is taken
second_way : {A : Type 0} (x y : Bool) (s t z : A) → x ≡ false → y ≡ true → cond x s (cond y t z) ≡ t
second_way x y s t z e f = rw (e, f)

-- where neither test holds, neither way is taken
no_way : {A : Type 0} (x y : Bool) (s t z : A) → x ≡ false → y ≡ false → cond x s (cond y t z) ≡ z
no_way x y s t z e f = rw (e, f)

module _ (vl : ℕ) (c : Calculation) (w : World) (i : ℕ) where
  -- the store that is the destination goes past as many stops as the result's lanes do
  pub store-moves : open_store (reg w.machine i) ≡ true → (i == c.destination) ≡ true
      → moved_in vl c w i ≡ take (stops_for (reg w.machine i) (length (results vl c w))) (next_stops vl (reg w.machine i))
  unfolding moved_in
  store-moves e d = first_way _ _ _ (and_both (open_store (reg w.machine i)) (i == c.destination) e d)

  -- a load named as a source goes past its next chunk
  pub load_moves : open_load (reg w.machine i) ≡ true → (i == c.first || i == c.second) ≡ true → moved_in vl c w i ≡ next_stops vl (reg w.machine i)
  unfolding moved_in
  load_moves e s =
      second_way _ _ _ _ _
      (and_left (open_store (reg w.machine i)) (i == c.destination) (load-no-store (reg w.machine i) e))
      (and_both (open_load (reg w.machine i)) (i == c.first || i == c.second) e s)

  -- a register that is not open moves nothing
  pub shut-idle : is_open (reg w.machine i).state ≡ false → moved_in vl c w i ≡ []
  unfolding moved_in
  shut-idle o =
      let r : Register = reg w.machine i in
      no_way _ _ _ _ _
      (and_left (open_store r) (i == c.destination) (and_left (is_open r.state) (not (is_load r.kind)) o))
      (and_left (open_load r) (i == c.first || i == c.second) (and_left (is_open r.state) (is_load r.kind) o))

  -- nor does one that is not named
  pub unnamed-idle : nat_eq i c.destination ≡ false → (i == c.first || i == c.second) ≡ false → moved_in vl c w i ≡ []
  unfolding moved_in
  unnamed-idle d s =
      no_way _ _ _ _ _
      (and_right (open_store (reg w.machine i)) (i == c.destination) d)
      (and_right (open_load (reg w.machine i)) (i == c.first || i == c.second) s)

  -- the ways that a register can go
  pub goes : (P : Register → List (List ℕ) → Type 0) → i < length w.machine.registers → refusal_of vl c w ≡ Ok tt → Ways vl c w i P
      → P (reg (effect vl c w).machine i) (moved_in vl c w i)
  goes P h e ways = go (i == c.destination) refl (i == c.first || i == c.second) refl (is_open r.state) refl (effect-reg vl c w i h)
    where
      r : Register
      r = reg w.machine i

      x : ℕ
      x = (reg w.machine c.first).width

      by : (q : Register) (l : List (List ℕ)) → P q l → reg (effect vl c w).machine i ≡ q → moved_in vl c w i ≡ l → P (reg (effect vl c w).machine i) (moved_in vl c w i)
      by q l p a b = subst (λ y. P y (moved_in vl c w i)) (sym a) (subst (P q) (sym b) p)

      at-destination : (Q : Register → Type 0) → (i == c.destination) ≡ true → Q (reg w.machine c.destination) → Q r
      at-destination Q d p = subst (λ j. Q (reg w.machine j)) (sym (eqb-true i c.destination d)) p

      source-kind : (a b : Bool) → (i == c.first) ≡ a → (i == c.second) ≡ b → (a || b) ≡ true → open_store r ≡ false
      source-kind true b p q t = subst (λ j. open_store (reg w.machine j) ≡ false) (sym (eqb-true i c.first p)) (checked vl c w e).first_kind
      source-kind false true p q t = subst (λ j. open_store (reg w.machine j) ≡ false) (sym (eqb-true i c.second q)) (checked vl c w e).second-kind
      source-kind false false p q t = never t

      go : (d : Bool) → (i == c.destination) ≡ d → (s : Bool) → (i == c.first || i == c.second) ≡ s → (o : Bool) → is_open r.state ≡ o
          → reg (effect vl c w).machine i ≡ cond d (written_to x (results vl c w) r) (cond s (read_from vl w.memory r) r)
          → P (reg (effect vl c w).machine i) (moved_in vl c w i)
      go true d s q true o a =
          by _ _ (ways.stored o (at-destination (λ y. is_open y.state ≡ true → length (results vl c w) ≤ length (next_chunk vl y)) d (room vl c w e) o))
          (a ∙ written-open x (results vl c w) r o)
          (store-moves (open-store r (at-destination (λ y. open_load y ≡ false) d (checked vl c w e).destination-kind) o) d)
      go true d s q false o a =
          by _ _ (ways.kept o (at-destination (λ y. is_finished y.state ≡ false) d (checked vl c w e).destination-ended))
          (a ∙ written-shut x (results vl c w) r o) (shut-idle o)
      go false d true q true o a =
          by _ _ (ways.loaded o) (a ∙ read-open vl w.memory r o)
          (load_moves (open-load r (source-kind (i == c.first) (i == c.second) refl refl q) o) q)
      go false d true q false o a = by _ _ ways.idle (a ∙ read-shut vl w.memory r o) (shut-idle o)
      go false d false q o p a = by _ _ ways.idle a (unnamed-idle d q)

module _ (vl : ℕ) (c : Calculation) (w : World) (i : ℕ) (h : i < length w.machine.registers) (e : refusal_of vl c w ≡ Ok tt) where
  -- the stops of a register that a calculation goes past, then those to come, are those that were to come
  pub once : 8 ≤ vl → Good vl (reg w.machine i) → moved_in vl c w i ++ to_come (reg (effect vl c w).machine i) ≡ to_come (reg w.machine i)
  once z g =
      goes vl c w i (λ q l. l ++ to_come q ≡ to_come r) h e
      (record {
        idle = refl;
        kept = λ o f. come-holding _ _ r;
        loaded = λ o. front (length (next_chunk vl r)) (next_stops vl r) _ o (whole o) (come-moved-holding (length (next_chunk vl r)) r.width (given vl w.memory r) r);
        stored = λ o k. front (length (results vl c w)) _ _ o (shorter o k) refl;
      })
    where
      r : Register
      r = reg w.machine i

      front : (n : ℕ) (l : List (List ℕ)) (q : Register) → is_open r.state ≡ true → l ≡ take (stops_for r n) (to_come r) → to_come q ≡ to_come (moved_by n r)
          → l ++ to_come q ≡ to_come r
      front n l q o a b = ap (λ y. y ++ to_come q) a ∙ ap (λ y. take (stops_for r n) (to_come r) ++ y) b ∙ split n r o

      shorter : is_open r.state ≡ true → length (results vl c w) ≤ length (next_chunk vl r)
          → take (stops_for r (length (results vl c w))) (next_stops vl r) ≡ take (stops_for r (length (results vl c w))) (to_come r)
      shorter o k =
          let n : ℕ = stops_for r (length (results vl c w)) in
          ap (take n) (next-front vl r o) ∙ take-take n (length (next_stops vl r)) (to_come r) (past-most vl r z g o (length (results vl c w)) k)

      whole : is_open r.state ≡ true → next_stops vl r ≡ take (stops_for r (length (next_chunk vl r))) (to_come r)
      whole o = next-front vl r o ∙ ap (λ n. take n (to_come r)) (sym (past-chunk vl r z g o))

  -- every register keeps its pattern
  pub pattern-stays : (reg (effect vl c w).machine i).pattern ≡ (reg w.machine i).pattern
  unfolding moved_by holding
  pattern-stays = goes vl c w i (λ q l. q.pattern ≡ (reg w.machine i).pattern) h e (record { idle = refl; kept = λ o f. refl; loaded = λ o. refl; stored = λ o k. refl })

  -- and its kind
  pub kind-stays : (reg (effect vl c w).machine i).kind ≡ (reg w.machine i).kind
  unfolding moved_by holding
  kind-stays = goes vl c w i (λ q l. q.kind ≡ (reg w.machine i).kind) h e (record { idle = refl; kept = λ o f. refl; loaded = λ o. refl; stored = λ o k. refl })

  -- the stops gone past are counted
  pub moved-counts : 8 ≤ vl → Good vl (reg w.machine i) → (reg (effect vl c w).machine i).moved ≡ (reg w.machine i).moved + length (moved_in vl c w i)
  unfolding moved_by holding
  moved-counts z g =
      goes vl c w i (λ q l. q.moved ≡ (reg w.machine i).moved + length l) h e
      (record {
        idle = omega arith;
        kept = λ o f. omega arith;
        loaded = λ o. ap (λ n. (reg w.machine i).moved + n) (past-chunk vl (reg w.machine i) z g o);
        stored =
            λ o k.
            ap (λ n. (reg w.machine i).moved + n)
            (sym (length-take-le (stops_for (reg w.machine i) (length (results vl c w))) (next_stops vl (reg w.machine i)) (past-most vl (reg w.machine i) z g o (length (results vl c w)) k)));
      })

  -- a register that is neither open nor finished has no stream
  no_stream : is_open (reg w.machine i).state ≡ false → is_finished (reg w.machine i).state ≡ false → IsStream (reg w.machine i) → false ≡ true
  no_stream o f s = sym (rw (o, f)) ∙ s

  -- a stream keeps its width
  pub width-stays : IsStream (reg w.machine i) → (reg (effect vl c w).machine i).width ≡ (reg w.machine i).width
  unfolding moved_by holding
  width-stays s =
      goes vl c w i (λ q l. q.width ≡ (reg w.machine i).width) h e
      (record { idle = refl; kept = λ o f. never (no_stream o f s); loaded = λ o. refl; stored = λ o k. refl })

  -- and stays a stream
  pub stream-stays : IsStream (reg w.machine i) → IsStream (reg (effect vl c w).machine i)
  stream-stays s =
      goes vl c w i (λ q l. IsStream q) h e
      (record { idle = s; kept = λ o f. never (no_stream o f s); loaded = λ o. stream-moved _ _; stored = λ o k. stream-moved _ _ })

  -- and was one
  pub stream-was : IsStream (reg (effect vl c w).machine i) → IsStream (reg w.machine i)
  unfolding holding
  stream-was =
      goes vl c w i (λ q l. IsStream q → IsStream (reg w.machine i)) h e
      (record { idle = λ s. s; kept = λ o f s. s; loaded = λ o s. rw o; stored = λ o k s. rw o })

-- a load that is read goes past at least one stop
pub read_some : (vl : ℕ) (c : Calculation) (w : World) (i : ℕ) → 8 ≤ vl → Good vl (reg w.machine i) → open_load (reg w.machine i) ≡ true
    → (i == c.first || i == c.second) ≡ true → 0 < length (moved_in vl c w i)
read_some vl c w i h g o s =
    let r : Register = reg w.machine i in
    subst (λ l. 0 < length l) (sym (load_moves vl c w i o s)) (next-some vl r h g (both (is_open r.state) (is_load r.kind) o).0)

-- no calculation that is not refused has an open load as its destination
pub not-destination : (vl : ℕ) (c : Calculation) (w : World) (i : ℕ) → refusal_of vl c w ≡ Ok tt → open_load (reg w.machine i) ≡ true
    → (i == c.destination) ≡ false
not-destination vl c w i e o = go (i == c.destination) refl
  where
    go : (b : Bool) → (i == c.destination) ≡ b → b ≡ false
    go false p = refl
    go true p =
        let k : open_load (reg w.machine c.destination) ≡ true = subst (λ j. open_load (reg w.machine j) ≡ true) (eqb-true i c.destination p) o in
        never (sym (checked vl c w e).destination-kind ∙ k)

-- an open load that is no source stays as it was
pub unnamed : (vl : ℕ) (c : Calculation) (w : World) (i : ℕ) → i < length w.machine.registers → refusal_of vl c w ≡ Ok tt
    → open_load (reg w.machine i) ≡ true → (i == c.first || i == c.second) ≡ false → reg (effect vl c w).machine i ≡ reg w.machine i
unnamed vl c w i h e o s = effect-reg vl c w i h ∙ no_way _ _ _ _ _ (not-destination vl c w i e o) s
