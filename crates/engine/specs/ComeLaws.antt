-- What is still to come of one register's stream.
--
--   lanes-some                    a vector has a lane of any width
--   come-open, come-shut          what is to come of an open stream; of no other
--   come-at, come-moved, come-holding, come-moved-holding   after a move; after other lanes
--   split                         the first stops to come, and those to come after them
--   next-front, next-fewer, next-lanes, next-within, next-some   the next chunk: the front of what is to come, at most the lanes, within the stream, not empty
--   Next, next-is                 all its stops are elements, or the one stop is none
--   past-lanes, past-nothing, past-chunk, past-most, past-held   how many stops lanes go past, and the elements among these
--   next-lane                     its lanes are the stops behind those that it has gone past
--   stands, stays                 an open stream that moves on by nothing is as it was
--   IsStream, ended-stream, stream-moved        a stream that was ended
--   open-some, none-shut, shut-finished, finished-exactly, finished-all   open where some are to come, finished where none are
use Rattle.std.specs.Prelude.{◌≡◌, ℕ, ◌+◌, ◌-◌, ◌/◌, ◌<◌, ◌≤◌, Bool, true, false, cond, ◌||◌, ◌↔◌, List, [], ◌∷◌, ◌++◌, length, get_or, take, drop, nat_le, slice_index_or, refl}
use Rattle.std.proofs.Math.Path.{sym, ap}
use Rattle.std.proofs.Common.{◌∙◌, subst, arith, le-div_iff_mul-le, length-take, length-drop, take-append-drop, drop_of_length-le, drop-drop, get_or-take, get_or-drop, pow_pos, leb-true}
use Rattle.std.proofs.lemmas.Bool.{lt-leb}
use Rattle.codec.specs.TestLaws.{never}
use Rattle.engine.specs.Configure.{Covers}
use Rattle.engine.specs.Loops.{size_at}
use Rattle.engine.specs.Chunks.{stops, held_in, nothing_at, stream_groups, chunk}
use Rattle.engine.specs.ChunkLaws.{covered, groups-join, chunk-lanes, chunk-some, chunk-stops}
use Rattle.engine.specs.StopLaws.{among-length, among-front, chunk-kind, chunk-held}
use Rattle.engine.specs.Memory.{holding}
use Rattle.engine.specs.Registers.{is_open, is_finished, shape_of, to_come, next_stops, next_chunk, state_after, standing, moved_to, stops_for, moved_by}
use Rattle.engine.specs.Good.{IsWidth, Good}
use Rattle.engine.specs.GoodLaws.{width-most}
use Rattle.engine.specs.declared.register.State.{State}
use Rattle.engine.specs.declared.register.State.TheVariants.{Plain, Configuring, Open, Finished}
use Rattle.engine.specs.declared.register.Register.{Register}

-- a vector of at least 8 bytes has a lane of any width
pub lanes-some : (vl width : ℕ) → 8 ≤ vl → IsWidth width → 0 < vl / width
lanes-some vl width h i =
    let p : 0 < width = subst (λ n. 0 < n) (sym i.2) (pow_pos i.0) in
    (le-div_iff_mul-le {k = width} {x = 1} {y = vl} p).1 (omega (arith, width-most width i))

-- what is to come of an open stream: the stops that it has not gone past
pub come-open : (r : Register) → is_open r.state ≡ true → to_come r ≡ drop r.moved (stops (shape_of r))
unfolding to_come
come-open r e = rw e

-- of no other is any to come
pub come-shut : (r : Register) → is_open r.state ≡ false → to_come r ≡ []
unfolding to_come
come-shut r e = rw e

-- after n stops in all
pub come-at : (n : ℕ) (r : Register) → to_come (moved_to n r) ≡ drop n (stops (shape_of r))
unfolding to_come
come-at n r = go (nat_le (length (stops (shape_of r))) n) refl
  where
    go : (b : Bool) → nat_le (length (stops (shape_of r))) n ≡ b → cond (is_open (cond b Finished Open)) (drop n (stops (shape_of r))) [] ≡ drop n (stops (shape_of r))
    go true e = sym (drop_of_length-le (stops (shape_of r)) (leb-true _ _ e))
    go false e = refl

-- after n lanes more
pub come-moved : (n : ℕ) (r : Register) → to_come (moved_by n r) ≡ drop (r.moved + stops_for r n) (stops (shape_of r))
unfolding moved_by
come-moved n r = come-at (r.moved + stops_for r n) r

-- other lanes change nothing that is to come
pub come-holding : (width : ℕ) (xs : List ℕ) (r : Register) → to_come (holding width xs r) ≡ to_come r
unfolding to_come holding
come-holding width xs r = refl

-- nor after a move
pub come-moved-holding : (n width : ℕ) (xs : List ℕ) (r : Register) → to_come (moved_by n (holding width xs r)) ≡ to_come (moved_by n r)
unfolding holding
come-moved-holding n width xs r = come-moved n (holding width xs r) ∙ sym (come-moved n r)

-- the first of what is to come, as many stops as n lanes go past, then what is to come after them
pub split : (n : ℕ) (r : Register) → is_open r.state ≡ true → take (stops_for r n) (to_come r) ++ to_come (moved_by n r) ≡ to_come r
split n r e =
    let k : ℕ = stops_for r n in
    rw (come-open r e, come-moved n r)
    (ap (λ l. take k (drop r.moved (stops (shape_of r))) ++ l) (sym (drop-drop k r.moved (stops (shape_of r))))
    ∙ take-append-drop k (drop r.moved (stops (shape_of r))))

-- an open stream has its coupled dimension
pub open-covered : (vl : ℕ) (r : Register) → Good vl r → is_open r.state ≡ true → Covers (shape_of r).dims (shape_of r).coupling
open-covered vl r g e = covered (shape_of r) (shape_of r).coupling (g.opened e).0.accepted.covered

-- the stops of the next chunk are the front of what is to come
pub next-front : (vl : ℕ) (r : Register) → is_open r.state ≡ true → next_stops vl r ≡ take (length (next_stops vl r)) (to_come r)
unfolding next_stops
next-front vl r e =
    chunk-stops (shape_of r) (vl / r.width) r.moved ∙ ap (take (length (chunk (shape_of r) (vl / r.width) r.moved))) (sym (come-open r e))

-- it has at most as many elements as stops
pub next-fewer : (vl : ℕ) (r : Register) → length (next_chunk vl r) ≤ length (next_stops vl r)
unfolding next_chunk
next-fewer vl r = among-length (size_at (shape_of r)) (next_stops vl r)

-- it has at most as many elements as there are lanes
pub next-lanes : (vl : ℕ) (r : Register) → length (next_chunk vl r) ≤ vl / r.width
unfolding next_stops
next-lanes vl r =
    omega (arith, next-fewer vl r, chunk-lanes (stream_groups (shape_of r)) (vl / r.width) r.moved)

-- of an open stream as many are to come as it has not gone past
come-length : (r : Register) → is_open r.state ≡ true → length (to_come r) ≡ length (stops (shape_of r)) - r.moved
come-length r e = ap length (come-open r e) ∙ length-drop r.moved (stops (shape_of r))

-- it does not pass the end
pub next-within : (vl : ℕ) (r : Register) → Good vl r → is_open r.state ≡ true → r.moved + length (next_stops vl r) ≤ length (stops (shape_of r))
next-within vl r g e =
    let a : length (next_stops vl r) ≡ length (take (length (next_stops vl r)) (to_come r)) = ap length (next-front vl r e) in
    omega (arith, length-take (length (next_stops vl r)) (to_come r), come-length r e, (g.opened e).1)

-- it has a stop
pub next-some : (vl : ℕ) (r : Register) → 8 ≤ vl → Good vl r → is_open r.state ≡ true → 0 < length (next_stops vl r)
unfolding next_stops
next-some vl r h g e =
    chunk-some (stream_groups (shape_of r)) (vl / r.width) r.moved (lanes-some vl r.width h g.width)
    (subst (λ l. r.moved < length l) (sym (groups-join (size_at (shape_of r)) (shape_of r).dims (shape_of r).coupling)) (g.opened e).1)

-- ---- the lanes of the next chunk

-- an open stream stands at an element, and all stops of its next chunk are elements; or it stands at a coupled pass that holds none, and
-- the chunk is that one stop and has no lanes
pub data Next (vl : ℕ) (r : Register) : Type 0 where
  elements : nothing_at (shape_of r) r.moved ≡ false → next_chunk vl r ≡ next_stops vl r → Next vl r
  nothing : nothing_at (shape_of r) r.moved ≡ true → next_stops vl r ≡ slice_index_or (stops (shape_of r)) r.moved [] ∷ [] → next_chunk vl r ≡ [] → Next vl r

-- it is one or the other
pub next-is : (vl : ℕ) (r : Register) → 8 ≤ vl → Good vl r → is_open r.state ≡ true → Next vl r
unfolding next_chunk next_stops
next-is vl r h g e = go (nothing_at (shape_of r) r.moved) refl
  where
    some : 1 ≤ vl / r.width
    some = lanes-some vl r.width h g.width

    go : (b : Bool) → nothing_at (shape_of r) r.moved ≡ b → Next vl r
    go false t = elements t ((chunk-held (shape_of r) (vl / r.width) r.moved some (g.opened e).1).0 t)
    go true t =
        nothing t ((chunk-kind (shape_of r) (vl / r.width) r.moved some (g.opened e).1).1 t)
        ((chunk-held (shape_of r) (vl / r.width) r.moved some (g.opened e).1).1 t)

-- how many stops lanes go past, at an element
pub past-lanes : (r : Register) (n : ℕ) → nothing_at (shape_of r) r.moved ≡ false → stops_for r n ≡ n
past-lanes r n t = rw t

-- at a coupled pass that holds none
pub past-nothing : (r : Register) (n : ℕ) → nothing_at (shape_of r) r.moved ≡ true → stops_for r n ≡ 1
past-nothing r n t = rw t

module _ (vl : ℕ) (r : Register) (h : 8 ≤ vl) (g : Good vl r) (e : is_open r.state ≡ true) where
  -- the lanes of a chunk go past its stops
  pub past-chunk : stops_for r (length (next_chunk vl r)) ≡ length (next_stops vl r)
  past-chunk = go (next-is vl r h g e)
    where
      go : Next vl r → stops_for r (length (next_chunk vl r)) ≡ length (next_stops vl r)
      go (elements t a) = past-lanes r (length (next_chunk vl r)) t ∙ ap length a
      go (nothing t a b) = past-nothing r (length (next_chunk vl r)) t ∙ sym (ap length a)

  -- fewer of them go past fewer, or past the one where it stands
  pub past-most : (n : ℕ) → n ≤ length (next_chunk vl r) → stops_for r n ≤ length (next_stops vl r)
  past-most n p = go (next-is vl r h g e)
    where
      go : Next vl r → stops_for r n ≤ length (next_stops vl r)
      go (elements t a) = omega (arith, past-lanes r n t, ap length a)
      go (nothing t a b) = omega (arith, past-nothing r n t, ap length a)

  -- the elements among the stops that n lanes go past are the first n
  pub past-held : (n : ℕ) → n ≤ length (next_chunk vl r) → held_in (shape_of r) (take (stops_for r n) (next_stops vl r)) ≡ take n (next_chunk vl r)
  unfolding next_chunk
  past-held n p = go (next-is vl r h g e)
    where
      go : Next vl r → held_in (shape_of r) (take (stops_for r n) (next_stops vl r)) ≡ take n (next_chunk vl r)
      go (elements t a) =
          ap (λ k. held_in (shape_of r) (take k (next_stops vl r))) (past-lanes r n t) ∙ among-front (size_at (shape_of r)) (next_stops vl r) n a ∙ ap (take n) (sym a)
      go (nothing t a b) =
          let z : n ≡ 0 = omega (arith, ap length b) in
          ap (λ k. held_in (shape_of r) (take k (next_stops vl r))) (past-nothing r n t)
          ∙ ap (λ l. held_in (shape_of r) (take 1 l)) a
          ∙ sym (ap (held_in (shape_of r)) a)
          ∙ b
          ∙ ap (λ k. take k (next_chunk vl r)) (sym z)

  -- lane k of it is the stop k behind those that it has gone past
  pub next-lane : (k : ℕ) → k < length (next_chunk vl r) → slice_index_or (next_chunk vl r) k [] ≡ slice_index_or (stops (shape_of r)) (r.moved + k) []
  next-lane k p = go (next-is vl r h g e)
    where
      go : Next vl r → slice_index_or (next_chunk vl r) k [] ≡ slice_index_or (stops (shape_of r)) (r.moved + k) []
      go (elements t a) =
          ap (λ l. get_or l k []) (a ∙ next-front vl r e)
          ∙ get_or-take (length (next_stops vl r)) (to_come r) k [] (omega (arith, ap length a))
          ∙ ap (λ l. get_or l k []) (come-open r e)
          ∙ get_or-drop r.moved (stops (shape_of r)) k []
      go (nothing t a b) = absurd (omega (arith, ap length b))

-- ---- streams

-- a stream that was ended
abbrev pub IsStream : Register → Type 0
IsStream r = (is_open r.state || is_finished r.state) ≡ true

-- finished or open, by whether none is left
pub ended-stream : (b : Bool) → (is_open (cond b Finished Open) || is_finished (cond b Finished Open)) ≡ true
ended-stream true = refl
ended-stream false = refl

-- a register that moved is one
pub stream-moved : (n : ℕ) (r : Register) → IsStream (moved_by n r)
unfolding moved_by
stream-moved n r = ended-stream (nat_le (length (stops (shape_of r))) (r.moved + stops_for r n))

-- of an open one some are to come
pub open-some : (vl : ℕ) (r : Register) → Good vl r → is_open r.state ≡ true → 0 < length (to_come r)
open-some vl r g e = omega (arith, come-length r e, (g.opened e).1)

-- a finished register is not open
finished-shut : (k : State) → is_finished k ≡ true → is_open k ≡ false
finished-shut Plain e = refl
finished-shut Configuring e = refl
finished-shut Open e = never e
finished-shut Finished e = refl

-- a stream that is not open is finished
pub shut-finished : (k : State) → (is_open k || is_finished k) ≡ true → is_open k ≡ false → is_finished k ≡ true
shut-finished Plain p q = p
shut-finished Configuring p q = p
shut-finished Open p q = never (sym q)
shut-finished Finished p q = refl

-- of which none is to come is not open
pub none-shut : (vl : ℕ) (r : Register) → Good vl r → length (to_come r) ≤ 0 → is_open r.state ≡ false
none-shut vl r g h = go (is_open r.state) refl
  where
    go : (b : Bool) → is_open r.state ≡ b → b ≡ false
    go false e = refl
    go true e = absurd (omega (arith, open-some vl r g e))

-- an open stream that has gone past as many stops as it has is as it was
pub stands : (vl : ℕ) (r : Register) → Good vl r → r.state ≡ Open → moved_to r.moved r ≡ r
stands vl r g e =
    let o = g.opened (ap is_open e) in
    let state : state_after (shape_of r) r.moved ≡ r.state = ap (λ b. cond b Finished Open) (lt-leb (length (stops (shape_of r))) r.moved o.1) ∙ sym e in
    λ i. standing (state i) r.moved (sym o.0.index i) (sym o.0.height i) r

-- "n = 0 moves nothing": an open stream that stands at an element and moves on by nothing is as it was
pub stays : (vl : ℕ) (r : Register) → Good vl r → r.state ≡ Open → nothing_at (shape_of r) r.moved ≡ false → moved_by 0 r ≡ r
unfolding moved_by
stays vl r g e t =
    let z : r.moved + stops_for r 0 ≡ r.moved = omega (arith, past-lanes r 0 t) in
    ap (λ n. moved_to n r) z ∙ stands vl r g e

-- it is finished exactly when nothing is to come
pub finished-exactly : (vl : ℕ) (r : Register) → Good vl r → IsStream r → (is_finished r.state ≡ true) ↔ (to_come r ≡ [])
finished-exactly vl r g s =
    (λ f. come-shut r (finished-shut r.state f), λ e. shut-finished r.state s (none-shut vl r g (omega (arith, ap length e))))

-- it is finished exactly when it has gone past all its stops
pub finished-all : (vl : ℕ) (r : Register) → Good vl r → IsStream r → (is_finished r.state ≡ true) ↔ (r.moved ≡ length (stops (shape_of r)))
finished-all vl r g s = (λ f. (g.finished f).1, λ e. shut-finished r.state s (go e (is_open r.state) refl))
  where
    go : r.moved ≡ length (stops (shape_of r)) → (b : Bool) → is_open r.state ≡ b → b ≡ false
    go e false o = refl
    go e true o = absurd (omega (arith, (g.opened o).1))
