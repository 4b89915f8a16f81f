-- What a calculation that is not refused moves of each register, and what it leaves, case by case; and memory.
--
--   next-chunk, next_one           an open stream's next chunk is a chunk, and the only one
--   given-plain, given-open        the lanes of a source
--   open-load, open-store, is-source   a source, a destination that is open; a register that is a source
--   loaded                         a load that has moved on
--   was, Went, went-plain, went_store, went-load, went-source, went-other   each register
--   target, memory_kept, memory-stored   memory
use Rattle.std.specs.Prelude.{◌≡◌, ℕ, ◌+◌, ◌/◌, ◌<◌, ◌≤◌, true, false, not, ◌||◌, ◌⊎◌, List, [], map, length, take, drop, ◌==◌, nat_eq, refl}
use Rattle.std.proofs.Common.{sym, ◌∙◌, inl, inr, arith, eq-eqb, ne_eqb}
use Rattle.std.proofs.Math.Path.{ap}
use Rattle.std.proofs.Math.Seq.{take-take}
use Rattle.codec.specs.TestLaws.{and_both, or-second}
use Rattle.codec.specs.declared.operation.Calculation.{Calculation}
use Rattle.engine.specs.Chunks.{stops, held_in}
use Rattle.engine.specs.Memory.{fetch, stored, contents, holding}
use Rattle.engine.specs.Registers.{is_open, is_load, open_load, open_store, shape_of, next_stops, next_chunk, moved_to, stops_for, moved_by, reg}
use Rattle.engine.specs.Calculate.{World, given, results, read_from, written_to, memory_after, effect}
use Rattle.engine.specs.Allowed.{Source, Destination}
use Rattle.engine.specs.Good.{Good}
use Rattle.engine.specs.ComeLaws.{lanes-some, come-open, next-front, past-chunk, past-most, past-held}
use Rattle.engine.specs.EffectLaws.{effect-reg, read-open, read-shut, written-open, written-shut}
use Rattle.engine.specs.OperandLaws.{stored-front}
use Rattle.engine.specs.StreamLaws.{moved_in, store-moves, load_moves, shut-idle, unnamed-idle}
use Rattle.engine.specs.Histories.{Chunk}
use Rattle.engine.specs.ChunkExact.{chunk-is, chunk-one}
use Rattle.engine.specs.declared.register.State.TheVariants.{Plain, Open}
use Rattle.engine.specs.declared.register.Register.{Register}

-- ---- one register

module _ (vl : ℕ) (r : Register) (l : 8 ≤ vl) (g : Good vl r) (o : r.state ≡ Open) where
  -- an open stream's next chunk is a chunk
  pub next-chunk : Chunk (shape_of r) (vl / r.width) r.moved (next_stops vl r)
  unfolding next_stops
  next-chunk = let s = g.opened (ap is_open o) in chunk-is (shape_of r) s.0.accepted (vl / r.width) r.moved (lanes-some vl r.width l g.width) s.1

  -- and the only one
  pub next_one : (vs : List (List ℕ)) → Chunk (shape_of r) (vl / r.width) r.moved vs → vs ≡ next_stops vl r
  unfolding next_stops
  next_one = let s = g.opened (ap is_open o) in chunk-one (shape_of r) s.0.accepted (vl / r.width) r.moved (lanes-some vl r.width l g.width) s.1

module _ (vl : ℕ) (memory : List ℕ) (r : Register) where
  -- a plain source gives its valid lanes
  pub given-plain : r.state ≡ Plain → given vl memory r ≡ contents r
  unfolding given
  given-plain p = let o : is_open r.state ≡ false = ap is_open p in rw o

  -- an open one gives what memory holds at its next chunk
  pub given-open : r.state ≡ Open → given vl memory r ≡ map (fetch r.pattern r.width memory) (next_chunk vl r)
  unfolding given
  given-open p = let o : is_open r.state ≡ true = ap is_open p in rw o

-- a register is not both
pub not-both : {X : Type 0} (r : Register) → r.state ≡ Plain → r.state ≡ Open → X
not-both r p o = absurd (let z : ◌≡◌ {A = ℕ} 0 1 = cc in omega arith)

-- an open source is a load
pub open-load : (r : Register) → Source r → r.state ≡ Open → open_load r ≡ true
open-load r (Source.plain p) o = not-both r p o
open-load r (Source.load p k) o = and_both (is_open r.state) (is_load r.kind) (ap is_open p) (ap is_load k)

-- an open destination is a store
pub open-store : (r : Register) → Destination r → r.state ≡ Open → open_store r ≡ true
open-store r (Destination.plain p) o = not-both r p o
open-store r (Destination.store p k) o = and_both (is_open r.state) (not (is_load r.kind)) (ap is_open p) (ap (λ x. not (is_load x)) k)

-- a register that is a source, as the effect tells it
pub is-source : (c : Calculation) (i : ℕ) → (i ≡ c.first) ⊎ (i ≡ c.second) → (i == c.first || i == c.second) ≡ true
is-source c i (inl p) = rw (eq-eqb i c.first p)
is-source c i (inr p) = or-second (i == c.first) (i == c.second) (eq-eqb i c.second p)

-- a load that has moved on by the stops of a chunk, whose lanes it holds
abbrev pub loaded : List ℕ → Register → List (List ℕ) → Register
loaded memory r vs = moved_to (r.moved + length vs) (holding r.width (map (fetch r.pattern r.width memory) (held_in (shape_of r) vs)) r)

-- ---- each register: what it moves, and what it is afterwards

module _ (vl : ℕ) (c : Calculation) (w : World) (i : ℕ) (h : i < length w.machine.registers) where
  -- register i before it
  abbrev pub was : Register
  was = reg w.machine i

  -- it goes past vs, and is q afterwards
  abbrev pub Went : List (List ℕ) → Register → Type 0
  Went vs q = (moved_in vl c w i ≡ vs) × (reg (effect vl c w).machine i ≡ q)

  -- a destination is written
  written : i ≡ c.destination → reg (effect vl c w).machine i ≡ written_to (reg w.machine c.first).width (results vl c w) was
  written p = effect-reg vl c w i h ∙ rw (eq-eqb i c.destination p)

  -- a source that is no destination is read
  read : ¬ (i ≡ c.destination) → (i ≡ c.first) ⊎ (i ≡ c.second) → reg (effect vl c w).machine i ≡ read_from vl w.memory was
  read n s = effect-reg vl c w i h ∙ rw (ne_eqb i c.destination n, is-source c i s)

  -- a plain destination
  pub went-plain : i ≡ c.destination → was.state ≡ Plain
      → Went [] (holding (reg w.machine c.first).width (results vl c w) was)
  went-plain p s = (shut-idle vl c w i (ap is_open s), written p ∙ written-shut _ (results vl c w) was (ap is_open s))

  -- a store
  pub went_store : i ≡ c.destination → Destination was → was.state ≡ Open → 8 ≤ vl → Good vl was
      → length (results vl c w) ≤ length (next_chunk vl was)
      → Went (take (stops_for was (length (results vl c w))) (drop was.moved (stops (shape_of was))))
      (moved_to (was.moved + stops_for was (length (results vl c w))) was)
  unfolding moved_by
  went_store p k s l g m =
      let n : ℕ = stops_for was (length (results vl c w)) in (
        store-moves vl c w i (open-store was k s) (eq-eqb i c.destination p)
            ∙ ap (take n) (next-front vl was (ap is_open s))
            ∙ take-take n (length (next_stops vl was)) _ (past-most vl was l g (ap is_open s) (length (results vl c w)) m)
            ∙ ap (take n) (come-open was (ap is_open s)),
        written p ∙ written-open _ (results vl c w) was (ap is_open s),
      )

  -- a load
  pub went-load : ¬ (i ≡ c.destination) → (i ≡ c.first) ⊎ (i ≡ c.second) → Source was → was.state ≡ Open → 8 ≤ vl → Good vl was
      → Went (next_stops vl was) (loaded w.memory was (next_stops vl was))
  unfolding moved_by holding next_chunk
  went-load n f k s l g = (
    load_moves vl c w i (open-load was k s) (is-source c i f),
    read n f
        ∙ read-open vl w.memory was (ap is_open s)
        ∙ ap (λ xs. moved_by (length (next_chunk vl was)) (holding was.width xs was)) (given-open vl w.memory was s)
        ∙ ap (λ j. moved_to (was.moved + j) (holding was.width (map (fetch was.pattern was.width w.memory) (next_chunk vl was)) was)) (past-chunk vl was l g (ap is_open s)),
  )

  -- a plain source
  pub went-source : ¬ (i ≡ c.destination) → (i ≡ c.first) ⊎ (i ≡ c.second) → was.state ≡ Plain → Went [] was
  went-source n f s = (shut-idle vl c w i (ap is_open s), read n f ∙ read-shut vl w.memory was (ap is_open s))

  -- any other
  pub went-other : ¬ (i ≡ c.destination) → ¬ (i ≡ c.first) → ¬ (i ≡ c.second) → Went [] was
  went-other n f s =
      let d : nat_eq i c.destination ≡ false = ne_eqb i c.destination n in
      let a : (i == c.first || i == c.second) ≡ false = rw (ne_eqb i c.first f, ne_eqb i c.second s) in
      (unnamed-idle vl c w i d a, effect-reg vl c w i h ∙ rw (d, a))

-- ---- memory

module _ (vl : ℕ) (c : Calculation) (w : World) where
  -- the destination before it
  abbrev pub target : Register
  target = reg w.machine c.destination

  -- with a plain destination memory stays
  pub memory_kept : target.state ≡ Plain → (effect vl c w).memory ≡ w.memory
  unfolding effect memory_after
  memory_kept p = let o : is_open target.state ≡ false = ap is_open p in rw o

  -- a store's elements that moved hold the lanes
  pub memory-stored : Destination target → target.state ≡ Open → 8 ≤ vl → Good vl target → length (results vl c w) ≤ length (next_chunk vl target)
      → (effect vl c w).memory
      ≡ stored target.pattern target.width w.memory (held_in (shape_of target) (moved_in vl c w c.destination)) (results vl c w)
  unfolding effect memory_after
  memory-stored k s l g m =
      let o : is_open target.state ≡ true = ap is_open s in
      let held : held_in (shape_of target) (moved_in vl c w c.destination) ≡ take (length (results vl c w)) (next_chunk vl target) =
      ap (held_in (shape_of target)) (store-moves vl c w c.destination (open-store target k s) (eq-eqb c.destination c.destination refl))
      ∙ past-held vl target l g o (length (results vl c w)) m in
      rw (o, held) (sym (stored-front target.pattern target.width w.memory (next_chunk vl target) (results vl c w)))
