-- Three streams in step: two loads and a store of one shape and width. For the layer above: what a body of one calculation on them does,
-- over the stated loops, addresses, little-endian values and lanes alone.
--
--   Three, OneShape          a calculation's three patterns
--   Streaming                a register whose stream has gone past some stops
--   InStep                   the three streams at one stop
--   AllInside                every element of all three lies inside memory
--   StreamChunks             the stops of a stream's chunks, one chunk after the other
--   chunk_done, chunks_done    memory after a chunk: all lanes of both sources read, then all stored; after chunks in order
use Rattle.std.specs.Prelude.{◌≡◌, ℕ, ◌+◌, ◌*◌, ◌≤◌, List, [], ◌∷◌, map, length}
use Rattle.codec.specs.declared.header.Kind.{Kind}
use Rattle.codec.specs.declared.header.Kind.TheVariants.{Load, Store}
use Rattle.codec.specs.declared.operation.Action.{Action}
use Rattle.codec.specs.declared.operation.Task.TheVariants.{Each}
use Rattle.codec.specs.declared.operation.Calculation.{Calculation}
use Rattle.engine.specs.Chunks.{stops, chunk}
use Rattle.engine.specs.Memory.{fetch, stored}
use Rattle.engine.specs.Lanes.{lane, lanewise}
use Rattle.engine.specs.Registers.{state_after, reg}
use Rattle.engine.specs.Calculate.{World}
use Rattle.engine.specs.Good.{AllGood}
use Rattle.engine.specs.CalculationLaws.{Named}
use Rattle.engine.specs.Allowed.{AllLie}
use Rattle.engine.specs.declared.stream.Shape.{Shape}
use Rattle.engine.specs.declared.stream.Pattern.{Pattern}
use Rattle.engine.specs.declared.register.Register.{Register}

-- the three patterns of a calculation, its operation and its width
pub record Three : Type 0 where
  pub action : Action
  pub width : ℕ
  pub first : Pattern
  pub second : Pattern
  pub destination : Pattern

-- sizes, modifiers and coupling are the same
pub record OneShape (b : Three) (s : Shape) : Type 0 where
  pub first : b.first.shape ≡ s
  pub second : b.second.shape ≡ s
  pub destination : b.destination.shape ≡ s

-- a register whose stream has pattern p and has gone past n stops: open, or finished if these are all
pub record Streaming (p : Pattern) (kind : Kind) (width n : ℕ) (r : Register) : Type 0 where
  pub pattern : r.pattern ≡ p
  pub is : r.kind ≡ kind
  pub wide : r.width ≡ width
  pub moved : r.moved ≡ n
  pub state : r.state ≡ state_after p.shape n

-- a calculation from two loads to a store, in three registers or two, all of them at stop n
pub record InStep (vl : ℕ) (b : Three) (c : Calculation) (n : ℕ) (w : World) : Type 0 where
  pub named : Named c
  pub task : c.task ≡ Each b.action
  pub not_first : ¬ (c.first ≡ c.destination)
  pub not-second : ¬ (c.second ≡ c.destination)
  pub good : AllGood vl w.machine
  pub first : Streaming b.first Load b.width n (reg w.machine c.first)
  pub second : Streaming b.second Load b.width n (reg w.machine c.second)
  pub destination : Streaming b.destination Store b.width n (reg w.machine c.destination)

-- the elements vs of all three lie inside a memory of len bytes
pub record AllInside (b : Three) (len : ℕ) (vs : List (List ℕ)) : Type 0 where
  pub first : AllLie len b.width b.first vs
  pub second : AllLie len b.width b.second vs
  pub destination : AllLie len b.width b.destination vs

-- the stops of a stream's chunks, from stop n on, up to its end
unfoldable pub StreamChunks : Shape → ℕ → ℕ → List (List (List ℕ)) → Type 0
StreamChunks s lanes n [] = n ≡ length (stops s)
StreamChunks s lanes n (vs ∷ gs) = (vs ≡ chunk s lanes n) × (1 ≤ length vs) × StreamChunks s lanes (n + length vs) gs

-- memory after a chunk whose elements are vs: all lanes of both sources are read, then all are stored
abbrev pub chunk_done : Three → List ℕ → List (List ℕ) → List ℕ
chunk_done b memory vs =
    stored b.destination b.width memory vs
    (lanewise (lane b.action (8 * b.width)) (map (fetch b.first b.width memory) vs) (map (fetch b.second b.width memory) vs))

-- after chunks in order
unfoldable pub chunks_done : Three → List ℕ → List (List (List ℕ)) → List ℕ
chunks_done b memory [] = memory
chunks_done b memory (vs ∷ gs) = chunks_done b (chunk_done b memory vs) gs
