-- The chunks of a stream in order, one by one.
--
--   chunks-over, chunks-next   no chunk is left; the next one, and those behind it
--   done_none, done_next       memory after none; after the next one and those behind it
use Rattle.std.specs.Prelude.{◌≡◌, ℕ, ◌+◌, ◌≤◌, List, [], ◌∷◌, length, refl}
use Rattle.engine.specs.Chunks.{stops, chunk}
use Rattle.engine.specs.InStep.{Three, StreamChunks, chunk_done, chunks_done}
use Rattle.engine.specs.declared.stream.Shape.{Shape}

-- where no chunk is left, the stream has gone past all stops
pub chunks-over : (s : Shape) (lanes n : ℕ) → StreamChunks s lanes n [] → n ≡ length (stops s)
unfolding StreamChunks
chunks-over s lanes n c = c

-- the next chunk, and those behind it
pub chunks-next : (s : Shape) (lanes n : ℕ) (vs : List (List ℕ)) (gs : List (List (List ℕ))) → StreamChunks s lanes n (vs ∷ gs)
    → (vs ≡ chunk s lanes n) × (1 ≤ length vs) × StreamChunks s lanes (n + length vs) gs
unfolding StreamChunks
chunks-next s lanes n vs gs c = c

-- no chunk changes nothing
pub done_none : (b : Three) (memory : List ℕ) → chunks_done b memory [] ≡ memory
unfolding chunks_done
done_none b memory = refl

-- a chunk, then those behind it
pub done_next : (b : Three) (memory : List ℕ) (vs : List (List ℕ)) (gs : List (List (List ℕ)))
    → chunks_done b memory (vs ∷ gs) ≡ chunks_done b (chunk_done b memory vs) gs
unfolding chunks_done
done_next b memory vs gs = refl
