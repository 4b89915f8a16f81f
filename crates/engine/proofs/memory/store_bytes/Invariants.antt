-- `memory::store_bytes` meets its contract: what is left to store, stored behind the bytes that were, gives the same memory throughout.
use Rattle.std.proofs.Common.{◌≡◌, ◌+◌, ◌-◌}
use Rattle.std.proofs.lemmas.List.Edits.{sets}
use Rattle.engine.specs.Memory.{little_endian}
use Rattle.engine.proofs.memory.store_bytes.Given as goal

abbrev pub invariant-loop-k : goal.invariant-loop-k
invariant-loop-k l = sets l.bytes (l.at + l.k) (little_endian (l.width - l.k) l.rest) ≡ sets l.initial.bytes l.at (little_endian l.width l.x)
