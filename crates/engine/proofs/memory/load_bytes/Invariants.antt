-- `memory::load_bytes` meets its contract: at byte k, counted down, the number is that of the bytes from k on.
use Rattle.std.proofs.Common.{◌≡◌, ◌+◌, ◌-◌, ◌*◌, ◌^◌, ◌<◌}
use Rattle.engine.specs.Memory.{value_at}
use Rattle.engine.proofs.memory.load_bytes.Given as goal

abbrev pub invariant-loop-k : goal.invariant-loop-k
invariant-loop-k l = (l.x ≡ value_at l.bytes (l.at + l.k) (l.width - l.k)) × (l.x < 2 ^ (8 * (l.width - l.k)))
