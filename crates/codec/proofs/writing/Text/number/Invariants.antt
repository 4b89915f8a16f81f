-- `writing::Text::number` meets its contract: what was pushed and the groups that are left are the groups of the number; so many groups hold what is left.
use Rattle.std.proofs.Common.{ℕ, suc, ◌+◌, ◌^◌, ◌≤◌, ◌<◌, ◌≡◌, ◌++◌, length}
use Rattle.codec.specs.Numbers.{groups_of, number_bytes}
use Rattle.codec.proofs.writing.Text.number.Given as goal

abbrev pub invariant-loop-rest : goal.invariant-loop-rest
invariant-loop-rest l = (k : ℕ) × (l.rest < 128 ^ suc k) × (length l.self-inside.bytes.items + suc k ≤ length l.fn.self + 5) × (length l.fn.self ≤ 27) × (l.self-inside.bytes.items ++ groups_of k l.rest ≡ l.fn.self ++ number_bytes l.v)

abbrev pub decreases-loop-rest : goal.decreases-loop-rest
decreases-loop-rest l = l.rest
