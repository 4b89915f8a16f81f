-- How many lanes a register has.
use Rattle.std.proofs.Common.{ℕ, ◌*◌, ◌≤◌, le-mul_of_pos_right, arith}

-- lanes that fit a register's 64 bytes are 64 at most
pub few-lanes : (count width : ℕ) → 1 ≤ width → count * width ≤ 64 → count ≤ 64
few-lanes count width p h = omega (arith, le-mul_of_pos_right {m = width} count p)
