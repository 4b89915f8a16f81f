-- Row sums, computed: kernels that sum a ragged coupled stream, at several vector lengths.
--
--   ragged              bytes in rows of 1, 5, 9 and 13
--   listed, kept        its sums stored one by one; added up in a register
--   halves              halfwords in rows of 1, 5 and 9, added up in memory
--   sums-cut            the chunks and their sums are others at each vector length, the total is not
use Rattle.std.specs.Prelude.{◌≡◌, ℕ, List, [], ◌∷◌, ◌++◌, map, drop, replicate, refl}
use Rattle.engine.specs.Memory.{contents}
use Rattle.engine.specs.Lanes.{sum}
use Rattle.engine.specs.Table.{done, answer_of, answer, register, bytes}
use Rattle.engine.specs.Samples.{ran}

-- bytes in register 1, coupled to dimension 1: size 1 growing by 4, four rows 16 apart
unfoldable pub ragged : List ℕ
ragged =
    1 ∷ 0x8b ∷ 0x81 ∷ 0x81 ∷ 0x80 ∷ 4 ∷ 0 ∷ 2 ∷ 1 ∷ 0 ∷ 1 ∷ 2 ∷ 2 ∷ 1 ∷ 0 ∷ 4 ∷ 0x20 ∷ 3 ∷ 1 ∷ 0 ∷ 0 ∷ 0 ∷ 4 ∷ 4 ∷ 1 ∷ []

-- the sum of each chunk to a store of bytes from 61 on, in register 3
unfoldable pub listed : List ℕ
listed = ragged ++ (1 ∷ 0x8b ∷ 3 ∷ 0x3d ∷ 2 ∷ 3 ∷ 0 ∷ 8 ∷ 2 ∷ 4 ∷ 3 ∷ 5 ∷ 1 ∷ 1 ∷ 8 ∷ 3 ∷ 1 ∷ 1 ∷ [])

-- the sum of register 5, which has no lanes at first, and so a lane of 0; the sum of each chunk to register 6; both added up in register 5
unfoldable pub kept : List ℕ
kept = ragged ++ (5 ∷ 1 ∷ 3 ∷ 8 ∷ 5 ∷ 5 ∷ 5 ∷ 8 ∷ 6 ∷ 1 ∷ 1 ∷ 1 ∷ 5 ∷ 5 ∷ 6 ∷ [])

-- halfwords in register 1, coupled to dimension 1: size 1 growing by 4, three rows 9 elements apart; the sum of each chunk to register 6,
-- which is added to the halfword at 54: eight times a load, coupled to one element, in register 2, and a store in register 3
unfoldable pub halves : List ℕ
halves =
    (1 ∷ 0x8b ∷ 0xa1 ∷ 0x81 ∷ 0x80 ∷ 4 ∷ 0 ∷ 2 ∷ 1 ∷ 0 ∷ 1 ∷ 2 ∷ 2 ∷ 1 ∷ 0 ∷ 3 ∷ 0x12 ∷ 3 ∷ 1 ∷ 0 ∷ 0 ∷ 0 ∷ 4 ∷ 4 ∷ 1 ∷ [])
    ++ (1 ∷ 0x8b ∷ 0xa2 ∷ 0x81 ∷ 0x80 ∷ 4 ∷ 0x36 ∷ 2 ∷ 2 ∷ 0 ∷ 1 ∷ 0 ∷ 2 ∷ 2 ∷ 0 ∷ 8 ∷ 0 ∷ 4 ∷ 2 ∷ [])
    ++ (1 ∷ 0x8b ∷ 0x23 ∷ 0x36 ∷ 2 ∷ 3 ∷ 0 ∷ 8 ∷ 0 ∷ 4 ∷ 3 ∷ [])
    ++ (5 ∷ 1 ∷ 2 ∷ 8 ∷ 6 ∷ 1 ∷ 1 ∷ 1 ∷ 3 ∷ 2 ∷ 6 ∷ [])

-- "The vector length cuts rows": rows of 1, 5, 9 and 13 bytes are six chunks at 8 bytes and four at 16; the total is 92 at each. Of
-- halfwords there are six chunks at 8 bytes, four at 16, three at 64
pub sums-cut :
    (drop 61 (ran 8 listed (bytes 0 61 ++ replicate 8 0)).world.memory ≡ 0 ∷ 90 ∷ 28 ∷ 40 ∷ 156 ∷ 34 ∷ 0 ∷ 0 ∷ [])
    × (drop 61 (ran 16 listed (bytes 0 61 ++ replicate 8 0)).world.memory ≡ 0 ∷ 90 ∷ 68 ∷ 190 ∷ 0 ∷ 0 ∷ 0 ∷ 0 ∷ [])
    × (map (λ vl. contents (register 5 (ran vl kept (bytes 0 61)).world.machine)) (8 ∷ 16 ∷ 64 ∷ []) ≡ (92 ∷ []) ∷ (92 ∷ []) ∷ (92 ∷ []) ∷ [])
    × (map (λ vl. answer (ran vl kept (bytes 0 61))) (8 ∷ 16 ∷ 64 ∷ []) ≡ done 6 18 ∷ done 4 12 ∷ done 4 12 ∷ [])
    × (map (λ vl. drop 54 (ran vl halves (bytes 0 54 ++ replicate 2 0)).world.memory) (8 ∷ 16 ∷ 64 ∷ []) ≡ (250 ∷ 10 ∷ []) ∷ (250 ∷ 10 ∷ []) ∷ (250 ∷ 10 ∷ []) ∷ [])
    × (map (λ vl. answer (ran vl halves (bytes 0 54 ++ replicate 2 0))) (8 ∷ 16 ∷ 64 ∷ []) ≡ done 6 12 ∷ done 4 8 ∷ done 3 6 ∷ [])
unfolding ragged listed kept halves register bytes answer_of answer ran sum
sums-cut = (refl, refl, refl, refl, refl, refl)
