-- Nests at the limits of "Numbers", in a memory of 65,536 bytes whose last byte they write: their premises by the bounds of their
-- indices, no visit listed.
--
--   wide_bytes, wide            one loop of 4,096
--   million_bytes, million      1,024 x 1,024 visits
--   wide-ready, million-ready  their premises
--   visits-limit               how many visits they have
use Rattle.std.specs.Prelude.{ℕ, ◌<◌, ◌≡◌, refl, List, [], ◌∷◌, length, get_or, drop}
use Rattle.std.proofs.Common.{arith}
use Rattle.engine.specs.LoopLaws.{Within}
use Rattle.translator.specs.Nests.{count_at, visits, place_up_to}
use Rattle.translator.specs.Examples.{nest_in}
use Rattle.translator.specs.PremiseTests.{every, Parted, Ready}
use Rattle.translator.specs.PremiseLaws.{bytes-tested, parted-at, parted}
use Rattle.translator.specs.RectangleLaws.{rectangle, count-plain, visits-many}
use Rattle.translator.specs.declared.nest.Nest.{Nest}

-- bytes, one loop of 4,096: sources from 0 and from 4,096 on, destination the last 4,096 bytes
unfoldable pub wide_bytes : List ℕ
wide_bytes = 0x00 ∷ 0x01 ∷ 0x00 ∷ 0x01 ∷ 0x80 ∷ 0x20 ∷ 0x00 ∷ 0x02 ∷ 0x80 ∷ 0x20 ∷ 0x02 ∷ 0x80 ∷ 0xe0 ∷ 0x03 ∷ 0x02 ∷ []

-- the nest of one loop of 4,096
unfoldable pub wide : Nest
unfolding nest_in wide_bytes
wide = nest_in wide_bytes

-- bytes, 1,024 x 1,024: the first source moves on with both loops, the second with the inner one, the destination by 32 with the outer
unfoldable pub million_bytes : List ℕ
million_bytes =
    0x00 ∷ 0x02 ∷ 0x00 ∷ 0x01
    ∷ 0x80 ∷ 0x08 ∷ 0x00
    ∷ 0x80 ∷ 0x08
    ∷ 0x00 ∷ 0x02 ∷ 0x02
    ∷ 0x80 ∷ 0x20 ∷ 0x02 ∷ 0x00
    ∷ 0xa0 ∷ 0xf8 ∷ 0x01 ∷ 0x02 ∷ 0x40
    ∷ []

-- the nest of 1,024 x 1,024 visits
unfoldable pub million : Nest
unfolding nest_in million_bytes
million = nest_in million_bytes

-- ---- one loop of 4,096

-- its index is below 4,096
wide_below : (v : List ℕ) → Within (count_at wide) 0 wide.loops [] v → get_or v 0 0 < 4096
unfolding wide
wide_below v w = omega (arith, w.below 0 (omega arith), count-plain wide refl 0 (drop 1 v))

-- both sources below 8,192, the destination from there on
wide-parted : (v : List ℕ) → Within (count_at wide) 0 wide.loops [] v → Parted wide 8192 65536 v
unfolding place_up_to wide
wide-parted v w = let i = wide_below v w in parted-at _ _ _ refl refl refl (omega arith) (omega arith) (omega arith) (omega arith)

-- its premises
pub wide-ready : Ready wide_bytes wide 65536
unfolding every wide
wide-ready = record { bytes = bytes-tested wide_bytes refl; read = refl; premises = parted wide 8192 65536 (omega arith) wide-parted }

-- ---- 1,024 x 1,024

-- both indices are below 1,024
million-below : (v : List ℕ) → Within (count_at million) 0 million.loops [] v → (get_or v 0 0 < 1024) × (get_or v 1 0 < 1024)
unfolding million
million-below v w = (
  omega (arith, w.below 0 (omega arith), count-plain million refl 0 (drop 1 v)),
  omega (arith, w.below 1 (omega arith), count-plain million refl 1 (drop 2 v)),
)

-- both sources below 8,192, the destination from there on
million-parted : (v : List ℕ) → Within (count_at million) 0 million.loops [] v → Parted million 8192 65536 v
unfolding place_up_to million
million-parted v w = let i = million-below v w in parted-at _ _ _ refl refl refl (omega arith) (omega arith) (omega arith) (omega arith)

-- its premises
pub million-ready : Ready million_bytes million 65536
unfolding every million
million-ready = record { bytes = bytes-tested million_bytes refl; read = refl; premises = parted million 8192 65536 (omega arith) million-parted }

-- ---- how many

-- 4,096 and 1,048,576 visits
pub visits-limit : (length (visits wide) ≡ 4096) × (length (visits million) ≡ 1048576)
unfolding rectangle wide million
visits-limit = (visits-many wide refl, visits-many million refl)
