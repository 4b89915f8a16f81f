-- Nests that are given, for which the premises of promise 3 hold, computed from the definitions: their runs are among those it speaks of.
--
--   one, triangle, ragged, in_place   01's nest; a triangle, coupled or not; rows of which some have no visit; a nest that writes over its
--                                    first source
--   examples-ready             the premises of these and of three loops, in the memory of their runs
use Rattle.std.specs.Prelude.{ℕ, refl, List, [], ◌∷◌}
use Rattle.engine.specs.Loops.{span, loops}
use Rattle.translator.specs.Nests.{terms_at, count_at, visits, place_up_to}
use Rattle.translator.specs.Examples.{one_bytes, triangle_bytes, ragged_bytes, three_bytes, three, nest_in}
use Rattle.translator.specs.PremiseTests.{every, every_pair, Ready}
use Rattle.translator.specs.PremiseLaws.{ready}
use Rattle.translator.specs.declared.nest.Nest.{Nest}

-- 01's nest
unfoldable pub one : Nest
unfolding nest_in one_bytes
one = nest_in one_bytes

-- the triangle, coupled to loop c
unfoldable pub triangle : ℕ → Nest
unfolding nest_in triangle_bytes
triangle c = nest_in (triangle_bytes c)

-- three rows, coupled to loop c, the innermost loop of this count and this term
unfoldable pub ragged : ℕ → ℕ → ℕ → Nest
unfolding nest_in ragged_bytes
ragged c count term = nest_in (ragged_bytes c count term)

-- 01's nest with its first source as its destination: each visit writes over what it alone reads
unfoldable pub in_place_bytes : List ℕ
in_place_bytes = 0x00 ∷ 0x01 ∷ 0x00 ∷ 0x01 ∷ 0x03 ∷ 0x00 ∷ 0x02 ∷ 0x08 ∷ 0x02 ∷ 0x00 ∷ 0x02 ∷ []

-- the nest that writes over its first source
unfoldable pub in_place : Nest
unfolding nest_in in_place_bytes
in_place = nest_in in_place_bytes

-- 01's nest in a memory of 19 bytes; the triangle, not coupled, coupled to its rows and to the whole, in 36; three loops in 510; the nest
-- that writes over its first source in 11; rows of 0, 1 and 2 visits in 30, and of 2, 1 and 0 in 25, coupled to the rows
pub examples-ready :
    Ready one_bytes one 19
    × Ready (triangle_bytes 0) (triangle 0) 36
    × Ready (triangle_bytes 1) (triangle 1) 36
    × Ready (triangle_bytes 2) (triangle 2) 36
    × Ready three_bytes three 510
    × Ready in_place_bytes in_place 11
    × Ready (ragged_bytes 1 0x00 0x02) (ragged 1 0x00 0x02) 30
    × Ready (ragged_bytes 1 0x02 0x01) (ragged 1 0x02 0x01) 25
unfolding one triangle ragged three_bytes three in_place terms_at count_at span loops visits place_up_to every every_pair
examples-ready = (
  ready one_bytes one 19 refl refl refl,
  ready (triangle_bytes 0) (triangle 0) 36 refl refl refl,
  ready (triangle_bytes 1) (triangle 1) 36 refl refl refl,
  ready (triangle_bytes 2) (triangle 2) 36 refl refl refl,
  ready three_bytes three 510 refl refl refl,
  ready in_place_bytes in_place 11 refl refl refl,
  ready (ragged_bytes 1 0x00 0x02) (ragged 1 0x00 0x02) 30 refl refl refl,
  ready (ragged_bytes 1 0x02 0x01) (ragged 1 0x02 0x01) 25 refl refl refl,
)
