-- Bytes that are no accepted nest: the refusals and their places, computed from the definitions.
--
--   Judged, judged         what bytes are judged to be
--   one_with, two_with, five_with   nests of one, two and five loops
--   cut_off, out_of_range     1 and 2
--   rules                  6, 8 and 9
use Rattle.std.specs.Prelude.{ℕ, ◌≡◌, refl, List, [], ◌∷◌, ◌++◌, take, replicate}
use Rattle.codec.specs.Refusals.{number_of}
use Rattle.translator.specs.Reading.{Nested, nest, refused, nest_at}
use Rattle.translator.specs.Examples.{one_bytes, nest_in}

-- a nest that is accepted, or refused: the number and the place
pub data Judged : Type 0 where
  accepted : Judged
  refused_with : ℕ → ℕ → Judged

-- a nest that was read is accepted; a refusal has its number and its place
abbrev judged_as : Nested → Judged
judged_as (nest m) = accepted
judged_as (refused x at) = refused_with (number_of x) at

-- what bytes are judged to be: an accepted nest, or the refusal's number and place
unfoldable pub judged : List ℕ → Judged
unfolding nest_in
judged s = judged_as (nest_at s)

-- a nest of one loop: its head, its count, then its accesses
unfoldable pub one_with : List ℕ → List ℕ → List ℕ
one_with head count = head ++ (count ++ (0x00 ∷ 0x02 ∷ 0x08 ∷ 0x02 ∷ 0x10 ∷ 0x02 ∷ []))

-- of two loops, the inner one's count and term and the outer one's count given
unfoldable pub two_with : List ℕ → List ℕ → List ℕ → List ℕ
two_with count term outer = (0x00 ∷ 0x02 ∷ 0x00 ∷ 0x01 ∷ []) ++ (count ++ (term ++ (outer ++ replicate 9 0)))

-- of five loops of count 1, all terms 1 but the last, which is given
unfoldable pub five_with : ℕ → ℕ → List ℕ
five_with last term =
    0x00 ∷ 0x05 ∷ 0x00 ∷ 0x01 ∷ 0x01 ∷ 0x02 ∷ 0x02 ∷ 0x02 ∷ 0x02 ∷ 0x01 ∷ 0x02 ∷ 0x02 ∷ 0x02 ∷ 0x01 ∷ 0x02 ∷ last ∷ 0x01 ∷ term ∷ 0x01
    ∷ replicate 18 0

-- numbers that are cut off, the last of them with no byte at all; not shortest
pub cut_off :
    (judged [] ≡ refused_with 1 0)
    × (judged (take 4 one_bytes) ≡ refused_with 1 4)
    × (judged (take 10 one_bytes) ≡ refused_with 1 10)
    × (judged (one_with (0x00 ∷ 0x01 ∷ 0x00 ∷ 0x01 ∷ []) (0x83 ∷ 0x00 ∷ [])) ≡ refused_with 1 4)
    × (judged (take 10 one_bytes ++ (0x82 ∷ [])) ≡ refused_with 1 10)
unfolding judged one_bytes one_with
cut_off = (refl, refl, refl, refl, refl)

-- width code 4; loops 0 and 8; coupled above D; operation 0 and 8; a count above 4,096; a base above 1,048,576; a stride above
-- 1,048,576 and one below -1,048,576; a byte too many, a bad number too
pub out_of_range :
    (judged (one_with (0x03 ∷ 0x01 ∷ 0x01 ∷ 0x07 ∷ []) (0x80 ∷ 0x20 ∷ [])) ≡ accepted)
    × (judged (one_with (0x04 ∷ 0x01 ∷ 0x00 ∷ 0x01 ∷ []) (0x03 ∷ [])) ≡ refused_with 2 0)
    × (judged (one_with (0x00 ∷ 0x00 ∷ 0x00 ∷ 0x01 ∷ []) (0x03 ∷ [])) ≡ refused_with 2 1)
    × (judged (one_with (0x00 ∷ 0x08 ∷ 0x00 ∷ 0x01 ∷ []) (0x03 ∷ [])) ≡ refused_with 2 1)
    × (judged (one_with (0x00 ∷ 0x01 ∷ 0x02 ∷ 0x01 ∷ []) (0x03 ∷ [])) ≡ refused_with 2 2)
    × (judged (one_with (0x00 ∷ 0x01 ∷ 0x00 ∷ 0x00 ∷ []) (0x03 ∷ [])) ≡ refused_with 2 3)
    × (judged (one_with (0x00 ∷ 0x01 ∷ 0x00 ∷ 0x08 ∷ []) (0x03 ∷ [])) ≡ refused_with 2 3)
    × (judged (one_with (0x00 ∷ 0x01 ∷ 0x00 ∷ 0x01 ∷ []) (0x81 ∷ 0x20 ∷ [])) ≡ refused_with 2 4)
    × (judged (take 5 one_bytes ++ (0x81 ∷ 0x80 ∷ 0x40 ∷ [])) ≡ refused_with 2 5)
    × (judged (take 6 one_bytes ++ (0x82 ∷ 0x80 ∷ 0x80 ∷ 0x01 ∷ [])) ≡ refused_with 2 6)
    × (judged (take 6 one_bytes ++ (0x81 ∷ 0x80 ∷ 0x80 ∷ 0x01 ∷ [])) ≡ refused_with 2 6)
    × (judged (take 6 one_bytes ++ (0x80 ∷ 0x80 ∷ 0x80 ∷ 0x01 ∷ [])) ≡ refused_with 1 10)
    × (judged (one_bytes ++ (0x00 ∷ [])) ≡ refused_with 2 11)
    × (judged (one_bytes ++ (0x80 ∷ [])) ≡ refused_with 2 11)
unfolding judged one_bytes one_with
out_of_range = (refl, refl, refl, refl, refl, refl, refl, refl, refl, refl, refl, refl, refl, refl)

-- eight nonzero terms, nine; 4 less 1 for each of five rows, of six; 4,096 and one more in the second row; 1,024 x 1,024, 1,024 x 1,025;
-- nine terms and a byte too many; both 8 and 9
pub rules :
    (judged (five_with 0 0) ≡ accepted)
    × (judged (five_with 2 0) ≡ refused_with 6 0)
    × (judged (five_with 2 2) ≡ refused_with 6 0)
    × (judged (five_with 2 2 ++ (0x00 ∷ [])) ≡ refused_with 2 37)
    × (judged (two_with (0x04 ∷ []) (0x01 ∷ []) (0x05 ∷ [])) ≡ accepted)
    × (judged (two_with (0x04 ∷ []) (0x01 ∷ []) (0x06 ∷ [])) ≡ refused_with 8 0)
    × (judged (two_with (0x80 ∷ 0x20 ∷ []) (0x02 ∷ []) (0x01 ∷ [])) ≡ accepted)
    × (judged (two_with (0x80 ∷ 0x20 ∷ []) (0x02 ∷ []) (0x02 ∷ [])) ≡ refused_with 8 0)
    × (judged (two_with (0x80 ∷ 0x08 ∷ []) (0x00 ∷ []) (0x80 ∷ 0x08 ∷ [])) ≡ accepted)
    × (judged (two_with (0x80 ∷ 0x08 ∷ []) (0x00 ∷ []) (0x81 ∷ 0x08 ∷ [])) ≡ refused_with 9 0)
    × (judged (two_with (0x80 ∷ 0x08 ∷ []) (0x01 ∷ []) (0x80 ∷ 0x20 ∷ [])) ≡ refused_with 8 0)
unfolding judged two_with five_with
rules = (refl, refl, refl, refl, refl, refl, refl, refl, refl, refl, refl)
