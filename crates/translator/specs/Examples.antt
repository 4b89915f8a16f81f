-- Nests and their sheets, computed from the definitions.
--
--   one_bytes, three_bytes, three, triangle_bytes, ragged_bytes   nests as bytes, and the numbers of one
--   the_nest, nest_in                   the nest that was read; the nest that bytes are
--   sheet_for, translate_answer_for      what translating writes, and what it answers
--   sheets                            01's nest and its 42 bytes, 17
--   three_loops                        three loops with three terms: read, written, its visits, places, highs, modifiers, operations
--   chunks                            triangles, coupled or not, and how many visits their chunks have
--   alike                             the sheets of one coupled to its outermost loop, and of a nest without a visit
--   three_streams                      the streams of the sheet of three loops
use Rattle.std.specs.Prelude.{ℕ, zero, suc, ◌+◌, ◌≡◌, refl, List, [], ◌∷◌, ◌++◌, map, length, replicate, ℤ, pos, negsuc, Ok, Some}
use Rattle.codec.specs.Numbers.{groups_at, number_at, signed_of, groups_of}
use Rattle.codec.specs.Headers.{word_of}
use Rattle.codec.specs.Operations.{operation_bytes, calculation_bytes, bytes_of_all}
use Rattle.codec.specs.declared.header.Kind.TheVariants.{Load, Store}
use Rattle.codec.specs.declared.header.Width.TheVariants.{H}
use Rattle.codec.specs.declared.operation.Action.TheVariants as action
use Rattle.codec.specs.declared.operation.Behaviour.{Behaviour}
use Rattle.codec.specs.declared.operation.Behaviour.TheVariants as behaviour
use Rattle.codec.specs.declared.operation.Parameter.TheVariants as parameter
use Rattle.codec.specs.declared.operation.Operation.{Operation}
use Rattle.codec.specs.declared.operation.Operation.TheVariants as op
use Rattle.engine.specs.Loops.{size_at, added, span, loops, elements}
use Rattle.engine.specs.Chunks.{pass_stops, is_element, elements_among, with_elements, groups, left_after, chunk_of}
use Rattle.engine.specs.Rules.{only, highs, product}
use Rattle.engine.specs.Rules
use Rattle.engine.specs.Addresses.{address_up_to, address}
use Rattle.engine.specs.Checks.{first_of}
use Rattle.engine.specs.ShapeCheck.{check_shape}
use Rattle.engine.specs.Given.{pattern_of, ended, given_from, given_for}
use Rattle.engine.specs.declared.stream.Modifier.{Modifier}
use Rattle.translator.specs.Fields.{term_fields, loop_fields, stride_fields, no_nest}
use Rattle.translator.specs.Nests.{terms_at, count_at, visits, place_up_to, place_of, chunk_at, visits_among}
use Rattle.translator.specs.NestRules.{nonzero_for, nonzero_from, total, highs_from, low_or_high_from, highs_of}
use Rattle.translator.specs.Reading.{Nested, nest, refused, nest_at, numbers_bytes, nest_bytes}
use Rattle.translator.specs.Reading
use Rattle.translator.specs.NestSheets.{modifiers_at, modifiers_from, modifiers_of, dimensions_from, stream_of, shape_of, pattern_for, dimension_ops, sheet_ops, sheet_of}
use Rattle.translator.specs.Translation.{translated, room_after, Answered, sheet, refusal, as_translated}
use Rattle.translator.specs.declared.nest.Nest.{Nest}

-- ---- nests

-- "Nest `00 01 00 01 03 00 02 08 02 10 02`"
unfoldable pub one_bytes : List ℕ
one_bytes = 0x00 ∷ 0x01 ∷ 0x00 ∷ 0x01 ∷ 0x03 ∷ 0x00 ∷ 0x02 ∷ 0x08 ∷ 0x02 ∷ 0x10 ∷ 0x02 ∷ []

-- three loops of halfwords, coupled to the second, a difference: counts 2, 1, 2; the innermost grows by 1 with the second and shrinks
-- by 1 with the third, the second grows by 2 with the third
unfoldable pub three_bytes : List ℕ
three_bytes =
    0x01 ∷ 0x03 ∷ 0x02 ∷ 0x02
    ∷ 0x02 ∷ 0x02 ∷ 0x01
    ∷ 0x01 ∷ 0x04
    ∷ 0x02
    ∷ 0x0a ∷ 0x02 ∷ 0x10 ∷ 0x20
    ∷ 0xc8 ∷ 0x01 ∷ 0x01 ∷ 0x06 ∷ 0x00
    ∷ 0xac ∷ 0x02 ∷ 0x04 ∷ 0x00 ∷ 0xc8 ∷ 0x01
    ∷ []

-- the numbers of that nest
unfoldable pub three : Nest
three = record {
  width = H;
  loops = 3;
  coupled = 2;
  action = action.Subtract;
  counts = 2 ∷ 1 ∷ 2 ∷ 0 ∷ 0 ∷ 0 ∷ 0 ∷ [];
  terms =
      (pos 0 ∷ pos 1 ∷ negsuc 0 ∷ pos 0 ∷ pos 0 ∷ pos 0 ∷ pos 0 ∷ [])
      ++ ((pos 0 ∷ pos 0 ∷ pos 2 ∷ pos 0 ∷ pos 0 ∷ pos 0 ∷ pos 0 ∷ []) ++ replicate 35 (pos 0));
  first = record {
    base = record { 0 = pos 10 };
    strides = map (λ (z : ℤ). record { 0 = z }) (pos 1 ∷ pos 8 ∷ pos 16 ∷ pos 0 ∷ pos 0 ∷ pos 0 ∷ pos 0 ∷ []);
  };
  second = record {
    base = record { 0 = pos 200 };
    strides = map (λ (z : ℤ). record { 0 = z }) (negsuc 0 ∷ pos 3 ∷ pos 0 ∷ pos 0 ∷ pos 0 ∷ pos 0 ∷ pos 0 ∷ []);
  };
  destination = record {
    base = record { 0 = pos 300 };
    strides = map (λ (z : ℤ). record { 0 = z }) (pos 2 ∷ pos 0 ∷ pos 100 ∷ pos 0 ∷ pos 0 ∷ pos 0 ∷ pos 0 ∷ []);
  };
}

-- the nest that was read; one with no number if it is refused
abbrev pub the_nest : Nested → Nest
the_nest (nest m) = m
the_nest (refused x at) = no_nest

-- the nest that bytes are; to unfold it is to unfold all that reading a nest computes with
unfoldable pub nest_in : List ℕ → Nest
unfolding number_at groups_at signed_of term_fields loop_fields stride_fields Reading.read_from nest_at
    nonzero_for nonzero_from total highs_from low_or_high_from product first_of
nest_in s = the_nest (nest_at s)

-- what a nest's bytes are translated to, in a room of n bytes; to unfold it is to unfold all that translating computes with
unfoldable pub sheet_for : List ℕ → ℕ → List ℕ
unfolding nest_in groups_of word_of operation_bytes calculation_bytes modifiers_at modifiers_from dimension_ops bytes_of_all sheet_of
sheet_for s n = room_after (nest_at s) (replicate n 0)

-- what translating a nest's bytes answers, for a room of n bytes
unfoldable pub translate_answer_for : List ℕ → ℕ → Answered
translate_answer_for s n = as_translated (translated (nest_at s) n)

-- ---- sheets

-- "gives 42 bytes"; a room one byte short is refused with 17 and untouched; a longer one keeps what is behind
pub sheets :
    (sheet_for one_bytes 42
    ≡ 0x01 ∷ 0x8b ∷ 0x81 ∷ 0x01 ∷ 0x00 ∷ 0x02 ∷ 0x01 ∷ 0x00 ∷ 0x03 ∷ 0x02 ∷ 0x04 ∷ 0x01 ∷ 0x01 ∷ 0x8b ∷ 0x82 ∷ 0x01 ∷ 0x08 ∷ 0x02
    ∷ 0x02 ∷ 0x00 ∷ 0x03 ∷ 0x02 ∷ 0x04 ∷ 0x02 ∷ 0x01 ∷ 0x8b ∷ 0x03 ∷ 0x10 ∷ 0x02 ∷ 0x03 ∷ 0x00 ∷ 0x03 ∷ 0x02 ∷ 0x04 ∷ 0x03 ∷ 0x05
    ∷ 0x01 ∷ 0x01 ∷ 0x01 ∷ 0x03 ∷ 0x01 ∷ 0x02 ∷ [])
    × (translate_answer_for one_bytes 42 ≡ sheet 42)
    × (translate_answer_for one_bytes 41 ≡ refusal 17 0 0 0)
    × (sheet_for one_bytes 41 ≡ replicate 41 0)
    × (sheet_for one_bytes 50 ≡ sheet_for one_bytes 42 ++ replicate 8 0)
unfolding sheet_for translate_answer_for one_bytes
sheets = (refl, refl, refl, refl, refl)

-- ---- three loops

-- the modifier of owner o on target t
unfoldable pub sized : ℕ → ℕ → Behaviour → ℕ → Modifier
sized o t b n = record { owner = o; target = t; parameter = parameter.Size; behaviour = b; displacement = n }

-- a dimension of offset 0 as an operation
unfoldable pub dimension : ℕ → ℕ → ℤ → Operation
dimension register size stride =
    op.Dimension (record { register = register; offset = record { 0 = pos 0 }; size = size; stride = record { 0 = stride } })

-- a size modifier as an operation
unfoldable pub modifier : ℕ → ℕ → Behaviour → ℕ → Operation
modifier register t b n =
    op.Modifier (record { register = register; target = t; parameter = parameter.Size; behaviour = b; displacement = n })

-- the nest of three loops: read, written, its visits, places, highs, modifiers, operations
pub three_loops :
    (nest_at three_bytes ≡ nest three)
    × (nest_bytes three ≡ three_bytes)
    × (visits three
    ≡ (0 ∷ 0 ∷ 0 ∷ [])
    ∷ (1 ∷ 0 ∷ 0 ∷ [])
    ∷ (0 ∷ 0 ∷ 1 ∷ [])
    ∷ (0 ∷ 1 ∷ 1 ∷ [])
    ∷ (1 ∷ 1 ∷ 1 ∷ [])
    ∷ (0 ∷ 2 ∷ 1 ∷ [])
    ∷ (1 ∷ 2 ∷ 1 ∷ [])
    ∷ (2 ∷ 2 ∷ 1 ∷ [])
    ∷ [])
    × (map (place_of three three.first) (visits three) ≡ pos 10 ∷ pos 12 ∷ pos 42 ∷ pos 58 ∷ pos 60 ∷ pos 74 ∷ pos 76 ∷ pos 78 ∷ [])
    × (map (place_of three three.second) (visits three)
    ≡ pos 200 ∷ pos 198 ∷ pos 200 ∷ pos 206 ∷ pos 204 ∷ pos 212 ∷ pos 210 ∷ pos 208 ∷ [])
    × (map (place_of three three.destination) (visits three)
    ≡ pos 300 ∷ pos 304 ∷ pos 500 ∷ pos 500 ∷ pos 504 ∷ pos 500 ∷ pos 504 ∷ pos 508 ∷ [])
    × (highs_of three ≡ 4 ∷ 3 ∷ 2 ∷ [])
    × (modifiers_of three ≡ sized 1 0 behaviour.Add 1 ∷ sized 2 0 behaviour.Subtract 1 ∷ sized 2 1 behaviour.Add 2 ∷ [])
    × (sheet_ops three
    ≡ op.Open (record { kind = Load; width = H; register = 1; coupling = Some 2 }) (record { 0 = pos 10 })
    ∷ dimension 1 2 (pos 1)
    ∷ dimension 1 1 (pos 8)
    ∷ modifier 1 0 behaviour.Add 1
    ∷ dimension 1 2 (pos 16)
    ∷ modifier 1 0 behaviour.Subtract 1
    ∷ modifier 1 1 behaviour.Add 2
    ∷ op.End 1
    ∷ op.Open (record { kind = Load; width = H; register = 2; coupling = Some 2 }) (record { 0 = pos 200 })
    ∷ dimension 2 2 (negsuc 0)
    ∷ dimension 2 1 (pos 3)
    ∷ modifier 2 0 behaviour.Add 1
    ∷ dimension 2 2 (pos 0)
    ∷ modifier 2 0 behaviour.Subtract 1
    ∷ modifier 2 1 behaviour.Add 2
    ∷ op.End 2
    ∷ op.Open (record { kind = Store; width = H; register = 3; coupling = Some 2 }) (record { 0 = pos 300 })
    ∷ dimension 3 2 (pos 2)
    ∷ dimension 3 1 (pos 0)
    ∷ modifier 3 0 behaviour.Add 1
    ∷ dimension 3 2 (pos 100)
    ∷ modifier 3 0 behaviour.Subtract 1
    ∷ modifier 3 1 behaviour.Add 2
    ∷ op.End 3
    ∷ [])
unfolding nest_in groups_of numbers_bytes nest_bytes terms_at count_at span loops visits place_up_to modifiers_at modifiers_from dimension_ops
    sized dimension modifier three_bytes three
three_loops = (refl, refl, refl, refl, refl, refl, refl, refl, refl)

-- ---- chunks

-- bytes, two loops: the innermost has count 1 and grows by 1 with the outer one, which has 4; the first source row by row, one element
-- of the second for each row
unfoldable pub triangle_bytes : ℕ → List ℕ
triangle_bytes c =
    0x00 ∷ 0x02 ∷ c ∷ 0x01 ∷ 0x01 ∷ 0x02 ∷ 0x04 ∷ 0x00 ∷ 0x02 ∷ 0x08 ∷ 0x10 ∷ 0x00 ∷ 0x02 ∷ 0x14 ∷ 0x02 ∷ 0x08 ∷ []

-- such rows, three of them: the innermost loop has this count and this term. Count 0 and term 1 (as `00 02`): rows of 0, 1 and 2 visits;
-- count 2 and term -1 (as `02 01`): rows of 2, 1 and 0
unfoldable pub ragged_bytes : ℕ → ℕ → ℕ → List ℕ
ragged_bytes c count term =
    0x00 ∷ 0x02 ∷ c ∷ 0x01 ∷ count ∷ term ∷ 0x03 ∷ 0x00 ∷ 0x02 ∷ 0x08 ∷ 0x10 ∷ 0x00 ∷ 0x02 ∷ 0x14 ∷ 0x02 ∷ 0x08 ∷ []

-- how many visits the next `most` chunks of a nest have, at so many lanes, after n stops; past its end none
unfoldable pub chunk_lengths : Nest → ℕ → ℕ → ℕ → List ℕ
chunk_lengths m lanes n zero = []
chunk_lengths m lanes n (suc most) = length (visits_among m (chunk_at m lanes n)) ∷ chunk_lengths m lanes (n + length (chunk_at m lanes n)) most

-- those of a nest from its start; none if it is refused
unfoldable pub chunks_for : Nested → ℕ → ℕ → List ℕ
chunks_for (refused x at) lanes most = []
chunks_for (nest m) lanes most = chunk_lengths m lanes 0 most

-- a nest's visits; none if it is refused
unfoldable pub visits_for : Nested → List (List ℕ)
visits_for (refused x at) = []
visits_for (nest m) = visits m

-- the visits of the triangle; its chunks, uncoupled and coupled to each loop; those of the nest of three loops; of rows of 0, 1 and 2
-- visits and of 2, 1 and 0, coupled to the rows (02, 3/14: a row without a visit is a chunk), and uncoupled
pub chunks :
    (visits_for (nest_at (triangle_bytes 0))
    ≡ (0 ∷ 0 ∷ [])
    ∷ (0 ∷ 1 ∷ [])
    ∷ (1 ∷ 1 ∷ [])
    ∷ (0 ∷ 2 ∷ [])
    ∷ (1 ∷ 2 ∷ [])
    ∷ (2 ∷ 2 ∷ [])
    ∷ (0 ∷ 3 ∷ [])
    ∷ (1 ∷ 3 ∷ [])
    ∷ (2 ∷ 3 ∷ [])
    ∷ (3 ∷ 3 ∷ [])
    ∷ [])
    × (chunks_for (nest_at (triangle_bytes 0)) 8 3 ≡ 8 ∷ 2 ∷ 0 ∷ [])
    × (chunks_for (nest_at (triangle_bytes 1)) 8 5 ≡ 1 ∷ 2 ∷ 3 ∷ 4 ∷ 0 ∷ [])
    × (chunks_for (nest_at (triangle_bytes 2)) 8 3 ≡ 8 ∷ 2 ∷ 0 ∷ [])
    × (chunks_for (nest three) 4 5 ≡ 2 ∷ 4 ∷ 2 ∷ 0 ∷ 0 ∷ [])
    × (chunks_for (nest_at (ragged_bytes 1 0x00 0x02)) 8 3 ≡ 0 ∷ 1 ∷ 2 ∷ [])
    × (chunks_for (nest_at (ragged_bytes 1 0x02 0x01)) 8 3 ≡ 2 ∷ 1 ∷ 0 ∷ [])
    × (chunks_for (nest_at (ragged_bytes 0 0x00 0x02)) 8 2 ≡ 3 ∷ 0 ∷ [])
unfolding nest_in terms_at count_at span loops visits pass_stops is_element elements_among with_elements groups left_after chunk_of
    triangle_bytes ragged_bytes three chunk_lengths chunks_for visits_for
chunks = (refl, refl, refl, refl, refl, refl, refl, refl)

-- ---- sheets that another one would do as well as

-- 01's nest, its count 0
unfoldable pub none_bytes : List ℕ
none_bytes = 0x00 ∷ 0x01 ∷ 0x00 ∷ 0x01 ∷ 0x00 ∷ 0x00 ∷ 0x02 ∷ 0x08 ∷ 0x02 ∷ 0x10 ∷ 0x02 ∷ []

-- "each coupled as the nest says": the triangle coupled to its outermost loop, whose streams would walk alike uncoupled; a nest without a
-- visit has its sheet all the same
pub alike :
    (sheet_for (triangle_bytes 2) 82
    ≡ 0x01 ∷ 0x8b ∷ 0x81 ∷ 0x81 ∷ 0xc0 ∷ 0x04 ∷ 0x00 ∷ 0x02 ∷ 0x01 ∷ 0x00 ∷ 0x01 ∷ 0x02 ∷ 0x02 ∷ 0x01 ∷ 0x00 ∷ 0x04 ∷ 0x08 ∷ 0x03 ∷ 0x01 ∷ 0x00 ∷ 0x00 ∷ 0x00 ∷ 0x01 ∷ 0x04 ∷ 0x01
    ∷ 0x01 ∷ 0x8b ∷ 0x82 ∷ 0x81 ∷ 0xc0 ∷ 0x04 ∷ 0x10 ∷ 0x02 ∷ 0x02 ∷ 0x00 ∷ 0x01 ∷ 0x00 ∷ 0x02 ∷ 0x02 ∷ 0x00 ∷ 0x04 ∷ 0x02 ∷ 0x03 ∷ 0x02 ∷ 0x00 ∷ 0x00 ∷ 0x00 ∷ 0x01 ∷ 0x04 ∷ 0x02
    ∷ 0x01 ∷ 0x8b ∷ 0x83 ∷ 0x80 ∷ 0xc0 ∷ 0x04 ∷ 0x14 ∷ 0x02 ∷ 0x03 ∷ 0x00 ∷ 0x01 ∷ 0x02 ∷ 0x02 ∷ 0x03 ∷ 0x00 ∷ 0x04 ∷ 0x08 ∷ 0x03 ∷ 0x03 ∷ 0x00 ∷ 0x00 ∷ 0x00 ∷ 0x01 ∷ 0x04 ∷ 0x03
    ∷ 0x05 ∷ 0x01 ∷ 0x01 ∷ 0x01 ∷ 0x03 ∷ 0x01 ∷ 0x02
    ∷ [])
    × (sheet_for none_bytes 42
    ≡ 0x01 ∷ 0x8b ∷ 0x81 ∷ 0x01 ∷ 0x00 ∷ 0x02 ∷ 0x01 ∷ 0x00 ∷ 0x00 ∷ 0x02 ∷ 0x04 ∷ 0x01
    ∷ 0x01 ∷ 0x8b ∷ 0x82 ∷ 0x01 ∷ 0x08 ∷ 0x02 ∷ 0x02 ∷ 0x00 ∷ 0x00 ∷ 0x02 ∷ 0x04 ∷ 0x02
    ∷ 0x01 ∷ 0x8b ∷ 0x03 ∷ 0x10 ∷ 0x02 ∷ 0x03 ∷ 0x00 ∷ 0x00 ∷ 0x02 ∷ 0x04 ∷ 0x03
    ∷ 0x05 ∷ 0x01 ∷ 0x01 ∷ 0x01 ∷ 0x03 ∷ 0x01 ∷ 0x02
    ∷ [])
unfolding number_at groups_at signed_of groups_of word_of operation_bytes calculation_bytes
    term_fields loop_fields stride_fields Reading.read_from nest_at nonzero_for nonzero_from total highs_from low_or_high_from product first_of
    modifiers_at modifiers_from dimension_ops bytes_of_all sheet_of triangle_bytes none_bytes sheet_for
alike = (refl, refl)

-- ---- the streams of the sheet of three loops

-- what its operations give for each register; the descriptors that this comes to; their elements are the visits
pub three_streams :
    (given_for 1 (sheet_ops three) ≡ ended (stream_of three 1 Load three.first))
    × (given_for 2 (sheet_ops three) ≡ ended (stream_of three 2 Load three.second))
    × (given_for 3 (sheet_ops three) ≡ ended (stream_of three 3 Store three.destination))
    × (pattern_of (stream_of three 1 Load three.first) ≡ pattern_for three three.first)
    × (pattern_of (stream_of three 3 Store three.destination) ≡ pattern_for three three.destination)
    × (check_shape (shape_of three) ≡ Ok tt)
    × (elements (shape_of three) ≡ visits three)
    × (map (address (pattern_for three three.second) 2) (visits three) ≡ map (place_of three three.second) (visits three))
unfolding given_from modifiers_at modifiers_from dimensions_from dimension_ops three check_shape first_of
    size_at added span loops elements only highs Rules.low_or_high_from product address_up_to terms_at count_at visits place_up_to
three_streams = (refl, refl, refl, refl, refl, refl, refl, refl)
