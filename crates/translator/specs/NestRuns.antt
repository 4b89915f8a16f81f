-- Nests translated and run, computed from the definitions: the plain loop's memory.
--
--   spread                               a memory
--   plain_for, run_memory_for, run_answer_for   the memory after the plain loop; the memory after a run, and its answer
--   runs, run_three, run_ragged            01's nest, a triangle and the nest of three loops, run; rows of which some have no visit
use Rattle.std.specs.Prelude.{ℕ, zero, suc, ◌*◌, ◌%◌, ◌≡◌, refl, List, [], ◌∷◌, ◌++◌, take}
use Rattle.codec.specs.Numbers.{groups_of}
use Rattle.codec.specs.Headers.{header_said, header_of, word_of}
use Rattle.codec.specs.Operations.{open_at, dimension_at, modifier_at, end_at, run_at, operation_at, calculation_at, operation_bytes, calculation_bytes, bytes_of_all}
use Rattle.engine.specs.Loops.{size_at, added, span, join, loops}
use Rattle.engine.specs.Chunks.{pass_stops, stops_in, is_element, elements_among, nothing_at, with_elements, groups, left_after, chunk_of, differ, height}
use Rattle.engine.specs.Rules.{only, highs}
use Rattle.engine.specs.Rules
use Rattle.engine.specs.Addresses.{address_up_to}
use Rattle.engine.specs.Memory.{value_at, little_endian, stored, lanes_from, joined, holding}
use Rattle.engine.specs.Lanes.{lanewise}
use Rattle.engine.specs.Calculate.{given, results, all_inside, refusal_of, written_to, memory_after, effect}
use Rattle.engine.specs.Calculate
use Rattle.engine.specs.Registers.{next_stops, next_chunk, moved_by, to_come}
use Rattle.engine.specs.Configure.{why_not, configured}
use Rattle.engine.specs.Run.{pass_by, repeat_by}
use Rattle.engine.specs.Sheets.{body_at, names, operations_from}
use Rattle.engine.specs.Table.{bytes}
use Rattle.translator.specs.Nests.{terms_at, count_at, visits, place_up_to, plain_over, plain_loop}
use Rattle.translator.specs.Reading.{Nested, nest, refused, nest_at}
use Rattle.translator.specs.NestSheets.{modifiers_at, modifiers_from, dimension_ops, sheet_of}
use Rattle.translator.specs.Translation.{run_nest, Answered, done, refusal, as_outcome}
use Rattle.translator.specs.Examples.{one_bytes, three_bytes, three, triangle_bytes, ragged_bytes, nest_in}

-- memory after a nest's plain loop; nothing if the nest is refused
unfoldable pub plain_for : Nested → List ℕ → List ℕ
unfolding terms_at count_at span loops visits place_up_to value_at little_endian plain_over
plain_for (refused x at) memory = []
plain_for (nest m) memory = plain_loop m memory

-- the answer of translating and running a nest's bytes; to unfold it is to unfold all that this computes with
unfoldable pub run_answer_for : ℕ → List ℕ → List ℕ → Answered
unfolding nest_in run_nest modifiers_at modifiers_from dimension_ops bytes_of_all sheet_of groups_of word_of operation_bytes calculation_bytes
    header_said header_of open_at dimension_at modifier_at end_at run_at operation_at calculation_at
    size_at added span join loops pass_stops stops_in is_element elements_among nothing_at with_elements groups left_after chunk_of differ height
    only highs Rules.low_or_high_from
    address_up_to value_at little_endian stored lanes_from joined holding lanewise
    given results all_inside refusal_of Calculate.read_from written_to memory_after effect
    next_stops next_chunk moved_by to_come why_not configured pass_by repeat_by body_at names operations_from
run_answer_for vl s memory = as_outcome (run_nest vl s memory)

-- memory after a nest's bytes were translated and run
unfoldable pub run_memory_for : ℕ → List ℕ → List ℕ → List ℕ
run_memory_for vl s memory = (run_nest vl s memory).progress.world.memory

-- the triangle: rows of 1, 2, 3 and 4 sums, the bytes behind each row as they were
unfoldable pub sums : List ℕ
sums = bytes 1 20 ++ (18 ∷ 22 ∷ 23 ∷ 24 ∷ 23 ∷ 24 ∷ 27 ∷ 28 ∷ 28 ∷ 29 ∷ 30 ∷ 32 ∷ 33 ∷ 34 ∷ 35 ∷ 36 ∷ [])

-- 15 first; a nest's refusal; an element outside; the triangle, at two vector lengths and coupled
pub runs :
    (run_answer_for 12 [] [] ≡ refusal 15 0 0 0)
    × (run_answer_for 8 (take 10 one_bytes) [] ≡ refusal 1 10 0 0)
    × (run_answer_for 8 one_bytes (bytes 1 19) ≡ done 1 1)
    × (run_memory_for 8 one_bytes (bytes 1 19) ≡ bytes 1 16 ++ (10 ∷ 12 ∷ 14 ∷ []))
    × (plain_for (nest_at one_bytes) (bytes 1 19) ≡ bytes 1 16 ++ (10 ∷ 12 ∷ 14 ∷ []))
    × (run_answer_for 8 one_bytes (bytes 1 18) ≡ refusal 14 38 0 0)
    × (run_memory_for 8 one_bytes (bytes 1 18) ≡ bytes 1 18)
    × (plain_for (nest_at (triangle_bytes 0)) (bytes 1 36) ≡ sums)
    × (run_answer_for 8 (triangle_bytes 0) (bytes 1 36) ≡ done 2 2)
    × (run_memory_for 8 (triangle_bytes 0) (bytes 1 36) ≡ sums)
    × (run_answer_for 16 (triangle_bytes 0) (bytes 1 36) ≡ done 1 1)
    × (run_memory_for 16 (triangle_bytes 0) (bytes 1 36) ≡ sums)
    × (run_answer_for 8 (triangle_bytes 1) (bytes 1 36) ≡ done 4 4)
    × (run_memory_for 8 (triangle_bytes 1) (bytes 1 36) ≡ sums)
unfolding run_answer_for run_memory_for plain_for one_bytes triangle_bytes bytes sums
runs = (refl, refl, refl, refl, refl, refl, refl, refl, refl, refl, refl, refl, refl, refl)

-- n bytes that differ from their neighbours
unfoldable pub spread : ℕ → ℕ → List ℕ
spread k zero = []
spread k (suc n) = k * 37 % 256 ∷ spread (suc k) n

-- the nest of three loops: 8 visits in chunks of 2, 4 and 2; three of them write to 500, two to 504
pub run_three :
    (run_answer_for 8 three_bytes (spread 1 510) ≡ done 3 3)
    × (run_memory_for 8 three_bytes (spread 1 510) ≡ plain_for (nest three) (spread 1 510))
    × (run_answer_for 8 three_bytes (spread 1 509) ≡ refusal 14 132 2 2)
unfolding run_answer_for run_memory_for plain_for three_bytes three spread
run_three = (refl, refl, refl)

-- ---- rows of which some have no visit

-- rows of 0, 1 and 2 sums
unfoldable pub grown : List ℕ
grown = bytes 1 24 ++ (23 ∷ 26 ∷ 27 ∷ 28 ∷ 28 ∷ 29 ∷ bytes 31 6)

-- rows of 2, 1 and 0 sums
unfoldable pub shrunk : List ℕ
shrunk = bytes 1 20 ++ (18 ∷ 19 ∷ 23 ∷ 24 ∷ 23 ∷ bytes 26 11)

-- coupled to the rows: a pass of the run for each, of no lanes for the one without a visit; uncoupled: one for all visits. With no visit at
-- all: coupled to the rows, to the whole, uncoupled
pub run_ragged :
    (plain_for (nest_at (ragged_bytes 1 0x00 0x02)) (bytes 1 36) ≡ grown)
    × (run_answer_for 8 (ragged_bytes 1 0x00 0x02) (bytes 1 36) ≡ done 3 3)
    × (run_memory_for 8 (ragged_bytes 1 0x00 0x02) (bytes 1 36) ≡ grown)
    × (plain_for (nest_at (ragged_bytes 1 0x02 0x01)) (bytes 1 36) ≡ shrunk)
    × (run_answer_for 8 (ragged_bytes 1 0x02 0x01) (bytes 1 36) ≡ done 3 3)
    × (run_memory_for 8 (ragged_bytes 1 0x02 0x01) (bytes 1 36) ≡ shrunk)
    × (run_answer_for 8 (ragged_bytes 0 0x02 0x01) (bytes 1 36) ≡ done 1 1)
    × (run_memory_for 8 (ragged_bytes 0 0x02 0x01) (bytes 1 36) ≡ shrunk)
    × (run_answer_for 8 (ragged_bytes 1 0x00 0x00) (bytes 1 36) ≡ done 3 3)
    × (run_answer_for 8 (ragged_bytes 2 0x00 0x00) (bytes 1 36) ≡ done 1 1)
    × (run_answer_for 8 (ragged_bytes 0 0x00 0x00) (bytes 1 36) ≡ done 0 0)
    × (run_memory_for 8 (ragged_bytes 1 0x00 0x00) (bytes 1 36) ≡ bytes 1 36)
unfolding run_answer_for run_memory_for plain_for ragged_bytes bytes grown shrunk
run_ragged = (refl, refl, refl, refl, refl, refl, refl, refl, refl, refl, refl, refl)
