-- Reports, computed from the definitions.
--
--   freshes, register_at   the numbers of fresh registers; of one register of a report
--   report_for             the report of a run
--   runs, outsides        the reports of runs; lanes and operands of 14
--   registers             registers in every state, of both kinds
--   calls                 bytes of reports; a report that is too short
--   translations          the reports of translations
use Rattle.std.specs.Prelude.{ℕ, zero, suc, ◌+◌, ◌*◌, ◌≡◌, refl, List, [], ◌∷◌, ◌++◌, map, replicate, take, drop}
use Rattle.codec.specs.Numbers.{groups_at, number_at, signed_of}
use Rattle.codec.specs.Headers.{header_said, header_of}
use Rattle.codec.specs.Operations.{open_at, dimension_at, modifier_at, end_at, run_at, operation_at, calculation_at}
use Rattle.engine.specs.Loops.{size_at, added, join, span, loops}
use Rattle.engine.specs.Chunks.{pass_stops, stops_in, is_element, elements_among, nothing_at, with_elements, groups, left_after, chunk_of, differ, height}
use Rattle.engine.specs.Rules.{only, highs, low_or_high_from, product}
use Rattle.engine.specs.Addresses.{address_up_to}
use Rattle.engine.specs.Memory.{value_at, little_endian, stored, lanes_from, joined, holding}
use Rattle.engine.specs.Lanes.{lanewise}
use Rattle.engine.specs.Calculate.{given, results, all_inside, lane_outside, refusal_of, read_from, written_to, memory_after, effect}
use Rattle.engine.specs.Checks.{first_of}
use Rattle.engine.specs.Registers.{next_stops, next_chunk, moved_by, to_come}
use Rattle.engine.specs.Configure.{why_not, configured}
use Rattle.engine.specs.Run.{pass_by, repeat_by}
use Rattle.engine.specs.Sheets.{body_at, names, operations_from, run}
use Rattle.engine.specs.Table.{copies, grown, triangle, coupled, words, nest, three, bytes}
use Rattle.translator.specs.Examples.{one_bytes, sheet_for}
use Rattle.uve.specs.Reports.{bytes_of64, head_numbers, flags_from, register_numbers, registers_from, report_of, translation_numbers}
use Rattle.uve.specs.Calls.{run_answer, run_memory, run_report, translate_answer, translate_room, translate_report}

-- n fresh registers: plain, width 1, all else 0
unfoldable pub freshes : ℕ → List ℕ
freshes zero = []
freshes (suc n) = (0 ∷ 0 ∷ 1 ∷ replicate 11 0) ++ freshes n

-- the first seven numbers of register i of a report: its state, kind, width, valid lanes, dimensions, flags and first eight lane bytes
unfoldable pub register_at : List ℕ → ℕ → List ℕ
register_at report i = take 7 (drop (8 + 14 * i) report)

-- the report of a run: vector length, sheet, memory; to unfold it is to unfold all that a run and its report compute with
unfoldable pub report_for : ℕ → List ℕ → List ℕ → List ℕ
unfolding head_numbers flags_from register_numbers registers_from report_of
    groups_at number_at signed_of header_said header_of open_at dimension_at modifier_at end_at run_at operation_at calculation_at
    size_at added join span loops pass_stops stops_in is_element elements_among nothing_at with_elements groups left_after chunk_of differ height only highs
    low_or_high_from product
    address_up_to value_at little_endian stored lanes_from joined holding lanewise
    given results all_inside lane_outside refusal_of read_from written_to memory_after effect
    first_of next_stops next_chunk moved_by to_come why_not configured pass_by repeat_by body_at names operations_from
report_for vl sheet memory = report_of (run vl sheet memory)

-- "an empty sheet too"; 15; "Words, base 4, size 5, stride 2, length 16": done with 40 bytes of memory, refused with 14 with 39
pub runs :
    (report_for 8 [] [] ≡ replicate 8 0 ++ (freshes 32 ++ replicate 8 0))
    × (report_for 12 words [] ≡ (15 ∷ replicate 7 0) ++ (freshes 32 ++ replicate 8 0))
    × (report_for 16 (words ++ copies) (bytes 0 40)
    ≡ (0 ∷ 0 ∷ 2 ∷ 2 ∷ replicate 4 0)
    ++ (freshes 1
    ++ ((3 ∷ 1 ∷ 4 ∷ 1 ∷ 1 ∷ 1 ∷ 0x27262524 ∷ replicate 7 0)
    ++ ((0 ∷ 0 ∷ 4 ∷ 1 ∷ 0 ∷ 0 ∷ 0x27262524 ∷ replicate 7 0) ++ (freshes 29 ++ replicate 8 0)))))
    × (report_for 16 (words ++ copies) (bytes 0 39)
    ≡ (14 ∷ 15 ∷ 1 ∷ 1 ∷ replicate 4 0)
    ++ (freshes 1
    ++ ((2 ∷ 1 ∷ 4 ∷ 4 ∷ 1 ∷ 0 ∷ 0x0f0e0d0c07060504 ∷ 0x1f1e1d1c17161514 ∷ replicate 6 0)
    ++ ((0 ∷ 0 ∷ 4 ∷ 4 ∷ 0 ∷ 0 ∷ 0x0f0e0d0c07060504 ∷ 0x1f1e1d1c17161514 ∷ replicate 6 0) ++ (freshes 29 ++ replicate 8 0)))))
unfolding report_for freshes copies words bytes
runs = (refl, refl, refl, refl)

-- 01's sheet of 42 bytes, three lanes each from bytes 0, 8 and 16 on, in memories that end before, after one and after two elements of an
-- operand: number, place, passes, calculations, the first lane outside, the operand
pub outsides :
    (map (λ n. take 6 (report_for 8 nest (bytes 1 n))) (0 ∷ 1 ∷ 2 ∷ [])
    ≡ (14 ∷ 38 ∷ 0 ∷ 0 ∷ 0 ∷ 0 ∷ []) ∷ (14 ∷ 38 ∷ 0 ∷ 0 ∷ 1 ∷ 0 ∷ []) ∷ (14 ∷ 38 ∷ 0 ∷ 0 ∷ 2 ∷ 0 ∷ []) ∷ [])
    × (map (λ n. take 6 (report_for 8 nest (bytes 1 n))) (8 ∷ 9 ∷ 10 ∷ [])
    ≡ (14 ∷ 38 ∷ 0 ∷ 0 ∷ 0 ∷ 1 ∷ []) ∷ (14 ∷ 38 ∷ 0 ∷ 0 ∷ 1 ∷ 1 ∷ []) ∷ (14 ∷ 38 ∷ 0 ∷ 0 ∷ 2 ∷ 1 ∷ []) ∷ [])
    × (map (λ n. take 6 (report_for 8 nest (bytes 1 n))) (16 ∷ 17 ∷ 18 ∷ 19 ∷ [])
    ≡ (14 ∷ 38 ∷ 0 ∷ 0 ∷ 0 ∷ 2 ∷ []) ∷ (14 ∷ 38 ∷ 0 ∷ 0 ∷ 1 ∷ 2 ∷ []) ∷ (14 ∷ 38 ∷ 0 ∷ 0 ∷ 2 ∷ 2 ∷ []) ∷ (0 ∷ 0 ∷ 1 ∷ 1 ∷ 0 ∷ 0 ∷ []) ∷ [])
unfolding report_for nest bytes
outsides = (refl, refl, refl)

-- an open stream of two dimensions, one being configured, one that has no elements; 01's sheet of 42 bytes, which finishes two loads
-- and a store; the triangle coupled to 1, refused after its third row: flag 1 alone
pub registers :
    (map (register_at (report_for 8 three [])) (0 ∷ 1 ∷ 2 ∷ 3 ∷ [])
    ≡ (0 ∷ 0 ∷ 1 ∷ replicate 4 0)
    ∷ (2 ∷ 1 ∷ 1 ∷ 0 ∷ 2 ∷ 0 ∷ 0 ∷ [])
    ∷ (1 ∷ 1 ∷ 1 ∷ 0 ∷ 0 ∷ 0 ∷ 0 ∷ [])
    ∷ (3 ∷ 1 ∷ 1 ∷ 0 ∷ 1 ∷ 1 ∷ 0 ∷ [])
    ∷ [])
    × (map (register_at (report_for 8 nest (bytes 1 19))) (1 ∷ 2 ∷ 3 ∷ [])
    ≡ (3 ∷ 1 ∷ 1 ∷ 3 ∷ 1 ∷ 1 ∷ 0x030201 ∷ []) ∷ (3 ∷ 1 ∷ 1 ∷ 3 ∷ 1 ∷ 1 ∷ 0x0b0a09 ∷ []) ∷ (3 ∷ 2 ∷ 1 ∷ 0 ∷ 1 ∷ 1 ∷ 0 ∷ []) ∷ [])
    × (register_at (report_for 8 (coupled ++ copies) (bytes 0 20)) 1 ≡ 2 ∷ 1 ∷ 1 ∷ 3 ∷ 2 ∷ 1 ∷ 0x121110 ∷ [])
unfolding report_for register_at copies grown triangle coupled nest three bytes
registers = (refl, refl, refl)

-- a report's first bytes; a report that is a byte too short
pub calls :
    (bytes_of64 (take 2 (report_of (run 12 [] []))) ≡ 15 ∷ replicate 15 0)
    × (bytes_of64 (0x1122334455667788 ∷ []) ≡ 0x88 ∷ 0x77 ∷ 0x66 ∷ 0x55 ∷ 0x44 ∷ 0x33 ∷ 0x22 ∷ 0x11 ∷ [])
    × (run_answer 8 [] [] (replicate 3711 7) ≡ 18446744073709551615)
    × (run_report 8 nest (bytes 1 19) (replicate 3711 7) ≡ replicate 3711 7)
    × (run_memory 8 nest (bytes 1 19) (replicate 3711 7) ≡ bytes 1 19)
unfolding head_numbers report_of run_answer run_memory run_report little_endian joined
calls = (refl, refl, refl, refl, refl)

-- "Nest `00 01 00 01 03 00 02 08 02 10 02`": its sheet has 42 bytes; a room of 41; no nest at all; a report that is a byte too short
pub translations :
    (translate_report one_bytes (replicate 50 0) (replicate 25 7) ≡ replicate 16 0 ++ (42 ∷ replicate 7 0) ++ (7 ∷ []))
    × (translate_report one_bytes (replicate 41 0) (replicate 25 7) ≡ (17 ∷ replicate 23 0) ++ (7 ∷ []))
    × (translate_answer [] [] (replicate 24 7) ≡ 1)
    × (translate_answer one_bytes (replicate 50 0) (replicate 23 7) ≡ 18446744073709551615)
    × (translate_room one_bytes (replicate 50 0) (replicate 23 7) ≡ replicate 50 0)
unfolding translation_numbers translate_answer translate_room translate_report little_endian joined sheet_for one_bytes
translations = (refl, refl, refl, refl, refl)
