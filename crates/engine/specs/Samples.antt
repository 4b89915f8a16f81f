-- Rows beside 01's table, computed from the definitions: what its starred rows do not reach.
--
--   widened, shifted, far         sheets: a width; offset and stride modifiers; a modifier two dimensions out
--   operated, between             the sheet of "Loop nests" with another operation, and memory for it
--   ran, outcome                  the run of a sheet; its memory
--   patterns, operations          addresses; what each operation gives
--   contents-left                 what registers hold
--   resized, limits               low, high and product at their limits
--   fault_of .. roomy, faults      lane and operand of 14
use Rattle.std.specs.Prelude.{◌≡◌, ℕ, List, [], ◌∷◌, ◌++◌, map, take, drop, replicate, pos, refl, Ok, Err}
use Rattle.codec.specs.Refusals.{number_of, lane_of, operand_of}
use Rattle.codec.specs.Numbers.{groups_at, number_at, signed_of}
use Rattle.codec.specs.Headers.{header_said, header_of}
use Rattle.codec.specs.Operations.{open_at, dimension_at, modifier_at, end_at, run_at, operation_at, calculation_at}
use Rattle.engine.specs.Loops.{size_at, added, join, span, loops, elements}
use Rattle.engine.specs.Chunks.{pass_stops, stops_in, is_element, elements_among, nothing_at, with_elements, groups, left_after, chunk_of, differ, height}
use Rattle.engine.specs.Rules.{only, highs, low_or_high_from, product}
use Rattle.engine.specs.Addresses.{address_up_to}
use Rattle.engine.specs.Memory.{value_at, little_endian, stored, lanes_from, joined, holding}
use Rattle.engine.specs.Lanes.{lanewise}
use Rattle.engine.specs.Calculate.{given, results, all_inside, lane_outside, refusal_of, read_from, written_to, memory_after, effect}
use Rattle.engine.specs.Checks.{first_of}
use Rattle.engine.specs.Registers.{next_stops, next_chunk, moved_by, to_come}
use Rattle.engine.specs.Configure.{why_not, configured}
use Rattle.engine.specs.Run.{Progress, pass_by, repeat_by, Verdict}
use Rattle.engine.specs.Sheets.{body_at, names, operations_from, run}
use Rattle.engine.specs.Table.{done, refusal, answer_of, answer, register, prepared, addresses, copies, grown, triangle, words, twice, bytes}
use Rattle.engine.specs.declared.register.Register.{Register}

-- ---- sheets

-- two elements, stride 1, behind a header of register 1
unfoldable pub widened : List ℕ → List ℕ
widened header = (1 ∷ header) ++ (0 ∷ 2 ∷ 1 ∷ 0 ∷ 2 ∷ 2 ∷ 4 ∷ 1 ∷ [])

-- words, base 100; dimension 1 offset 3, size 2, stride 2; dimension 2 offset -1, size 3, stride 10; with each row the offset of 1 grows by
-- 5 and its stride shrinks by 1
unfoldable pub shifted : List ℕ
shifted =
    1 ∷ 0x8b ∷ 0xc1 ∷ 1 ∷ 100 ∷ 2 ∷ 1 ∷ 6 ∷ 2 ∷ 4 ∷ 2 ∷ 1 ∷ 1 ∷ 3 ∷ 20 ∷ 3 ∷ 1 ∷ 0 ∷ 1 ∷ 0 ∷ 5 ∷ 3 ∷ 1 ∷ 0 ∷ 2 ∷ 1 ∷ 1 ∷ 4 ∷ 1 ∷ []

-- bytes, base 0; sizes 1, 2, 2, strides 1, 10, 100; the size of 1 grows by 2 with each index of 3
unfoldable pub far : List ℕ
far =
    1 ∷ 0x8b ∷ 0x81 ∷ 1 ∷ 0 ∷ 2 ∷ 1 ∷ 0 ∷ 1 ∷ 2 ∷ 2 ∷ 1 ∷ 0 ∷ 2 ∷ 20 ∷ 2 ∷ 1 ∷ 0 ∷ 2 ∷ 0xc8 ∷ 1 ∷ 3 ∷ 1 ∷ 0 ∷ 0 ∷ 0 ∷ 2 ∷ 4 ∷ 1 ∷ []

-- the sheet of "Loop nests", with operation k
unfoldable pub operated : ℕ → List ℕ
operated k =
    0x01 ∷ 0x8b ∷ 0x81 ∷ 0x01 ∷ 0x00 ∷ 0x02 ∷ 0x01 ∷ 0x00 ∷ 0x03 ∷ 0x02 ∷ 0x04 ∷ 0x01 ∷ 0x01 ∷ 0x8b ∷ 0x82 ∷ 0x01 ∷ 0x08 ∷ 0x02
    ∷ 0x02 ∷ 0x00 ∷ 0x03 ∷ 0x02 ∷ 0x04 ∷ 0x02 ∷ 0x01 ∷ 0x8b ∷ 0x03 ∷ 0x10 ∷ 0x02 ∷ 0x03 ∷ 0x00 ∷ 0x03 ∷ 0x02 ∷ 0x04 ∷ 0x03 ∷ 0x05
    ∷ 0x01 ∷ 0x01 ∷ k ∷ 0x03 ∷ 0x01 ∷ 0x02 ∷ []

-- its memory: 200, 0, 80h and 100, 1, 01h, eight bytes apart
unfoldable pub between : List ℕ
between = (200 ∷ 0 ∷ 0x80 ∷ []) ++ replicate 5 7 ++ (100 ∷ 1 ∷ 1 ∷ []) ++ replicate 8 7

-- the run of a sheet; to unfold it is to unfold all that it computes with
unfoldable pub ran : ℕ → List ℕ → List ℕ → Progress
unfolding groups_at number_at signed_of header_said header_of open_at dimension_at modifier_at end_at run_at operation_at calculation_at
    size_at added join span loops elements pass_stops stops_in is_element elements_among nothing_at with_elements groups left_after chunk_of differ height only highs low_or_high_from product
    address_up_to value_at little_endian stored lanes_from joined holding lanewise
    given results all_inside lane_outside refusal_of read_from written_to memory_after effect
    first_of next_stops next_chunk moved_by to_come why_not configured pass_by repeat_by body_at names operations_from
ran vl s memory = run vl s memory

-- its memory afterwards, from byte 16 on
unfoldable pub outcome : ℕ → List ℕ
outcome k = drop 16 (ran 8 (operated k) between).world.memory

-- ---- rows

-- "an offset counts bytes and a stride counts elements", of words and of doubles; a modifier of offset and one of stride; one whose owner is
-- two dimensions out
pub patterns :
    (addresses (widened (0x8b ∷ 0x81 ∷ 1 ∷ [])) ≡ pos 0 ∷ pos 1 ∷ [])
    × (addresses (widened (0x8b ∷ 0xa1 ∷ 1 ∷ [])) ≡ pos 0 ∷ pos 2 ∷ [])
    × (addresses (widened (0x8b ∷ 0xc1 ∷ 1 ∷ [])) ≡ pos 0 ∷ pos 4 ∷ [])
    × (addresses (widened (0x8b ∷ 0xe1 ∷ 1 ∷ [])) ≡ pos 0 ∷ pos 8 ∷ [])
    × (addresses (1 ∷ 0x8b ∷ 0xe1 ∷ 1 ∷ 0 ∷ 2 ∷ 1 ∷ 6 ∷ 2 ∷ 2 ∷ 4 ∷ 1 ∷ []) ≡ pos 3 ∷ pos 11 ∷ [])
    × (addresses shifted ≡ pos 102 ∷ pos 110 ∷ pos 147 ∷ pos 151 ∷ pos 192 ∷ pos 192 ∷ [])
    × (addresses far ≡ pos 0 ∷ pos 10 ∷ pos 100 ∷ pos 101 ∷ pos 102 ∷ pos 110 ∷ pos 111 ∷ pos 112 ∷ [])
unfolding widened shifted far register prepared addresses
    groups_at number_at signed_of header_said header_of open_at dimension_at modifier_at end_at operation_at
    size_at added join span loops elements pass_stops stops_in is_element nothing_at only highs low_or_high_from product height differ
    address_up_to first_of moved_by why_not configured operations_from
patterns = (refl, refl, refl, refl, refl, refl, refl)

-- "1 add, 2 subtract, 3 and, 4 or, 5 xor, 6 signed smaller, 7 signed larger": "200 + 100 = 44; 0 - 1 = 255; smaller of 80h and 01h is 80h"
pub operations :
    (outcome 1 ≡ 44 ∷ 1 ∷ 0x81 ∷ [])
    × (outcome 2 ≡ 100 ∷ 255 ∷ 0x7f ∷ [])
    × (outcome 3 ≡ 64 ∷ 0 ∷ 0 ∷ [])
    × (outcome 4 ≡ 236 ∷ 1 ∷ 0x81 ∷ [])
    × (outcome 5 ≡ 172 ∷ 1 ∷ 0x81 ∷ [])
    × (outcome 6 ≡ 200 ∷ 0 ∷ 0x80 ∷ [])
    × (outcome 7 ≡ 100 ∷ 1 ∷ 1 ∷ [])
unfolding operated between outcome ran
operations = (refl, refl, refl, refl, refl, refl, refl)

-- the bytes of registers: of an open load before it moves; of a store that has written, "stays so"; of a plain destination that took 8
-- lanes and then 4, zeros behind; of a finished load, its last chunk; of a fresh one. Registers 0 to 3 stand in this order
pub contents-left :
    ((register 1 (prepared triangle)).lanes ≡ replicate 64 0)
    × ((register 3 (ran 8 (operated 1) between).world.machine).lanes ≡ replicate 64 0)
    × ((register 3 (ran 8 (operated 1) between).world.machine).valid ≡ 0)
    × ((register 2 (ran 8 twice (bytes 0 20)).world.machine).lanes ≡ bytes 16 4 ++ replicate 60 0)
    × ((register 1 (ran 8 twice (bytes 0 20)).world.machine).lanes ≡ bytes 16 4 ++ replicate 60 0)
    × ((register 31 (ran 8 twice (bytes 0 20)).world.machine).lanes ≡ replicate 64 0)
    × (map (λ (r : Register). r.valid) (take 4 (ran 8 twice (bytes 0 20)).world.machine.registers) ≡ 0 ∷ 4 ∷ 4 ∷ 8 ∷ [])
    × ((register 2 (ran 16 (words ++ copies) (bytes 0 40)).world.machine).lanes ≡ (0x24 ∷ 0x25 ∷ 0x26 ∷ 0x27 ∷ []) ++ replicate 60 0)
unfolding operated between register prepared copies grown triangle words twice bytes ran
contents-left = (refl, refl, refl, refl, refl, refl, refl, refl)

-- bytes: dimension 1 of a size, dimension 2 of n rows, size modifiers of dimension 1; end
unfoldable pub resized : List ℕ → ℕ → List ℕ → List ℕ
resized size n modifiers = (1 ∷ 0x8b ∷ 0x81 ∷ 1 ∷ 0 ∷ 2 ∷ 1 ∷ 0 ∷ []) ++ size ++ (2 ∷ 2 ∷ 1 ∷ 0 ∷ n ∷ 2 ∷ []) ++ modifiers ++ (4 ∷ 1 ∷ [])

-- three dimensions, the first of size 0
unfoldable pub hollow : List ℕ → List ℕ
hollow n = (1 ∷ 0x8b ∷ 0x81 ∷ 1 ∷ 0 ∷ 2 ∷ 1 ∷ 0 ∷ 0 ∷ 2 ∷ 2 ∷ 1 ∷ 0 ∷ []) ++ n ++ (2 ∷ 2 ∷ 1 ∷ 0 ∷ []) ++ n ++ (2 ∷ 4 ∷ 1 ∷ [])

-- "displacement x (the larger of 1 and the owner's high, less 1)": 1 + 4,095 over two rows is accepted, 2 + 4,095 refused; over one row or
-- none nothing is added. High looks at adding modifiers and low at subtracting ones, "even where the walk would never reach the value": 4 + 3k - 2k
-- is accepted over three rows, refused over four. "the larger of 1 and high": 0 x 1,024 x 1,024 is accepted, 0 x 4,096 x 4,096 refused
pub limits :
    (answer (run 8 (resized (1 ∷ []) 2 (3 ∷ 1 ∷ 0 ∷ 0 ∷ 0 ∷ 0xff ∷ 0x1f ∷ [])) []) ≡ done 0 0)
    × (answer (run 8 (resized (2 ∷ []) 2 (3 ∷ 1 ∷ 0 ∷ 0 ∷ 0 ∷ 0xff ∷ 0x1f ∷ [])) []) ≡ refusal 8 22 0 0)
    × (answer (run 8 (resized (0x80 ∷ 0x20 ∷ []) 1 (3 ∷ 1 ∷ 0 ∷ 0 ∷ 0 ∷ 1 ∷ [])) []) ≡ done 0 0)
    × (answer (run 8 (resized (0x80 ∷ 0x20 ∷ []) 0 (3 ∷ 1 ∷ 0 ∷ 0 ∷ 0 ∷ 1 ∷ [])) []) ≡ done 0 0)
    × (answer (run 8 (resized (4 ∷ []) 3 (3 ∷ 1 ∷ 0 ∷ 0 ∷ 0 ∷ 3 ∷ 3 ∷ 1 ∷ 0 ∷ 0 ∷ 1 ∷ 2 ∷ [])) []) ≡ done 0 0)
    × (answer (run 8 (resized (4 ∷ []) 4 (3 ∷ 1 ∷ 0 ∷ 0 ∷ 0 ∷ 3 ∷ 3 ∷ 1 ∷ 0 ∷ 0 ∷ 1 ∷ 2 ∷ [])) []) ≡ refusal 8 27 0 0)
    × (answer (run 8 (hollow (0x80 ∷ 8 ∷ [])) []) ≡ done 0 0)
    × (answer (run 8 (hollow (0x80 ∷ 0x20 ∷ [])) []) ≡ refusal 9 22 0 0)
unfolding resized hollow answer_of answer
    groups_at number_at signed_of header_said header_of open_at dimension_at modifier_at end_at operation_at
    added only highs low_or_high_from product first_of why_not configured operations_from
limits = (refl, refl, refl, refl, refl, refl, refl, refl)

-- ---- 14

-- of a verdict its number and, of a refusal, lane and operand
unfoldable pub fault_of : Verdict → List ℕ
fault_of (Ok _) = 0 ∷ []
fault_of (Err x) = number_of x.refusal ∷ lane_of x.refusal ∷ operand_of x.refusal ∷ []

-- of a run
unfoldable pub fault : Progress → List ℕ
fault g = fault_of g.verdict

-- bytes 4, -4, 5, -3: base 4; dimension 1 size 2, stride -8; dimension 2 size 2, stride 1
unfoldable pub below : List ℕ
below = 1 ∷ 0x8b ∷ 0x81 ∷ 1 ∷ 4 ∷ 2 ∷ 1 ∷ 0 ∷ 2 ∷ 15 ∷ 2 ∷ 1 ∷ 0 ∷ 2 ∷ 2 ∷ 4 ∷ 1 ∷ []

-- a stream of register 1 added to itself
unfoldable pub doubled : List ℕ
doubled = 5 ∷ 1 ∷ 1 ∷ 1 ∷ 2 ∷ 1 ∷ 1 ∷ []

-- the sheet of "Loop nests", whose store has 8 elements, from byte 16 on
unfoldable pub roomy : List ℕ
roomy = take 31 (operated 1) ++ (8 ∷ drop 32 (operated 1))

-- "which lane, counted from 0, is the first outside, and whether the first source, second source or destination": three lanes each from
-- bytes 0, 8 and 16 on, in memories that end in an operand; below 0 and inside in turn; a register named twice; a store's elements behind the
-- lanes do not count; another refusal has neither
pub faults :
    (map (λ n. fault (ran 8 (operated 1) (bytes 0 n))) (0 ∷ 1 ∷ 2 ∷ []) ≡ (14 ∷ 0 ∷ 0 ∷ []) ∷ (14 ∷ 1 ∷ 0 ∷ []) ∷ (14 ∷ 2 ∷ 0 ∷ []) ∷ [])
    × (map (λ n. fault (ran 8 (operated 1) (bytes 0 n))) (8 ∷ 9 ∷ 10 ∷ []) ≡ (14 ∷ 0 ∷ 1 ∷ []) ∷ (14 ∷ 1 ∷ 1 ∷ []) ∷ (14 ∷ 2 ∷ 1 ∷ []) ∷ [])
    × (map (λ n. fault (ran 8 (operated 1) (bytes 0 n))) (16 ∷ 17 ∷ 18 ∷ []) ≡ (14 ∷ 0 ∷ 2 ∷ []) ∷ (14 ∷ 1 ∷ 2 ∷ []) ∷ (14 ∷ 2 ∷ 2 ∷ []) ∷ [])
    × (fault (ran 8 (below ++ copies) (bytes 0 20)) ≡ 14 ∷ 1 ∷ 0 ∷ [])
    × (fault (ran 16 (words ++ doubled) (bytes 0 23)) ≡ 14 ∷ 2 ∷ 0 ∷ [])
    × (fault (ran 16 (words ++ doubled) (bytes 0 39)) ≡ 14 ∷ 0 ∷ 0 ∷ [])
    × (fault (ran 8 roomy (bytes 0 19)) ≡ 0 ∷ [])
    × (fault (ran 8 roomy (bytes 0 18)) ≡ 14 ∷ 2 ∷ 2 ∷ [])
    × (fault (ran 12 words []) ≡ 15 ∷ 0 ∷ 0 ∷ [])
unfolding fault_of fault below doubled roomy operated copies words bytes ran
faults = (refl, refl, refl, refl, refl, refl, refl, refl, refl)
