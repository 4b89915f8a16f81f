-- Ragged rows with nothing in them (02, 3/14), computed: coupled streams some of whose passes hold no element.
--
--   rows_of, shrinking, growing   rows that change in size; loads of rows of 2, 1 and 0 bytes, and of 0, 1 and 2
--   sized                        a load of rows of one size
--   stores                       a store of rows of 0, 1 and 2 bytes
--   folds, copied                kernels over the load in register 1
--   seen-after                   what each pass of a run leaves in register 1
--   ragged-rows                  the rows
use Rattle.std.specs.Prelude.{◌≡◌, ℕ, List, [], ◌∷◌, ◌++◌, drop, replicate, refl}
use Rattle.codec.specs.Numbers.{groups_at, number_at, signed_of}
use Rattle.codec.specs.Headers.{header_said, header_of}
use Rattle.codec.specs.Operations.{open_at, dimension_at, modifier_at, end_at, run_at, operation_at, calculation_at}
use Rattle.engine.specs.Loops.{size_at, added, join, span, loops}
use Rattle.engine.specs.Chunks.{pass_stops, stops_in, is_element, elements_among, nothing_at, with_elements, groups, left_after, chunk_of, differ, height}
use Rattle.engine.specs.Rules.{only, highs, low_or_high_from, product}
use Rattle.engine.specs.Addresses.{address_up_to}
use Rattle.engine.specs.Memory.{value_at, little_endian, stored, lanes_from, joined, holding}
use Rattle.engine.specs.Lanes.{lanewise, sum, extreme}
use Rattle.engine.specs.Calculate.{given, results, all_inside, refusal_of, read_from, written_to, memory_after, effect}
use Rattle.engine.specs.Checks.{first_of}
use Rattle.engine.specs.Registers.{next_stops, next_chunk, moved_by, to_come}
use Rattle.engine.specs.Configure.{why_not, configured}
use Rattle.engine.specs.Questions.{ask_flag, ask_end}
use Rattle.engine.specs.Run.{pass_by, repeat_by}
use Rattle.engine.specs.Sheets.{body_at, names, operations_from}
use Rattle.engine.specs.Table.{done, refusal, answer_of, answer, yes, no, heard, asked_flag, asked_end, register, prepared, Seen, seen, looked_at, trail, trail_of, watched, bytes}
use Rattle.engine.specs.Samples.{ran}

-- ---- sheets

-- bytes behind a header: dimension 1 of a size that changes with the row, stride 1; three rows 8 apart
unfoldable pub rows_of : List ℕ → ℕ → ℕ → ℕ → ℕ → List ℕ
rows_of header i base size behaviour =
    (1 ∷ header) ++ (base ∷ 2 ∷ i ∷ 0 ∷ size ∷ 2 ∷ 2 ∷ i ∷ 0 ∷ 3 ∷ 0x10 ∷ 3 ∷ i ∷ 0 ∷ 0 ∷ behaviour ∷ 1 ∷ 4 ∷ i ∷ [])

-- load B, register 1, coupled to dimension 1: rows of 2, 1 and 0 bytes
unfoldable pub shrinking : List ℕ
shrinking = rows_of (0x8b ∷ 0x81 ∷ 0x81 ∷ 0x80 ∷ 4 ∷ []) 1 0 2 1

-- rows of 0, 1 and 2
unfoldable pub growing : List ℕ
growing = rows_of (0x8b ∷ 0x81 ∷ 0x81 ∷ 0x80 ∷ 4 ∷ []) 1 0 0 0

-- load B, register 1, two dimensions, coupled to dimension 1: of sizes m and n
unfoldable pub sized : ℕ → ℕ → List ℕ
sized m n = 1 ∷ 0x8b ∷ 0x81 ∷ 0x81 ∷ 0x80 ∷ 4 ∷ 0 ∷ 2 ∷ 1 ∷ 0 ∷ m ∷ 2 ∷ 2 ∷ 1 ∷ 0 ∷ n ∷ 0x10 ∷ 4 ∷ 1 ∷ []

-- store B, register 3, coupled to dimension 1, from byte 32 on: rows of 0, 1 and 2 bytes
unfoldable pub stores : List ℕ
stores = rows_of (0x8b ∷ 0x83 ∷ 0x80 ∷ 0x80 ∷ 4 ∷ []) 3 0x20 0 0

-- a store of bytes from 24 on, in register 3, and a run: calculation k of each chunk to it
unfoldable pub folds : ℕ → List ℕ
folds k = 1 ∷ 0x8b ∷ 3 ∷ 0x18 ∷ 2 ∷ 3 ∷ 0 ∷ 8 ∷ 2 ∷ 4 ∷ 3 ∷ 5 ∷ 1 ∷ 1 ∷ k ∷ 3 ∷ 1 ∷ 1 ∷ []

-- a run: register 1 copied to register 3
unfoldable pub copied : List ℕ
copied = 5 ∷ 1 ∷ 1 ∷ 0 ∷ 3 ∷ 1 ∷ 1 ∷ []

-- before the first of n passes of a sheet's run, and after each; to unfold it is to unfold all that it computes with
unfoldable pub seen-after : ℕ → ℕ → List ℕ → List ℕ → List Seen
unfolding heard asked_flag asked_end register prepared seen looked_at trail trail_of watched
    groups_at number_at signed_of header_said header_of open_at dimension_at modifier_at end_at run_at operation_at calculation_at
    size_at added join span loops pass_stops stops_in is_element elements_among nothing_at with_elements groups left_after chunk_of differ height
    only highs low_or_high_from product address_up_to value_at little_endian stored lanes_from joined holding lanewise
    given results all_inside refusal_of read_from written_to memory_after effect
    first_of next_stops next_chunk moved_by to_come why_not configured ask_flag ask_end pass_by repeat_by body_at names operations_from
seen-after vl n s memory = watched vl n s memory

-- ---- rows

-- "must give one chunk with no valid lanes": rows of 2, 1 and 0 bytes are three chunks, and the flag of dimension 2 is set after the last; so
-- are rows of 0, 1 and 2. "row n of the sums" is "row n of the image": a sum of 0 for the row with nothing in it. The smallest of such a row is
-- refused with 18. A store of rows 0, 1 and 2 "moves past" the first "when 0 lanes are written, and refuses more" with 13. A stream of three
-- rows with nothing in them is open at end and has three chunks; with no row it is "finished at end"
pub ragged-rows :
    (seen-after 8 3 (shrinking ++ folds 8) (bytes 0 24 ++ replicate 8 9)
    ≡ seen 0 no no no ∷ seen 2 yes no no ∷ seen 1 yes no no ∷ seen 0 yes yes yes ∷ [])
    × (seen-after 8 3 (growing ++ folds 8) (bytes 0 24 ++ replicate 8 9)
    ≡ seen 0 no no no ∷ seen 0 yes no no ∷ seen 1 yes no no ∷ seen 2 yes yes yes ∷ [])
    × (drop 24 (ran 8 (shrinking ++ folds 8) (bytes 0 24 ++ replicate 8 9)).world.memory ≡ 1 ∷ 8 ∷ 0 ∷ replicate 5 9)
    × (drop 24 (ran 8 (growing ++ folds 8) (bytes 0 24 ++ replicate 8 9)).world.memory ≡ 0 ∷ 8 ∷ 33 ∷ replicate 5 9)
    × (answer (ran 8 (shrinking ++ folds 8) (bytes 0 24 ++ replicate 8 9)) ≡ done 3 3)
    × (answer (ran 8 (shrinking ++ folds 9) (bytes 0 24 ++ replicate 8 9)) ≡ refusal 18 39 2 2)
    × (answer (ran 8 (growing ++ folds 9) (bytes 0 24 ++ replicate 8 9)) ≡ refusal 18 39 0 0)
    × (drop 32 (ran 8 (growing ++ stores ++ copied) (bytes 0 32 ++ replicate 20 9)).world.memory
    ≡ replicate 8 9 ++ (8 ∷ replicate 7 9) ++ (16 ∷ 17 ∷ replicate 2 9))
    × (answer (ran 8 (growing ++ stores ++ copied) (bytes 0 32 ++ replicate 20 9)) ≡ done 3 3)
    × (answer (ran 8 (shrinking ++ stores ++ copied) (bytes 0 32 ++ replicate 20 9)) ≡ refusal 13 53 0 0)
    × (seen-after 8 3 (sized 0 3 ++ folds 8) (bytes 0 24 ++ replicate 8 9)
    ≡ seen 0 no no no ∷ seen 0 yes no no ∷ seen 0 yes no no ∷ seen 0 yes yes yes ∷ [])
    × (drop 24 (ran 8 (sized 0 3 ++ folds 8) (bytes 0 24 ++ replicate 8 9)).world.memory ≡ 0 ∷ 0 ∷ 0 ∷ replicate 5 9)
    × (seen-after 8 0 (sized 3 0 ++ folds 8) (bytes 0 32) ≡ seen 0 yes yes yes ∷ [])
    × (answer (ran 8 (sized 3 0 ++ folds 8) (bytes 0 32)) ≡ done 0 0)
unfolding rows_of shrinking growing sized stores folds copied bytes seen-after ran answer_of answer sum extreme
ragged-rows = (refl, refl, refl, refl, refl, refl, refl, refl, refl, refl, refl, refl, refl, refl)
