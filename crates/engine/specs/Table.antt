-- 01's bench rows, computed from the definitions: sheets of bytes, read and run.
--
--   Answer, answer, asked_flag, asked_end   answers by 01's numbers
--   register, prepared, addresses         a register; the machine that a sheet's operations leave; the addresses of its register 1
--   Seen, watched                         what each pass of a sheet's run leaves in register 1
--   copies, triangle .. three             the sheets
--   rows                                  the starred rows, together
--   examples                              others of 01
use Rattle.std.specs.Prelude.{◌≡◌, ℕ, zero, suc, List, [], ◌∷◌, ◌++◌, map, length, ℤ, pos, refl, Ok, true, false, Err, Result, Bool, None}
use Rattle.codec.specs.Refusals.{number_of}
use Rattle.codec.specs.Numbers.{groups_at, number_at, signed_of}
use Rattle.codec.specs.Headers.{header_said, header_of}
use Rattle.codec.specs.Operations.{open_at, dimension_at, modifier_at, end_at, run_at, operation_at, calculation_at}
use Rattle.codec.specs.declared.refusal.Refusal.{Refusal}
use Rattle.codec.specs.declared.header.Kind.TheVariants.{Load, Store}
use Rattle.codec.specs.declared.header.Width.TheVariants.{W}
use Rattle.engine.specs.Loops.{size_at, added, join, span, loops, elements}
use Rattle.engine.specs.Chunks.{pass_stops, stops_in, is_element, elements_among, nothing_at, with_elements, groups, left_after, chunk_of, differ, height}
use Rattle.engine.specs.Rules.{only, highs, low_or_high_from, product}
use Rattle.engine.specs.Addresses.{address_up_to, address}
use Rattle.engine.specs.Memory.{value_at, little_endian, stored, lanes_from, joined, holding, contents}
use Rattle.engine.specs.Lanes.{lanewise}
use Rattle.engine.specs.Calculate.{World, given, results, all_inside, refusal_of, read_from, written_to, memory_after, effect}
use Rattle.engine.specs.Checks.{first_of}
use Rattle.engine.specs.Registers.{fresh_machine, reg, shape_of, next_stops, next_chunk, moved_by, to_come}
use Rattle.engine.specs.Configure.{why_not, configured}
use Rattle.engine.specs.Questions.{ask_flag, ask_end}
use Rattle.engine.specs.Run.{Progress, begun, counted, pass, pass_by, repeat_by, Verdict}
use Rattle.engine.specs.Sheets.{body_at, names, Ending, over, runs, refused, operations_from, prepare, run}
use Rattle.engine.specs.declared.register.Register.{Register}
use Rattle.engine.specs.declared.register.Machine.{Machine}
use Rattle.engine.specs.declared.run.Placed.{Placed}
use Rattle.engine.specs.declared.run.Report.{Report}

-- ---- answers

-- a sheet's answer: "A refusal gives its number, a place and both counts"
pub data Answer : Type 0 where
  done : ℕ → ℕ → Answer
  refusal : ℕ → ℕ → ℕ → ℕ → Answer

-- the answer of a verdict and both counts, by 01's numbers
unfoldable pub answer_of : Verdict → Report → Answer
answer_of (Ok _) r = done r.passes r.calculations
answer_of (Err x) r = refusal (number_of x.refusal) x.place r.passes r.calculations

-- the answer of a run
unfoldable pub answer : Progress → Answer
answer g = answer_of g.verdict g.report

-- what is told: yes, no, or the number of a refusal
pub data Heard : Type 0 where
  yes : Heard
  no : Heard
  untold : ℕ → Heard

-- what is told, with a refusal's number
unfoldable pub heard : Result Bool Refusal → Heard
heard (Ok true) = yes
heard (Ok false) = no
heard (Err x) = untold (number_of x)

-- what the question for the flag of dimension d of register i is told
unfoldable pub asked_flag : Machine → ℕ → ℕ → Heard
asked_flag m i d = heard (ask_flag m i d)

-- what the question for the end of stream of register i is told
unfoldable pub asked_end : Machine → ℕ → Heard
asked_end m i = heard (ask_end m i)

-- ---- what is looked at

-- register i of a machine
unfoldable pub register : ℕ → Machine → Register
register i m = reg m i

-- the machine that a sheet's operations leave
unfoldable pub prepared : List ℕ → Machine
prepared s = (prepare s fresh_machine).machine

-- the addresses of register 1's elements
unfoldable pub addresses : List ℕ → List ℤ
addresses s =
    let r : Register = register 1 (prepared s) in
    map (address r.pattern r.width) (elements (shape_of r))

-- register 1 after a pass: its valid lanes, the flags of dimensions 1 and 2, the end of stream
pub record Seen : Type 0 where
  pub lanes : ℕ
  pub flag1 : Heard
  pub flag2 : Heard
  pub end : Heard

-- so many valid lanes, the flags of dimensions 1 and 2, the end of stream
unfoldable pub seen : ℕ → Heard → Heard → Heard → Seen
seen n a b e = record { lanes = n; flag1 = a; flag2 = b; end = e }

-- what is seen of a machine's register 1
unfoldable pub looked_at : Machine → Seen
looked_at m = seen (register 1 m).valid (asked_flag m 1 1) (asked_flag m 1 2) (asked_end m 1)

-- after each of n passes
unfoldable pub trail : ℕ → List Placed → ℕ → Progress → List Seen
trail vl cs zero g = []
trail vl cs (suc n) g = let q : Progress = counted (pass vl cs g) in looked_at q.world.machine ∷ trail vl cs n q

-- what is seen after each of n passes of a sheet's run; nothing if it has none
unfoldable pub trail_of : ℕ → ℕ → World → Ending → List Seen
trail_of vl n w over = []
trail_of vl n w (runs loop cs) = trail vl cs n (begun w)
trail_of vl n w (refused x place) = []

-- before the first of n passes of a sheet's run, and after each
unfoldable pub watched : ℕ → ℕ → List ℕ → List ℕ → List Seen
watched vl n s memory =
    looked_at (prepared s) ∷ trail_of vl n (record { machine = prepared s; memory = memory }) (prepare s fresh_machine).ending

-- ---- sheets

-- a run of one calculation, a copy of register 1 to register 2
unfoldable pub copies : List ℕ
copies = 5 ∷ 1 ∷ 1 ∷ 0 ∷ 2 ∷ 1 ∷ 1 ∷ []

-- "Bytes, base 0, dimension 1 size 1 stride 1, dimension 2 size 4 stride 8, size of 1 grows by 1", behind a header
unfoldable pub grown : List ℕ → List ℕ
grown header =
    (1 ∷ header)
    ++ (0 ∷ 2 ∷ 1 ∷ 0 ∷ 1 ∷ 2 ∷ 2 ∷ 1 ∷ 0 ∷ 4 ∷ 0x10 ∷ 3 ∷ 1 ∷ 0 ∷ 0 ∷ 0 ∷ 1 ∷ 4 ∷ 1 ∷ [])

-- load B, register 1
unfoldable pub triangle : List ℕ
triangle = grown (0x8b ∷ 0x81 ∷ 1 ∷ [])

-- "Coupled to 1"
unfoldable pub coupled : List ℕ
coupled = grown (0x8b ∷ 0x81 ∷ 0x81 ∷ 0x80 ∷ 4 ∷ [])

-- "Size 4 shrinking by 1", n rows
unfoldable pub shrunk : ℕ → List ℕ
shrunk n =
    1 ∷ 0x8b ∷ 0x81 ∷ 1 ∷ 0 ∷ 2 ∷ 1 ∷ 0 ∷ 4 ∷ 2 ∷ 2 ∷ 1 ∷ 0 ∷ n ∷ 0x10 ∷ 3 ∷ 1 ∷ 0 ∷ 0 ∷ 1 ∷ 1 ∷ 4 ∷ 1 ∷ []

-- dimension 1 size 1,024, which is 80 08; dimension 2 of a size as it is written
unfoldable pub square : List ℕ → List ℕ
square n = (1 ∷ 0x8b ∷ 0x81 ∷ 1 ∷ 0 ∷ 2 ∷ 1 ∷ 0 ∷ 0x80 ∷ 8 ∷ 2 ∷ 2 ∷ 1 ∷ 0 ∷ []) ++ n ++ (2 ∷ 4 ∷ 1 ∷ [])

-- "Words, base 4, size 5, stride 2": header 5608Bh
unfoldable pub words : List ℕ
words = 1 ∷ 0x8b ∷ 0xc1 ∷ 0x15 ∷ 4 ∷ 2 ∷ 1 ∷ 0 ∷ 5 ∷ 4 ∷ 4 ∷ 1 ∷ []

-- "Loop nests": the 42 bytes
unfoldable pub nest : List ℕ
nest =
    0x01 ∷ 0x8b ∷ 0x81 ∷ 0x01 ∷ 0x00 ∷ 0x02 ∷ 0x01 ∷ 0x00 ∷ 0x03 ∷ 0x02 ∷ 0x04 ∷ 0x01 ∷ 0x01 ∷ 0x8b ∷ 0x82 ∷ 0x01 ∷ 0x08 ∷ 0x02
    ∷ 0x02 ∷ 0x00 ∷ 0x03 ∷ 0x02 ∷ 0x04 ∷ 0x02 ∷ 0x01 ∷ 0x8b ∷ 0x03 ∷ 0x10 ∷ 0x02 ∷ 0x03 ∷ 0x00 ∷ 0x03 ∷ 0x02 ∷ 0x04 ∷ 0x03 ∷ 0x05
    ∷ 0x01 ∷ 0x01 ∷ 0x01 ∷ 0x03 ∷ 0x01 ∷ 0x02 ∷ []

-- 20 bytes in register 1, copied to register 2 and then to register 3: the body names the loop register twice
unfoldable pub twice : List ℕ
twice =
    1 ∷ 0x8b ∷ 0x81 ∷ 1 ∷ 0 ∷ 2 ∷ 1 ∷ 0 ∷ 20 ∷ 2 ∷ 4 ∷ 1 ∷ 5 ∷ 1 ∷ 2 ∷ 0 ∷ 2 ∷ 1 ∷ 1 ∷ 0 ∷ 3 ∷ 1 ∷ 1 ∷ []

-- the triangle in register 1; register 2 being configured; a stream without elements in register 3
unfoldable pub three : List ℕ
three = triangle ++ (1 ∷ 0x8b ∷ 0x82 ∷ 1 ∷ 0 ∷ 1 ∷ 0x8b ∷ 0x83 ∷ 1 ∷ 0 ∷ 2 ∷ 3 ∷ 0 ∷ 0 ∷ 2 ∷ 4 ∷ 3 ∷ [])

-- n bytes: from k on
unfoldable pub bytes : ℕ → ℕ → List ℕ
bytes k zero = []
bytes k (suc n) = k ∷ bytes (suc k) n

-- ---- the rows

-- the starred rows
pub rows :
    (addresses triangle ≡ pos 0 ∷ pos 8 ∷ pos 9 ∷ pos 16 ∷ pos 17 ∷ pos 18 ∷ pos 24 ∷ pos 25 ∷ pos 26 ∷ pos 27 ∷ [])
    × (watched 8 2 (triangle ++ copies) (bytes 0 28) ≡ seen 0 no no no ∷ seen 8 no no no ∷ seen 2 yes yes yes ∷ [])
    × (answer (run 8 (triangle ++ copies) (bytes 0 28)) ≡ done 2 2)
    × (watched 8 4 (coupled ++ copies) (bytes 0 28)
    ≡ seen 0 no no no ∷ seen 1 yes no no ∷ seen 2 yes no no ∷ seen 3 yes no no ∷ seen 4 yes yes yes ∷ [])
    × (answer (run 8 (coupled ++ copies) (bytes 0 28)) ≡ done 4 4)
    × (length (elements (shape_of (register 1 (prepared (shrunk 5))))) ≡ 10)
    × ((register 1 (run 8 (shrunk 5 ++ copies) (bytes 0 40)).world.machine).moved ≡ 10)
    × (answer (run 8 (shrunk 5 ++ copies) (bytes 0 40)) ≡ done 2 2)
    × (answer (run 8 (shrunk 6 ++ copies) (bytes 0 40)) ≡ refusal 8 21 0 0)
    × (answer (run 8 (square (0x80 ∷ 8 ∷ [])) []) ≡ done 0 0)
    × (answer (run 8 (square (0x81 ∷ 8 ∷ [])) []) ≡ refusal 9 17 0 0)
    × (addresses words ≡ pos 4 ∷ pos 12 ∷ pos 20 ∷ pos 28 ∷ pos 36 ∷ [])
    × (watched 16 2 (words ++ copies) (bytes 0 40) ≡ seen 0 no (untold 2) no ∷ seen 4 no (untold 2) no ∷ seen 1 yes (untold 2) yes ∷ [])
    × (answer (run 16 (words ++ copies) (bytes 0 40)) ≡ done 2 2)
    × (answer (run 16 (words ++ copies) (bytes 0 39)) ≡ refusal 14 15 1 1)
    × (header_of 0x5608b ≡ Ok (record { kind = Load; width = W; register = 1; coupling = None }))
    × (header_of 0x6218b ≡ Ok (record { kind = Store; width = W; register = 3; coupling = None }))
unfolding answer_of answer heard asked_flag asked_end register prepared addresses seen looked_at trail trail_of watched
    copies grown triangle coupled shrunk square words bytes
    groups_at number_at signed_of header_said header_of open_at dimension_at modifier_at end_at run_at operation_at calculation_at
    size_at added join span loops elements pass_stops stops_in is_element elements_among nothing_at with_elements groups left_after chunk_of differ height only highs low_or_high_from product
    address_up_to value_at little_endian stored lanes_from joined holding lanewise
    given results all_inside refusal_of read_from written_to memory_after effect
    first_of next_stops next_chunk moved_by to_come why_not configured ask_flag ask_end pass_by repeat_by body_at names operations_from
rows = (refl, refl, refl, refl, refl, refl, refl, refl, refl, refl, refl, refl, refl, refl, refl, refl, refl)

-- what the reads of 40 and 39 bytes leave; the sheet of "Loop nests" adds three bytes; a loop register that the body names twice; the two
-- questions
pub examples :
    (contents (register 2 (run 16 (words ++ copies) (bytes 0 40)).world.machine) ≡ 0x27262524 ∷ [])
    × (contents (register 2 (run 16 (words ++ copies) (bytes 0 39)).world.machine) ≡ 0x07060504 ∷ 0x0f0e0d0c ∷ 0x17161514 ∷ 0x1f1e1d1c ∷ [])
    × ((run 8 nest (bytes 1 19)).world.memory ≡ bytes 1 16 ++ (10 ∷ 12 ∷ 14 ∷ []))
    × (answer (run 8 nest (bytes 1 19)) ≡ done 1 1)
    × (answer (run 8 twice (bytes 0 20)) ≡ refusal 11 19 1 3)
    × ((register 1 (run 8 twice (bytes 0 20)).world.machine).moved ≡ 20)
    × (contents (register 2 (run 8 twice (bytes 0 20)).world.machine) ≡ bytes 16 4)
    × (contents (register 3 (run 8 twice (bytes 0 20)).world.machine) ≡ bytes 8 8)
    × (map (λ d. asked_flag (prepared three) 1 d) (0 ∷ 1 ∷ 2 ∷ 3 ∷ 7 ∷ 8 ∷ [])
    ≡ untold 2 ∷ no ∷ no ∷ untold 2 ∷ untold 2 ∷ untold 2 ∷ [])
    × (map (λ i. asked_flag (prepared three) i 1) (0 ∷ 1 ∷ 2 ∷ 3 ∷ 31 ∷ 32 ∷ []) ≡ untold 5 ∷ no ∷ untold 5 ∷ yes ∷ untold 5 ∷ untold 2 ∷ [])
    × (map (λ i. asked_flag (prepared three) i 8) (0 ∷ 1 ∷ 32 ∷ []) ≡ untold 2 ∷ untold 2 ∷ untold 2 ∷ [])
    × (map (λ i. asked_end (prepared three) i) (0 ∷ 1 ∷ 2 ∷ 3 ∷ 31 ∷ 32 ∷ []) ≡ untold 5 ∷ no ∷ untold 5 ∷ yes ∷ untold 5 ∷ untold 2 ∷ [])
unfolding answer_of answer heard asked_flag asked_end register prepared copies grown triangle words nest twice three bytes
    groups_at number_at signed_of header_said header_of open_at dimension_at modifier_at end_at run_at operation_at calculation_at
    size_at added join span loops elements pass_stops stops_in is_element elements_among nothing_at with_elements groups left_after chunk_of differ height only highs low_or_high_from product
    address_up_to value_at little_endian stored lanes_from joined holding lanewise
    given results all_inside refusal_of read_from written_to memory_after effect
    first_of next_stops next_chunk moved_by to_come why_not configured ask_flag ask_end pass_by repeat_by body_at names operations_from
examples = (refl, refl, refl, refl, refl, refl, refl, refl, refl, refl, refl, refl)
