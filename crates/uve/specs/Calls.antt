-- What a call answers, and every byte that it leaves. In quotation marks: the request for a library, which include/uve.h tells its callers.
--
--   unanswered                               2^64 - 1
--   run_answer, run_memory, run_report          a run: the answer, the memory and the report after it
--   translate_answer, translate_room, translate_report   a translation: the answer, the room and the report after it
use Rattle.std.specs.Prelude.{ℕ, ◌-◌, ◌^◌, List, cond, length, ltb}
use Rattle.std.proofs.lemmas.List.Edits.{sets}
use Rattle.engine.specs.Run.{number_given}
use Rattle.engine.specs.Sheets.{run}
use Rattle.translator.specs.Reading.{nest_at}
use Rattle.translator.specs.Translation.{translated, room_after}
use Rattle.uve.specs.Reports.{bytes_of64, report_of, refused_number, translation_numbers}

-- "the answer is 2^64 - 1": where a report is too short
abbrev pub unanswered : ℕ
unanswered = 2 ^ 64 - 1

-- ---- a run: vector length, sheet, memory and report at the call

-- "the refusal's number, or 0"; "A report shorter than that gets nothing, the answer is 2^64 - 1"
unfoldable pub run_answer : ℕ → List ℕ → List ℕ → List ℕ → ℕ
run_answer vl sheet memory report = cond (ltb (length report) 3712) unanswered (number_given (run vl sheet memory).verdict)

-- what the run leaves; with a short report "memory is unchanged"
unfoldable pub run_memory : ℕ → List ℕ → List ℕ → List ℕ → List ℕ
run_memory vl sheet memory report = cond (ltb (length report) 3712) memory (run vl sheet memory).world.memory

-- the numbers in front, "Bytes behind the first 3,712 stay"; a short report "gets nothing"
unfoldable pub run_report : ℕ → List ℕ → List ℕ → List ℕ → List ℕ
run_report vl sheet memory report = cond (ltb (length report) 3712) report (sets report 0 (bytes_of64 (report_of (run vl sheet memory))))

-- ---- a translation: nest, room and report at the call

-- "the refusal's number, or 0"; "A report under 24 bytes gets nothing, answer 2^64 - 1"
unfoldable pub translate_answer : List ℕ → List ℕ → List ℕ → ℕ
translate_answer nest room report = cond (ltb (length report) 24) unanswered (refused_number (translated (nest_at nest) (length room)))

-- what the translation leaves; with a short report "room unchanged"
unfoldable pub translate_room : List ℕ → List ℕ → List ℕ → List ℕ
translate_room nest room report = cond (ltb (length report) 24) room (room_after (nest_at nest) room)

-- the numbers in front, "bytes behind 24 stay"; a short report "gets nothing"
unfoldable pub translate_report : List ℕ → List ℕ → List ℕ → List ℕ
translate_report nest room report =
    cond (ltb (length report) 24) report (sets report 0 (bytes_of64 (translation_numbers (translated (nest_at nest) (length room)))))
