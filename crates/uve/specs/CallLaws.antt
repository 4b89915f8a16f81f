-- What follows of calls.
--
--   RunCalled, run_short, run_long   the answer, the memory and the report after a run: with a short report, and with one long enough
--   run-number, run-behind           a number of the report, read back; the bytes behind them
--   TranslateCalled, translate-short, translate-long   the answer, the room and the report after a translation, alike
--   translation-length, translate-behind   three numbers; the bytes behind them
use Rattle.std.specs.Prelude.{ℕ, ◌+◌, ◌*◌, ◌%◌, ◌^◌, ◌≤◌, ◌<◌, ◌≡◌, refl, List, ◌++◌, Bool, true, false, cond, length, get_or, drop, ltb, Result, Ok, Err}
use Rattle.std.proofs.Common.{arith}
use Rattle.std.proofs.lemmas.List.Edits.{sets, sets-eq}
use borrow.Author.Tests.{lt-ltb, le-ltb}
use Rattle.engine.specs.Memory.{value_at}
use Rattle.engine.specs.Run.{number_given, Progress}
use Rattle.engine.specs.Sheets.{run}
use Rattle.translator.specs.Reading.{nest_at}
use Rattle.translator.specs.Translation.{translated, room_after}
use Rattle.codec.specs.declared.refusal.Refused.{Refused}
use Rattle.uve.specs.Reports.{bytes_of64, report_of, refused_number, translation_numbers}
use Rattle.uve.specs.Calls.{unanswered, run_answer, run_memory, run_report, translate_answer, translate_room, translate_report}
use Rattle.uve.specs.JoinedLaws.{length-joined, joined-read, sets-beyond}
use Rattle.uve.specs.ReportLaws.{report-length, report-bytes}

-- numbers in front of a report, or none if it is short: what lies behind them stays
numbers-behind : (b ns : List ℕ) (k : ℕ) (short : Bool) → length ns * 8 ≤ k → get_or (cond short b (sets b 0 (bytes_of64 ns))) k 0 ≡ get_or b k 0
numbers-behind b ns k true h = refl
numbers-behind b ns k false h = sets-beyond b 0 (bytes_of64 ns) k (omega (arith, length-joined 8 ns))

-- ---- a run: vector length, sheet, memory and report at the call

-- the answer, the memory and the report after the call of a run
abbrev pub RunCalled : ℕ → List ℕ → List ℕ → List ℕ → ℕ → List ℕ → List ℕ → Type 0
RunCalled vl s m b r m' b' = (r ≡ run_answer vl s m b) × ((m' ≡ run_memory vl s m b) × (b' ≡ run_report vl s m b))

module _ (vl : ℕ) (s m b : List ℕ) where
  -- a short report
  pub run_short : length b < 3712 → RunCalled vl s m b unanswered m b
  unfolding run_answer run_memory run_report
  run_short h = let e = lt-ltb (length b) 3712 h in (rw e, (rw e, rw e))

  -- one long enough: what the engine answered
  pub run_long : 3712 ≤ length b → (p : Progress) → p ≡ run vl s m
      → RunCalled vl s m b (number_given p.verdict) p.world.memory (sets b 0 (bytes_of64 (report_of p)))
  unfolding run_answer run_memory run_report
  run_long h p q = let e = le-ltb (length b) 3712 h in (rw (e, q), (rw (e, q), rw (e, q)))

  -- number k of a report, read back from its bytes
  pub run-number : 3712 ≤ length b → (k : ℕ) → k < 464 → value_at (run_report vl s m b) (8 * k) 8 ≡ get_or (report_of (run vl s m)) k 0 % 2 ^ 64
  run-number h k l =
      let p = run vl s m in
      let e : 8 * k ≡ k * 8 = omega arith in
      let f : sets b 0 (bytes_of64 (report_of p)) ≡ bytes_of64 (report_of p) ++ drop (0 + length (bytes_of64 (report_of p))) b = sets-eq (bytes_of64 (report_of p)) b 0 (omega (arith, report-bytes p)) in
      rw (← (run_long h p refl).1.1, f, e) (joined-read 8 (report_of p) _ k (omega (arith, report-length p)))

  -- "Bytes behind the first 3,712 stay"
  pub run-behind : (k : ℕ) → 3712 ≤ k → get_or (run_report vl s m b) k 0 ≡ get_or b k 0
  unfolding run_report
  run-behind k h = numbers-behind b (report_of (run vl s m)) k (ltb (length b) 3712) (omega (arith, report-length (run vl s m)))

-- three numbers
pub translation-length : (t : Result ℕ Refused) → length (translation_numbers t) ≡ 3
unfolding translation_numbers
translation-length (Ok n) = refl
translation-length (Err r) = refl

-- ---- a translation: nest, room and report at the call

-- the answer, the room and the report after the call of a translation
abbrev pub TranslateCalled : List ℕ → List ℕ → List ℕ → ℕ → List ℕ → List ℕ → Type 0
TranslateCalled n m b r m' b' = (r ≡ translate_answer n m b) × ((m' ≡ translate_room n m b) × (b' ≡ translate_report n m b))

module _ (n m b : List ℕ) where
  -- a short report
  pub translate-short : length b < 24 → TranslateCalled n m b unanswered m b
  unfolding translate_answer translate_room translate_report
  translate-short h = let e = lt-ltb (length b) 24 h in (rw e, (rw e, rw e))

  -- one long enough: what the translator answered
  pub translate-long : 24 ≤ length b → (t : Result ℕ Refused) (m' : List ℕ) → t ≡ translated (nest_at n) (length m) → m' ≡ room_after (nest_at n) m
      → TranslateCalled n m b (refused_number t) m' (sets b 0 (bytes_of64 (translation_numbers t)))
  unfolding translate_answer translate_room translate_report
  translate-long h t m' q k = let e = le-ltb (length b) 24 h in (rw (e, q), (rw (e, k), rw (e, q)))

  -- "bytes behind 24 stay"
  pub translate-behind : (k : ℕ) → 24 ≤ k → get_or (translate_report n m b) k 0 ≡ get_or b k 0
  unfolding translate_report
  translate-behind k h =
      let t = translated (nest_at n) (length m) in
      numbers-behind b (translation_numbers t) k (ltb (length b) 24) (omega (arith, translation-length t))
