-- Translating an accepted nest: 17 exactly if the room is shorter than the sheet, else the sheet in front of what stood behind it; 1,024
-- bytes always suffice.
--
--   translating
use Prim.Native.Nat.{ℕ, ◌+◌, ◌≤◌, ◌<◌}
use mathlib.Core.Path.{◌≡◌, ◌∙◌, ap}
use mathlib.Core.List.{List, ◌++◌}
use native.Mathlib.Omega.{arith}
use native.Mathlib.Decide.{dec_lt}
use lib.ListN.{length, take, drop, length-append, length-drop}
use lib.Seq.{sets-eq, take-append_seam, drop-append_seam}
use borrow.Author.Tests.{le-leb, lt-leb}
use Rattle.translator.specs.NestSheets.{sheet_of}
use Rattle.translator.specs.Reading.{nest}
use Rattle.translator.specs.Translation.{translated, room_after, sheet, refusal, as_translated}
use Rattle.translator.specs.Acceptance.{Accepted}
use Rattle.translator.specs.Promise3.{Translating}
use Rattle.translator.specs.RoomLaws.{sheet-most}
use Rattle.translator.specs.declared.nest.Nest.{Nest}

module _ (m : Nest) (room : List ℕ) where
  -- the sheet's length and the room's
  abbrev L : ℕ
  L = length (sheet_of m)

  abbrev R : ℕ
  R = length room

  -- long enough: the sheet, and what stood behind it
  answers-long : L ≤ R → as_translated (translated (nest m) R) ≡ sheet L
  answers-long h = rw (le-leb L R h)

  room-long : L ≤ R → room_after (nest m) room ≡ sheet_of m ++ drop L room
  room-long h =
      let z : 0 + L ≡ L = omega arith in
      rw (le-leb L R h) (sets-eq (sheet_of m) room 0 (omega arith) ∙ ap (λ k. sheet_of m ++ drop k room) z)

  -- too short: 17, and the room as it was
  answers-short : R < L → as_translated (translated (nest m) R) ≡ refusal 17 0 0 0
  answers-short h = rw (lt-leb L R h)

  room-short : R < L → room_after (nest m) room ≡ room
  room-short h = rw (lt-leb L R h)

  -- one answer excludes the other
  is-short : Dec (R < L) → as_translated (translated (nest m) R) ≡ refusal 17 0 0 0 → R < L
  is-short (yes q) e = q
  is-short (no q) e = absurd (let f = answers-long (omega arith) in let z : ◌≡◌ {A = ℕ} 0 1 = cc in omega arith)

  is-long : Dec (R < L) → as_translated (translated (nest m) R) ≡ sheet L → L ≤ R
  is-long (yes q) e = absurd (let f = answers-short q in let z : ◌≡◌ {A = ℕ} 0 1 = cc in omega arith)
  is-long (no q) e = omega arith

  -- either way
  behind : Dec (R < L) → drop L (room_after (nest m) room) ≡ drop L room
  behind (yes q) = ap (drop L) (room-short q)
  behind (no q) = ap (drop L) (room-long (omega arith)) ∙ drop-append_seam (sheet_of m) (drop L room)

  same_length : Dec (R < L) → length (room_after (nest m) room) ≡ R
  same_length (yes q) = ap length (room-short q)
  same_length (no q) = ap length (room-long (omega arith)) ∙ length-append (sheet_of m) (drop L room) ∙ omega (arith, length-drop L room)

pub translating : (m : Nest) (room : List ℕ) → Accepted m → Translating m room
translating m room a =
    let d = dec_lt (length room) (length (sheet_of m)) in
    record {
      short = (is-short m room d, answers-short m room);
      kept = room-short m room;
      long = (is-long m room d, answers-long m room);
      written = λ h. ap (take (length (sheet_of m))) (room-long m room h) ∙ take-append_seam (sheet_of m) (drop (length (sheet_of m)) room);
      behind = behind m room d;
      same_length = same_length m room d;
      fits = omega (arith, sheet-most m a.range.loops-most a.few);
    }
