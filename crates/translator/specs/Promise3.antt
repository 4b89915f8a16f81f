-- Promise 3: the plain loop. For every accepted nest, allowed vector length and memory: if every element of every visit lies inside
-- memory the run of its sheet is not refused; if also no visit reads a byte that an earlier visit wrote, it leaves the plain loop's
-- memory. With it, what translating does to the room.
--
--   Inside, AllInside            premise 1
--   Byte, Writes, Reads, Apart, NoneRead    premise 2
--   Chunks, NoneReadInChunk      the weaker one, of the same chunk
--   Visits                       what the visits are
--   Translating                  the room
--   Promise3, Promised           demand 3; with the acceptance, the visits and the room
--   Premise1, Delivered          demand 3 in the words of an answer, for the bytes of a nest
use Rattle.std.specs.Prelude.{ℕ, suc, ◌+◌, ◌/◌, ◌≤◌, ◌<◌, ◌≡◌, ◌⊎◌, ◌↔◌, List, [], ◌∷◌, length, get_or, take, drop, ℤ, pos, ◌+ℤ◌, ◌≤ℤ◌, Ok}
use Rattle.codec.specs.NumberLaws.{AreBytes}
use Rattle.engine.specs.Sheets.{run}
use Rattle.engine.specs.Allowed.{Fits, Lies}
use Rattle.engine.specs.LoopLaws.{Within, Before}
use Rattle.translator.specs.Nests.{count_at, visits, width_of, place_of, plain_loop, nest_stops, chunk_at, visits_among}
use Rattle.translator.specs.Reading.{nest, nest_bytes}
use Rattle.translator.specs.NestSheets.{sheet_of}
use Rattle.translator.specs.Translation.{translated, room_after, run_nest, sheet, refusal, as_translated}
use Rattle.translator.specs.Acceptance.{Accepted, Nesting}
use Rattle.translator.specs.declared.nest.Nest.{Nest}
use Rattle.translator.specs.declared.nest.Stage.TheVariants as stage
use Rattle.translator.specs.declared.nest.NestAnswer.{NestAnswer}

-- ---- premise 1: every element of every visit lies inside memory

-- the elements of a visit, of both sources and of the destination, lie inside a memory of len bytes
pub record Inside (m : Nest) (len : ℕ) (v : List ℕ) : Type 0 where
  pub first : Lies len (width_of m) (place_of m m.first v)
  pub second : Lies len (width_of m) (place_of m m.second v)
  pub destination : Lies len (width_of m) (place_of m m.destination v)

-- visit k of a nest, the first being visit 0
abbrev pub visit : Nest → ℕ → List ℕ
visit m k = get_or (visits m) k []

-- every element of every visit lies inside memory
abbrev pub AllInside : Nest → ℕ → Type 0
AllInside m len = (k : ℕ) → k < length (visits m) → Inside m len (visit m k)

-- ---- premise 2: no visit reads a byte that an earlier visit wrote

-- byte x of memory is one of the bytes of an element
pub record Byte (width : ℕ) (a : ℤ) (x : ℕ) : Type 0 where
  pub least : a ≤ℤ pos x
  pub most : pos (suc x) ≤ℤ (a +ℤ pos width)

-- visit v writes byte x: it is a byte of the destination's element
abbrev pub Writes : Nest → List ℕ → ℕ → Type 0
Writes m v x = Byte (width_of m) (place_of m m.destination v) x

-- visit v reads byte x: it is a byte of a source's element
abbrev pub Reads : Nest → List ℕ → ℕ → Type 0
Reads m v x = Byte (width_of m) (place_of m m.first v) x ⊎ Byte (width_of m) (place_of m m.second v) x

-- visit v reads no byte that visit u writes
abbrev pub Apart : Nest → List ℕ → List ℕ → Type 0
Apart m u v = (x : ℕ) → Writes m u x → Reads m v x → ⊥

-- of a list of visits, none reads a byte that an earlier one wrote
abbrev pub NoneRead : Nest → List (List ℕ) → Type 0
NoneRead m vs = (i j : ℕ) → i < j → j < length vs → Apart m (get_or vs i []) (get_or vs j [])

-- the visits of each chunk, chunk by chunk, from stop n on, up to the last: none in that of a pass that holds none
unfoldable pub Chunks : Nest → ℕ → ℕ → List (List (List ℕ)) → Type 0
Chunks m lanes n [] = n ≡ length (nest_stops m)
Chunks m lanes n (vs ∷ gs) =
    (vs ≡ visits_among m (chunk_at m lanes n)) × (1 ≤ length (chunk_at m lanes n)) × Chunks m lanes (n + length (chunk_at m lanes n)) gs

-- the weaker premise: no visit reads a byte that an earlier one of the same chunk wrote
abbrev pub NoneReadInChunk : Nest → ℕ → Type 0
NoneReadInChunk m lanes =
    (gs : List (List (List ℕ))) → Chunks m lanes 0 gs → (g : ℕ) → g < length gs → NoneRead m (get_or gs g [])

-- ---- the promise

-- what translating does: 17 exactly if the room is shorter than the sheet; else the sheet in front, all behind it as it was
pub record Translating (m : Nest) (room : List ℕ) : Type 0 where
  pub short : (as_translated (translated (nest m) (length room)) ≡ refusal 17 0 0 0) ↔ (length room < length (sheet_of m))
  pub kept : length room < length (sheet_of m) → room_after (nest m) room ≡ room
  pub long : (as_translated (translated (nest m) (length room)) ≡ sheet (length (sheet_of m))) ↔ (length (sheet_of m) ≤ length room)
  pub written : length (sheet_of m) ≤ length room → take (length (sheet_of m)) (room_after (nest m) room) ≡ sheet_of m
  pub behind : drop (length (sheet_of m)) (room_after (nest m) room) ≡ drop (length (sheet_of m)) room
  pub same_length : length (room_after (nest m) room) ≡ length room
  -- "its room of 1,024 bytes always suffices"
  pub fits : length (sheet_of m) ≤ 1024

-- the visits are the index vectors within the counts, each once, outermost slowest
pub record Visits (m : Nest) : Type 0 where
  pub within : (k : ℕ) → k < length (visits m) → Within (count_at m) 0 m.loops [] (visit m k)
  pub found : (v : List ℕ) → Within (count_at m) 0 m.loops [] v → (k : ℕ) × (k < length (visits m)) × (visit m k ≡ v)
  pub in_order : (j k : ℕ) → j < k → k < length (visits m) → Before (visit m j) (visit m k)

-- demand 3
pub record Promise3 (m : Nest) (vl : ℕ) (memory : List ℕ) : Type 0 where
  -- the bytes of the nest are translated and run
  pub runs : run_nest vl (nest_bytes m) memory ≡ record { stage = stage.Sheet; progress = run vl (sheet_of m) memory }
  -- premise 1 alone: not refused
  pub done : AllInside m (length memory) → (run vl (sheet_of m) memory).verdict ≡ Ok tt
  -- both: the plain loop's memory
  pub plain : AllInside m (length memory) → NoneRead m (visits m) → (run vl (sheet_of m) memory).world.memory ≡ plain_loop m memory
  -- under the weaker premise too
  pub chunkwise : AllInside m (length memory) → NoneReadInChunk m (vl / width_of m)
      → (run vl (sheet_of m) memory).world.memory ≡ plain_loop m memory

-- ---- of an answer

-- premise 1, of bytes: an accepted nest, allowed lengths, every element of every visit inside
pub record Premise1 (s : List ℕ) (vl len : ℕ) (m : Nest) : Type 0 where
  pub accepted : Accepted m
  pub bytes : s ≡ nest_bytes m
  pub lengths : Fits vl len
  pub inside : AllInside m len

-- demand 3 of the answer r for the bytes s, and of the memory after it
pub record Delivered (s : List ℕ) (vl : ℕ) (memory : List ℕ) (r : NestAnswer) (after : List ℕ) : Type 0 where
  -- premise 1 alone: the sheet was run, and not refused
  pub done : (m : Nest) → Premise1 s vl (length memory) m → (r.stage ≡ stage.Sheet) × (r.answer.verdict ≡ Ok tt)
  -- both: the plain loop's memory
  pub plain : (m : Nest) → Premise1 s vl (length memory) m → NoneRead m (visits m) → after ≡ plain_loop m memory
  -- under the weaker premise too
  pub chunkwise : (m : Nest) → Premise1 s vl (length memory) m → NoneReadInChunk m (vl / width_of m) → after ≡ plain_loop m memory

-- ---- all of it

-- what is promised of nests: which bytes are one, what translating does, the visits, and demand 3
pub record Promised : Type 0 where
  pub nesting : (s : List ℕ) → AreBytes s → Nesting s
  pub translating : (m : Nest) (room : List ℕ) → Accepted m → Translating m room
  pub visiting : (m : Nest) → Visits m
  pub plain : (m : Nest) (vl : ℕ) (memory : List ℕ) → Accepted m → Fits vl (length memory) → Promise3 m vl memory
