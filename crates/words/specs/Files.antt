-- How reading a file stops, and what it leaves at the start of a buffer.
--   IsPrefixLen n s == the first n bytes of s are within it, and are n bytes
--   is_ended s  == at the end of the file
--   is_failed s == in a read that failed
--   is_full s   == with the buffer full
use Rattle.std.specs.Prelude.{◌≡◌, ℕ, ◌≤◌, Bool, true, false, List, length, take}
use Rattle.words.specs.declared.file.Stop.{Stop}
use Rattle.words.specs.declared.file.Stop.TheVariants.{Ended, Failed, Full}

-- the first n bytes are within a buffer, and are n bytes
abbrev pub IsPrefixLen : ℕ → List ℕ → Type 0
IsPrefixLen n s = (n ≤ length s) × (n ≡ length (take n s))

-- reading stopped at the end of the file
abbrev pub is_ended : Stop → Bool
is_ended Ended = true
is_ended Failed = false
is_ended Full = false

-- reading stopped in a read that failed
abbrev pub is_failed : Stop → Bool
is_failed Ended = false
is_failed Failed = true
is_failed Full = false

-- reading stopped with the buffer full
abbrev pub is_full : Stop → Bool
is_full Ended = false
is_full Failed = false
is_full Full = true
