-- Laws of the texts that are written: a group more, and the three answers, each with the slice after it.
use Rattle.std.proofs.Common.{◌≡◌, refl, ◌∙◌, ℕ, zero, suc, ◌+◌, ◌/◌, ◌%◌, ◌^◌, ◌<◌, ◌≤◌, Bool, true, false, List, ◌∷◌, length, Some, None, Ok, Err, arith, le-leb}
use Rattle.std.proofs.Math.Nat.{pow-succ'}
use Rattle.std.proofs.Math.Seq.{take_all}
use Rattle.std.proofs.lemmas.Bool.{lt-leb}
use Rattle.std.proofs.lemmas.List.Edits.{sets, sets-eq}
use Rattle.std.proofs.lemmas.Slice.{put_mid-paste}
use borrow.Rule.Slice.PartMut.{put_mid}
use Rattle.codec.specs.Numbers.{groups_of}
use Rattle.codec.specs.NumberLaws.{more-groups}
use Rattle.codec.specs.declared.writing.Unwritten.TheVariants.{NoRoom, OutOfRange}
use Rattle.codec.specs.Writing.{ready, written_to, bytes_after}

-- a number from 128 on has one group more than what is above it
pub another : (k v : ℕ) → 128 ≤ v → v < 128 ^ suc k → (j : ℕ) × (k ≡ suc j) × (v / 128 < 128 ^ suc j) × (groups_of k v ≡ (v % 128 + 128) ∷ groups_of j (v / 128))
another zero v h p = absurd (omega arith)
another (suc j) v h p = (j, refl, omega (arith, pow-succ' 128 (suc j)), more-groups j v h)

module _ (bytes buf : List ℕ) (at : ℕ) where
  -- a field out of range
  pub not_ready : (b : Bool) → None ≡ ready b bytes → (Err OutOfRange ≡ written_to b bytes at (length buf)) × (buf ≡ bytes_after b bytes buf at)
  unfolding written_to bytes_after
  not_ready true e = cc
  not_ready false e = (refl, refl)

  -- no room
  pub no_room : (b : Bool) (text : List ℕ) → Some text ≡ ready b bytes → length buf < at + length text → (Err NoRoom ≡ written_to b bytes at (length buf)) × (buf ≡ bytes_after b bytes buf at)
  unfolding written_to bytes_after
  no_room true text e h = let f : text ≡ bytes = cc in (rw (← f, lt-leb (at + length text) (length buf) h), rw (← f, lt-leb (at + length text) (length buf) h))
  no_room false text e h = cc

  -- room
  pub room : (b : Bool) (text after : List ℕ) (len : ℕ) → Some text ≡ ready b bytes → at + length text ≤ length buf → len ≡ length text → after ≡ sets buf at text → (Ok (at + len) ≡ written_to b bytes at (length buf)) × (after ≡ bytes_after b bytes buf at)
  unfolding written_to bytes_after
  room true text after len e h n p = let f : text ≡ bytes = cc in (rw (← f, n, le-leb (at + length text) (length buf) h), rw (← f, p, le-leb (at + length text) (length buf) h))
  room false text after len e h n p = cc

-- a part of a slice, written
pub part-set : (at k : ℕ) (buf text part : List ℕ) → part ≡ text → k ≡ length text → at + length text ≤ length buf → put_mid at k buf part ≡ sets buf at text
part-set at k buf text part e n h = put_mid-paste at k buf part text k e refl n ∙ rw (n, take_all (length text) text (omega arith), sets-eq text buf at h) refl
