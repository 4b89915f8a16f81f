-- Bytes copied to the front of a list, one by one.
use Rattle.std.proofs.Common.{◌≡◌, ℕ, ◌+◌, ◌≤◌, ◌<◌, List, length, get_or, set, take, drop, length-take, length-take-le, get_or-take, add-one, arith}
use Rattle.std.proofs.lemmas.List.Edits.{sets}
use lib.ListN.{drop_of_length-le}
use lib.Seq.{drop-cons}

-- one byte
pub copied : (room bytes : List ℕ) (k len : ℕ) → k < len → len ≤ length bytes
    → sets room k (drop k (take len bytes)) ≡ sets (set room k (get_or bytes k 0)) (k + 1) (drop (k + 1) (take len bytes))
copied room bytes k len h p =
    let q : k < length (take len bytes) = rw (length-take-le len bytes p) h in
    rw (add-one k, drop-cons (take len bytes) k 0 q, get_or-take len bytes k 0 h)

-- every byte
pub copied_all : (room bytes : List ℕ) (k len : ℕ) → len ≤ k → sets room k (drop k (take len bytes)) ≡ room
copied_all room bytes k len h = rw (drop_of_length-le (take len bytes) {i = k} (rw length-take (omega arith)))
