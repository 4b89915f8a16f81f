-- The length of an array of structs is that of the list of their values.
use Rattle.std.proofs.Common.{◌≡◌, ℕ, List, map, length, sym, ◌∙◌}
use lib.ListN.{length-map}

pub unmapped : (X Y : Type 0) (f : X → Y) (l : List X) (n : ℕ) → length (map f l) ≡ n → length l ≡ n
unmapped X Y f l n p = sym (length-map l f) ∙ p
