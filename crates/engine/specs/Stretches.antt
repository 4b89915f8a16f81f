-- What is done at a list of addresses.
--
--   progression                          addresses a step apart
--   addresses_in, joined_in              the addresses of a part of a chunk, of all its parts
--   addresses_of                          the addresses of elements
--   all_within, lane_without, checked_at    every address lies inside memory; the first lane whose address does not; one or the other
--   fetched_at, stored_at                  the values there; memory after lanes were written there
--   within-elements, lane-elements, fetched-elements, stored-elements   at the addresses of elements: what a calculation says of the elements
use Rattle.std.specs.Prelude.{◌≡◌, ℕ, zero, suc, Bool, true, cond, ◌&&◌, List, [], ◌∷◌, ◌++◌, map, ℤ, ◌+ℤ◌, refl, Option, Some, None}
use Rattle.std.proofs.Common.{ap}
use Rattle.std.proofs.lemmas.List.Edits.{sets}
use Rattle.engine.specs.Loops.{natural}
use Rattle.engine.specs.Addresses.{address, inside}
use Rattle.engine.specs.Memory.{value_at, little_endian, spot, fetch, stored}
use Rattle.engine.specs.Calculate.{all_inside, lane_outside}
use Rattle.engine.specs.declared.part.Part.{Part}
use Rattle.engine.specs.declared.stream.Pattern.{Pattern}

-- n addresses from a on, a step apart
unfoldable pub progression : ℤ → ℤ → ℕ → List ℤ
progression a step zero = []
progression a step (suc n) = a ∷ progression (a +ℤ step) step n

-- the addresses of a part of a chunk, elements of one row
abbrev pub addresses_in : Part → List ℤ
addresses_in part = progression part.start.0 part.step.0 part.count

-- the addresses of parts, one part after the other
unfoldable pub joined_in : List Part → List ℤ
joined_in [] = []
joined_in (part ∷ rest) = addresses_in part ++ joined_in rest

-- the addresses of elements, in their order
abbrev pub addresses_of : Pattern → ℕ → List (List ℕ) → List ℤ
addresses_of p width = map (address p width)

-- every address lies inside memory
unfoldable pub all_within : ℕ → ℕ → List ℤ → Bool
all_within length width [] = true
all_within length width (a ∷ rest) = inside length width a && all_within length width rest

-- how many addresses stand before the first that lies outside memory
unfoldable pub lane_without : ℕ → ℕ → List ℤ → ℕ
lane_without length width [] = 0
lane_without length width (a ∷ rest) = cond (inside length width a) (suc (lane_without length width rest)) 0

-- the address check: every address lies inside memory, or the first lane whose address does not
abbrev pub checked_at : ℕ → ℕ → List ℤ → Option ℕ
checked_at length width l = cond (all_within length width l) None (Some (lane_without length width l))

-- the values at addresses
abbrev pub fetched_at : List ℕ → ℕ → List ℤ → List ℕ
fetched_at memory width addresses = map (λ a. value_at memory (natural a) width) addresses

-- memory after lanes were written to addresses, one after the other
unfoldable pub stored_at : List ℕ → ℕ → List ℤ → List ℕ → List ℕ
stored_at memory width [] xs = memory
stored_at memory width (a ∷ rest) [] = memory
stored_at memory width (a ∷ rest) (x ∷ xs) = stored_at (sets memory (natural a) (little_endian width x)) width rest xs

-- the addresses of elements lie inside memory exactly if the elements do
pub within-elements : (length width : ℕ) (p : Pattern) (vs : List (List ℕ)) → all_within length width (addresses_of p width vs) ≡ all_inside p width length vs
unfolding all_within all_inside
within-elements length width p [] = refl
within-elements length width p (v ∷ vs) = ap (λ t. inside length width (address p width v) && t) (within-elements length width p vs)

-- the first of them outside is the first element outside
pub lane-elements : (length width : ℕ) (p : Pattern) (vs : List (List ℕ)) → lane_without length width (addresses_of p width vs) ≡ lane_outside p width length vs
unfolding lane_without lane_outside
lane-elements length width p [] = refl
lane-elements length width p (v ∷ vs) = ap (λ n. cond (inside length width (address p width v)) (suc n) 0) (lane-elements length width p vs)

-- the values at the addresses of elements are the elements' values
pub fetched-elements : (memory : List ℕ) (width : ℕ) (p : Pattern) (vs : List (List ℕ)) → fetched_at memory width (addresses_of p width vs) ≡ map (fetch p width memory) vs
fetched-elements memory width p [] = refl
fetched-elements memory width p (v ∷ vs) = ap (λ l. fetch p width memory v ∷ l) (fetched-elements memory width p vs)

-- lanes written to the addresses of elements are written to the elements
pub stored-elements : (memory : List ℕ) (width : ℕ) (p : Pattern) (vs : List (List ℕ)) (xs : List ℕ) → stored_at memory width (addresses_of p width vs) xs ≡ stored p width memory vs xs
unfolding stored_at stored
stored-elements memory width p [] xs = refl
stored-elements memory width p (v ∷ vs) [] = refl
stored-elements memory width p (v ∷ vs) (x ∷ xs) = stored-elements (sets memory (spot p width v) (little_endian width x)) width p vs xs
