-- The walk over the loops: what is still to come where a search stands, and how many steps it may take.
--
--   todo, at, after        what is to come of the dimensions from b on, where dimension d is about to run an index; after a member
--   sum, within, cost, cost_at   the search's falling number
--   Searched               what a search leaves of the indices
--   Element, Stands        an element's index; what a search says of a position
--   Stop, Arrives          the same of stops
--   bare, passes_after, Comes   a pass that holds no element; the passes to come; what a search over stops says of what is to come
--
-- Nothing outside the walk's own contracts is stated in these words: `standing` (WalkLaws) gives them over the elements, `stops-start` and
-- `stops-after` (StopWalk) over the stops.
use Rattle.std.specs.Prelude.{◌≡◌, ℕ, zero, suc, ◌+◌, ◌-◌, ◌<◌, ◌≤◌, Bool, true, false, cond, Option, None, Some, List, [], ◌∷◌, ◌++◌, length, drop, nat_lt, slice_index, slice_index_or}
use Rattle.engine.specs.Loops.{size_at, span, loops, elements}
use Rattle.engine.specs.Chunks.{stops, nothing_at}
use Rattle.engine.specs.Registers.{index_of}
use Rattle.engine.specs.BoundLaws.{Under}
use Rattle.engine.specs.declared.walk.Arrival.{Arrival}
use Rattle.engine.specs.declared.walk.Arrival.TheVariants as arrival
use Rattle.engine.specs.declared.stream.Shape.{Shape}

module _ (size : ℕ → List ℕ → ℕ) (b : ℕ) where
  -- what is still to come of the loops from dimension b on, where dimension d, not below b, is about to run index i and there are m
  -- dimensions outside it to run, which stand at env
  unfoldable pub todo : ℕ → ℕ → ℕ → List ℕ → List (List ℕ)
  todo zero d i env = span (λ k. loops size b (d - b) (k ∷ env)) i (size d env - i)
  todo (suc m) d i env = span (λ k. loops size b (d - b) (k ∷ env)) i (size d env - i) ++ todo m (suc d) (suc (slice_index env 0)) (drop 1 env)

-- f k + f (k + 1) + .., n of them
unfoldable pub sum : (ℕ → ℕ) → ℕ → ℕ → ℕ
sum f k zero = 0
sum f k (suc n) = f k + sum f (suc k) n

module _ (size : ℕ → List ℕ → ℕ) (b : ℕ) where
  -- the turns of one pass of n dimensions from b on, while those outside them stand at env
  unfoldable pub within : ℕ → List ℕ → ℕ
  within zero env = 0
  within (suc n) env = suc (sum (λ k. suc (within n (k ∷ env))) 0 (size (b + n) env))

  -- the turns still to take, where dimension d is about to run index i and there are m dimensions outside it
  unfoldable pub cost : ℕ → ℕ → ℕ → List ℕ → ℕ
  cost zero d i env = suc (sum (λ k. suc (within (d - b) (k ∷ env))) i (size d env - i))
  cost (suc m) d i env = suc (sum (λ k. suc (within (d - b) (k ∷ env))) i (size d env - i)) + cost m (suc d) (suc (slice_index env 0)) (drop 1 env)

module _ (size : ℕ → List ℕ → ℕ) (b n : ℕ) where
  -- what is to come of dimensions b to n - 1, where dimension d of them is about to run the index that v has there
  abbrev pub at : ℕ → List ℕ → List (List ℕ)
  at d v = todo size b (n - suc d) d (slice_index v d) (drop (suc d) v)

  -- what comes after v, the indices from dimension b on
  abbrev pub after : List ℕ → List (List ℕ)
  after v = todo size b (n - suc b) b (suc (slice_index v 0)) (drop 1 v)

  -- the turns still to take there
  abbrev pub cost_at : ℕ → List ℕ → ℕ
  cost_at d v = cost size b (n - suc d) d (slice_index v d) (drop (suc d) v)

-- what a search over dimensions b to n - 1 leaves of the indices: there are seven; those outside stay; none passes 4,096; and if it found a
-- member, that is under the highs
pub record Searched (s : Shape) (b n : ℕ) (from to : List ℕ) (found : Bool) : Type 0 where
  pub long : length to ≡ 7
  pub outside : drop n to ≡ drop n from
  pub small : (k : ℕ) → slice_index to k ≤ 4096
  pub under : found ≡ true → Under s b (drop b to)

-- an index that is an element's, at some position
pub record Element (s : Shape) (index : List ℕ) : Type 0 where
  pub position : ℕ
  pub below : position < length (elements s)
  pub here : index ≡ index_of (slice_index_or (elements s) position [])

-- what a search says of a position: whether there is an element, and which
pub record Stands (s : Shape) (k : ℕ) (found : Bool) (index : List ℕ) : Type 0 where
  pub told : found ≡ nat_lt k (length (elements s))
  pub here : found ≡ true → index ≡ index_of (slice_index_or (elements s) k [])

-- an index that is a stop's, at some position, and whether it is a coupled pass that holds no element
pub record Stop (s : Shape) (index : List ℕ) (empty : Bool) : Type 0 where
  pub position : ℕ
  pub below : position < length (stops s)
  pub here : index ≡ index_of (slice_index_or (stops s) position [])
  pub told : empty ≡ nothing_at s position

-- whether a stop is a coupled pass that holds no element
abbrev pub is_empty : Arrival → Bool
is_empty arrival.Element = false
is_empty arrival.EmptyPass = true

-- whether a walk has come to a coupled pass that holds no element
abbrev pub comes_empty : Option Arrival → Bool
comes_empty None = false
comes_empty (Some at) = is_empty at

-- what a search says of a position: whether there is a stop, which, and whether it is a coupled pass that holds no element
pub record Arrives (s : Shape) (k : ℕ) (found empty : Bool) (index : List ℕ) : Type 0 where
  pub told : found ≡ nat_lt k (length (stops s))
  pub here : found ≡ true → index ≡ index_of (slice_index_or (stops s) k [])
  pub nothing : found ≡ true → empty ≡ nothing_at s k

-- whether there is nothing in a list
abbrev pub is_none : {A : Type 0} → List A → Bool
is_none [] = true
is_none (x ∷ l) = false

-- whether the pass of dimension c, counted from 1, at these outer indices holds no element
abbrev pub bare : (ℕ → List ℕ → ℕ) → ℕ → List ℕ → Bool
bare size c outer = is_none (loops size 0 c outer)

-- the outer indices of the passes of dimension c, counted from 1, of n dimensions that come after the one at these
abbrev pub passes_after : (ℕ → List ℕ → ℕ) → ℕ → ℕ → List ℕ → List (List ℕ)
passes_after size c n outer = cond (nat_lt c n) (after size c n outer) []

-- what a search over the stops of a stream coupled to dimension c says of those to come: whether there is one, and then which is the
-- first and whether its pass holds no element
pub record Comes (s : Shape) (c : ℕ) (l : List (List ℕ)) (found empty : Bool) (index : List ℕ) : Type 0 where
  pub later : List (List ℕ)
  pub list : l ≡ cond found (index ∷ later) []
  pub nothing : found ≡ true → empty ≡ bare (size_at s) c (drop c index)
