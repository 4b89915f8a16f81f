-- Passes, chunks and flags.
--
--   passes                    the passes of a dimension
--   or_one, pass_stops, stops_in, stops   where a stream stops: at each element, and once in a coupled pass that has none
--   is_element, elements_among, held_in, nothing_at   which stops are elements
--   with_elements, grouped, groups, stream_groups   what no chunk crosses
--   left_after, next_group      what is left of the groups after some stops
--   chunk                     the next chunk
--   differ, height, flag      the end flags
use Rattle.std.specs.Prelude.{ℕ, zero, suc, ◌-◌, Bool, true, cond, not, ◌&&◌, List, [], ◌∷◌, ◌++◌, map, length, take, drop, replicate, ◌==◌, nat_le, nat_lt, slice_index_or, Option, Some, None}
use Rattle.engine.specs.Loops.{size_at, join, loops}
use Rattle.engine.specs.declared.stream.Shape.{Shape}

-- the passes of dimension c (counted from 1) of D dimensions, in order: for each index vector of the dimensions above it, the loops
-- of the first c dimensions
unfoldable pub passes : (ℕ → List ℕ → ℕ) → ℕ → ℕ → List (List (List ℕ))
passes size c D = map (loops size 0 c) (loops size c (D - c) [])

-- a list, or x alone if it is empty
abbrev pub or_one : {A : Type 0} → A → List A → List A
or_one x [] = x ∷ []
or_one x (y ∷ l) = y ∷ l

-- 02, 3/14: "A pass of the coupled dimension that the outer loops reach and that holds no element must give one chunk with no valid
-- lanes": where a stream stops in the pass of dimension c at these outer indices: at its elements; if it has none, once, the indices of
-- the pass being 0
unfoldable pub pass_stops : (ℕ → List ℕ → ℕ) → ℕ → List ℕ → List (List ℕ)
pass_stops size c outer = or_one (replicate c 0 ++ outer) (loops size 0 c outer)

-- where the loops of D dimensions stop, in order: uncoupled, at the elements; coupled, pass by pass
unfoldable pub stops_in : (ℕ → List ℕ → ℕ) → ℕ → Option ℕ → List (List ℕ)
stops_in size D None = loops size 0 D []
stops_in size D (Some c) = join (map (pass_stops size c) (loops size c (D - c) []))

-- the stops of a stream, in order
abbrev pub stops : Shape → List (List ℕ)
stops s = stops_in (size_at s) s.dims s.coupling

-- whether a stop is an element: each index, from dimension d on, is below its size; "a size of 0 gives no element"
unfoldable pub is_element : (ℕ → List ℕ → ℕ) → ℕ → List ℕ → Bool
is_element size d [] = true
is_element size d (i ∷ outer) = nat_lt i (size d outer) && is_element size (suc d) outer

-- the elements among stops
unfoldable pub elements_among : (ℕ → List ℕ → ℕ) → List (List ℕ) → List (List ℕ)
elements_among size [] = []
elements_among size (v ∷ vs) = cond (is_element size 0 v) (v ∷ elements_among size vs) (elements_among size vs)

-- those among stops of a stream
abbrev pub held_in : Shape → List (List ℕ) → List (List ℕ)
held_in s vs = elements_among (size_at s) vs

-- whether a stream stands, after n stops, at a coupled pass that holds no element
unfoldable pub nothing_at : Shape → ℕ → Bool
nothing_at s n = not (is_element (size_at s) 0 (slice_index_or (stops s) n []))

-- the lists that are not empty. Of groups: an uncoupled stream without elements has none; in a coupled pass there is always a stop
unfoldable pub with_elements : {A : Type 0} → List (List A) → List (List A)
with_elements [] = []
with_elements ([] ∷ gs) = with_elements gs
with_elements ((x ∷ g) ∷ gs) = (x ∷ g) ∷ with_elements gs

-- the stops in groups that no chunk crosses: all in one, or "if coupled" by the passes of that dimension
abbrev pub grouped : (ℕ → List ℕ → ℕ) → ℕ → Option ℕ → List (List (List ℕ))
grouped size D None = loops size 0 D [] ∷ []
grouped size D (Some c) = map (pass_stops size c) (loops size c (D - c) [])

-- the groups that have a stop
unfoldable pub groups : (ℕ → List ℕ → ℕ) → ℕ → Option ℕ → List (List (List ℕ))
groups size D coupling = with_elements (grouped size D coupling)

-- what is left of groups after n stops
unfoldable pub left_after : {A : Type 0} → ℕ → List (List A) → List (List A)
left_after n [] = []
left_after n (g ∷ gs) = cond (nat_lt n (length g)) (drop n g ∷ gs) (left_after (n - length g) gs)

-- the stops of the first group; none if there is no group
abbrev pub next_group : {A : Type 0} → List (List A) → List A
next_group [] = []
next_group (g ∷ gs) = g

-- the next chunk of groups after n stops: "the next elements of the loop, as many as there are lanes, fewer at the end of the
-- stream or, if coupled, at the end of the current pass of that dimension"
unfoldable pub chunk_of : {A : Type 0} → List (List A) → ℕ → ℕ → List A
chunk_of gs lanes n = take lanes (next_group (left_after n gs))

-- the groups of a stream's stops, by its coupling
abbrev pub stream_groups : Shape → List (List (List ℕ))
stream_groups s = groups (size_at s) s.dims s.coupling

-- the stops of a stream's next chunk at so many lanes, after n stops
abbrev pub chunk : Shape → ℕ → ℕ → List (List ℕ)
chunk s lanes n = chunk_of (stream_groups s) lanes n

-- the highest dimension in which two stops differ, from n, 1 or 0, that of their first indices, and that of the others, counted from
-- these: one more than that of the others if they differ, else n
abbrev pub or_above : ℕ → ℕ → ℕ
or_above n zero = n
or_above n (suc h) = suc (suc h)

-- the highest dimension, counted from 1, in which two stops differ; 0 if in none
unfoldable pub differ : List ℕ → List ℕ → ℕ
differ [] v = 0
differ (i ∷ u) [] = 0
differ (i ∷ u) (j ∷ v) = or_above (cond (i == j) 0 1) (differ u v)

-- "the flag of dimension i is set exactly if the last element moved is the last of its pass of dimension i: the next element, if any,
-- differs in an index above i": flag i is i < height, dimension i counted from 1. After n stops the height is the highest dimension in
-- which the last stop gone past and the next one differ; above all dimensions if there is no next one ("A finished stream has all its
-- flags set"); 0 before any ("the flags of an open stream are clear"). At the end of a coupled pass the next stop is in the next such
-- pass, whether it has elements or not (02, 3/14: "no later coupled pass lies in the same pass of that dimension": `pass-flags` of PassFlags)
unfoldable pub height : Shape → ℕ → ℕ
height s n =
    cond (nat_le (length (stops s)) n) (suc s.dims)
    (cond (n == 0) 0 (differ (slice_index_or (stops s) (n - 1) []) (slice_index_or (stops s) n [])))

-- whether the flag of dimension i is set, where the height is h
abbrev pub flag : ℕ → ℕ → Bool
flag h i = nat_lt i h
