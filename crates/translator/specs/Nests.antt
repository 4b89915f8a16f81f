-- What a nest means: its visits, and the plain loop over them. Nothing of sheets or descriptors stands here.
--
--   terms_at, count_at, visits     the count of a loop at given outer indices; the visits, by the loops of streams
--   width_of, place_up_to, place_of  the width; where an element of an access lies
--   value_of, visited, plain_over, plain_loop   destination = operation of both sources, visit by visit
--   coupling_of                   the coupled loop
--   nest_stops, nest_groups, chunk_at, visits_among   where a nest stops; what no chunk crosses; the next chunk, and the visits in it
--
-- Loops are counted from 0 here, innermost first. A visit is its index vector, innermost index first. The outer indices of loop t,
-- `outer`, are those of loops t + 1, t + 2, .., in that order.
use Rattle.std.specs.Prelude.{ℕ, zero, suc, ◌*◌, List, [], ◌∷◌, get_or, ℤ, pos, ◌+ℤ◌, ◌*ℤ◌, Option, Some, None}
use Rattle.std.proofs.lemmas.List.Edits.{sets}
use Rattle.codec.specs.Headers.{bytes_of}
use Rattle.engine.specs.Loops.{natural, loops}
use Rattle.engine.specs.Chunks.{stops_in, elements_among, groups, chunk_of}
use Rattle.engine.specs.Addresses.{no_elements, in_bytes}
use Rattle.engine.specs.Memory.{value_at, little_endian}
use Rattle.engine.specs.Lanes.{lane}
use Rattle.translator.specs.Fields.{term_of}
use Rattle.translator.specs.declared.nest.Access.{Access}
use Rattle.translator.specs.declared.nest.Nest.{Nest}

-- ---- visits

-- "each term times that outer index": of loop t, for the loops from o on, which stand at `outer`
unfoldable pub terms_at : Nest → ℕ → ℕ → List ℕ → ℤ
terms_at m t o [] = pos 0
terms_at m t o (k ∷ outer) = term_of m t o *ℤ pos k +ℤ terms_at m t (suc o) outer

-- "A loop's count is its number plus each term times that outer index"
unfoldable pub count_at : Nest → ℕ → List ℕ → ℕ
count_at m t outer = natural (pos (get_or m.counts t 0) +ℤ terms_at m t (suc t) outer)

-- the visits of a nest, outermost loop slowest
unfoldable pub visits : Nest → List (List ℕ)
visits m = loops (count_at m) 0 m.loops []

-- ---- places

-- the element width of a nest, in bytes
abbrev pub width_of : Nest → ℕ
width_of m = bytes_of m.width

-- "each a base (bytes) and D signed strides (elements)": the base, and stride x index x width of the first d loops, at visit v
unfoldable pub place_up_to : Nest → Access → List ℕ → ℕ → ℤ
place_up_to m a v zero = a.base.0
place_up_to m a v (suc d) = place_up_to m a v d +ℤ in_bytes (get_or a.strides d no_elements).0 (get_or v d 0) (width_of m)

-- where the element of an access lies at visit v
abbrev pub place_of : Nest → Access → List ℕ → ℤ
place_of m a v = place_up_to m a v m.loops

-- ---- the plain loop

-- the value of a source at visit v, in a memory
abbrev pub value_of : Nest → Access → List ℕ → List ℕ → ℕ
value_of m a memory v = value_at memory (natural (place_of m a v)) (width_of m)

-- "Destination = operation of both sources at each visit": memory after one visit
abbrev pub visited : Nest → List ℕ → List ℕ → List ℕ
visited m memory v =
    sets memory (natural (place_of m m.destination v))
    (little_endian (width_of m) (lane m.action (8 * width_of m) (value_of m m.first memory v) (value_of m m.second memory v)))

-- memory after a list of visits, one behind the other
unfoldable pub plain_over : Nest → List ℕ → List (List ℕ) → List ℕ
plain_over m memory [] = memory
plain_over m memory (v ∷ vs) = plain_over m (visited m memory v) vs

-- memory after the plain loop: after all visits of a nest
abbrev pub plain_loop : Nest → List ℕ → List ℕ
plain_loop m memory = plain_over m memory (visits m)

-- ---- chunks

-- "coupled loop 0 to D (0 none)"
abbrev pub coupling_of : ℕ → Option ℕ
coupling_of zero = None
coupling_of (suc c) = Some (suc c)

-- where a nest stops: at each visit, and (02, 3/14) once in each pass of the coupled loop that holds none
abbrev pub nest_stops : Nest → List (List ℕ)
nest_stops m = stops_in (count_at m) m.loops (coupling_of m.coupled)

-- these stops in groups that no chunk crosses: all in one, or by the passes of the coupled loop
abbrev pub nest_groups : Nest → List (List (List ℕ))
nest_groups m = groups (count_at m) m.loops (coupling_of m.coupled)

-- the stops of the next chunk at so many lanes, after n stops: as many as there are lanes, fewer at the end of the group
abbrev pub chunk_at : Nest → ℕ → ℕ → List (List ℕ)
chunk_at m lanes n = chunk_of (nest_groups m) lanes n

-- the visits among stops: those at which every loop stands below its count
abbrev pub visits_among : Nest → List (List ℕ) → List (List ℕ)
visits_among m vs = elements_among (count_at m) vs
