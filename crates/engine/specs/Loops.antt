-- The loops of a stream.
--
--   modifiers_of               the modifiers of a shape
--   reach, owner_index         what a modifier adds at an index of its owner; the index at which its owner stands
--   share, added              what one modifier, and what all of them, add to a parameter of a dimension
--   natural, size_at           the size of a dimension at given outer indices
--   join, span, loops         lists joined; f k, f (k + 1), .. joined; nested loops
--   elements                  the elements of a stream, in order
--
-- Dimensions are counted from 0 here, innermost first: dimension d of these definitions is 01's dimension d + 1.
-- An element is its index vector, innermost index first. The outer indices of dimension d, `outer`, are those of dimensions
-- d + 1, d + 2, .., in that order.
use Rattle.std.specs.Prelude.{ℕ, zero, suc, ◌+◌, ◌-◌, ◌*◌, Bool, true, false, cond, ◌&&◌, List, [], ◌∷◌, ◌++◌, take, ℤ, pos, negsuc, ◌+ℤ◌, neg_ℤ, ◌==◌, slice_index}
use Rattle.codec.specs.declared.operation.Parameter.{Parameter}
use Rattle.codec.specs.declared.operation.Parameter.TheVariants.{Size, Offset, Stride}
use Rattle.codec.specs.declared.operation.Behaviour.{Behaviour}
use Rattle.codec.specs.declared.operation.Behaviour.TheVariants.{Add, Subtract}
use Rattle.engine.specs.declared.stream.Modifier.{Modifier}
use Rattle.engine.specs.declared.stream.Shape.{Shape}

-- the modifiers that were given: the first of the eight
abbrev pub modifiers_of : Shape → List Modifier
modifiers_of s = take s.mods s.modifiers

-- whether two parameters are the same
abbrev pub same_parameter : Parameter → Parameter → Bool
same_parameter Size Size = true
same_parameter Size Offset = false
same_parameter Size Stride = false
same_parameter Offset Size = false
same_parameter Offset Offset = true
same_parameter Offset Stride = false
same_parameter Stride Size = false
same_parameter Stride Offset = false
same_parameter Stride Stride = true

-- an amount added or subtracted
abbrev pub signed : Behaviour → ℕ → ℤ
signed Add n = pos n
signed Subtract n = neg_ℤ (pos n)

-- "plus or minus k x displacement"
abbrev pub reach : Modifier → ℕ → ℤ
reach m k = signed m.behaviour (k * m.displacement)

-- "While the dimension that owns a modifier stands at index k": the owner's index among the outer indices of dimension d
abbrev pub owner_index : Modifier → ℕ → List ℕ → ℕ
owner_index m d outer = slice_index outer (m.owner - suc d)

-- what one modifier adds to a parameter of dimension d: its reach if it targets that parameter there, else nothing
abbrev pub share : Parameter → ℕ → List ℕ → Modifier → ℤ
share q d outer m = cond (same_parameter m.parameter q && m.target == d) (reach m (owner_index m d outer)) (pos 0)

-- "several modifiers add up"
unfoldable pub added : Parameter → ℕ → List ℕ → List Modifier → ℤ
added q d outer [] = pos 0
added q d outer (m ∷ ms) = share q d outer m +ℤ added q d outer ms

-- an integer as a number of iterations: none below 0
abbrev pub natural : ℤ → ℕ
natural (pos n) = n
natural (negsuc n) = 0

-- the size of dimension d: "the configured value plus or minus .." what the modifiers add
unfoldable pub size_at : Shape → ℕ → List ℕ → ℕ
size_at s d outer = natural (pos (slice_index s.sizes d) +ℤ added Size d outer (modifiers_of s))

-- lists joined
unfoldable pub join : {A : Type 0} → List (List A) → List A
join [] = []
join (g ∷ gs) = g ++ join gs

-- f k, f (k + 1), .., n of them, joined
unfoldable pub span : {A : Type 0} → (ℕ → List A) → ℕ → ℕ → List A
span f k zero = []
span f k (suc n) = f k ++ span f (suc k) n

-- "The index counts from 0 in each pass. The loops run with these values, outermost slowest": the loops of n dimensions from d on,
-- inside outer loops that stand at `outer`, at any size function
unfoldable pub loops : (ℕ → List ℕ → ℕ) → ℕ → ℕ → List ℕ → List (List ℕ)
loops size d zero outer = outer ∷ []
loops size d (suc n) outer = span (λ k. loops size d n (k ∷ outer)) 0 (size (d + n) outer)

-- the elements of a stream, in order
unfoldable pub elements : Shape → List (List ℕ)
elements s = loops (size_at s) 0 s.dims []
