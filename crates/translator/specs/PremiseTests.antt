-- Promise 3's premises of a nest that is given: as tests that compute, or by bounds that need no visit listed.
--
--   every, every_pair        a test of each of a list; of each and every later one
--   lies, clear             an element inside memory; two elements that share no byte
--   inside_test, apart_test, premises_test    the premises as tests, over the visits
--   Parted                  both sources below a byte, the destination from there on
--   Premises, Ready         both premises; bytes that are a nest for which they hold
--   RunsPlain               what its runs answer and leave
use Rattle.std.specs.Prelude.{ℕ, ◌≡◌, List, [], ◌∷◌, Bool, true, ◌&&◌, ◌||◌, length, ℤ, pos, ◌+ℤ◌, ◌≤ℤ◌, Ok}
use Rattle.std.specs.Int.Signed.{le_z}
use Rattle.codec.specs.NumberLaws.{AreBytes}
use Rattle.engine.specs.Allowed.{Fits, Lies}
use Rattle.translator.specs.Nests.{visits, width_of, place_of, plain_loop}
use Rattle.translator.specs.Reading.{nest, nest_at, nest_bytes}
use Rattle.translator.specs.Translation.{run_nest}
use Rattle.translator.specs.Acceptance.{Accepted}
use Rattle.translator.specs.Promise3.{AllInside, NoneRead}
use Rattle.translator.specs.declared.nest.Nest.{Nest}

-- ---- tests

-- a test holds of every member of a list
unfoldable pub every : {A : Type 0} → (A → Bool) → List A → Bool
every p [] = true
every p (x ∷ l) = p x && every p l

-- a test holds of every two members of a list, the earlier first
unfoldable pub every_pair : {A : Type 0} → (A → A → Bool) → List A → Bool
every_pair p [] = true
every_pair p (x ∷ l) = every (p x) l && every_pair p l

-- an element of this width lies inside a memory of len bytes
abbrev pub lies : ℕ → ℕ → ℤ → Bool
lies len width a = le_z (pos 0) a && le_z (a +ℤ pos width) (pos len)

-- two elements of this width share no byte
abbrev pub clear : ℕ → ℤ → ℤ → Bool
clear width a b = le_z (a +ℤ pos width) b || le_z (b +ℤ pos width) a

-- the elements of visit v lie inside a memory of len bytes
abbrev pub inside_test : Nest → ℕ → List ℕ → Bool
inside_test m len v =
    lies len (width_of m) (place_of m m.first v)
    && lies len (width_of m) (place_of m m.second v)
    && lies len (width_of m) (place_of m m.destination v)

-- visit v reads no byte that visit u writes
abbrev pub apart_test : Nest → List ℕ → List ℕ → Bool
apart_test m u v =
    clear (width_of m) (place_of m m.destination u) (place_of m m.first v)
    && clear (width_of m) (place_of m m.destination u) (place_of m m.second v)

-- both premises of a nest, in a memory of len bytes
abbrev pub premises_test : Nest → ℕ → Bool
premises_test m len = every (inside_test m len) (visits m) && every_pair (apart_test m) (visits m)

-- ---- bounds

-- at a visit, both sources lie inside the first `low` bytes, and the destination behind these, inside len bytes
pub record Parted (m : Nest) (low len : ℕ) (v : List ℕ) : Type 0 where
  pub first : Lies low (width_of m) (place_of m m.first v)
  pub second : Lies low (width_of m) (place_of m m.second v)
  pub least : pos low ≤ℤ place_of m m.destination v
  pub most : (place_of m m.destination v +ℤ pos (width_of m)) ≤ℤ pos len

-- ---- what they show

-- both premises of promise 3 hold of a nest, in a memory of len bytes
pub record Premises (m : Nest) (len : ℕ) : Type 0 where
  pub inside : AllInside m len
  pub apart : NoneRead m (visits m)

-- bytes that are a nest of which both premises hold
pub record Ready (s : List ℕ) (m : Nest) (len : ℕ) : Type 0 where
  pub bytes : AreBytes s
  pub read : nest_at s ≡ nest m
  pub premises : Premises m len

-- bytes of an accepted nest: at every allowed vector length, on every memory of len bytes, its run is done and leaves the plain loop's
-- memory
pub record RunsPlain (s : List ℕ) (m : Nest) (len : ℕ) : Type 0 where
  pub accepted : Accepted m
  pub bytes : s ≡ nest_bytes m
  pub done : (vl : ℕ) (memory : List ℕ) → length memory ≡ len → Fits vl len → (run_nest vl s memory).progress.verdict ≡ Ok tt
  pub plain : (vl : ℕ) (memory : List ℕ) → length memory ≡ len → Fits vl len → (run_nest vl s memory).progress.world.memory ≡ plain_loop m memory
