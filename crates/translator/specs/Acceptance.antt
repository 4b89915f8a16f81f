-- Which nests are accepted, in plain terms: numbers and ≤, over the nest's own numbers. Which bytes are a nest, and which refusals the
-- others get.
--
--   AccessInRange, InRange, Tidy   a nest's numbers in their ranges; 0 in the places that no loop uses
--   LowHighKept, Accepted          the rule of 8; an accepted nest
--   Stand, Fault, AtFault          numbers that stand in the bytes; the first number at fault
--   Breaks, Refuses                a rule broken; the refusals of bytes as a nest, by 01's numbers
--   Nesting                        nest_at gives these and nothing else
use Rattle.std.specs.Prelude.{ℕ, ◌≤◌, ◌<◌, ◌≡◌, ◌⊎◌, ◌↔◌, List, [], ◌∷◌, length, get_or, pos, nat_abs, ◌≤ℤ◌}
use Rattle.codec.specs.NumberLaws.{Stands}
use Rattle.codec.specs.Refusals.{number_of}
use Rattle.codec.specs.Operations.{action_code}
use Rattle.codec.specs.declared.refusal.Refusal.{Refusal}
use Rattle.engine.specs.Addresses.{no_elements}
use Rattle.engine.specs.Rules.{product}
use Rattle.engine.specs.Promise1.{NumberAt, NoNumberAt}
use Rattle.translator.specs.Fields.{Field, head_fields, rest_fields, Range, range_of, Holds, term_of, no_nest, put}
use Rattle.translator.specs.NestRules.{nonzero_of, highs_of, high_of, less_of}
use Rattle.translator.specs.Reading.{nest, refused, nest_at, nest_bytes}
use Rattle.translator.specs.declared.nest.Access.{Access}
use Rattle.translator.specs.declared.nest.Nest.{Nest}

-- ---- which nests

-- an access of D loops: "a base (bytes) and D signed strides (elements)", in the ranges of "Numbers"
pub record AccessInRange (D : ℕ) (a : Access) : Type 0 where
  pub base-least : pos 0 ≤ℤ a.base.0
  pub base-most : a.base.0 ≤ℤ pos 1048576
  pub strides : (d : ℕ) → d < D → nat_abs (get_or a.strides d no_elements).0 ≤ 1048576

-- every number of a nest is in its range; a width has a code from 0 to 3 as it is
pub record InRange (m : Nest) : Type 0 where
  pub loops-least : 1 ≤ m.loops
  pub loops-most : m.loops ≤ 7
  pub coupled : m.coupled ≤ m.loops
  pub operation : 1 ≤ action_code m.action
  pub counts : (t : ℕ) → t < m.loops → get_or m.counts t 0 ≤ 4096
  pub terms : (t o : ℕ) → t < o → o < m.loops → nat_abs (term_of m t o) ≤ 1048576
  pub first : AccessInRange m.loops m.first
  pub second : AccessInRange m.loops m.second
  pub destination : AccessInRange m.loops m.destination

-- the places that no loop uses hold 0: a record of a nest's numbers, and of nothing else
pub record Tidy (m : Nest) : Type 0 where
  pub counts-long : length m.counts ≡ 7
  pub counts : (t : ℕ) → m.loops ≤ t → get_or m.counts t 0 ≡ 0
  pub terms-long : length m.terms ≡ 49
  pub terms : (t o : ℕ) → t < 7 → o < 7 → (o ≤ t) ⊎ (m.loops ≤ o) → term_of m t o ≡ pos 0
  pub first-long : length m.first.strides ≡ 7
  pub first : (d : ℕ) → m.loops ≤ d → get_or m.first.strides d no_elements ≡ no_elements
  pub second-long : length m.second.strides ≡ 7
  pub second : (d : ℕ) → m.loops ≤ d → get_or m.second.strides d no_elements ≡ no_elements
  pub destination-long : length m.destination.strides ≡ 7
  pub destination : (d : ℕ) → m.loops ≤ d → get_or m.destination.strides d no_elements ≡ no_elements

-- 8: no low below 0, no high above 4,096
pub record LowHighKept (m : Nest) : Type 0 where
  pub low : (t : ℕ) → t < m.loops → less_of m t ≤ get_or m.counts t 0
  pub high : (t : ℕ) → t < m.loops → high_of m t ≤ 4096

-- an accepted nest: numbers in their ranges, at most eight nonzero terms, low and high, and a product of at most 1,048,576
pub record Accepted (m : Nest) : Type 0 where
  pub range : InRange m
  pub tidy : Tidy m
  pub few : nonzero_of m ≤ 8
  pub low-high : LowHighKept m
  pub small : product (highs_of m) ≤ 1048576

-- ---- which bytes

-- numbers of these fields stand one behind the other, each in its range; put into m they give n
unfoldable pub Stand : List ℕ → List Field → ℕ → Nest → ℕ → Nest → Type 0
Stand s [] at m to n = (at ≡ to) × (m ≡ n)
Stand s (f ∷ fs) at m to n =
    (v : ℕ) × (next : ℕ) × NumberAt s at v next × Holds (range_of m.loops f) v × Stand s fs next (put f v m) to n

-- "1 and 2 number by number .., the place being the first byte of the number": the fault is in this number or in a later one
pub data Fault (s : List ℕ) (x : Refusal) (at place : ℕ) (r : Range) (Later : ℕ → ℕ → Type 0) : Type 0 where
  unread : number_of x ≡ 1 → at ≡ place → NoNumberAt s place → Fault s x at place r Later
  beyond : (v to : ℕ) → number_of x ≡ 2 → at ≡ place → NumberAt s place v to → ¬ Holds r v → Fault s x at place r Later
  later : (v to : ℕ) → NumberAt s place v to → Holds r v → Later v to → Fault s x at place r Later

-- of the numbers of these fields from a place on, the first at fault is refused with x, its place being `at`
unfoldable pub AtFault : List ℕ → Refusal → ℕ → List Field → ℕ → Nest → Type 0
AtFault s x at [] place m = ⊥
AtFault s x at (f ∷ fs) place m = Fault s x at place (range_of m.loops f) (λ v to. AtFault s x at fs to (put f v m))

-- "then 6, 8, 9"
pub data Breaks (m : Nest) (x : Refusal) : Type 0 where
  many : number_of x ≡ 6 → 8 < nonzero_of m → Breaks m x
  low-high : number_of x ≡ 8 → nonzero_of m ≤ 8 → ¬ LowHighKept m → Breaks m x
  large : number_of x ≡ 9 → nonzero_of m ≤ 8 → LowHighKept m → 1048576 < product (highs_of m) → Breaks m x

-- the refusals of bytes as a nest: a number at fault, among the first four or behind them; a byte too many; a rule
pub data Refuses (s : List ℕ) (x : Refusal) (at : ℕ) : Type 0 where
  head : AtFault s x at head_fields 0 no_nest → Refuses s x at
  rest : (m : Nest) (to : ℕ) → Stand s head_fields 0 no_nest to m → AtFault s x at (rest_fields m.loops) to m → Refuses s x at
  trailing : (m : Nest) → InRange m → Tidy m → Stands s 0 (nest_bytes m) at → at < length s → number_of x ≡ 2 → Refuses s x at
  rule : (m : Nest) → InRange m → Tidy m → s ≡ nest_bytes m → Breaks m x → at ≡ 0 → Refuses s x at

-- ---- nothing else

-- which bytes are a nest, and which refusals the others get
pub record Nesting (s : List ℕ) : Type 0 where
  pub is-nest : (m : Nest) → (nest_at s ≡ nest m) ↔ (Accepted m × (s ≡ nest_bytes m))
  pub is-refused : (x : Refusal) (at : ℕ) → (nest_at s ≡ refused x at) ↔ Refuses s x at
