-- A calculation on running registers, as its code takes it: the checks, then everything that moves.
--
--   lanes_in                           the lanes that an operand gives as a source
--   Fit                               what holds of a running register
--   Within                            operands that no check refused
--   refusal_in, Cleared               what the checks found
--   Carries                           the calculation carried out
use Rattle.std.specs.Prelude.{◌≡◌, ℕ, ◌*◌, ◌/◌, ◌≤◌, Bool, true, cond, List, length, Result, Ok, Err}
use Rattle.codec.specs.declared.operation.Task.{Task}
use Rattle.codec.specs.declared.refusal.Refusal.{Refusal}
use Rattle.engine.specs.Lanes.{outcome, outcome_count}
use Rattle.engine.specs.Memory.{lanes_from, packed}
use Rattle.engine.specs.Stretches.{all_within, fetched_at, stored_at}
use Rattle.engine.specs.Checks.{Why}
use Rattle.engine.specs.Good.{IsWidth, Good}
use Rattle.engine.specs.Registers.{is_open}
use Rattle.engine.specs.Runnings.{view_of, Remembers, listed_in, filled_with, afterwards}
use Rattle.engine.specs.Operands.{Taken, why_on}
use Rattle.engine.specs.declared.stream.Pattern.{Pattern}
use Rattle.engine.specs.declared.running.Running.{Running}
use Rattle.engine.specs.declared.ahead.Ahead.{Ahead}
use Rattle.engine.specs.declared.part.Part.{Part}
use Rattle.engine.specs.declared.calculate.Operands.{Operands}
use Rattle.engine.specs.declared.calculate.Outcome.{Outcome}

-- the lanes that an operand gives as a source: those in memory, or the register's own
abbrev pub lanes_in : ℕ → List ℕ → Ahead → List Part → List ℕ → List ℕ
lanes_in width memory o xs lanes = cond o.live (fetched_at memory width (listed_in o xs)) (lanes_from lanes width 0 o.count)

-- what holds of a running register: it stands for a good one, and what it remembers is so
pub record Fit (vl : ℕ) (p : Pattern) (row : List ℕ) (q : Running) : Type 0 where
  pub good : (lanes : List ℕ) → length lanes ≡ 64 → Good vl (view_of p lanes row q)
  pub remembers : Remembers p row q

-- operands that no check refused: one width, as many lanes, those of the result in the destination, every element inside
pub record Within (t : Task) (len width : ℕ) (x y z : Ahead) (xs ys zs : List Part) : Type 0 where
  pub wide : IsWidth width
  pub room : x.count * width ≤ 64
  pub counts : y.count ≡ x.count
  pub fits : outcome_count t x.count * width ≤ 64
  pub fills : z.live ≡ true → z.count ≡ outcome_count t x.count
  pub first : x.live ≡ true → all_within len width (listed_in x xs) ≡ true
  pub second : y.live ≡ true → all_within len width (listed_in y ys) ≡ true
  pub third : z.live ≡ true → all_within len width (listed_in z zs) ≡ true
  pub first_long : x.live ≡ true → length (listed_in x xs) ≡ x.count
  pub second_long : y.live ≡ true → length (listed_in y ys) ≡ y.count
  pub third_long : z.live ≡ true → length (listed_in z zs) ≡ z.count
  pub parts : (x.parts ≤ 64) × ((y.parts ≤ 64) × (z.parts ≤ 64))

-- that operands were found, or why not
abbrev pub refusal_in : Result Operands Refusal → Why
refusal_in (Ok _) = Ok tt
refusal_in (Err x) = Err x

-- what the checks found, on first source a, second source b and destination d: why the calculation is refused; if it is not, the three
-- operands, with the rows of indices behind them
pub record Cleared (t : Task) (vl len : ℕ) (same : Bool) (pa pb pd : Pattern) (a b d : Running) (va vb vd va' vb' vd' : List ℕ) (xs ys zs : List Part) (r : Result Operands Refusal) : Type 0 where
  pub refused : (la lb ld memory : List ℕ) → length la ≡ 64 → length lb ≡ 64 → length ld ≡ 64 → length memory ≡ len
      → refusal_in r ≡ why_on t vl memory (view_of pa la va a) (view_of pb lb vb b) (view_of pd ld vd d)
  pub first : (o : Operands) → r ≡ Ok o → Taken pa va a (vl / a.width) a.valid va' xs o.first
  pub second : (o : Operands) → r ≡ Ok o → Taken pb vb b (vl / b.width) b.valid vb' ys o.second
  pub destination : (o : Operands) → r ≡ Ok o → Taken pd vd d (outcome_count t o.first.count) (outcome_count t o.first.count) vd' zs o.destination
  pub widths : (o : Operands) → r ≡ Ok o → (b.width ≡ a.width) × (is_open d.state ≡ true → d.width ≡ a.width)
  pub within : (o : Operands) → r ≡ Ok o → Within t len a.width o.first o.second o.destination xs ys zs
  pub again : (o : Operands) → r ≡ Ok o → same ≡ true → (o.second ≡ o.first) × (listed_in o.second ys ≡ listed_in o.first xs)

-- the lanes of the result
abbrev pub outcome_of : Task → ℕ → List ℕ → Ahead → Ahead → List Part → List Part → List ℕ → List ℕ → List ℕ
outcome_of t width memory x y xs ys la lb = outcome t (8 * width) (lanes_in width memory x xs la) (lanes_in width memory y ys lb)

-- the calculation carried out: the three registers with their lanes, and the memory
pub record Carries (t : Task) (width : ℕ) (memory : List ℕ) (a b d : Running) (x y z : Ahead) (xs ys zs : List Part) (la lb ld : List ℕ) (r : Outcome) (la' lb' ld' memory' : List ℕ) : Type 0 where
  pub read : r.first ≡ cond x.live (filled_with width x.count (afterwards x a)) (afterwards x a)
  pub chunk : la' ≡ cond x.live (packed width (lanes_in width memory x xs la)) la
  pub other : r.second ≡ cond y.live (filled_with width y.count (afterwards y b)) (afterwards y b)
  pub other_chunk : lb' ≡ cond y.live (packed width (lanes_in width memory y ys lb)) lb
  pub written : r.destination ≡ cond z.live (afterwards z d) (filled_with width (outcome_count t x.count) (afterwards z d))
  pub content : ld' ≡ cond z.live ld (packed width (outcome_of t width memory x y xs ys la lb))
  pub stored : memory' ≡ cond z.live (stored_at memory width (listed_in z zs) (outcome_of t width memory x y xs ys la lb)) memory
