-- A store stream that stands at a coupled pass without elements (02, 3/14): "moves past it when 0 lanes are written, and refuses more".
--
--   target_of, lanes_given           the destination; the lanes of the first source
--   EmptyTakes, empty-takes-none   a completed calculation wrote no lane there, and went past that one stop
--   empty-refuses                  one that would write a lane is not completed
--   empty-lane-counts              it is refused with 13, if nothing before that refuses it
use Rattle.std.specs.Prelude.{◌≡◌, ℕ, ◌+◌, ◌<◌, ◌≤◌, true, List, [], ◌∷◌, length, take, drop, refl, Err}
use Rattle.std.proofs.Common.{sym, ◌∙◌, ap, arith}
use Rattle.codec.specs.TestLaws.{never}
use Rattle.codec.specs.declared.header.Kind.TheVariants.{Store}
use Rattle.codec.specs.declared.operation.Calculation.{Calculation}
use Rattle.codec.specs.declared.refusal.Refusal.{Refusal}
use Rattle.codec.specs.declared.refusal.Refusal.TheVariants.{LaneCounts}
use Rattle.engine.specs.Chunks.{stops, held_in, nothing_at}
use Rattle.engine.specs.Memory.{stored}
use Rattle.engine.specs.Lanes.{outcome_count}
use Rattle.engine.specs.Registers.{is_configuring, is_open, is_finished, shape_of, next_chunk, moved_to, reg}
use Rattle.engine.specs.Calculate.{World, given, refusal_of}
use Rattle.engine.specs.Allowed.{Source, Calculates}
use Rattle.engine.specs.Good.{AllGood}
use Rattle.engine.specs.ComeLaws.{Next, next-is}
use Rattle.engine.specs.CalculationLaws.{Named}
use Rattle.engine.specs.Reasons.{Wanted, AsSource}
use Rattle.engine.specs.ReasonLaws.{calculation-refused}
use Rattle.engine.specs.AfterLaws.{not-both}
use Rattle.engine.specs.Histories.{Becomes, Stores, Did}
use Rattle.engine.specs.declared.stream.Pattern.{Pattern}
use Rattle.engine.specs.declared.register.State.TheVariants.{Open}
use Rattle.engine.specs.declared.register.Register.{Register}

-- no lanes change no memory
stored-none : (p : Pattern) (width : ℕ) (memory : List ℕ) (vs : List (List ℕ)) → stored p width memory vs [] ≡ memory
unfolding stored
stored-none p width memory [] = refl
stored-none p width memory (v ∷ vs) = refl

-- what is wanted of a source, of one
as_source : {Later : Type 0} (r : Register) (x : Refusal) → Source r → Later → AsSource r x Later
as_source r x (Source.plain p) l =
    Wanted.later (λ e. never (sym (ap is_configuring p) ∙ ap is_configuring e))
    (Wanted.later (λ e. never (sym (ap is_finished p) ∙ ap is_finished e)) (Wanted.later (λ o. not-both r p o) l))
as_source r x (Source.load p k) l =
    Wanted.later (λ e. never (sym (ap is_configuring p) ∙ ap is_configuring e))
    (Wanted.later (λ e. never (sym (ap is_finished p) ∙ ap is_finished e)) (Wanted.later (λ o. k) l))

-- the register that a calculation names as destination, in a world
abbrev pub target_of : Calculation → World → Register
target_of c w = reg w.machine c.destination

-- how many lanes its first source has; the second is wanted to have as many
abbrev pub lanes_given : ℕ → Calculation → World → ℕ
lanes_given vl c w = length (given vl w.memory (reg w.machine c.first))

-- completed, where the destination stands at an empty pass: 02, 3/14: "A store stream at an empty pass moves past it when 0 lanes are written"
pub record EmptyTakes (vl : ℕ) (c : Calculation) (w v : World) (taken : ℕ → List (List ℕ)) (d : Did vl c w v taken) : Type 0 where
  -- no lane was written, and memory is as it was
  pub none : d.out ≡ []
  pub memory : v.memory ≡ w.memory
  -- it went past that one stop
  pub past : taken c.destination ≡ take 1 (drop (target_of c w).moved (stops (shape_of (target_of c w))))
  pub after : target_of c v ≡ moved_to ((target_of c w).moved + 1) (target_of c w)

-- a calculation whose destination is a store stream at a coupled pass without elements
module _ (vl : ℕ) (c : Calculation) (w : World) (opened : (target_of c w).state ≡ Open) (empty : nothing_at (shape_of (target_of c w)) (target_of c w).moved ≡ true) where
  -- every completed one is such
  pub empty-takes-none : c.destination < 32 → (v : World) (taken : ℕ → List (List ℕ)) (d : Did vl c w v taken) → EmptyTakes vl c w v taken d
  empty-takes-none h v taken d = go (d.becomes c.destination h) d.stores
    where
      go : Becomes vl c w d.out c.destination (taken c.destination) (reg v.machine c.destination)
          → Stores c w d.out (taken c.destination) v.memory → EmptyTakes vl c w v taken d
      go b (Stores.nothing p z) = not-both (target_of c w) p opened
      go (Becomes.plain u p x y) (Stores.lanes o z) = not-both (target_of c w) p opened
      go (Becomes.store u p s x y) (Stores.lanes o z) = never (sym s ∙ empty)
      go (Becomes.past u p s f x y) (Stores.lanes o z) = record {
        none = f;
        memory = z ∙ ap (stored (target_of c w).pattern (target_of c w).width w.memory (held_in (shape_of (target_of c w)) (taken c.destination))) f ∙ stored-none _ _ _ _;
        past = x;
        after = y;
      }
      go (Becomes.load n f p x y) (Stores.lanes o z) = absurd (n refl)
      go (Becomes.source n f p x y) (Stores.lanes o z) = absurd (n refl)
      go (Becomes.other n f g x y) (Stores.lanes o z) = absurd (n refl)

  -- 02, 3/14: "and refuses more": it would be given a lane or more
  module _ (g : AllGood vl w.machine) (nm : Named c) (l : 8 ≤ vl) (more : 1 ≤ outcome_count c.task (lanes_given vl c w)) where
    -- it has no room
    no_room : outcome_count c.task (lanes_given vl c w) ≤ length (next_chunk vl (target_of c w)) → ⊥
    no_room h = go (next-is vl (target_of c w) l (g.good c.destination nm.destination) (ap is_open opened))
      where
        go : Next vl (target_of c w) → ⊥
        go (Next.elements e x) = never (sym e ∙ empty)
        go (Next.nothing e x y) = omega (arith, ap length y)

    -- it is not completed
    pub empty-refuses : ¬ Calculates vl c w
    empty-refuses k = no_room (k.room opened)

    -- "Refusals: none new; 13 applies": it is refused with 13, if what is looked at before that is as wanted
    pub empty-lane-counts : Source (reg w.machine c.first) → Source (reg w.machine c.second) → (target_of c w).kind ≡ Store
        → (reg w.machine c.first).width ≡ (reg w.machine c.second).width → (reg w.machine c.first).width ≡ (target_of c w).width
        → refusal_of vl c w ≡ Err LaneCounts
    empty-lane-counts a b k p q =
        (calculation-refused vl c w LaneCounts).1
        (as_source _ LaneCounts a
        (as_source _ LaneCounts b
        (Wanted.later (λ e. never (sym (ap is_configuring opened) ∙ ap is_configuring e))
        (Wanted.later (λ e. never (sym (ap is_finished opened) ∙ ap is_finished e))
        (Wanted.later (λ o. k) (Wanted.later (p, λ o. q) (Wanted.lacking refl (λ h. no_room (h.1 opened)))))))))
