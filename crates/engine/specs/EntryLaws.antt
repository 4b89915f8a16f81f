-- The history of calculations that are not refused.
--
--   named-turns                         the calculations of a body in turn name registers
--   entries_of, entry_calculations           the history of calculations; the calculations of a history
--   entries-calculations, entries-length, entries-world   its calculations, their number, the world after some
--   entries-follow                      each goes on where the one before it ended
--   Followed, followed                  and a history is that of its calculations
use Rattle.std.specs.Prelude.{◌≡◌, ℕ, zero, suc, ◌%◌, ◌<◌, ◌≤◌, List, [], ◌∷◌, ◌++◌, map, length, get_or, take, slice_index_or, Ok}
use Rattle.std.proofs.Math.Path.{refl, sym}
use Rattle.std.proofs.Common.{◌∙◌, ap, ap₂, subst, arith, mod-lt}
use Rattle.std.proofs.lemmas.List.{length-map}
use Rattle.codec.specs.declared.operation.Calculation.{Calculation}
use Rattle.engine.specs.Calculate.{World, refusal_of, effect}
use Rattle.engine.specs.Good.{AllGood}
use Rattle.engine.specs.CalculationLaws.{Named}
use Rattle.engine.specs.EffectGood.{effect-good}
use Rattle.engine.specs.StreamLaws.{moved_in}
use Rattle.engine.specs.HistoryLaws.{AllNamed, Completed, after_all, moved_over}
use Rattle.engine.specs.Histories.{Entry, Follow, world_at, moved_of, no_placed, in_turn}
use Rattle.engine.specs.CalculatesLaws.{calculates-clear}
use Rattle.engine.specs.DidLaws.{did-effect, did-taken, did-one}
use Rattle.engine.specs.declared.run.Placed.{Placed}

-- ---- calculations that name registers

-- each of them does
named-at : (cs : List Placed) (k : ℕ) → AllNamed cs → k < length cs → Named (get_or cs k no_placed).calculation
unfolding AllNamed
named-at [] k nm h = absurd (omega arith)
named-at (c ∷ cs) zero nm h = nm.0
named-at (c ∷ cs) (suc k) nm h = named-at cs k nm.1 (omega arith)

-- and the reverse
named-all : (cs : List Placed) → ((k : ℕ) → k < length cs → Named (get_or cs k no_placed).calculation) → AllNamed cs
unfolding AllNamed
named-all [] h = tt
named-all (c ∷ cs) h = (h 0 (omega arith), named-all cs (λ k p. h (suc k) (omega arith)))

-- so do those of a body in turn
pub named-turns : (body cs : List Placed) → 1 ≤ length body → AllNamed body → ((k : ℕ) → k < length cs → slice_index_or cs k no_placed ≡ in_turn body k) → AllNamed cs
named-turns body cs some nm t =
    named-all cs (λ k h. subst (λ c. Named c.calculation) (sym (t k h)) (named-at body (k % length body) nm (mod-lt k some)))

-- ---- the history of calculations that are not refused

-- what each moves, and the world after it
unfoldable pub entries_of : ℕ → World → List Placed → List Entry
entries_of vl w [] = []
entries_of vl w (c ∷ cs) =
    record { calculation = c; taken = moved_in vl c.calculation w; after = effect vl c.calculation w } ∷ entries_of vl (effect vl c.calculation w) cs

-- the calculations of a history
abbrev pub entry_calculations : List Entry → List Placed
entry_calculations es = map (λ (e : Entry). e.calculation) es

-- its calculations
pub entries-calculations : (vl : ℕ) (w : World) (cs : List Placed) → entry_calculations (entries_of vl w cs) ≡ cs
unfolding entries_of
entries-calculations vl w [] = refl
entries-calculations vl w (c ∷ cs) = ap (λ l. c ∷ l) (entries-calculations vl (effect vl c.calculation w) cs)

-- their number
pub entries-length : (vl : ℕ) (w : World) (cs : List Placed) → length (entries_of vl w cs) ≡ length cs
entries-length vl w cs = sym (length-map (entries_of vl w cs) (λ (e : Entry). e.calculation)) ∙ ap length (entries-calculations vl w cs)

-- the world after k of them
pub entries-world : (vl : ℕ) (w : World) (cs : List Placed) (k : ℕ) → world_at w (entries_of vl w cs) k ≡ after_all vl w (take k cs)
unfolding entries_of world_at after_all
entries-world vl w cs zero = refl
entries-world vl w [] (suc k) = refl
entries-world vl w (c ∷ cs) (suc k) = entries-world vl (effect vl c.calculation w) cs k

-- the calculations of a history are not refused, and its worlds and what it moved are theirs
pub record Followed (vl : ℕ) (w : World) (es : List Entry) (v : World) : Type 0 where
  pub completed : Completed vl w (entry_calculations es)
  pub world : v ≡ after_all vl w (entry_calculations es)
  pub worlds : (k : ℕ) → world_at w es k ≡ after_all vl w (take k (entry_calculations es))
  pub moved : (i : ℕ) → i < 32 → (k : ℕ) → moved_of (take k es) i ≡ moved_over vl w (take k (entry_calculations es)) i

module _ (vl : ℕ) (l : 8 ≤ vl) where
  -- each goes on where the one before it ended
  pub entries-follow : (w : World) (cs : List Placed) → AllNamed cs → AllGood vl w.machine → Completed vl w cs
      → Follow vl w (entries_of vl w cs) (after_all vl w cs)
  unfolding entries_of Follow after_all Completed AllNamed
  entries-follow w [] nm g k = refl
  entries-follow w (c ∷ cs) nm g k = (
    did-effect vl c.calculation w g nm.0 l k.0,
    entries-follow (effect vl c.calculation w) cs nm.1 (effect-good vl c.calculation w l g nm.0 k.0) k.1,
  )

  -- and the reverse
  pub followed : (w : World) (es : List Entry) (v : World) → AllNamed (entry_calculations es) → AllGood vl w.machine → Follow vl w es v → Followed vl w es v
  unfolding Follow world_at after_all moved_of moved_over Completed AllNamed
  followed w [] v nm g f = record { completed = tt; world = sym f; worlds = none; moved = nothing }
    where
      none : (k : ℕ) → world_at w [] k ≡ after_all vl w (take k [])
      none zero = refl
      none (suc k) = refl

      nothing : (i : ℕ) → i < 32 → (k : ℕ) → moved_of (take k []) i ≡ moved_over vl w (take k []) i
      nothing i b zero = refl
      nothing i b (suc k) = refl
  followed w (e ∷ es) v nm g f = on (followed (effect vl e.calculation.calculation w) es v nm.1)
    where
      c : Calculation
      c = e.calculation.calculation

      on : (AllGood vl (effect vl c w).machine → Follow vl (effect vl c w) es v → Followed vl (effect vl c w) es v) → Followed vl w (e ∷ es) v
      on ih = record { completed = (k, q.completed); world = q.world; worlds = worlds; moved = moved }
        where
          k : refusal_of vl c w ≡ Ok tt
          k = (calculates-clear vl c w).1 f.0.calculates

          d : e.after ≡ effect vl c w
          d = did-one vl c w g nm.0 l e.after e.taken f.0

          q : Followed vl (effect vl c w) es v
          q = ih (effect-good vl c w l g nm.0 k) (subst (λ x. Follow vl x es v) d f.1)

          worlds : (k : ℕ) → world_at w (e ∷ es) k ≡ after_all vl w (take k (e.calculation ∷ entry_calculations es))
          worlds zero = refl
          worlds (suc k) = ap (λ x. world_at x es k) d ∙ q.worlds k

          moved : (i : ℕ) → i < 32 → (k : ℕ) → moved_of (take k (e ∷ es)) i ≡ moved_over vl w (take k (e.calculation ∷ entry_calculations es)) i
          moved i b zero = refl
          moved i b (suc k) = ap₂ ◌++◌ (did-taken vl c w g nm.0 l e.after e.taken f.0 i b) (q.moved i b k)
