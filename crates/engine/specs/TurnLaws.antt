-- A run of its calculations in turn, with the engine's own effect: there is one at most.
--
--   completed-at   of calculations that are not refused, each is not, in the world that those before it left
--   Turned         a run of its calculations in turn
--   turned-one     two are the same
use Rattle.std.specs.Prelude.{◌≡◌, ℕ, zero, suc, ◌/◌, ◌%◌, ◌<◌, ◌≤◌, List, [], ◌∷◌, length, get_or, take, ◌≢◌, slice_index_or, refl, Ok, Err}
use Rattle.std.proofs.Common.{sym, ◌∙◌, ap, ap₂, arith, take_all, get_or-take, length-take-le, ext_get_or}
use Rattle.std.proofs.Math.Decide.{dec_lt}
use Rattle.codec.specs.declared.refusal.Refusal.{Refusal}
use Rattle.engine.specs.Checks.{Why}
use Rattle.engine.specs.Registers.{reg}
use Rattle.engine.specs.Calculate.{World, refusal_of, effect}
use Rattle.engine.specs.Run.{Progress, Verdict, refusal_at}
use Rattle.engine.specs.HistoryLaws.{Completed, after_all}
use Rattle.engine.specs.Histories.{no_placed, in_turn}
use Rattle.engine.specs.declared.register.State.{State}
use Rattle.engine.specs.declared.register.State.TheVariants.{Open, Finished}
use Rattle.engine.specs.declared.run.Placed.{Placed}

-- each is not refused in the world that those before it left
pub completed-at : (vl : ℕ) (cs : List Placed) (w : World) (k : ℕ) → Completed vl w cs → k < length cs
    → refusal_of vl (get_or cs k no_placed).calculation (after_all vl w (take k cs)) ≡ Ok tt
unfolding Completed after_all
completed-at vl [] w k c h = absurd (omega arith)
completed-at vl (d ∷ cs) w zero c h = c.0
completed-at vl (d ∷ cs) w (suc k) c h = completed-at vl cs (effect vl d.calculation w) k c.1 (omega arith)

-- r is the answer of a run from w whose calculations, those of the body in turn, are not refused and have the engine's effect
pub record Turned (vl loop : ℕ) (body : List Placed) (w : World) (r : Progress) : Type 0 where
  pub calculations : List Placed
  pub turns : (k : ℕ) → k < length calculations → slice_index_or calculations k no_placed ≡ in_turn body k
  pub completed : Completed vl w calculations
  pub world : r.world ≡ after_all vl w calculations
  pub count : r.report.calculations ≡ length calculations
  pub passes : r.report.passes ≡ length calculations / length body
  pub began : (k : ℕ) → k < length calculations → k % length body ≡ 0 → (reg (after_all vl w (take k calculations)).machine loop).state ≡ Open
  pub done : r.verdict ≡ Ok tt → (length calculations % length body ≡ 0) × ((reg r.world.machine loop).state ≡ Finished)
  pub refused : (x : Refusal) (at : ℕ) → r.verdict ≡ refusal_at x at
      → (refusal_of vl (in_turn body (length calculations)).calculation r.world ≡ Err x)
      × (at ≡ (in_turn body (length calculations)).place)
      × (length calculations % length body ≡ 0 → (reg r.world.machine loop).state ≡ Open)

-- ---- one at most

-- a finished stream is not open
no-open : (k : State) → k ≡ Finished → k ≢ Open
no-open k p q = let z : ◌≡◌ {A = ℕ} 0 1 = cc in omega arith

-- no refusal is none
no-refusal : (y : Why) (x : Refusal) → y ≡ Ok tt → y ≢ Err x
no-refusal y x p q = let z : ◌≡◌ {A = ℕ} 0 1 = cc in omega arith

module _ (vl loop : ℕ) (body : List Placed) (w : World) (r q : Progress) (t : Turned vl loop body w r) (u : Turned vl loop body w q) where
  -- the shorter of two runs is the front of the longer
  front : length t.calculations ≤ length u.calculations → t.calculations ≡ take (length t.calculations) u.calculations
  front h =
      ext_get_or no_placed t.calculations (take (length t.calculations) u.calculations) (sym (length-take-le (length t.calculations) u.calculations h))
      (λ i p. t.turns i p ∙ sym (get_or-take (length t.calculations) u.calculations i no_placed p ∙ u.turns i (omega arith)))

  -- none is shorter: done, the loop register's stream is not open; refused, the next calculation is
  shorter : length t.calculations < length u.calculations → ⊥
  shorter h = go r.verdict refl
    where
      n : ℕ
      n = length t.calculations

      e : r.world ≡ after_all vl w (take n u.calculations)
      e = t.world ∙ ap (after_all vl w) (front (omega arith))

      go : (v : Verdict) → r.verdict ≢ v
      go (Ok _) v =
          let d = t.done v in
          no-open (reg r.world.machine loop).state d.1 (ap (λ x. (reg x.machine loop).state) e ∙ u.began n h d.0)
      go (Err x) v =
          no-refusal (refusal_of vl (in_turn body n).calculation r.world) x.refusal
          (ap₂ (λ c y. refusal_of vl c.calculation y) (sym (u.turns n h)) e ∙ completed-at vl u.calculations w n u.completed h)
          (t.refused x.refusal x.place v).0

  -- two as long are the same
  even : length t.calculations ≡ length u.calculations → r ≡ q
  even h = λ i. record { world = a i; report = record { passes = b i; calculations = c i }; verdict = go r.verdict refl q.verdict refl i }
    where
      s : t.calculations ≡ u.calculations
      s = front (omega arith) ∙ take_all (length t.calculations) u.calculations (omega arith)

      a : r.world ≡ q.world
      a = t.world ∙ ap (after_all vl w) s ∙ sym u.world

      b : r.report.passes ≡ q.report.passes
      b = t.passes ∙ ap (λ n. n / length body) h ∙ sym u.passes

      c : r.report.calculations ≡ q.report.calculations
      c = t.count ∙ h ∙ sym u.count

      go : (x : Verdict) → r.verdict ≡ x → (y : Verdict) → q.verdict ≡ y → x ≡ y
      go (Ok _) d (Ok _) f = refl
      go (Ok _) d (Err y) f =
          let k = t.done d in
          absurd (no-open (reg r.world.machine loop).state k.1 (ap (λ x. (reg x.machine loop).state) a ∙ (u.refused y.refusal y.place f).2 (ap (λ n. n % length body) (sym h) ∙ k.0)))
      go (Err x) d (Ok _) f =
          let k = u.done f in
          absurd (no-open (reg r.world.machine loop).state (ap (λ x. (reg x.machine loop).state) a ∙ k.1) ((t.refused x.refusal x.place d).2 (ap (λ n. n % length body) h ∙ k.0)))
      go (Err x) d (Err y) f =
          let k = t.refused x.refusal x.place d in
          let m = u.refused y.refusal y.place f in
          let g = ap₂ (λ n z. refusal_of vl (in_turn body n).calculation z) h a in
          let p : x.refusal ≡ y.refusal = cc in
          let o : x.place ≡ y.place = k.1 ∙ ap (λ n. (in_turn body n).place) h ∙ sym m.1 in
          ap₂ refusal_at p o

-- two runs are the same
pub turned-one : (vl loop : ℕ) (body : List Placed) (w : World) (r q : Progress) → Turned vl loop body w r → Turned vl loop body w q → r ≡ q
turned-one vl loop body w r q t u = go (dec_lt (length t.calculations) (length u.calculations)) (dec_lt (length u.calculations) (length t.calculations))
  where
    go : Dec (length t.calculations < length u.calculations) → Dec (length u.calculations < length t.calculations) → r ≡ q
    go (yes h) d = absurd (shorter vl loop body w r q t u h)
    go (no p) (yes h) = absurd (shorter vl loop body w q r u t h)
    go (no p) (no d) = even vl loop body w r q t u (omega arith)
