-- The steps of a pass.
--
--   step-done, step-refused    a calculation counted; a refused one changes neither world nor report
--   pass-next, pass-stop       a pass goes on after a calculation that is done, and stops at a refused one
--   step-good, pass-good       the registers are good after a step, and after a pass, refused or not
use Rattle.std.specs.Prelude.{◌≡◌, ℕ, ◌≤◌, List, ◌∷◌, take, refl, Ok, Err}
use Rattle.std.proofs.Common.{sym, ap, subst}
use Rattle.codec.specs.declared.refusal.Refusal.{Refusal}
use Rattle.engine.specs.Checks.{Why}
use Rattle.engine.specs.Calculate.{refusal_of, effect}
use Rattle.engine.specs.Run.{Progress, stepped, step, unless_refused, pass, pass_by, refusal_at}
use Rattle.engine.specs.Good.{AllGood}
use Rattle.engine.specs.CalculationLaws.{Named}
use Rattle.engine.specs.EffectGood.{effect-good}
use Rattle.engine.specs.HistoryLaws.{AllNamed, after-good, named-take}
use Rattle.engine.specs.RunLaws.{pass-ran}
use Rattle.engine.specs.declared.run.Placed.{Placed}

-- a calculation that is not refused is done and counted
pub step-done : (vl : ℕ) (c : Placed) (g : Progress) → refusal_of vl c.calculation g.world ≡ Ok tt
    → step vl c g ≡ stepped (Ok tt) c.place (effect vl c.calculation g.world) g
step-done vl c g e = ap (λ y. stepped y c.place (effect vl c.calculation g.world) g) e

-- a refused one leaves world and report as they were
pub step-refused : (vl : ℕ) (c : Placed) (g : Progress) (x : Refusal) → refusal_of vl c.calculation g.world ≡ Err x
    → step vl c g ≡ record { world = g.world; report = g.report; verdict = refusal_at x c.place }
step-refused vl c g x e = ap (λ y. stepped y c.place (effect vl c.calculation g.world) g) e

-- a pass goes on after a calculation that is done
pub pass-next : (vl : ℕ) (c : Placed) (cs : List Placed) (g : Progress) → (step vl c g).verdict ≡ Ok tt → pass vl (c ∷ cs) g ≡ pass vl cs (step vl c g)
unfolding pass_by
pass-next vl c cs g e = ap (λ d. unless_refused d (step vl c g) (pass vl cs (step vl c g))) e

-- it stops at a refused one
pub pass-stop : (vl : ℕ) (c : Placed) (cs : List Placed) (g : Progress) (x : Refusal) (at : ℕ) → (step vl c g).verdict ≡ refusal_at x at → pass vl (c ∷ cs) g ≡ step vl c g
unfolding pass_by
pass-stop vl c cs g x at e = ap (λ d. unless_refused d (step vl c g) (pass vl cs (step vl c g))) e

-- the registers are good after a step, refused or not
pub step-good : (vl : ℕ) (c : Placed) (g : Progress) → 8 ≤ vl → Named c.calculation → AllGood vl g.world.machine → AllGood vl (step vl c g).world.machine
step-good vl c g l nm a = go (refusal_of vl c.calculation g.world) refl
  where
    go : (y : Why) → refusal_of vl c.calculation g.world ≡ y → AllGood vl (stepped y c.place (effect vl c.calculation g.world) g).world.machine
    go (Ok _) e = effect-good vl c.calculation g.world l a nm e
    go (Err x) e = a

-- and after a pass
pub pass-good : (vl : ℕ) (cs : List Placed) (g : Progress) → 8 ≤ vl → g.verdict ≡ Ok tt → AllNamed cs → AllGood vl g.world.machine → AllGood vl (pass vl cs g).world.machine
pass-good vl cs g l v nm a =
    let p = pass-ran vl cs g v in
    subst (λ w. AllGood vl w.machine) (sym p.world) (after-good vl (take p.rest cs) g.world l (named-take p.rest cs nm) a p.completed)
