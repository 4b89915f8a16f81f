-- What an answer of `run_nest` owes by demand 3: it equals `run_nest`, and Promise 3 says what that is.
--
--   delivered
use Prim.Native.Nat.{ℕ}
use mathlib.Core.Path.{◌≡◌, ◌∙◌, ap}
use mathlib.Core.List.{List}
use lib.ListN.{length}
use Rattle.engine.specs.Sheets.{run}
use Rattle.translator.specs.NestSheets.{sheet_of}
use Rattle.translator.specs.Translation.{run_nest, outcome_of}
use Rattle.translator.specs.Promise3.{Promise3, Premise1, Delivered}
use Rattle.translator.specs.declared.nest.Nest.{Nest}
use Rattle.translator.specs.declared.nest.NestAnswer.{NestAnswer}
use Rattle.translator.specs.declared.nest.Stage.TheVariants as stage
use Rattle.translator.proofs.Promise3.{promise3}

module _ (s : List ℕ) (vl : ℕ) (memory : List ℕ) (r : NestAnswer) (after : List ℕ) (e : outcome_of r after ≡ run_nest vl s memory) where
  -- the promise of a nest that these bytes are
  promise : (m : Nest) → Premise1 s vl (length memory) m → Promise3 m vl memory
  promise m p = promise3 m vl memory p.accepted p.lengths

  -- the answer is the run of its sheet
  runs : (m : Nest) → Premise1 s vl (length memory) m → outcome_of r after ≡ record { stage = stage.Sheet; progress = run vl (sheet_of m) memory }
  runs m p = e ∙ ap (λ b. run_nest vl b memory) p.bytes ∙ (promise m p).runs

  pub delivered : Delivered s vl memory r after
  delivered = record {
    done = λ m p. (ap (λ o. o.stage) (runs m p), ap (λ o. o.progress.verdict) (runs m p) ∙ (promise m p).done p.inside);
    plain = λ m p n. ap (λ o. o.progress.world.memory) (runs m p) ∙ (promise m p).plain p.inside n;
    chunkwise = λ m p n. ap (λ o. o.progress.world.memory) (runs m p) ∙ (promise m p).chunkwise p.inside n;
  }
