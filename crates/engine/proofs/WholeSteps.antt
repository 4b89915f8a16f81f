-- A whole sheet, from what its operations told.
use Rattle.std.proofs.Common.{◌≡◌, ℕ, ◌<◌, ◌≤◌, true, false, cond, List, length, Option, None, Some, Result, Ok, Err, IsOkAnd, MatchResult, refl, sym, ap, ◌∙◌, subst}
use Rattle.codec.specs.NumberLaws.{AreBytes}
use Rattle.codec.specs.declared.refusal.Refusal.TheVariants.{Lengths}
use Rattle.codec.specs.declared.refusal.Refused.{Refused}
use Rattle.engine.specs.Registers.{fresh_machine}
use Rattle.engine.specs.Sheets.{is_loop_register, operations_from, allowed, refused_at, on_ending, prepare, run}
use Rattle.engine.specs.Run.{Verdict}
use Rattle.engine.specs.Bodies.{ending_is, prepared_is, verdict_of}
use Rattle.engine.specs.Good.{AllGood}
use Rattle.engine.specs.GoodLaws.{fresh-machine-good}
use Rattle.engine.specs.HistoryLaws.{AllNamed}
use Rattle.engine.specs.AllowedLaws.{fits-allowed}
use Rattle.engine.specs.SheetLaws.{Runs, Follows, Left, all_named, operations-good}
use Rattle.engine.specs.declared.register.Machine.{Machine}
use Rattle.engine.specs.declared.sheet.Run as sheet

-- good registers to start with
pub fresh-is-good : (m : Machine) → m ≡ fresh_machine → (vl : ℕ) × AllGood vl m
fresh-is-good m e = (8, subst (AllGood 8) (sym e) (fresh-machine-good 8))

-- the verdict so far, from how the operations ended
pub settled : (p : Result (Option sheet.Run) Refused) (v : Verdict) (Q : Option sheet.Run → Unit {0} → Type 0) → MatchResult p (λ x. IsOkAnd v (Q x)) (λ x. v ≡ Err x)
    → v ≡ verdict_of (ending_is p)
settled (Ok None) (Ok _) Q h = refl
settled (Ok None) (Err x) Q h = absurd h
settled (Ok (Some r)) (Ok _) Q h = refl
settled (Ok (Some r)) (Err x) Q h = absurd h
settled (Err x) v Q h = h

-- 15
pub not-allowed : (vl : ℕ) (s memory : List ℕ) (m : Machine) → m ≡ fresh_machine → allowed vl (length memory) ≡ false
    → refused_at (record { machine = m; memory = memory }) Lengths 0 ≡ run vl s memory
not-allowed vl s memory m f e =
    (λ t. refused_at (record { machine = f t; memory = memory }) Lengths 0)
    ∙ sym (ap (λ b. cond b (on_ending vl (record { machine = (prepare s fresh_machine).machine; memory = memory }) (prepare s fresh_machine).ending) (refused_at (record { machine = fresh_machine; memory = memory }) Lengths 0)) e)

-- an allowed vector length
pub allowed-length : (vl len : ℕ) → allowed vl len ≡ true → (8 ≤ vl) × (vl ≤ 64)
allowed-length vl len e = let f = (fits-allowed vl len).0 e in (f.least, f.most)

module _ (vl : ℕ) (s memory : List ℕ) (m n : Machine) (f : m ≡ fresh_machine) (p : Result (Option sheet.Run) Refused) (told : prepared_is p n ≡ operations_from (length s) s 0 m) where
  from-fresh : prepared_is p n ≡ prepare s fresh_machine
  from-fresh = told ∙ ap (operations_from (length s) s 0) f

  -- the answer follows from how the operations ended
  pub answer : allowed vl (length memory) ≡ true → (d : Result (Option sheet.Run) Refused) → p ≡ d
      → on_ending vl (record { machine = n; memory = memory }) (ending_is d) ≡ run vl s memory
  answer e d g =
      ap (λ x. on_ending vl (record { machine = n; memory = memory }) (ending_is x)) (sym g)
      ∙ ap (λ q. on_ending vl (record { machine = q.machine; memory = memory }) q.ending) from-fresh
      ∙ sym (ap (λ b. cond b (on_ending vl (record { machine = (prepare s fresh_machine).machine; memory = memory }) (prepare s fresh_machine).ending) (refused_at (record { machine = fresh_machine; memory = memory }) Lengths 0)) e)

  -- a run that follows is in good order
  pub ready : AreBytes s → (r : sheet.Run) → p ≡ Ok (Some r)
      → (r.register < 32) × AllNamed r.body.items × AllGood vl n × (is_loop_register r.register r.body.items n ≡ true)
  ready b r g =
      let q : Left vl (prepared_is p n) = subst (Left vl) (sym from-fresh) (operations-good vl (length s) s 0 fresh_machine b (fresh-machine-good vl)) in
      let k : Runs r.register r.body.items n = subst (λ x. Follows n (ending_is x)) g q.follows in
      (k.below, all_named r.body.items k.range, q.good, k.is_loop)
