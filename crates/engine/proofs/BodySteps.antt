-- A body's steps one at a time: naming a register, and being read.
use Rattle.std.proofs.Common.{◌≡◌, ℕ, suc, ◌+◌, ◌-◌, ◌<◌, ◌≤◌, Bool, true, false, List, [], ◌∷◌, ◌++◌, ◌==◌, sym, refl, ap, ◌∙◌, arith}
use Rattle.std.specs.Prelude.{◌||◌, Ok}
use Rattle.codec.specs.Refusals.{err_at}
use Rattle.std.specs.List.{list_any}
use Rattle.codec.specs.Operations.{calculation_at}
use Rattle.codec.specs.declared.operation.Action.TheVariants.{Copy}
use Rattle.codec.specs.declared.operation.Task.TheVariants.{Each}
use Rattle.codec.specs.declared.operation.Calculation.{Calculation}
use Rattle.codec.specs.declared.number.Cursor.{Cursor}
use Rattle.codec.specs.declared.refusal.Refusal.{Refusal}
use Rattle.engine.specs.Sheets.{Calculations, whole, broken, before, body_at, names}
use Rattle.engine.specs.declared.run.Placed.{Placed}

-- what `get_or` gives past the end of a body
abbrev pub no_step : Placed
no_step = record { place = 0; calculation = record { task = Each Copy; destination = 0; first = 0; second = 0 } }

-- whether a calculation names a register as a source
abbrev pub is_source : ℕ → Placed → Bool
is_source register c = register == c.calculation.first || register == c.calculation.second

-- a body names it if a calculation does
pub named : (register : ℕ) (cs : List Placed) → list_any (is_source register) cs ≡ names register cs
unfolding names
named register [] = refl
named register (c ∷ cs) = go (register == c.calculation.first) ∙ ap (λ b. register == c.calculation.first || register == c.calculation.second || b) (named register cs)
  where
    go : (b : Bool) → ((b || register == c.calculation.second) || list_any (is_source register) cs) ≡ (b || register == c.calculation.second || list_any (is_source register) cs)
    go true = refl
    go false = refl

-- calculations read before the rest of a body
unfoldable pub behind : List Placed → Calculations → Calculations
behind [] r = r
behind (c ∷ cs) r = before c (behind cs r)

pub behind-append : (cs ds : List Placed) (r : Calculations) → behind (cs ++ ds) r ≡ behind cs (behind ds r)
unfolding behind
behind-append [] ds r = refl
behind-append (c ∷ cs) ds r = ap (before c) (behind-append cs ds r)

pub behind-whole : (cs : List Placed) (at : ℕ) → behind cs (whole [] at) ≡ whole cs at
unfolding behind
behind-whole [] at = refl
behind-whole (c ∷ cs) at = ap (before c) (behind-whole cs at)

pub behind-broken : (cs : List Placed) (x : Refusal) (at : ℕ) → behind cs (broken x at) ≡ broken x at
unfolding behind
behind-broken [] x at = refl
behind-broken (c ∷ cs) x at = ap (before c) (behind-broken cs x at)

module _ (s : List ℕ) (n k at : ℕ) (cs : List Placed) (below : k < n) where
  -- one calculation more
  pub body_more : (c : Calculation) (next : Cursor) → calculation_at s at ≡ Ok (c, next)
      → behind cs (body_at s (n - k) at) ≡ behind (cs ++ record { place = at; calculation = c } ∷ []) (body_at s (n - (k + 1)) next.at)
  unfolding body_at behind
  body_more c next e =
      let m : n - k ≡ suc (n - (k + 1)) = omega arith in
      let p : Placed = record { place = at; calculation = c } in
      let b : body_at s (n - k) at ≡ before p (body_at s (n - (k + 1)) next.at) = ap (λ j. body_at s j at) m ∙ rw e in
      ap (behind cs) b ∙ sym (behind-append cs (p ∷ []) (body_at s (n - (k + 1)) next.at))

  pub body-stops : (x : Refusal) (place : ℕ) → calculation_at s at ≡ err_at place x → behind cs (body_at s (n - k) at) ≡ broken x place
  unfolding body_at
  body-stops x place e =
      let m : n - k ≡ suc (n - (k + 1)) = omega arith in
      ap (behind cs) (ap (λ j. body_at s j at) m ∙ rw e) ∙ behind-broken cs x place

pub body-whole : (s : List ℕ) (n k at : ℕ) (cs : List Placed) → n ≤ k → behind cs (body_at s (n - k) at) ≡ whole cs at
unfolding body_at
body-whole s n k at cs h =
    let m : n - k ≡ 0 = omega arith in
    ap (λ j. behind cs (body_at s j at)) m ∙ behind-whole cs at
