-- The operations of a sheet one at a time, one law for each way that a turn of the reader goes.
use Rattle.std.proofs.Common.{◌≡◌, ℕ, zero, suc, ◌-◌, ◌<◌, ◌≤◌, List, length, refl, ap, ◌∙◌, sub-one, arith, le-ltb, lt-ltb}
use Rattle.std.specs.Prelude.{Ok, Err}
use Rattle.codec.specs.Refusals.{err_at}
use Rattle.codec.specs.Operations.{operation_at}
use Rattle.codec.specs.declared.number.Cursor.{Cursor}
use Rattle.codec.specs.declared.operation.Operation.{Operation}
use Rattle.codec.specs.declared.operation.Operation.TheVariants as op
use Rattle.codec.specs.declared.refusal.Refusal.{Refusal}
use Rattle.engine.specs.Configure.{why_not, configured}
use Rattle.engine.specs.Sheets.{over, refused, ending_of, body_at, on_operation, on_decoded, operations_from}
use Rattle.engine.specs.declared.register.Machine.{Machine}

-- an operation that is no run
abbrev pub Configures : Operation → Type 0
Configures (op.Open h base) = Unit {0}
Configures (op.Dimension d) = Unit {0}
Configures (op.Modifier d) = Unit {0}
Configures (op.End i) = Unit {0}
Configures (op.Run i n) = ⊥

-- one that is known to be no run
pub configures : (o : Operation) → ((i n : ℕ) → o ≡ op.Run i n → ⊥) → Configures o
configures (op.Open h base) p = tt
configures (op.Dimension d) p = tt
configures (op.Modifier d) p = tt
configures (op.End i) p = tt
configures (op.Run i n) p = p i n refl

pub ops-none : (n : ℕ) (s : List ℕ) (at : ℕ) (m : Machine) → n ≤ 0 → operations_from n s at m ≡ record { machine = m; ending = over }
unfolding operations_from
ops-none zero s at m h = refl
ops-none (suc n) s at m h = absurd (omega arith)

pub ops-out : (n : ℕ) (s : List ℕ) (at : ℕ) (m : Machine) → length s ≤ at → operations_from n s at m ≡ record { machine = m; ending = over }
unfolding operations_from
ops-out zero s at m h = refl
ops-out (suc n) s at m h = rw (le-ltb at (length s) h)

ops-turn : (n : ℕ) (s : List ℕ) (at : ℕ) (m : Machine) → 0 < n → at < length s → operations_from n s at m ≡ on_decoded s at m (operation_at s at) (operations_from (n - 1) s)
unfolding operations_from
ops-turn zero s at m p h = absurd (omega arith)
ops-turn (suc n) s at m p h = rw (sub-one, lt-ltb at (length s) h)

module _ (n : ℕ) (s : List ℕ) (at : ℕ) (m : Machine) (p : 0 < n) (h : at < length s) where
  pub ops-refused : (x : Refusal) (place : ℕ) → operation_at s at ≡ err_at place x → operations_from n s at m ≡ record { machine = m; ending = refused x place }
  ops-refused x place e = ops-turn n s at m p h ∙ ap (λ d. on_decoded s at m d (operations_from (n - 1) s)) e

  pub ops-run : (next : Cursor) (i k : ℕ) → operation_at s at ≡ Ok (op.Run i k, next)
      → operations_from n s at m ≡ record { machine = m; ending = ending_of s at i m (body_at s k next.at) }
  ops-run next i k e = ops-turn n s at m p h ∙ ap (λ d. on_decoded s at m d (operations_from (n - 1) s)) e

  ops-configures : (o : Operation) (next : Cursor) → operation_at s at ≡ Ok (o, next) → Configures o
      → operations_from n s at m ≡ on_operation (why_not o m) at m (operations_from (n - 1) s next.at) (configured o m)
  ops-configures o next e t = ops-turn n s at m p h ∙ ap (λ d. on_decoded s at m d (operations_from (n - 1) s)) e ∙ go o t
    where
      go : (o : Operation) → Configures o → on_decoded s at m (Ok (o, next)) (operations_from (n - 1) s) ≡ on_operation (why_not o m) at m (operations_from (n - 1) s next.at) (configured o m)
      go (op.Open a b) t = refl
      go (op.Dimension a) t = refl
      go (op.Modifier a) t = refl
      go (op.End a) t = refl
      go (op.Run a b) t = absurd t

  pub ops-because : (o : Operation) (next : Cursor) (x : Refusal) → operation_at s at ≡ Ok (o, next) → Configures o → why_not o m ≡ Err x
      → operations_from n s at m ≡ record { machine = m; ending = refused x at }
  ops-because o next x e t w = ops-configures o next e t ∙ rw w

  pub ops-next : (o : Operation) (next : Cursor) → operation_at s at ≡ Ok (o, next) → Configures o → why_not o m ≡ Ok tt
      → operations_from n s at m ≡ operations_from (n - 1) s next.at (configured o m)
  ops-next o next e t w = ops-configures o next e t ∙ rw w
