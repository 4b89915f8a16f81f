-- A value with the place behind it: two answers are the same only where both are.
--
--   some-pair, ok-pair   of an option, and of a result
--   err-same             refusals with their places
use Rattle.std.specs.Prelude.{ℕ, ◌≡◌, Option, Some, Result, Ok}
use Rattle.std.proofs.Common.{ap}
use Rattle.codec.specs.Refusals.{err_at}
use Rattle.codec.specs.declared.refusal.Refusal.{Refusal}
use Rattle.codec.specs.declared.refusal.Refused.{Refused}

-- an option's
pub some-pair : {A B : Type 0} {a c : A} {b d : B} → ◌≡◌ {A = Option (A × B)} (Some (a, b)) (Some (c, d)) → (a ≡ c) × (b ≡ d)
some-pair {A} {B} {a} {c} {b} {d} e =
    let q : ◌≡◌ {A = A × B} (a, b) (c, d) = cc in
    (ap (λ (p : A × B). p.0) q, ap (λ (p : A × B). p.1) q)

-- a result's
pub ok-pair : {A B E : Type 0} {a c : A} {b d : B} → ◌≡◌ {A = Result (A × B) E} (Ok (a, b)) (Ok (c, d)) → (a ≡ c) × (b ≡ d)
ok-pair {A} {B} {E} {a} {c} {b} {d} e =
    let q : ◌≡◌ {A = A × B} (a, b) (c, d) = cc in
    (ap (λ (p : A × B). p.0) q, ap (λ (p : A × B). p.1) q)

-- a refusal with its place is the same only where both are
pub err-same : {A : Type 0} {p q : ℕ} {x y : Refusal} → ◌≡◌ {A = Result A Refused} (err_at p x) (err_at q y) → (p ≡ q) × (x ≡ y)
err-same {A} {p} {q} {x} {y} e =
    let r : ◌≡◌ {A = Refused} (record { refusal = x; place = p }) (record { refusal = y; place = q }) = cc in
    (ap (λ (e : Refused). e.place) r, ap (λ (e : Refused). e.refusal) r)
