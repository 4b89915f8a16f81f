-- nest_at gives a nest exactly for the bytes of an accepted one, and every refusal exactly where it is due.
--
--   nesting
use Prim.Native.Nat.{ℕ}
use mathlib.Core.Path.{◌≡◌, subst}
use mathlib.Core.Logic.{inl, inr}
use mathlib.Core.List.{List}
use native.Mathlib.Omega.{arith}
use Rattle.codec.specs.NumberLaws.{AreBytes}
use Rattle.codec.specs.declared.refusal.Refusal.{Refusal}
use Rattle.translator.specs.Reading.{nest, nest_at, nest_bytes}
use Rattle.translator.specs.Reading
use Rattle.translator.specs.Acceptance.{Accepted, Refuses, Nesting}
use Rattle.translator.specs.NestingLaws.{accepted-read, refused-read, NestOrRefusal, nest-answer}
use Rattle.translator.specs.declared.nest.Nest.{Nest}

pub nesting : (s : List ℕ) → AreBytes s → Nesting s
nesting s p = record {
  is-nest = λ m. (is-nest m (nest-answer s p), λ h. accepted-read s m h.0 h.1);
  is-refused = λ x at. (is-refused x at (nest-answer s p), refused-read s p x at);
}
  where
    is-nest : (m : Nest) → NestOrRefusal s → nest_at s ≡ nest m → Accepted m × (s ≡ nest_bytes m)
    is-nest m (inl (n, a, e)) f =
        let q = accepted-read s n a e in
        let z : n ≡ m = cc in
        subst (λ k. Accepted k × (s ≡ nest_bytes k)) z (a, e)
    is-nest m (inr (x, at, h)) f = absurd (let q = refused-read s p x at h in let z : ◌≡◌ {A = ℕ} 0 1 = cc in omega arith)

    is-refused : (x : Refusal) (at : ℕ) → NestOrRefusal s → nest_at s ≡ Reading.refused x at → Refuses s x at
    is-refused x at (inl (n, a, e)) f = absurd (let q = accepted-read s n a e in let z : ◌≡◌ {A = ℕ} 0 1 = cc in omega arith)
    is-refused x at (inr (y, to, h)) f =
        let q = refused-read s p y to h in
        let z : y ≡ x = cc in
        let w : to ≡ at = cc in
        subst (λ k. Refuses s k at) z (subst (Refuses s y) w h)
