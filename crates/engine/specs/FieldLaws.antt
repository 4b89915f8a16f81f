-- Numbers read one by one, in the plain words of Promise 1: what stands in a sheet of bytes is what is read there.
--
--   number-there, there-number, no_number   a number, read and standing
--   holds, alone-plain, holds_plain         the range of a number, as a test
--   reads, Through                          numbers read one by one, each in its range; that all are there
--   reads-fault, reads-through, reads-either, reads-gives   what they give: the refusal of the first fault, or what follows them
use Rattle.std.specs.Prelude.{◌≡◌, ℕ, Bool, true, false, not, ◌&&◌, ◌||◌, ◌⊎◌, ◌↔◌, List, [], ◌∷◌, take, drop, ◌==◌, nat_le, nat_lt, slice_index, unsigned_abs, refl, Some, None}
use Rattle.std.proofs.Common.{sym, ◌∙◌, ap, inl, inr, ⊎_elim, arith, eqb-true, eq-eqb, ltb-true, lt-ltb}
use Rattle.codec.specs.TestLaws.{never, or-second}
use Rattle.codec.specs.Refusals.{is-numbered}
use Rattle.codec.specs.Numbers.{number_at, signed_of, Number}
use Rattle.codec.specs.NumberLaws.{AreBytes, number-below, number-written, number_read}
use Rattle.codec.specs.StandingLaws.{stands-split}
use Rattle.codec.specs.Operations.{field, is_register, is_reach, has_one_source, is_second}
use Rattle.codec.specs.declared.number.Cursor.{Cursor}
use Rattle.codec.specs.declared.refusal.Refusal.{Refusal}
use Rattle.codec.specs.declared.refusal.Refusal.TheVariants.{BadNumber, OutOfRange}
use Rattle.engine.specs.AllowedLaws.{fails, leb-plain, and-plain}
use Rattle.engine.specs.Promise1.{NumberAt, NoNumberAt, Range, OneSource, Holds, NumberFault, NumbersFault}

-- ---- numbers

-- a number that stands there is read
pub number-there : (s : List ℕ) (at n to : ℕ) → NumberAt s at n to → number_at s at ≡ Some (n, record { at = to })
number-there s at n to h =
    let q = stands-split h.stands in
    rw q.1 at (number-written s (take at s) (drop to s) n h.small q.0) ∙ ap (λ k. Some (n, record { at = k })) (sym h.stands.behind)

-- one that is read stands there
pub there-number : (s : List ℕ) (at n : ℕ) (c : Cursor) → AreBytes s → number_at s at ≡ Some (n, c) → NumberAt s at n c.at
there-number s at n c p e = record { small = number-below s at n c e; stands = number_read s at n c p e }

-- none is read exactly where none stands
pub no_number : (s : List ℕ) (at : ℕ) → AreBytes s → (number_at s at ≡ None) ↔ NoNumberAt s at
no_number s at p = (λ e n to h. let z = number-there s at n to h in let y : ◌≡◌ {A = ℕ} 0 1 = cc in omega arith, go (number_at s at) refl)
  where
    go : (r : Number) → number_at s at ≡ r → NoNumberAt s at → r ≡ None
    go None e h = refl
    go (Some (n, c)) e h = absurd (h n c.at (there-number s at n c p e))

-- ---- ranges

-- a number in its range, as a test
abbrev pub holds : Range → List ℕ → ℕ → Bool
holds Range.any before n = true
holds (Range.up_to most) before n = nat_le n most
holds (Range.between least most) before n = nat_le least n && nat_le n most
holds Range.reach before n = is_reach (signed_of n)
holds Range.source before n = is_second (slice_index before 2) (slice_index before 0) n

-- a calculation of one source only
one-source : (code : ℕ) → (has_one_source code ≡ true) ↔ OneSource code
one-source code = (
  λ e. there (code == 0) refl e,
  ⊎_elim (λ p. ap has_one_source p) (λ p. or-second (code == 0) (nat_lt 7 code) (lt-ltb 7 code p)),
)
  where
    there : (b : Bool) → (code == 0) ≡ b → (b || nat_lt 7 code) ≡ true → OneSource code
    there true e h = inl (eqb-true code 0 e)
    there false e h = inr (ltb-true 7 code h)

-- its second source
pub alone-plain : (code first n : ℕ) → ((not (has_one_source code) || n == first) ≡ true) ↔ (OneSource code → n ≡ first)
alone-plain code first n = (λ e z. eqb-true n first (rw ((one-source code).1 z) at e), λ h. back (has_one_source code) refl h)
  where
    back : (b : Bool) → has_one_source code ≡ b → (OneSource code → n ≡ first) → (not b || n == first) ≡ true
    back true e h = eq-eqb n first (h ((one-source code).0 e))
    back false e h = refl

-- the test is the range
pub holds_plain : (f : Range) (before : List ℕ) (n : ℕ) → (holds f before n ≡ true) ↔ Holds f before n
holds_plain Range.any before n = (λ e. tt, λ h. refl)
holds_plain (Range.up_to most) before n = leb-plain n most
holds_plain (Range.between least most) before n = and-plain (nat_le least n) (nat_le n most) (leb-plain least n) (leb-plain n most)
holds_plain Range.reach before n = leb-plain (unsigned_abs (signed_of n)) 1048576
holds_plain Range.source before n =
    and-plain (is_register n) (not (has_one_source (slice_index before 2)) || n == slice_index before 0) (leb-plain n 31) (alone-plain (slice_index before 2) (slice_index before 0) n)

-- ---- numbers one by one

-- numbers read one by one, each checked for its range before the next; `end` is what follows them
unfoldable pub reads : {A : Type 0} → (Refusal → A) → List ℕ → ℕ → List ℕ → List Range → (List ℕ → ℕ → A) → A
reads refused s at before [] end = end before at
reads refused s at before (f ∷ fs) end = field refused (number_at s at) (holds f before) λ n to. reads refused s to (n ∷ before) fs end

-- all of them are there, each in its range
unfoldable pub Through : List ℕ → ℕ → List ℕ → List Range → List ℕ → ℕ → Type 0
Through s at before [] all to = (before ≡ all) × (at ≡ to)
Through s at before (f ∷ fs) all to =
    (n : ℕ) × (next : ℕ) × NumberAt s at n next × Holds f before n × Through s next (n ∷ before) fs all to

module _ {A : Type 0} (refused : Refusal → A) (s : List ℕ) (p : AreBytes s) (end : List ℕ → ℕ → A) where
  -- one number that stands there, in its range
  next-there : (at n to : ℕ) (before : List ℕ) (f : Range) (rest : ℕ → ℕ → A) → NumberAt s at n to → Holds f before n
      → field refused (number_at s at) (holds f before) rest ≡ rest n to
  next-there at n to before f rest h k = rw (number-there s at n to h, (holds_plain f before n).1 k)

  -- a fault is refused
  pub reads-fault : (x : Refusal) (at : ℕ) (before : List ℕ) (fs : List Range) → NumbersFault s x at before fs → reads refused s at before fs end ≡ refused x
  unfolding reads NumbersFault
  reads-fault x at before [] h = absurd h
  reads-fault x at before (f ∷ fs) (NumberFault.unread e h) = rw ((no_number s at p).1 h, is-numbered x 1 e refl)
  reads-fault x at before (f ∷ fs) (NumberFault.beyond n to e h k) =
      rw (number-there s at n to h, fails (holds f before n) (holds_plain f before n) k, is-numbered x 2 e refl)
  reads-fault x at before (f ∷ fs) (NumberFault.later n to h k l) =
      next-there at n to before f (λ n to. reads refused s to (n ∷ before) fs end) h k ∙ reads-fault x to (n ∷ before) fs l

  -- where all are there, what follows them is the answer
  pub reads-through : (at : ℕ) (before : List ℕ) (fs : List Range) (all : List ℕ) (to : ℕ) → Through s at before fs all to
      → reads refused s at before fs end ≡ end all to
  unfolding reads Through
  reads-through at before [] all to h = λ i. end (h.0 i) (h.1 i)
  reads-through at before (f ∷ fs) all to h =
      next-there at h.0 h.1 before f (λ n to. reads refused s to (n ∷ before) fs end) h.2 h.3
      ∙ reads-through h.1 (h.0 ∷ before) fs all to h.4

-- there is a fault, or all are there
pub reads-either : (s : List ℕ) (at : ℕ) (before : List ℕ) (fs : List Range) → AreBytes s
    → ((x : Refusal) × NumbersFault s x at before fs) ⊎ ((all : List ℕ) × (to : ℕ) × Through s at before fs all to)
unfolding NumbersFault Through
reads-either s at before [] p = inr (before, at, (refl, refl))
reads-either s at before (f ∷ fs) p = go (number_at s at) refl (λ n to. reads-either s to (n ∷ before) fs p)
  where
    Rest : ℕ → ℕ → Type 0
    Rest n to = ((x : Refusal) × NumbersFault s x to (n ∷ before) fs) ⊎ ((all : List ℕ) × (end : ℕ) × Through s to (n ∷ before) fs all end)

    held : (n to : ℕ) → NumberAt s at n to → (b : Bool) → holds f before n ≡ b → Rest n to
        → ((x : Refusal) × NumbersFault s x at before (f ∷ fs)) ⊎ ((all : List ℕ) × (to : ℕ) × Through s at before (f ∷ fs) all to)
    held n to h false e r = inl (OutOfRange, NumberFault.beyond n to refl h (λ k. never (sym e ∙ (holds_plain f before n).1 k)))
    held n to h true e (inl r) = inl (r.0, NumberFault.later n to h ((holds_plain f before n).0 e) r.1)
    held n to h true e (inr r) = inr (r.0, r.1, (n, to, h, (holds_plain f before n).0 e, r.2))

    go : (r : Number) → number_at s at ≡ r → ((n to : ℕ) → Rest n to)
        → ((x : Refusal) × NumbersFault s x at before (f ∷ fs)) ⊎ ((all : List ℕ) × (to : ℕ) × Through s at before (f ∷ fs) all to)
    go None e ih = inl (BadNumber, NumberFault.unread refl ((no_number s at p).0 e))
    go (Some (n, c)) e ih = held n c.at (there-number s at n c p e) (holds f before n) refl (ih n c.at)

-- an answer is the refusal of a fault, or what follows them
pub reads-gives : {A : Type 0} (refused : Refusal → A) (s : List ℕ) (p : AreBytes s) (end : List ℕ → ℕ → A) (a : A) (at : ℕ) (before : List ℕ) (fs : List Range)
    → reads refused s at before fs end ≡ a
    → ((x : Refusal) × NumbersFault s x at before fs × (refused x ≡ a)) ⊎ ((all : List ℕ) × (to : ℕ) × Through s at before fs all to × (end all to ≡ a))
reads-gives refused s p end a at before fs e = go (reads-either s at before fs p)
  where
    go : ((x : Refusal) × NumbersFault s x at before fs) ⊎ ((all : List ℕ) × (to : ℕ) × Through s at before fs all to)
        → ((x : Refusal) × NumbersFault s x at before fs × (refused x ≡ a)) ⊎ ((all : List ℕ) × (to : ℕ) × Through s at before fs all to × (end all to ≡ a))
    go (inl (x, h)) = inl (x, h, sym (reads-fault refused s p end x at before fs h) ∙ e)
    go (inr (all, to, h)) = inr (all, to, h, sym (reads-through refused s p end at before fs all to h) ∙ e)
