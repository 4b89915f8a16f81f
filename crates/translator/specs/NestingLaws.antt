-- Reading is the inverse of writing: what is read as a nest, and which refusals the other bytes get.
--
--   holds_plain                          the range of a number, as a test
--   read_through, read-fault, read-either   numbers read one by one: all of them, or the refusal of the first fault
--   accepted-read, refused-read          an accepted nest is read from its bytes; the refusals are given
--   NestOrRefusal, nest-answer           every list of bytes is an accepted nest, or has its refusal
use Rattle.std.specs.Prelude.{ℕ, ◌<◌, ◌≡◌, refl, ◌⊎◌, ◌↔◌, List, [], ◌∷◌, Bool, true, false, Some, None, length, leb, nat_abs, Ok, Err}
use Rattle.std.proofs.Common.{sym, ◌∙◌, ap, subst, inl, inr, arith, lt-ltb, le-ltb}
use Rattle.std.proofs.Math.Decide.{dec_lt}
use Rattle.codec.specs.TestLaws.{never}
use Rattle.codec.specs.Refusals.{is-numbered}
use Rattle.codec.specs.Numbers.{Number, number_at, signed_of}
use Rattle.codec.specs.NumberLaws.{AreBytes, Stands}
use Rattle.codec.specs.StandingLaws.{stands-all, all-stand}
use Rattle.codec.specs.declared.refusal.Refusal.{Refusal}
use Rattle.codec.specs.declared.refusal.Refusal.TheVariants.{BadNumber, OutOfRange}
use Rattle.engine.specs.Promise1.{NumberAt}
use Rattle.engine.specs.Checks.{first_of, Why}
use Rattle.engine.specs.AllowedLaws.{fails, leb-plain, and-plain}
use Rattle.engine.specs.FieldLaws.{number-there, there-number, no_number}
use Rattle.translator.specs.Fields.{Field, head_fields, rest_fields, Range, between, reach, range_of, holds, Holds, no_nest, put}
use Rattle.translator.specs.NestRules.{checks_of}
use Rattle.translator.specs.KeptRules.{rules-kept, rules-broken}
use Rattle.translator.specs.NestStands.{stood}
use Rattle.translator.specs.NestWritten.{standing}
use Rattle.translator.specs.Reading.{up_to, read_from, nest, unless, whole_at, nest_at, nest_bytes}
use Rattle.translator.specs.Reading
use Rattle.translator.specs.Acceptance.{InRange, Tidy, Accepted, Stand, Fault, AtFault, Refuses}
use Rattle.translator.specs.declared.nest.Nest.{Nest}

-- ---- numbers one by one

-- the test is the range
pub holds_plain : (r : Range) (n : ℕ) → (holds r n ≡ true) ↔ Holds r n
holds_plain (between least most) n = and-plain (leb least n) (leb n most) (leb-plain least n) (leb-plain n most)
holds_plain reach n = leb-plain (nat_abs (signed_of n)) 1048576

-- where all are there they are read
pub read_through : (s : List ℕ) (fs : List Field) (at to : ℕ) (m n : Nest) → Stand s fs at m to n → read_from s fs at m ≡ up_to n to
unfolding Stand read_from
read_through s [] at to m n h = λ i. up_to (h.1 i) (h.0 i)
read_through s (f ∷ fs) at to m n h =
    rw (number-there s at h.0 h.1 h.2, (holds_plain (range_of m.loops f) h.0).1 h.3)
    (read_through s fs h.1 to (put f h.0 m) n h.4)

-- a fault is refused
pub read-fault : (s : List ℕ) → AreBytes s → (x : Refusal) (at : ℕ) (fs : List Field) (place : ℕ) (m : Nest) → AtFault s x at fs place m
    → read_from s fs place m ≡ Reading.Read.refused x at
unfolding AtFault read_from
read-fault s p x at [] place m h = absurd h
read-fault s p x at (f ∷ fs) place m (Fault.unread e q h) = rw ((no_number s place p).1 h, is-numbered x 1 e refl, q)
read-fault s p x at (f ∷ fs) place m (Fault.beyond v to e q h k) =
    rw (number-there s place v to h, fails (holds (range_of m.loops f) v) (holds_plain (range_of m.loops f) v) k, is-numbered x 2 e refl, q)
read-fault s p x at (f ∷ fs) place m (Fault.later v to h k l) =
    rw (number-there s place v to h, (holds_plain (range_of m.loops f) v).1 k)
    (read-fault s p x at fs to (put f v m) l)

-- there is a fault, or all are there
pub read-either : (s : List ℕ) → AreBytes s → (fs : List Field) (at : ℕ) (m : Nest)
    → ((x : Refusal) × (place : ℕ) × AtFault s x place fs at m) ⊎ ((n : Nest) × (to : ℕ) × Stand s fs at m to n)
unfolding AtFault Stand
read-either s p [] at m = inr (m, at, (refl, refl))
read-either s p (f ∷ fs) at m = go (number_at s at) refl (λ v to. read-either s p fs to (put f v m))
  where
    Either : List Field → ℕ → Nest → Type 0
    Either fs at m = ((x : Refusal) × (place : ℕ) × AtFault s x place fs at m) ⊎ ((n : Nest) × (to : ℕ) × Stand s fs at m to n)

    held : (v to : ℕ) → NumberAt s at v to → (b : Bool) → holds (range_of m.loops f) v ≡ b → Either fs to (put f v m) → Either (f ∷ fs) at m
    held v to h false e r = inl (OutOfRange, at, Fault.beyond v to refl refl h (λ k. never (sym e ∙ (holds_plain (range_of m.loops f) v).1 k)))
    held v to h true e (inl (x, place, r)) = inl (x, place, Fault.later v to h ((holds_plain (range_of m.loops f) v).0 e) r)
    held v to h true e (inr (n, end, r)) = inr (n, end, (v, to, h, (holds_plain (range_of m.loops f) v).0 e, r))

    go : (r : Number) → number_at s at ≡ r → ((v to : ℕ) → Either fs to (put f v m)) → Either (f ∷ fs) at m
    go None e ih = inl (BadNumber, at, Fault.unread refl refl ((no_number s at p).0 e))
    go (Some (v, c)) e ih = held v c.at (there-number s at v c p e) (holds (range_of m.loops f) v) refl (ih v c.at)

-- ---- a nest

-- numbers that all stand there, and the byte behind them
nest-through : (s : List ℕ) (mid to : ℕ) (k n : Nest) → Stand s head_fields 0 no_nest mid k → Stand s (rest_fields k.loops) mid k to n
    → nest_at s ≡ whole_at s n to
unfolding nest_at
nest-through s mid to k n h l = rw (read_through s head_fields 0 mid no_nest k h, read_through s (rest_fields k.loops) mid to k n l)

-- a nest in range and tidy is read where its bytes stand
nest-read : (s : List ℕ) (to : ℕ) (n : Nest) → InRange n → Tidy n → Stands s 0 (nest_bytes n) to → nest_at s ≡ whole_at s n to
nest-read s to n r d h = let q = standing s to n r d h in nest-through s q.0 to q.1 n q.2 q.3

-- with nothing behind it
nest-whole : (s : List ℕ) (n : Nest) → InRange n → Tidy n → s ≡ nest_bytes n → nest_at s ≡ unless (first_of (checks_of n)) n
nest-whole s n r d e = nest-read s (length s) n r d (all-stand s (nest_bytes n) e) ∙ rw (le-ltb (length s) (length s) (omega arith))

-- an accepted nest is read from its bytes
pub accepted-read : (s : List ℕ) (n : Nest) → Accepted n → s ≡ nest_bytes n → nest_at s ≡ nest n
accepted-read s n a e = nest-whole s n a.range a.tidy e ∙ ap (λ w. unless w n) ((rules-kept n).1 (a.few, a.low-high, a.small))

-- the refusals are given
pub refused-read : (s : List ℕ) → AreBytes s → (x : Refusal) (at : ℕ) → Refuses s x at → nest_at s ≡ Reading.refused x at
unfolding nest_at
refused-read s p x at (Refuses.head h) = rw (read-fault s p x at head_fields 0 no_nest h)
refused-read s p x at (Refuses.rest m to h l) =
    rw (read_through s head_fields 0 to no_nest m h, read-fault s p x at (rest_fields m.loops) to m l)
refused-read s p x at (Refuses.trailing m r d h l e) = nest-read s at m r d h ∙ rw (lt-ltb at (length s) l, is-numbered x 2 e refl)
refused-read s p x at (Refuses.rule m r d e b q) = nest-whole s m r d e ∙ rw ((rules-broken m x).1 b, q)

-- what bytes can be: an accepted nest, or a refusal that is due
abbrev pub NestOrRefusal : List ℕ → Type 0
NestOrRefusal s = ((n : Nest) × Accepted n × (s ≡ nest_bytes n)) ⊎ ((x : Refusal) × (at : ℕ) × Refuses s x at)

-- every list of bytes is one of these
pub nest-answer : (s : List ℕ) → AreBytes s → NestOrRefusal s
nest-answer s p = head (read-either s p head_fields 0 no_nest)
  where
    ruled : (n : Nest) → InRange n → Tidy n → s ≡ nest_bytes n → (w : Why) → first_of (checks_of n) ≡ w → NestOrRefusal s
    ruled n r d e (Ok _) f =
        let k = (rules-kept n).0 f in
        inl (n, record { range = r; tidy = d; few = k.0; low-high = k.1; small = k.2 }, e)
    ruled n r d e (Err x) f = inr (x, 0, Refuses.rule n r d e ((rules-broken n x).0 f) refl)

    ended : (n : Nest) (to : ℕ) → InRange n → Tidy n → Stands s 0 (nest_bytes n) to → Dec (to < length s) → NestOrRefusal s
    ended n to r d h (yes l) = inr (OutOfRange, to, Refuses.trailing n r d h l refl)
    ended n to r d h (no l) =
        let e : to ≡ length s = omega (arith, h.within) in
        ruled n r d (stands-all s (nest_bytes n) (subst (Stands s 0 (nest_bytes n)) e h)) (first_of (checks_of n)) refl

    rest : (k : Nest) (mid : ℕ) → Stand s head_fields 0 no_nest mid k
        → ((x : Refusal) × (at : ℕ) × AtFault s x at (rest_fields k.loops) mid k) ⊎ ((n : Nest) × (to : ℕ) × Stand s (rest_fields k.loops) mid k to n)
        → NestOrRefusal s
    rest k mid h (inl (x, at, l)) = inr (x, at, Refuses.rest k mid h l)
    rest k mid h (inr (n, to, l)) = let q = stood s mid to k n h l in ended n to q.0 q.1 q.2 (dec_lt to (length s))

    head : ((x : Refusal) × (at : ℕ) × AtFault s x at head_fields 0 no_nest) ⊎ ((k : Nest) × (mid : ℕ) × Stand s head_fields 0 no_nest mid k) → NestOrRefusal s
    head (inl (x, at, h)) = inr (x, at, Refuses.head h)
    head (inr (k, mid, h)) = rest k mid h (read-either s p (rest_fields k.loops) mid k)
