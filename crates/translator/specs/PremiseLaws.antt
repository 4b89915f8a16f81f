-- Promise 3's premises, by a test or by bounds.
--
--   every-each, pairs-ordered, bytes-tested   tests over a list
--   premises-tested, ready        a nest that passes the tests
--   pos-le, lies_at               an element inside, by its numbers
--   parted-at, parted             a visit whose sources lie below its destination, by its numbers; a nest of such visits
use Prim.Native.Nat.{ℕ, zero, suc, ◌+◌, ◌≤◌}
use Rattle.std.specs.Prelude.{◌≡◌, refl, Bool, true, false, ◌&&◌, ◌||◌, ltb, ℤ, pos, negsuc, ◌+ℤ◌, ◌≤ℤ◌, ◌<ℤ◌}
use Rattle.std.proofs.Common.{inl, inr, ⊎_elim, arith, leb→le, le→leb, lt→ltb, ltb-true}
use mathlib.Core.List.{List, [], ◌∷◌}
use Rattle.std.specs.Int.Signed.{le_z, le_z_yes, <ℤ-≤ℤ_trans, clash_ℤ}
use Rattle.codec.specs.TestLaws.{both}
use Rattle.codec.specs.NumberLaws.{AreBytes}
use Rattle.engine.specs.Members.{Each, Ordered}
use Rattle.engine.specs.LoopLaws.{Within, loops-within}
use Rattle.engine.specs.Allowed.{Lies}
use Rattle.engine.specs.AllowedLaws.{test_plain}
use Rattle.translator.specs.Nests.{count_at, visits, width_of, place_of}
use Rattle.translator.specs.Reading.{nest, nest_at}
use Rattle.translator.specs.Promise3.{Inside, Byte, Apart}
use Rattle.translator.specs.PremiseTests.{every, every_pair, lies, clear, inside_test, apart_test, premises_test, Parted, Premises, Ready}
use Rattle.translator.specs.declared.nest.Access.{Access}
use Rattle.translator.specs.declared.nest.Nest.{Nest}

-- ---- tests over a list

module _ {A : Type 0} (z : A) where
  -- of each
  pub every-each : (p : A → Bool) (P : A → Type 0) → ((x : A) → p x ≡ true → P x) → (l : List A) → every p l ≡ true → Each z P l
  unfolding every
  every-each p P f [] e j h = absurd (omega arith)
  every-each p P f (x ∷ l) e zero h = f x (both (p x) (every p l) e).0
  every-each p P f (x ∷ l) e (suc j) h = every-each p P f l (both (p x) (every p l) e).1 j (omega arith)

  -- of each and every later one
  pub pairs-ordered : (p : A → A → Bool) (R : A → A → Type 0) → ((x y : A) → p x y ≡ true → R x y) → (l : List A) → every_pair p l ≡ true → Ordered z R l
  unfolding every_pair
  pairs-ordered p R f [] e i j q h = absurd (omega arith)
  pairs-ordered p R f (x ∷ l) e i zero q h = absurd (omega arith)
  pairs-ordered p R f (x ∷ l) e zero (suc j) q h = every-each (p x) (R x) (f x) l (both (every (p x) l) (every_pair p l) e).0 j (omega arith)
  pairs-ordered p R f (x ∷ l) e (suc i) (suc j) q h = pairs-ordered p R f l (both (every (p x) l) (every_pair p l) e).1 i j (omega arith) (omega arith)

-- bytes
pub bytes-tested : (s : List ℕ) → every (λ b. ltb b 256) s ≡ true → AreBytes s
unfolding every
bytes-tested [] e i = omega arith
bytes-tested (b ∷ s) e zero = ltb-true b 256 (both (ltb b 256) (every (λ b. ltb b 256) s) e).0
bytes-tested (b ∷ s) e (suc i) = bytes-tested s (both (ltb b 256) (every (λ b. ltb b 256) s) e).1 i

-- ---- one element, two elements

-- a test of order that passed
tested : (a b : ℤ) → le_z a b ≡ true → a ≤ℤ b
tested a b e = le_z_yes ((test_plain (le_z a b)).0 e)

-- an element inside
lies-tested : (len width : ℕ) (a : ℤ) → lies len width a ≡ true → Lies len width a
lies-tested len width a e =
    let q = both (le_z (pos 0) a) (le_z (a +ℤ pos width) (pos len)) e in
    record { least = tested (pos 0) a q.0; most = tested (a +ℤ pos width) (pos len) q.1 }

-- a byte of an element is below what lies behind the element
below_next : (width : ℕ) (a : ℤ) (x : ℕ) → Byte width a x → pos x <ℤ (a +ℤ pos width)
below_next width a x p = <ℤ-≤ℤ_trans (record { lt = lt→ltb x (suc x) (omega arith) }) p.most

-- an element behind another shares no byte with it
past : (width : ℕ) (a b : ℤ) → (a +ℤ pos width) ≤ℤ b → (x : ℕ) → Byte width a x → Byte width b x → ⊥
past width a b h x p q = clash_ℤ (<ℤ-≤ℤ_trans (below_next width a x p) h) q.least

-- two elements that share no byte
clear-tested : (width : ℕ) (a b : ℤ) → clear width a b ≡ true → (x : ℕ) → Byte width a x → Byte width b x → ⊥
clear-tested width a b e = go (le_z (a +ℤ pos width) b) refl e
  where
    go : (t : Bool) → le_z (a +ℤ pos width) b ≡ t → (t || le_z (b +ℤ pos width) a) ≡ true → (x : ℕ) → Byte width a x → Byte width b x → ⊥
    go true q e = past width a b (tested (a +ℤ pos width) b q)
    go false q e = λ x p r. past width b a (tested (b +ℤ pos width) a e) x r p

-- ---- the premises by tests

module _ (m : Nest) (len : ℕ) where
  -- a visit inside
  inside-tested : (v : List ℕ) → inside_test m len v ≡ true → Inside m len v
  inside-tested v e =
      let t : Access → Bool = λ a. lies len (width_of m) (place_of m a v) in
      let q = both (t m.first && t m.second) (t m.destination) e in
      let r = both (t m.first) (t m.second) q.0 in
      record {
        first = lies-tested len (width_of m) (place_of m m.first v) r.0;
        second = lies-tested len (width_of m) (place_of m m.second v) r.1;
        destination = lies-tested len (width_of m) (place_of m m.destination v) q.1;
      }

  -- two visits apart
  apart-tested : (u v : List ℕ) → apart_test m u v ≡ true → Apart m u v
  apart-tested u v e x w r =
      let t : Access → Bool = λ a. clear (width_of m) (place_of m m.destination u) (place_of m a v) in
      let q = both (t m.first) (t m.second) e in
      let c : (a : Access) → t a ≡ true → Byte (width_of m) (place_of m a v) x → ⊥ = λ a h. clear-tested (width_of m) (place_of m m.destination u) (place_of m a v) h x w in
      ⊎_elim (c m.first q.0) (c m.second q.1) r

  -- a nest that passes the tests
  pub premises-tested : premises_test m len ≡ true → Premises m len
  premises-tested e =
      let q = both (every (inside_test m len) (visits m)) (every_pair (apart_test m) (visits m)) e in
      record {
        inside = every-each [] (inside_test m len) (Inside m len) inside-tested (visits m) q.0;
        apart = pairs-ordered [] (apart_test m) (Apart m) apart-tested (visits m) q.1;
      }

-- bytes that are such a nest
pub ready : (s : List ℕ) (m : Nest) (len : ℕ) → every (λ b. ltb b 256) s ≡ true → nest_at s ≡ nest m → premises_test m len ≡ true → Ready s m len
ready s m len b r p = record { bytes = bytes-tested s b; read = r; premises = premises-tested m len p }

-- ---- the premises by bounds

-- numbers in order
pub pos-le : {a b : ℕ} → a ≤ b → pos a ≤ℤ pos b
pos-le {a} {b} h = le_z_yes (le→leb a b h)

-- an element inside, by its numbers
pub lies_at : {len width n : ℕ} → n + width ≤ len → Lies len width (pos n)
lies_at h = record { least = pos-le (omega arith); most = pos-le h }

-- a visit at which both sources lie below `low` and the destination from there on, by their numbers
pub parted-at : {m : Nest} {low len : ℕ} {v : List ℕ} (a b d : ℕ) → place_of m m.first v ≡ pos a → place_of m m.second v ≡ pos b
    → place_of m m.destination v ≡ pos d → a + width_of m ≤ low → b + width_of m ≤ low → low ≤ d → d + width_of m ≤ len → Parted m low len v
parted-at a b d e f g h k l q =
    record { first = rw e (lies_at h); second = rw f (lies_at k); least = rw g (pos-le l); most = rw g (pos-le q) }

-- at or above 0
least_zero : (low : ℕ) (a : ℤ) → pos low ≤ℤ a → pos 0 ≤ℤ a
least_zero low (pos n) h = pos-le (omega arith)
least_zero low (negsuc n) h = absurd h.le

-- at most a larger bound
most-more : (low len : ℕ) (a : ℤ) → low ≤ len → a ≤ℤ pos low → a ≤ℤ pos len
most-more low len (pos n) l h = pos-le (omega (arith, leb→le n low h.le))
most-more low len (negsuc n) l h = le_z_yes tt

-- inside a larger memory
lies_more : (low len width : ℕ) (a : ℤ) → low ≤ len → Lies low width a → Lies len width a
lies_more low len width a l h = record { least = h.least; most = most-more low len (a +ℤ pos width) l h.most }

module _ (m : Nest) (low len : ℕ) (l : low ≤ len) where
  -- a visit whose sources lie below `low` and its destination above lies inside
  parted-inside : (v : List ℕ) → Parted m low len v → Inside m len v
  parted-inside v p = record {
    first = lies_more low len (width_of m) (place_of m m.first v) l p.first;
    second = lies_more low len (width_of m) (place_of m m.second v) l p.second;
    destination = record { least = least_zero low (place_of m m.destination v) p.least; most = p.most };
  }

  -- an element below `low` shares no byte with one above
  parted-clear : (a b : ℤ) → Lies low (width_of m) a → pos low ≤ℤ b → (x : ℕ) → Byte (width_of m) b x → Byte (width_of m) a x → ⊥
  parted-clear a b h k x q p = clash_ℤ (<ℤ-≤ℤ_trans (<ℤ-≤ℤ_trans (below_next (width_of m) a x p) h.most) k) q.least

  -- so no visit reads what another writes
  parted-apart : (u v : List ℕ) → Parted m low len u → Parted m low len v → Apart m u v
  parted-apart u v p q x w (inl r) = parted-clear _ _ q.first p.least x w r
  parted-apart u v p q x w (inr r) = parted-clear _ _ q.second p.least x w r

  -- if every index vector within the counts is parted so, the premises hold
  pub parted : ((v : List ℕ) → Within (count_at m) 0 m.loops [] v → Parted m low len v) → Premises m len
  parted f =
      let each : Each [] (Parted m low len) (visits m) = unfold visits in (λ k h. f _ (loops-within (count_at m) 0 m.loops [] k h)) in
      record { inside = λ k h. parted-inside _ (each k h); apart = λ i j p h. parted-apart _ _ (each i (omega arith)) (each j h) }
