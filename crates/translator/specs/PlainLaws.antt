-- One chunk and the plain loop: a chunk that is read whole and then written whole does what the plain loop's visits of it do, if none of
-- them reads what an earlier one wrote.
--
--   three_of                        a nest's operation, width and patterns
--   free                           elements that share no byte
--   one_chunk                      one chunk
use Rattle.std.specs.Prelude.{ℕ, suc, ◌+◌, ◌*◌, ◌≤◌, ◌<◌, ◌≡◌, ◌⊎◌, get_or, ℤ, pos, negsuc, ◌≤ℤ◌}
use Rattle.std.proofs.Math.Path.{refl, sym, ap, ap₂}
use Rattle.std.proofs.Common.{◌∙◌, ⊎_elim, arith, le→leb}
use Rattle.std.proofs.Math.Logic.{inl, inr}
use mathlib.Core.List.{List, [], ◌∷◌, map}
use Rattle.std.proofs.Math.Decide.{dec_lt}
use Rattle.std.proofs.lemmas.List.Edits.{sets}
use Rattle.codec.specs.declared.header.Width.{Width}
use Rattle.codec.specs.declared.header.Width.TheVariants.{B, H, W, D}
use Rattle.codec.specs.Headers.{bytes_of}
use Rattle.engine.specs.Loops.{natural}
use Rattle.engine.specs.Members.{Each}
use Rattle.engine.specs.Memory.{value_at, little_endian, spot, fetch, stored}
use Rattle.engine.specs.ByteLaws.{length-little, value-sets}
use Rattle.engine.specs.Lanes.{lane, lanewise}
use Rattle.engine.specs.InStep.{Three, chunk_done}
use Rattle.translator.specs.Nests.{width_of, place_of, visited, plain_over}
use Rattle.translator.specs.NestSheets.{pattern_for}
use Rattle.translator.specs.Promise3.{Inside, Byte, Apart, NoneRead}
use Rattle.translator.specs.DescriptorLaws.{place-address}
use Rattle.translator.specs.declared.nest.Access.{Access}
use Rattle.translator.specs.declared.nest.Nest.{Nest}

-- a nest's operation, width and patterns, as the engine's three streams in step
abbrev pub three_of : Nest → Three
three_of m = record {
  action = m.action;
  width = width_of m;
  first = pattern_for m m.first;
  second = pattern_for m m.second;
  destination = pattern_for m m.destination;
}

-- ---- elements that share no byte

-- w bytes from k on and w bytes from j on have none in common
abbrev Free : ℕ → ℕ → ℕ → Type 0
Free w k j = (k + w ≤ j) ⊎ (j + w ≤ k)

-- byte x is one of w bytes from k on
byte_of : (w k x : ℕ) → k ≤ x → x < k + w → Byte w (pos k) x
byte_of w k x h l = record { least = record { le = le→leb k x h }; most = record { le = le→leb (suc x) (k + w) l } }

-- two elements at 0 or more that share no byte
free : (w : ℕ) (a b : ℤ) → 1 ≤ w → pos 0 ≤ℤ a → pos 0 ≤ℤ b → ((x : ℕ) → Byte w b x → Byte w a x → ⊥) → Free w (natural a) (natural b)
free w (negsuc k) b o h l f = absurd h.le
free w (pos k) (negsuc j) o h l f = absurd l.le
free w (pos k) (pos j) o h l f = go (dec_lt j (k + w)) (dec_lt k (j + w)) (dec_lt k j)
  where
    go : Dec (j < k + w) → Dec (k < j + w) → Dec (k < j) → Free w k j
    go (no p) q r = inl (omega arith)
    go (yes p) (no q) r = inr (omega arith)
    go (yes p) (yes q) (yes r) = absurd (f j (byte_of w j j (omega arith) (omega arith)) (byte_of w k j (omega arith) p))
    go (yes p) (yes q) (no r) = absurd (f k (byte_of w j k (omega arith) q) (byte_of w k k (omega arith) (omega arith)))

-- a width is 1 at least
width_some : (w : Width) → 1 ≤ bytes_of w
width_some B = omega arith
width_some H = omega arith
width_some W = omega arith
width_some D = omega arith

-- ---- one chunk

module _ (m : Nest) (few : m.loops ≤ 7) (len : ℕ) where
  -- its patterns
  abbrev b : Three
  b = three_of m

  -- where the element of a visit lies
  abbrev at : Access → List ℕ → ℕ
  at a v = spot (pattern_for m a) (width_of m) v

  -- which is its place
  at_place : (a : Access) (v : List ℕ) → at a v ≡ natural (place_of m a v)
  at_place a v = ap natural (place-address m a v few)

  -- both sources of each visit are apart from j
  abbrev Unread : ℕ → List (List ℕ) → Type 0
  Unread j vs = Each [] (λ v. Free (width_of m) (at m.first v) j × Free (width_of m) (at m.second v) j) vs

  -- what the lanes of visits give
  abbrev given : List ℕ → List (List ℕ) → List ℕ
  given memory vs =
      lanewise (lane m.action (8 * width_of m)) (map (fetch b.first (width_of m) memory) vs) (map (fetch b.second (width_of m) memory) vs)

  -- they give the same after what none of them reads was written
  given-unread : (j x : ℕ) (memory : List ℕ) (vs : List (List ℕ)) → Unread j vs → given memory vs ≡ given (sets memory j (little_endian (width_of m) x)) vs
  unfolding lanewise
  given-unread j x memory [] h = refl
  given-unread j x memory (v ∷ vs) h =
      ap₂ ◌∷◌ (ap₂ (lane m.action (8 * width_of m)) (kept (h 0 (omega arith)).0) (kept (h 0 (omega arith)).1))
      (given-unread j x memory vs (λ k l. h (suc k) (omega arith)))
    where
      kept : {k : ℕ} → Free (width_of m) k j → value_at memory k (width_of m) ≡ value_at (sets memory j (little_endian (width_of m) x)) k (width_of m)
      kept {k} f =
          sym (value-sets (width_of m) k (little_endian (width_of m) x) memory j (⊎_elim (λ p. inl p) (λ p. inr (omega (arith, length-little (width_of m) x))) f))

  -- a visit that reads nothing that u wrote is apart from it
  apart-unread : (u v : List ℕ) → Inside m len u → Inside m len v → Apart m u v
      → Free (width_of m) (at m.first v) (at m.destination u) × Free (width_of m) (at m.second v) (at m.destination u)
  apart-unread u v i k h =
      rw (at_place m.first v, at_place m.second v, at_place m.destination u) (
        free (width_of m) _ _ (width_some m.width) k.first.least i.destination.least (λ x p q. h x p (inl q)),
        free (width_of m) _ _ (width_some m.width) k.second.least i.destination.least (λ x p q. h x p (inr q)),
      )

  -- one lane read and written is one visit
  one-visit : (memory v : List ℕ)
      → sets memory (at m.destination v)
      (little_endian (width_of m) (lane m.action (8 * width_of m) (fetch b.first (width_of m) memory v) (fetch b.second (width_of m) memory v)))
      ≡ visited m memory v
  one-visit memory v = rw (at_place m.first v, at_place m.second v, at_place m.destination v)

  -- one chunk: all lanes read, then all written, is what the plain loop's visits of it do
  pub one_chunk : (vs : List (List ℕ)) (memory : List ℕ) → Each [] (Inside m len) vs → NoneRead m vs → chunk_done b memory vs ≡ plain_over m memory vs
  unfolding stored plain_over lanewise
  one_chunk [] memory i h = refl
  one_chunk (v ∷ vs) memory i h =
      ap (stored b.destination (width_of m) _ vs)
      (given-unread (at m.destination v) _ memory vs
      (λ k l. apart-unread v (get_or vs k []) (i 0 (omega arith)) (i (suc k) (omega arith)) (h 0 (suc k) (omega arith) (omega arith))))
      ∙ ap (λ y. chunk_done b y vs) (one-visit memory v)
      ∙ one_chunk vs (visited m memory v) (λ k l. i (suc k) (omega arith)) (λ j k l n. h (suc j) (suc k) (omega arith) (omega arith))
