-- A stream that reads nothing of what is stored reads what memory held at the start (`Steady` of specs/StreamSums).
--
--   memory_kept, unstored-steady     a history that stores nothing
--   stored-clear                     a value apart from elements that were stored
--   shut-stays, given-open           a register that is not open at the start never is; one that is open was given a stream
--   entry_kept, apart-steady         a sheet whose body stores nothing that the stream reads
use Rattle.std.proofs.Common.{◌≡◌, ℕ, zero, suc, ◌+◌, ◌%◌, ◌<◌, ◌≤◌, ◌⊎◌, List, [], ◌∷◌, map, length, get_or, take, sym, refl, ap, ◌∙◌, subst, ap₂, inl, inr, ⊎_elim, mod-lt, arith}
use lib.ListN.{get_or-map}
use lib.Seq.{sets}
use Rattle.codec.specs.declared.header.Kind.TheVariants.{Store}
use Rattle.codec.specs.declared.operation.Calculation.{Calculation}
use Rattle.codec.specs.declared.operation.Operation.{Operation}
use Rattle.engine.specs.Chunks.{held_in}
use Rattle.engine.specs.Memory.{value_at, little_endian, spot, fetch, stored, holding}
use Rattle.engine.specs.ByteLaws.{length-little, value-sets}
use Rattle.engine.specs.Registers.{reg}
use Rattle.engine.specs.Calculate.{World}
use Rattle.engine.specs.Allowed.{Destination}
use Rattle.engine.specs.HistoryLaws.{AllNamed}
use Rattle.engine.specs.Histories.{Becomes, Stores, Entry, Follow, world_at, moved_of, in_turn}
use Rattle.engine.specs.Run.{Progress}
use Rattle.engine.specs.Given.{Stream, elements_in, pattern_of, Given, none, going, ended, given_for}
use Rattle.engine.specs.GivenLaws.{Has, before-has}
use Rattle.engine.specs.Promise1.{DoneBefore, world}
use Rattle.engine.specs.Promise2.{Streams}
use Rattle.engine.specs.StreamSums.{stream_width, all_of, values_of, no_entry, entry_at, calculation_of, DidIn, Steady, spot_of, Clear, StoresApart}
use Rattle.engine.specs.SumLaws.{did_at, after-at, named-entry, At, held_place, held-past}
use Rattle.engine.specs.declared.stream.Pattern.{Pattern}
use Rattle.engine.specs.declared.register.State.{State}
use Rattle.engine.specs.declared.register.State.TheVariants.{Plain, Open}
use Rattle.engine.specs.declared.register.Register.{Register}
use Rattle.engine.specs.declared.register.Machine.{Machine}
use Rattle.engine.specs.declared.run.Placed.{Placed}

-- a register has one state
not-open : {X : Type 0} (k : State) → k ≡ Plain → k ≡ Open → X
not-open k p o = absurd (let z : ◌≡◌ {A = ℕ} 0 1 = cc in omega arith)

-- ---- nothing stored

module _ (vl : ℕ) (w v : World) (es : List Entry) (f : Follow vl w es v)
    (plain : (k : ℕ) → k < length es → (reg (world_at w es k).machine (calculation_of (entry_at es k)).destination).state ≡ Plain)
  where
    -- memory is as it was
    memory_kept : (k : ℕ) → k ≤ length es → (world_at w es k).memory ≡ w.memory
    unfolding world_at
    memory_kept zero h = refl
    memory_kept (suc k) h = ap (λ (x : World). x.memory) (after-at es w k h) ∙ go (did_at vl es w v k f h).stores ∙ memory_kept k (omega arith)
      where
        go : {out : List ℕ} {vs : List (List ℕ)} → Stores (calculation_of (entry_at es k)) (world_at w es k) out vs (entry_at es k).after.memory
            → (entry_at es k).after.memory ≡ (world_at w es k).memory
        go (Stores.nothing p x) = x
        go (Stores.lanes o x) = not-open _ (plain k h) o

    -- a history in which every destination is plain is steady
    pub unstored-steady : (t : Stream) (i : ℕ) → Steady t w es i
    unstored-steady t i k h = ap (λ memory. values_of t memory (elements_in t ((entry_at es k).taken i))) (memory_kept k (omega arith))

-- ---- what is stored lies apart

-- a value apart from elements that were stored
stored-clear : (p : Pattern) (width k n : ℕ) (vs : List (List ℕ)) (xs memory : List ℕ)
    → ((j : ℕ) → j < length vs → (k + n ≤ spot p width (get_or vs j [])) ⊎ (spot p width (get_or vs j []) + width ≤ k))
    → value_at (stored p width memory vs xs) k n ≡ value_at memory k n
unfolding stored
stored-clear p width k n [] xs memory h = refl
stored-clear p width k n (v ∷ vs) [] memory h = refl
stored-clear p width k n (v ∷ vs) (x ∷ xs) memory h =
    stored-clear p width k n vs xs (sets memory (spot p width v) (little_endian width x)) (λ j l. h (suc j) (omega arith))
    ∙ value-sets n k (little_endian width x) memory (spot p width v) (⊎_elim (λ q. inl q) (λ q. inr (omega (arith, length-little width x))) (h 0 (omega arith)))

-- the same of each, made of each member
map_same : {A B : Type 0} (f g : A → B) (z : A) (l : List A) → ((j : ℕ) → j < length l → f (get_or l j z) ≡ g (get_or l j z)) → map f l ≡ map g l
map_same f g z [] h = refl
map_same f g z (x ∷ l) h = ap₂ ◌∷◌ (h 0 (omega arith)) (map_same f g z l (λ j p. h (suc j) (omega arith)))

-- a register that is not open is not open after a completed calculation
shut-after : {vl : ℕ} {c : Calculation} {w : World} {out : List ℕ} {i : ℕ} {vs : List (List ℕ)} {q : Register} → Becomes vl c w out i vs q
    → ¬ ((reg w.machine i).state ≡ Open) → ¬ (q.state ≡ Open)
unfolding holding
shut-after (Becomes.plain p s x y) n o = not-open _ (ap (λ (r : Register). r.state) y ∙ s) o
shut-after (Becomes.store p s t x y) n o = n s
shut-after (Becomes.past p s t z x y) n o = n s
shut-after (Becomes.load p f s x y) n o = n s
shut-after (Becomes.source p f s x y) n o = n (ap (λ (r : Register). r.state) (sym y) ∙ o)
shut-after (Becomes.other p f g x y) n o = n (ap (λ (r : Register). r.state) (sym y) ∙ o)

-- so it never is
shut-stays : (vl : ℕ) (es : List Entry) (w v : World) (i k : ℕ) → i < 32 → Follow vl w es v → ¬ ((reg w.machine i).state ≡ Open)
    → ¬ ((reg (world_at w es k).machine i).state ≡ Open)
unfolding Follow world_at
shut-stays vl es w v i zero h f n = n
shut-stays vl [] w v i (suc k) h f n = n
shut-stays vl (e ∷ es) w v i (suc k) h f n = shut-stays vl es e.after v i k h f.1 (shut-after (f.0.becomes i h) n)

module _ (vl : ℕ) (s memory : List ℕ) (os : List Operation) (at : ℕ) (m : Machine) (loop : ℕ) (cs : List Placed) (r : Progress) (b : DoneBefore s os at m)
    (q : Streams vl os m memory loop cs r) (some : 1 ≤ length cs) (nm : AllNamed (map (λ (e : Entry). e.calculation) q.ran.entries))
  where
    abbrev w : World
    w = world m memory

    abbrev es : List Entry
    es = q.ran.entries

    -- a register that is open at a moment was given a stream
    given-open : (i k : ℕ) → i < 32 → (reg (world_at w es k).machine i).state ≡ Open → (u : Stream) × (given_for i os ≡ ended u)
    given-open i k h o = go (given_for i os) refl (before-has s os at m i b h)
      where
        never : ¬ ((reg m i).state ≡ Open) → ⊥
        never n = shut-stays vl es w r.world i k h q.ran.follow n o

        go : (g : Given) → given_for i os ≡ g → Has g (reg m i) → (u : Stream) × (given_for i os ≡ ended u)
        go none e x = absurd (never (λ y. not-open _ x y))
        go (going u) e x = absurd (never (λ y. absurd (let z : ◌≡◌ {A = ℕ} 0 1 = cc x.1 in omega arith)))
        go (ended u) e x = (u, e)

    module _ (t : Stream) (apart : StoresApart t os cs) where
      -- an entry leaves its value as it was
      entry_kept : (k n : ℕ) → k < length es → n < length (all_of t)
          → value_at (entry_at es k).after.memory (spot_of t n) (stream_width t) ≡ value_at (world_at w es k).memory (spot_of t n) (stream_width t)
      entry_kept k n h l = go d.stores
        where
          d : DidIn vl (world_at w es k) (entry_at es k)
          d = did_at vl es w r.world k q.ran.follow h

          to : ℕ
          to = (calculation_of (entry_at es k)).destination

          below : to < 32
          below = (named-entry es k nm h).destination

          turn : (entry_at es k).calculation ≡ in_turn cs k
          turn = sym (get_or-map (λ (e : Entry). e.calculation) es k no_entry) ∙ q.ran.turns k h

          is_store : (u : Stream) → At u w es to → Destination (reg (world_at w es k).machine to) → (reg (world_at w es k).machine to).state ≡ Open → u.header.kind ≡ Store
          is_store u a (Destination.plain p) o = not-open _ p o
          is_store u a (Destination.store p y) o = sym (a k (omega arith)).kind ∙ y

          go : Stores (calculation_of (entry_at es k)) (world_at w es k) d.out ((entry_at es k).taken to) (entry_at es k).after.memory
              → value_at (entry_at es k).after.memory (spot_of t n) (stream_width t) ≡ value_at (world_at w es k).memory (spot_of t n) (stream_width t)
          go (Stores.nothing p x) = ap (λ y. value_at y (spot_of t n) (stream_width t)) x
          go (Stores.lanes o x) =
              let (u, g) = given-open to k below o in
              let a : At u w es to = q.moments to below u g in
              let clear : Clear t u = apart (k % length cs) (mod-lt k some) u (ap (λ (p : Placed). given_for p.calculation.destination os) (sym turn) ∙ g) (is_store u a d.calculates.destination o) in
              let y = a k (omega arith) in
              ap (λ z. value_at z (spot_of t n) (stream_width t)) (x ∙ (λ z. stored (y.pattern z) (y.width z) (world_at w es k).memory (held_in (y.pattern z).shape ((entry_at es k).taken to)) d.out))
              ∙ stored-clear (pattern_of u) (stream_width u) (spot_of t n) (stream_width t) (elements_in u ((entry_at es k).taken to)) d.out (world_at w es k).memory
              (λ j p.
              subst (λ v. (spot_of t n + stream_width t ≤ spot (pattern_of u) (stream_width u) v) ⊎ (spot (pattern_of u) (stream_width u) v + stream_width u ≤ spot_of t n))
              (sym (held_place u w es to a k h j p))
              (clear n (length (elements_in u (moved_of (take k es) to)) + j) l (omega (arith, held-past u w es to a k h))))

      -- so at every moment it is what it was at the start
      element-kept : (k n : ℕ) → k ≤ length es → n < length (all_of t)
          → value_at (world_at w es k).memory (spot_of t n) (stream_width t) ≡ value_at memory (spot_of t n) (stream_width t)
      unfolding world_at
      element-kept zero n h l = refl
      element-kept (suc k) n h l =
          ap (λ (x : World). value_at x.memory (spot_of t n) (stream_width t)) (after-at es w k h) ∙ entry_kept k n h l ∙ element-kept k n (omega arith) l

      -- what the stream reads is what memory held at the start
      pub apart-steady : (i : ℕ) → At t w es i → Steady t w es i
      apart-steady i a k h =
          map_same _ _ [] (elements_in t ((entry_at es k).taken i))
          (λ j p.
          subst (λ v. fetch (pattern_of t) (stream_width t) (world_at w es k).memory v ≡ fetch (pattern_of t) (stream_width t) memory v)
          (sym (held_place t w es i a k h j p))
          (element-kept k (length (elements_in t (moved_of (take k es) i)) + j) (omega arith) (omega (arith, held-past t w es i a k h))))
