-- What the engine does for a calculation that is not refused is a completed calculation, and nothing else is.
--
--   did-effect          the effect is a completed calculation
--   did-one, did-taken  a completed calculation is the effect, and moves what the effect moves
use Rattle.std.specs.Prelude.{◌≡◌, ℕ, ◌+◌, ◌*◌, ◌/◌, ◌<◌, ◌≤◌, ◌⊎◌, List, [], ◌∷◌, map, length, take, drop, refl, Ok}
use Rattle.std.proofs.Math.Path.{sym, ap, ap₂}
use Rattle.std.proofs.Common.{◌∙◌, subst, inl, inr, ⊎_elim, arith, ext_get_or}
use Rattle.std.proofs.Math.Decide.{ℕ_discrete}
use Rattle.codec.specs.declared.operation.Calculation.{Calculation}
use Rattle.engine.specs.Chunks.{stops, held_in}
use Rattle.engine.specs.Memory.{fetch}
use Rattle.engine.specs.Lanes.{outcome}
use Rattle.engine.specs.Registers.{is_open, shape_of, next_stops, next_chunk, moved_to, stops_for, no_register, reg}
use Rattle.engine.specs.Calculate.{World, given, results, refusal_of, effect}
use Rattle.engine.specs.Allowed.{Source, Destination}
use Rattle.engine.specs.Good.{AllGood}
use Rattle.engine.specs.ComeLaws.{Next, next-is, past-lanes, past-nothing}
use Rattle.engine.specs.CalculationLaws.{Named}
use Rattle.engine.specs.CalculatesLaws.{calculates-clear}
use Rattle.engine.specs.EffectLaws.{effect-length, room}
use Rattle.engine.specs.StreamLaws.{moved_in, load_moves, shut-idle}
use Rattle.engine.specs.Histories.{Chunk, Gives, Becomes, Stores, Did}
use Rattle.engine.specs.AfterLaws.{Went, next-chunk, next_one, given-plain, given-open, open-load, is-source, loaded, went-plain, went_store, went-load, went-source, went-other, memory_kept, memory-stored}
use Rattle.engine.specs.declared.register.State.TheVariants.{Open}
use Rattle.engine.specs.declared.register.Register.{Register}

-- a list of no members
none : {A : Type 0} (l : List A) → length l ≤ 0 → l ≡ []
none [] h = refl
none (x ∷ l) h = absurd (omega arith)

module _ (vl : ℕ) (c : Calculation) (w : World) (g : AllGood vl w.machine) (nm : Named c) (l : 8 ≤ vl) where
  -- a register before it
  abbrev at : ℕ → Register
  at i = reg w.machine i

  -- it is one of the 32
  inside : (i : ℕ) → i < 32 → i < length w.machine.registers
  inside i h = omega (arith, g.all)

  module _ (e : refusal_of vl c w ≡ Ok tt) where
    -- the destination is plain or an open store
    sink : (i : ℕ) → i ≡ c.destination → Destination (at i)
    sink i p = subst (λ j. Destination (at j)) (sym p) ((calculates-clear vl c w).0 e).destination

    -- a source is plain or an open load
    source : (i : ℕ) → (i ≡ c.first) ⊎ (i ≡ c.second) → Source (at i)
    source i s =
        ⊎_elim (λ p. subst (λ j. Source (at j)) (sym p) ((calculates-clear vl c w).0 e).first) (λ p. subst (λ j. Source (at j)) (sym p) ((calculates-clear vl c w).0 e).second) s

    -- a store has room for the result
    roomy : (i : ℕ) → i ≡ c.destination → (at i).state ≡ Open → length (results vl c w) ≤ length (next_chunk vl (at i))
    roomy i p =
        subst (λ j. (at j).state ≡ Open → length (results vl c w) ≤ length (next_chunk vl (at j))) (sym p) (λ o. room vl c w e (ap is_open o))

    -- a register after the effect
    becomes : (i : ℕ) → i < 32 → Becomes vl c w (results vl c w) i (moved_in vl c w i) (reg (effect vl c w).machine i)
    becomes i h = go (ℕ_discrete i c.destination) (ℕ_discrete i c.first) (ℕ_discrete i c.second)
      where
        b : i < length w.machine.registers
        b = inside i h

        n : ℕ
        n = length (results vl c w)

        stored : i ≡ c.destination → (at i).state ≡ Open
            → Went vl c w i b (take (stops_for (at i) n) (drop (at i).moved (stops (shape_of (at i))))) (moved_to ((at i).moved + stops_for (at i) n) (at i)) → Next vl (at i)
            → Becomes vl c w (results vl c w) i (moved_in vl c w i) (reg (effect vl c w).machine i)
        stored p o t (Next.elements e f) =
            let k = past-lanes (at i) n e in
            Becomes.store p o e (t.0 ∙ ap (λ j. take j (drop (at i).moved (stops (shape_of (at i))))) k) (t.1 ∙ ap (λ j. moved_to ((at i).moved + j) (at i)) k)
        stored p o t (Next.nothing e f x) =
            let k = past-nothing (at i) n e in
            Becomes.past p o e (none (results vl c w) (omega (arith, roomy i p o, ap length x))) (t.0 ∙ ap (λ j. take j (drop (at i).moved (stops (shape_of (at i))))) k)
            (t.1 ∙ ap (λ j. moved_to ((at i).moved + j) (at i)) k)

        to : i ≡ c.destination → Destination (at i) → Becomes vl c w (results vl c w) i (moved_in vl c w i) (reg (effect vl c w).machine i)
        to p (Destination.plain s) = let t = went-plain vl c w i b p s in Becomes.plain p s t.0 t.1
        to p (Destination.store o k) =
            stored p o (went_store vl c w i b p (sink i p) o l (g.good i h) (roomy i p o)) (next-is vl (at i) l (g.good i h) (ap is_open o))

        from : ¬ (i ≡ c.destination) → (i ≡ c.first) ⊎ (i ≡ c.second) → Source (at i)
            → Becomes vl c w (results vl c w) i (moved_in vl c w i) (reg (effect vl c w).machine i)
        from n f (Source.plain s) = let t = went-source vl c w i b n f s in Becomes.source n f s t.0 t.1
        from n f (Source.load o k) =
            let t = went-load vl c w i b n f (source i f) o l (g.good i h) in
            Becomes.load n f o (subst (Chunk (shape_of (at i)) (vl / (at i).width) (at i).moved) (sym t.0) (next-chunk vl (at i) l (g.good i h) o))
            (t.1 ∙ ap (loaded w.memory (at i)) (sym t.0))

        go : Dec (i ≡ c.destination) → Dec (i ≡ c.first) → Dec (i ≡ c.second)
            → Becomes vl c w (results vl c w) i (moved_in vl c w i) (reg (effect vl c w).machine i)
        go (yes p) f s = to p (sink i p)
        go (no n) (yes f) s = from n (inl f) (source i (inl f))
        go (no n) (no f) (yes s) = from n (inr s) (source i (inr s))
        go (no n) (no f) (no s) = let t = went-other vl c w i b n f s in Becomes.other n f s t.0 t.1

    -- and a register that is so is that
    becomes-one : (i : ℕ) → i < 32 → (vs : List (List ℕ)) (q : Register) → Becomes vl c w (results vl c w) i vs q
        → (vs ≡ moved_in vl c w i) × (q ≡ reg (effect vl c w).machine i)
    becomes-one i h vs q (Becomes.plain p s x y) = let t = went-plain vl c w i (inside i h) p s in (x ∙ sym t.0, y ∙ sym t.1)
    becomes-one i h vs q (Becomes.store p o e x y) =
        let t = went_store vl c w i (inside i h) p (sink i p) o l (g.good i h) (roomy i p o) in
        let k = past-lanes (at i) (length (results vl c w)) e in
        (x ∙ sym (t.0 ∙ ap (λ j. take j (drop (at i).moved (stops (shape_of (at i))))) k), y ∙ sym (t.1 ∙ ap (λ j. moved_to ((at i).moved + j) (at i)) k))
    becomes-one i h vs q (Becomes.past p o e z x y) =
        let t = went_store vl c w i (inside i h) p (sink i p) o l (g.good i h) (roomy i p o) in
        let k = past-nothing (at i) (length (results vl c w)) e in
        (x ∙ sym (t.0 ∙ ap (λ j. take j (drop (at i).moved (stops (shape_of (at i))))) k), y ∙ sym (t.1 ∙ ap (λ j. moved_to ((at i).moved + j) (at i)) k))
    becomes-one i h vs q (Becomes.load n f o x y) =
        let t = went-load vl c w i (inside i h) n f (source i f) o l (g.good i h) in
        let m : vs ≡ next_stops vl (at i) = next_one vl (at i) l (g.good i h) o vs x in
        (m ∙ sym t.0, y ∙ ap (loaded w.memory (at i)) m ∙ sym t.1)
    becomes-one i h vs q (Becomes.source n f s x y) = let t = went-source vl c w i (inside i h) n f s in (x ∙ sym t.0, y ∙ sym t.1)
    becomes-one i h vs q (Becomes.other n f s x y) = let t = went-other vl c w i (inside i h) n f s in (x ∙ sym t.0, y ∙ sym t.1)

    -- the lanes of a source
    gives : (i : ℕ) → i < 32 → (i ≡ c.first) ⊎ (i ≡ c.second) → Gives vl w.memory (at i) (moved_in vl c w i) (given vl w.memory (at i))
    unfolding next_chunk
    gives i h f = go (source i f)
      where
        go : Source (at i) → Gives vl w.memory (at i) (moved_in vl c w i) (given vl w.memory (at i))
        go (Source.plain s) = Gives.plain s (shut-idle vl c w i (ap is_open s)) (given-plain vl w.memory (at i) s)
        go (Source.load o k) =
            let m : moved_in vl c w i ≡ next_stops vl (at i) = load_moves vl c w i (open-load (at i) (source i f) o) (is-source c i f) in
            Gives.load o (subst (Chunk (shape_of (at i)) (vl / (at i).width) (at i).moved) (sym m) (next-chunk vl (at i) l (g.good i h) o))
            (given-open vl w.memory (at i) o ∙ ap (λ us. map (fetch (at i).pattern (at i).width w.memory) (held_in (shape_of (at i)) us)) (sym m))

    -- and lanes that are so are those
    gives_one : (i : ℕ) → i < 32 → (vs : List (List ℕ)) (xs : List ℕ) → Gives vl w.memory (at i) vs xs → xs ≡ given vl w.memory (at i)
    unfolding next_chunk
    gives_one i h vs xs (Gives.plain s x y) = y ∙ sym (given-plain vl w.memory (at i) s)
    gives_one i h vs xs (Gives.load o x y) =
        y
        ∙ ap (λ us. map (fetch (at i).pattern (at i).width w.memory) (held_in (shape_of (at i)) us)) (next_one vl (at i) l (g.good i h) o vs x)
        ∙ sym (given-open vl w.memory (at i) o)

    -- memory after the effect
    stores : Stores c w (results vl c w) (moved_in vl c w c.destination) (effect vl c w).memory
    stores = go (sink c.destination refl)
      where
        go : Destination (at c.destination) → Stores c w (results vl c w) (moved_in vl c w c.destination) (effect vl c w).memory
        go (Destination.plain s) = Stores.nothing s (memory_kept vl c w s)
        go (Destination.store o k) = Stores.lanes o (memory-stored vl c w (sink c.destination refl) o l (g.good c.destination nm.destination) (roomy c.destination refl o))

    -- and memory that is so is that
    stores_one : (memory : List ℕ) → Stores c w (results vl c w) (moved_in vl c w c.destination) memory → memory ≡ (effect vl c w).memory
    stores_one memory (Stores.nothing s x) = x ∙ sym (memory_kept vl c w s)
    stores_one memory (Stores.lanes o x) = x ∙ sym (memory-stored vl c w (sink c.destination refl) o l (g.good c.destination nm.destination) (roomy c.destination refl o))

    -- the effect is a completed calculation
    pub did-effect : Did vl c w (effect vl c w) (moved_in vl c w)
    unfolding results
    did-effect = record {
      calculates = (calculates-clear vl c w).0 e;
      first = given vl w.memory (at c.first);
      second = given vl w.memory (at c.second);
      gives-first = gives c.first nm.first (inl refl);
      gives-second = gives c.second nm.second (inr refl);
      out = results vl c w;
      calculated = refl;
      registers = effect-length vl c w ∙ g.all;
      becomes = becomes;
      stores = stores;
    }

  module _ (v : World) (taken : ℕ → List (List ℕ)) (d : Did vl c w v taken) where
    -- a completed calculation is not refused
    not-refused : refusal_of vl c w ≡ Ok tt
    not-refused = (calculates-clear vl c w).1 d.calculates

    -- its lanes are the engine's
    out_one : d.out ≡ results vl c w
    unfolding results
    out_one =
        d.calculated
        ∙ ap₂ (outcome c.task (8 * (at c.first).width)) (gives_one not-refused c.first nm.first _ _ d.gives-first)
        (gives_one not-refused c.second nm.second _ _ d.gives-second)

    -- so is each register, and what it moves
    each : (i : ℕ) → i < 32 → (taken i ≡ moved_in vl c w i) × (reg v.machine i ≡ reg (effect vl c w).machine i)
    each i h =
        becomes-one not-refused i h (taken i) (reg v.machine i)
        (subst (λ xs. Becomes vl c w xs i (taken i) (reg v.machine i)) out_one (d.becomes i h))

    -- a completed calculation moves what the effect moves
    pub did-taken : (i : ℕ) → i < 32 → taken i ≡ moved_in vl c w i
    did-taken i h = (each i h).0

    -- it leaves the registers that the effect leaves
    same-registers : v.machine.registers ≡ (effect vl c w).machine.registers
    same-registers =
        ext_get_or no_register v.machine.registers (effect vl c w).machine.registers (d.registers ∙ sym (effect-length vl c w ∙ g.all))
        (λ i h. (each i (omega (arith, d.registers))).1)

    -- and the memory
    same_memory : v.memory ≡ (effect vl c w).memory
    same_memory =
        stores_one not-refused v.memory
        (subst (λ vs. Stores c w (results vl c w) vs v.memory) (did-taken c.destination nm.destination)
        (subst (λ xs. Stores c w xs (taken c.destination) v.memory) out_one d.stores))

    -- so it is the effect
    pub did-one : v ≡ effect vl c w
    did-one = ap₂ (λ x y. record { machine = record { registers = x }; memory = y }) same-registers same_memory
