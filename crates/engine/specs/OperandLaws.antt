-- Operands against what a calculation says of registers.
--
--   operand-outside                                            14 of an operand
--   source-count, source-outside, source-lanes, source-after   an operand that is a source
--   target-count, target-outside, target-after, target-memory  one that is the destination
use Rattle.std.specs.Prelude.{◌≡◌, ℕ, ◌/◌, ◌<◌, ◌≤◌, min, Bool, true, false, cond, ◌&&◌, List, [], ◌∷◌, map, length, take, nat_lt}
use Rattle.std.proofs.Math.Path.{refl, sym, ap}
use Rattle.std.proofs.Common.{◌∙◌, arith, length-take, lt-ltb, le-ltb}
use Rattle.std.proofs.lemmas.List.{length-map}
use Rattle.std.proofs.Math.Decide.{dec_lt}
use Rattle.codec.specs.declared.refusal.Role.{Role}
use Rattle.engine.specs.StopLaws.{held-front}
use Rattle.std.proofs.Math.Seq.{sets}
use Rattle.engine.specs.Memory.{fetch, stored, contents, holding, spot, little_endian}
use Rattle.engine.specs.Checks.{Check, first_of}
use Rattle.engine.specs.Calculate.{given, inside_check, read_from, written_to, memory_after}
use Rattle.engine.specs.Registers.{is_open, shape_of, next_stops, next_chunk, moved_by}
use Rattle.engine.specs.Stretches.{addresses_of, stored_at, within-elements, lane-elements, fetched-elements, stored-elements}
use Rattle.engine.specs.EffectLaws.{length-lanes}
use Rattle.engine.specs.Operands.{Operand, front_of, Operates, outside_at, lanes_of}
use Rattle.engine.specs.declared.stream.Pattern.{Pattern}
use Rattle.engine.specs.declared.register.Register.{Register}

-- how many lanes a source gives
pub given-length : (vl : ℕ) (memory : List ℕ) (r : Register) → length (given vl memory r) ≡ cond (is_open r.state) (length (next_chunk vl r)) r.valid
unfolding given
given-length vl memory r = go (is_open r.state)
  where
    go : (b : Bool) → length (cond b (map (fetch r.pattern r.width memory) (next_chunk vl r)) (contents r)) ≡ cond b (length (next_chunk vl r)) r.valid
    go true = length-map (next_chunk vl r) (fetch r.pattern r.width memory)
    go false = length-lanes r.lanes r.width 0 r.valid

-- 14 at the addresses of the elements that an open stream would move is 14 of these
operand-outside : (r : Register) (o : Operand) (vs : List (List ℕ)) → o.live ≡ is_open r.state
    → (is_open r.state ≡ true → o.addresses ≡ addresses_of r.pattern r.width vs)
    → (role : Role) (len : ℕ) (cs : List Check) → first_of (outside_at role len r.width o.live o.addresses ∷ cs) ≡ first_of (inside_check role len r vs ∷ cs)
unfolding first_of
operand-outside r o vs told addressed role len cs = go (is_open r.state) refl
  where
    go : (b : Bool) → is_open r.state ≡ b → first_of (outside_at role len r.width o.live o.addresses ∷ cs) ≡ first_of (inside_check role len r vs ∷ cs)
    go true e = rw (told ∙ e, e, addressed e, within-elements len r.width r.pattern vs, lane-elements len r.width r.pattern vs)
    go false e = rw (told ∙ e, e)

module _ (vl : ℕ) (memory : List ℕ) (r : Register) (o : Operand) (h : Operates r (vl / r.width) r.valid o) where
  -- as many lanes as it gives
  pub source-count : o.count ≡ length (given vl memory r)
  unfolding next_chunk next_stops
  source-count = h.counted ∙ sym (given-length vl memory r)

  -- an element of it outside memory
  pub source-outside : (role : Role) (len : ℕ) (cs : List Check) → first_of (outside_at role len r.width o.live o.addresses ∷ cs) ≡ first_of (inside_check role len r (next_chunk vl r) ∷ cs)
  unfolding next_chunk next_stops
  source-outside role len cs = operand-outside r o (front_of r (vl / r.width)) h.told h.addressed role len cs

  -- its lanes
  pub source-lanes : lanes_of r o memory ≡ given vl memory r
  unfolding given next_chunk next_stops
  source-lanes = go (is_open r.state) refl
    where
      go : (b : Bool) → is_open r.state ≡ b → lanes_of r o memory ≡ given vl memory r
      go true e = rw (h.told ∙ e, e, h.addressed e) (fetched-elements memory r.width r.pattern (front_of r (vl / r.width)))
      go false e = rw (h.told ∙ e, e)

  -- the register after it
  pub source-after : cond o.live (holding r.width (given vl memory r) o.after) r ≡ read_from vl memory r
  unfolding read_from holding moved_by next_chunk next_stops
  source-after = go (is_open r.state) refl
    where
      go : (b : Bool) → is_open r.state ≡ b → cond o.live (holding r.width (given vl memory r) o.after) r ≡ read_from vl memory r
      go true e =
          let n : o.count ≡ length (front_of r (vl / r.width)) = rw e at h.counted in
          let a : o.after ≡ moved_by o.count r = rw e at h.after in
          rw (h.told ∙ e, e, a, n)
      go false e = rw (h.told ∙ e, e)

-- a store of so many lanes looks at no more of the elements than that
pub stored-front : (p : Pattern) (width : ℕ) (memory : List ℕ) (vs : List (List ℕ)) (xs : List ℕ) → stored p width memory (take (length xs) vs) xs ≡ stored p width memory vs xs
unfolding stored
stored-front p width memory [] [] = refl
stored-front p width memory [] (x ∷ xs) = refl
stored-front p width memory (v ∷ vs) [] = refl
stored-front p width memory (v ∷ vs) (x ∷ xs) = stored-front p width (sets memory (spot p width v) (little_endian width x)) vs xs

-- the smaller of n and m is below n exactly if m is
less-or-not : (n m : ℕ) → nat_lt (min n m) n ≡ nat_lt m n
less-or-not n m = go (dec_lt m n)
  where
    go : Dec (m < n) → nat_lt (min n m) n ≡ nat_lt m n
    go (yes h) = lt-ltb (min n m) n (omega arith) ∙ sym (lt-ltb m n h)
    go (no h) = le-ltb (min n m) n (omega arith) ∙ sym (le-ltb m n (omega arith))

module _ (vl n : ℕ) (d : Register) (o : Operand) (h : Operates d n n o) (l : is_open d.state ≡ true → n ≤ vl / d.width) where
  -- the front of the next chunk that the store takes
  front : is_open d.state ≡ true → take n (next_chunk vl d) ≡ front_of d n
  unfolding next_chunk next_stops
  front e = held-front (shape_of d) (vl / d.width) n d.moved (l e)

  -- the lanes exceed the store's next chunk
  pub target-count : (o.live && nat_lt o.count n) ≡ (is_open d.state && nat_lt (length (next_chunk vl d)) n)
  target-count = go (is_open d.state) refl
    where
      go : (b : Bool) → is_open d.state ≡ b → (o.live && nat_lt o.count n) ≡ (is_open d.state && nat_lt (length (next_chunk vl d)) n)
      go true e =
          let c : o.count ≡ min n (length (next_chunk vl d)) = (rw e at h.counted) ∙ ap length (sym (front e)) ∙ length-take n (next_chunk vl d) in
          rw (h.told ∙ e, e, c) (less-or-not n (length (next_chunk vl d)))
      go false e = rw (h.told ∙ e, e)

  -- an element that it would write lies outside memory
  pub target-outside : (role : Role) (len : ℕ) (cs : List Check) → first_of (outside_at role len d.width o.live o.addresses ∷ cs) ≡ first_of (inside_check role len d (take n (next_chunk vl d)) ∷ cs)
  target-outside role len cs =
      operand-outside d o (take n (next_chunk vl d)) h.told (λ e. h.addressed e ∙ ap (addresses_of d.pattern d.width) (sym (front e))) role len cs

  module _ (xs : List ℕ) (long : length xs ≡ n) (room : is_open d.state ≡ true → o.count ≡ n) where
    -- the register after it
    pub target-after : (width : ℕ) → cond o.live o.after (holding width xs d) ≡ written_to width xs d
    unfolding written_to
    target-after width = go (is_open d.state) refl
      where
        go : (b : Bool) → is_open d.state ≡ b → cond o.live o.after (holding width xs d) ≡ written_to width xs d
        go true e = rw (h.told ∙ e, e) ((rw e at h.after) ∙ ap (λ k. moved_by k d) (room e ∙ sym long))
        go false e = rw (h.told ∙ e, e)

    -- memory after it
    pub target-memory : (memory : List ℕ) → cond o.live (stored_at memory d.width o.addresses xs) memory ≡ memory_after vl xs memory d
    unfolding memory_after
    target-memory memory = go (is_open d.state) refl
      where
        go : (b : Bool) → is_open d.state ≡ b → cond o.live (stored_at memory d.width o.addresses xs) memory ≡ memory_after vl xs memory d
        go true e =
            rw (h.told ∙ e, e, h.addressed e)
            (stored-elements memory d.width d.pattern (front_of d n) xs
            ∙ ap (λ vs. stored d.pattern d.width memory vs xs) (sym (front e) ∙ ap (λ k. take k (next_chunk vl d)) (sym long))
            ∙ stored-front d.pattern d.width memory (next_chunk vl d) xs)
        go false e = rw (h.told ∙ e, e)
