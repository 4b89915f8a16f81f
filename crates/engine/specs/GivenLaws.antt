-- What the operations of a sheet gave for a register is what the register has.
--
--   Bears, InRegister   a register with a stream's descriptors; a stream that has gone past some of its stops
--   Has, fresh-has              a register has what was given; a fresh one, nothing
--   filled_more, plus_dimension, dimensioned-given, plus_modifier, modified-given   one dimension, one modifier more
--   own-has, other-given, after-has   after an operation: its own register; every other; any
--   turns-have, before-has      after operations done in turn; from 32 fresh registers
use Rattle.std.specs.Prelude.{◌≡◌, ℕ, suc, ◌+◌, ◌-◌, ◌<◌, ◌≤◌, Bool, true, false, cond, ◌≢◌, List, [], ◌∷◌, ◌++◌, map, length, drop, replicate, ◌==◌, nat_le, slice_set, refl}
use Rattle.std.proofs.Common.{sym, ◌∙◌, ap, subst, append_assoc, arith, length-append, length-set, eqb-true, eq-eqb, ne_eqb}
use Rattle.std.proofs.lemmas.List.{length-map, get_or-replicate}
use Rattle.std.proofs.Math.Seq.{set-append_seam}
use Rattle.std.proofs.lemmas.Bool.{eqb-false}
use Rattle.codec.specs.Headers.{bytes_of}
use Rattle.codec.specs.declared.operation.Dimension.{Dimension}
use Rattle.codec.specs.declared.operation.Modifier as given
use Rattle.codec.specs.declared.operation.Operation.{Operation}
use Rattle.codec.specs.declared.operation.Operation.TheVariants as op
use Rattle.engine.specs.Chunks.{height}
use Rattle.engine.specs.Addresses.{no_bytes, no_elements}
use Rattle.engine.specs.Registers.{no_modifier, fresh, no_register, shape_of, state_after, moved_to, fresh_machine, reg}
use Rattle.engine.specs.Configure.{Covers, patterned, dimensioned, owned, modified, register_of, applied}
use Rattle.engine.specs.GoodLaws.{put_same, put_other}
use Rattle.engine.specs.Allowed.{Accepts}
use Rattle.engine.specs.Given.{Stream, stops_of, filled, pattern_of, Given, none, going, ended, with_dimension, with_modifier, with_end, given_by, given_from, given_for}
use Rattle.engine.specs.Promise1.{after, Turns, DoneBefore}
use Rattle.engine.specs.declared.stream.Modifier.{Modifier}
use Rattle.engine.specs.declared.stream.Pattern.{Pattern}
use Rattle.engine.specs.declared.register.State.{State}
use Rattle.engine.specs.declared.register.State.TheVariants.{Plain, Configuring, Open, Finished}
use Rattle.engine.specs.declared.register.Register.{Register}
use Rattle.engine.specs.declared.register.Machine.{Machine}

-- a register with a stream's descriptors
pub record Bears (t : Stream) (r : Register) : Type 0 where
  pub pattern : r.pattern ≡ pattern_of t
  pub kind : r.kind ≡ t.header.kind
  pub width : r.width ≡ bytes_of t.header.width
  pub most : length t.dimensions ≤ 7

-- the stream t in a register, when it has gone past the stops so_far
pub record InRegister (t : Stream) (so_far : List (List ℕ)) (r : Register) : Type 0 where
  pub bears : Bears t r
  pub moved : r.moved ≡ length so_far
  pub each-once : so_far ++ drop (length so_far) (stops_of t) ≡ stops_of t
  pub state : r.state ≡ state_after (pattern_of t).shape (length so_far)
  pub height : r.height ≡ height (pattern_of t).shape (length so_far)
  pub covers : Covers (pattern_of t).shape.dims (pattern_of t).shape.coupling

-- a register has what was given: no stream; one that is being configured; one that is ended, of which nothing has moved
abbrev pub Has : Given → Register → Type 0
Has none r = r.state ≡ Plain
Has (going t) r = Bears t r × (r.state ≡ Configuring) × (r.moved ≡ 0)
Has (ended t) r = InRegister t [] r

-- a fresh machine has nothing
pub fresh-has : (i : ℕ) → i < 32 → Has none (reg fresh_machine i)
fresh-has i h = ap (λ r. r.state) (get_or-replicate 32 i fresh no_register h)

-- ---- one more

-- one more in a list that an array holds, filled up behind
pub filled_more : {A : Type 0} (n : ℕ) (z : A) (xs : List A) (k : ℕ) (x : A) → k ≡ length xs → k < n
    → slice_set (filled n z xs) k x ≡ filled n z (xs ++ (x ∷ []))
filled_more n z xs k x e h =
    let m : n - length xs ≡ suc (n - (length xs + 1)) = omega arith in
    ap (λ j. slice_set (xs ++ replicate j z) k x) m
    ∙ ap (λ j. slice_set (xs ++ (z ∷ replicate (n - (length xs + 1)) z)) j x) e
    ∙ set-append_seam xs z (replicate (n - (length xs + 1)) z) x
    ∙ sym (append_assoc xs (x ∷ []) (replicate (n - (length xs + 1)) z))
    ∙ ap (λ j. (xs ++ (x ∷ [])) ++ replicate (n - j) z) (sym (length-append xs (x ∷ [])))

-- a map over one more
map_more : {A B : Type 0} (f : A → B) (xs : List A) (x : A) → map f xs ++ (f x ∷ []) ≡ map f (xs ++ (x ∷ []))
map_more f [] x = refl
map_more f (y ∷ xs) x = ap (λ l. f y ∷ l) (map_more f xs x)

-- the same where the array holds one field of each
field-more : {A B : Type 0} (n : ℕ) (z : B) (f : A → B) (xs : List A) (x : A) → length xs < n
    → slice_set (filled n z (map f xs)) (length xs) (f x) ≡ filled n z (map f (xs ++ (x ∷ [])))
field-more n z f xs x h = filled_more n z (map f xs) (length xs) (f x) (sym (length-map xs f)) h ∙ ap (filled n z) (map_more f xs x)

-- one dimension more
abbrev pub plus_dimension : Dimension → Stream → Stream
plus_dimension d t = record { header = t.header; base = t.base; dimensions = t.dimensions ++ (d ∷ []); modifiers = t.modifiers }

-- the pattern of a stream with one dimension more
pub dimensioned-given : (d : Dimension) (t : Stream) → length t.dimensions < 7 → dimensioned d (pattern_of t) ≡ pattern_of (plus_dimension d t)
dimensioned-given d t h = λ i. record {
  shape = record {
    dims = sym (length-append t.dimensions (d ∷ [])) i;
    sizes = field-more 7 0 (λ (x : Dimension). x.size) t.dimensions d h i;
    mods = length t.modifiers;
    modifiers = filled 8 no_modifier t.modifiers;
    coupling = t.header.coupling;
  };
  base = t.base;
  offsets = field-more 7 no_bytes (λ (x : Dimension). x.offset) t.dimensions d h i;
  strides = field-more 7 no_elements (λ (x : Dimension). x.stride) t.dimensions d h i;
}

-- one modifier more
abbrev pub plus_modifier : Modifier → Stream → Stream
plus_modifier m t = record { header = t.header; base = t.base; dimensions = t.dimensions; modifiers = t.modifiers ++ (m ∷ []) }

-- the pattern of a stream with one modifier more
pub modified-given : (m : given.Modifier) (t : Stream) → length t.modifiers < 8
    → modified m (pattern_of t) ≡ pattern_of (plus_modifier (owned m (pattern_of t).shape) t)
modified-given m t h =
    let own : Modifier = owned m (pattern_of t).shape in
    λ i. record {
      shape = record {
        dims = length t.dimensions;
        sizes = filled 7 0 (map (λ (x : Dimension). x.size) t.dimensions);
        mods = sym (length-append t.modifiers (own ∷ [])) i;
        modifiers = filled_more 8 no_modifier t.modifiers (length t.modifiers) own refl h i;
        coupling = t.header.coupling;
      };
      base = t.base;
      offsets = filled 7 no_bytes (map (λ (x : Dimension). x.offset) t.dimensions);
      strides = filled 7 no_elements (map (λ (x : Dimension). x.stride) t.dimensions);
    }

-- ---- after an operation

-- a plain register is not being configured
plain-not : {X : Type 0} (k : State) → k ≡ Plain → k ≡ Configuring → X
plain-not k e f = absurd (let z : ◌≡◌ {A = ℕ} 0 1 = cc in omega arith)

-- nor is one whose stream is ended
ended-not : {X : Type 0} (b : Bool) (k : State) → k ≡ cond b Finished Open → k ≡ Configuring → X
ended-not true k e f = absurd (let z : ◌≡◌ {A = ℕ} 0 1 = cc in omega arith)
ended-not false k e f = absurd (let z : ◌≡◌ {A = ℕ} 0 1 = cc in omega arith)

-- for a register that is being configured, a stream is being given
while-going : (g : Given) (r : Register) (P : Given → Type 0) → r.state ≡ Configuring → Has g r
    → ((t : Stream) → Bears t r → r.moved ≡ 0 → P (going t)) → P g
while-going none r P c h f = plain-not r.state h c
while-going (going t) r P c h f = f t h.0 h.2
while-going (ended t) r P c h f = ended-not (nat_le (length (stops_of t)) 0) r.state h.state c

-- after a dimension
dimension-has : (d : Dimension) (t : Stream) (r : Register) → Bears t r → (shape_of r).dims < 7 → Bears (plus_dimension d t) (patterned (dimensioned d r.pattern) r)
dimension-has d t r b h =
    let n : length t.dimensions < 7 = subst (λ (p : Pattern). p.shape.dims < 7) b.pattern h in
    record {
      pattern = ap (dimensioned d) b.pattern ∙ dimensioned-given d t n;
      kind = b.kind;
      width = b.width;
      most = omega (arith, length-append t.dimensions (d ∷ []));
    }

-- after a modifier
modifier-has : (m : given.Modifier) (t : Stream) (r : Register) → Bears t r → (shape_of r).mods < 8
    → Bears (plus_modifier (owned m (pattern_of t).shape) t) (patterned (modified m r.pattern) r)
modifier-has m t r b h =
    let n : length t.modifiers < 8 = subst (λ (p : Pattern). p.shape.mods < 8) b.pattern h in
    record { pattern = ap (modified m) b.pattern ∙ modified-given m t n; kind = b.kind; width = b.width; most = b.most }

-- after end: nothing has moved
end-has : (t : Stream) (r : Register) → Bears t r → Covers (shape_of r).dims (shape_of r).coupling → InRegister t [] (moved_to 0 r)
end-has t r b k =
    let p : r.pattern ≡ pattern_of t = b.pattern in
    record {
      bears = record { pattern = p; kind = b.kind; width = b.width; most = b.most };
      moved = refl;
      each-once = refl;
      state = λ j. state_after (p j).shape 0;
      height = λ j. height (p j).shape 0;
      covers = subst (λ (q : Pattern). Covers q.shape.dims q.shape.coupling) p k;
    }

-- an operation's own register has what it gives
pub own-has : (o : Operation) (g : Given) (r : Register) → Accepts o r → Has g r → Has (given_by (register_of o) o g) (applied o r)
own-has (op.Open h base) g r a k =
    rw (eq-eqb h.register h.register refl) (record { pattern = refl; kind = refl; width = refl; most = omega arith }, refl, refl)
own-has (op.Dimension d) g r a k =
    rw (eq-eqb d.register d.register refl)
    (while-going g r (λ y. Has (with_dimension d y) (applied (op.Dimension d) r)) a.configuring k
    (λ t b e. (dimension-has d t r b a.room, a.configuring, e)))
own-has (op.Modifier m) g r a k =
    rw (eq-eqb m.register m.register refl)
    (while-going g r (λ y. Has (with_modifier m y) (applied (op.Modifier m) r)) a.configuring k
    (λ t b e. (modifier-has m t r b a.room, a.configuring, e)))
own-has (op.End i) g r a k =
    rw (eq-eqb i i refl) (while-going g r (λ y. Has (with_end y) (applied (op.End i) r)) a.configuring k (λ t b e. end-has t r b a.covers))
own-has (op.Run i n) g r a k = absurd a

-- for every other register it gives nothing
pub other-given : (i : ℕ) (o : Operation) (g : Given) → i ≢ register_of o → given_by i o g ≡ g
other-given i (op.Open h base) g n = rw (ne_eqb h.register i (λ e. n (sym e)))
other-given i (op.Dimension d) g n = rw (ne_eqb d.register i (λ e. n (sym e)))
other-given i (op.Modifier m) g n = rw (ne_eqb m.register i (λ e. n (sym e)))
other-given i (op.End j) g n = rw (ne_eqb j i (λ e. n (sym e)))
other-given i (op.Run j k) g n = refl

-- every register after an operation that is accepted
pub after-has : (o : Operation) (m : Machine) (i : ℕ) (g : Given) → i < length m.registers → Accepts o (reg m (register_of o)) → Has g (reg m i)
    → Has (given_by i o g) (reg (after o m) i)
after-has o m i g h a k = go (i == register_of o) refl
  where
    q : Register
    q = applied o (reg m (register_of o))

    go : (b : Bool) → (i == register_of o) ≡ b → Has (given_by i o g) (reg (after o m) i)
    go true e =
        let f : register_of o ≡ i = sym (eqb-true i (register_of o) e) in
        subst (λ j. Has (given_by j o g) (reg (after o m) j)) f
        (subst (Has (given_by (register_of o) o g)) (sym (put_same m (register_of o) q (subst (λ j. j < length m.registers) (sym f) h)))
        (own-has o g (reg m (register_of o)) a (subst (λ j. Has g (reg m j)) (sym f) k)))
    go false e =
        let f : i ≢ register_of o = eqb-false i (register_of o) e in
        subst (λ y. Has y (reg (after o m) i)) (sym (other-given i o g f)) (subst (Has g) (sym (put_other m (register_of o) i q f)) k)

-- ---- operations in turn

-- after operations done in turn
pub turns-have : (s : List ℕ) (os : List Operation) (at to : ℕ) (m n : Machine) (i : ℕ) (g : Given) → Turns s at m os to n → i < length m.registers
    → Has g (reg m i) → Has (given_from i g os) (reg n i)
unfolding Turns given_from
turns-have s [] at to m n i g e h k = subst (λ y. Has g (reg y i)) e.1 k
turns-have s (o ∷ os) at to m n i g e h k =
    turns-have s os e.0 to (after o m) n i (given_by i o g) e.3
    (subst (λ l. i < l) (sym (length-set m.registers (register_of o) (applied o (reg m (register_of o))))) h)
    (after-has o m i g h e.2 k)

-- each of the 32 registers has what the operations before a place gave for it
pub before-has : (s : List ℕ) (os : List Operation) (at : ℕ) (m : Machine) (i : ℕ) → DoneBefore s os at m → i < 32 → Has (given_for i os) (reg m i)
before-has s os at m i b h = turns-have s os 0 at fresh_machine m i none b h (fresh-has i h)
