-- The flags of a stream at the end of a coupled pass and inside one, and when it finishes, in 02's words (3/14).
--
--   outers_of, past_passes         the coupled passes, by their outer indices; the stops of the first of them
--   PassFlags, pass-flags        where a coupled pass ends
--   InsideFlags, inside-flags    inside a pass, and wherever an uncoupled stream stands: 01's rule
--   PassTold, pass-told, inside-told   what the questions are told there
--   ends-or-inside               a coupled stream stands at one or the other
--   finished-coupled, finished-uncoupled   when it is finished at end
use Rattle.std.specs.Prelude.{◌≡◌, ℕ, zero, suc, ◌+◌, ◌-◌, ◌<◌, ◌≤◌, Bool, true, false, cond, ◌⊎◌, ◌↔◌, List, [], ◌∷◌, ◌++◌, map, length, get_or, take, drop, nat_le, slice_index_or, Ok, Option, Some, None}
use Rattle.std.proofs.Math.Path.{refl, ap, subst}
use Rattle.std.proofs.Common.{sym, ◌∙◌, inl, inr, ⊎_elim, zero-add, eq-or-lt_of_le, take-append-drop, take-suc, take_all, drop-cons, drop-drop, leb-true, le-leb}
use native.Mathlib.Omega.{arith}
use Rattle.std.proofs.Math.Decide.{dec_le, dec_lt}
use Rattle.std.proofs.Math.ListN.{length-append, get_or-append}
use Rattle.std.proofs.lemmas.List.{length-map}
use Rattle.std.proofs.Math.Seq.{get_or-append-add}
use Rattle.engine.specs.Configure.{Covers}
use Rattle.engine.specs.Loops.{size_at, join, loops, elements}
use Rattle.engine.specs.Members.{Each, each-one, front-all}
use Rattle.engine.specs.LoopLaws.{Before, before-not-self, loops-order}
use Rattle.engine.specs.Chunks.{pass_stops, stops_in, stops, is_element, held_in, nothing_at, groups, stream_groups, chunk, height, flag}
use Rattle.engine.specs.FlagLaws.{differ-drop, differ_next, flag-all, flag-set}
use Rattle.engine.specs.GroupLaws.{join-append, left_in_group, left-head, left-tail, left-most, left-with_elements}
use Rattle.engine.specs.ChunkLaws.{chunk-length, chunk-stops}
use Rattle.engine.specs.StopLaws.{pass-some, pass-drop, among-append, among-all, stop-even, stops-uncoupled, chunk-kind}
use Rattle.engine.specs.PassLaws.{same-group, group-uncoupled}
use Rattle.engine.specs.ChunkExact.{chunk-at}
use Rattle.engine.specs.Registers.{state_after}
use Rattle.engine.specs.Questions.{ask_flag, ask_end}
use Rattle.engine.specs.Histories.{PassEnds}
use Rattle.engine.specs.Given.{Stream, stops_of, pattern_of, AtMoment}
use Rattle.engine.specs.MomentLaws.{flagged}
use Rattle.engine.specs.declared.stream.Shape.{Shape}
use Rattle.engine.specs.declared.register.State.TheVariants.{Open, Finished}
use Rattle.engine.specs.declared.register.Machine.{Machine}

-- ---- the statements

-- the passes of dimension c, counted from 1, "that the outer loops reach": by the indices of the dimensions above it, in order
abbrev pub outers_of : Shape → ℕ → List (List ℕ)
outers_of s c = loops (size_at s) c (s.dims - c) []

-- how many stops the first k of them have
abbrev pub past_passes : Shape → ℕ → ℕ → ℕ
past_passes s c k = length (join (take k (map (pass_stops (size_at s) c) (outers_of s c))))

-- after coupled pass j, counted from 0, of a stream coupled to dimension c: "This holds after every chunk that ends its coupled pass"
pub record PassFlags (s : Shape) (c j : ℕ) : Type 0 where
  -- "the flags below the coupled dimension are set"
  pub below : (d : ℕ) → d < c → flag (height s (past_passes s c (suc j))) d ≡ true
  -- "From the coupled one upward, a flag is set exactly if no later coupled pass lies in the same pass of that dimension": no index above it
  -- differs
  pub upward : (d : ℕ) → c ≤ d → d ≤ s.dims
      → (flag (height s (past_passes s c (suc j))) d ≡ true)
      ↔ ((k : ℕ) → j < k → k < length (outers_of s c) → ¬ (drop (d - c) (slice_index_or (outers_of s c) j []) ≡ drop (d - c) (slice_index_or (outers_of s c) k [])))
  -- "Such a stream finishes after its last coupled pass"
  pub state : (state_after s (past_passes s c (suc j)) ≡ Finished) ↔ (suc j ≡ length (outers_of s c))

-- after n stops inside a pass: "one that ends inside keeps 01's rule": "the flag of dimension i is set exactly if the last element moved is
-- the last of its pass of dimension i: the next element, if any, differs in an index above i"
pub record InsideFlags (s : Shape) (n : ℕ) : Type 0 where
  -- the last element moved, behind those before it
  pub before : List (List ℕ)
  pub last : List ℕ
  pub moved : held_in s (take n (stops s)) ≡ before ++ (last ∷ [])
  -- the next element, before those behind it
  pub next : List ℕ
  pub behind : List (List ℕ)
  pub to_come : held_in s (drop n (stops s)) ≡ next ∷ behind
  pub flags : (d : ℕ) → d ≤ s.dims → (flag (height s n) d ≡ true) ↔ (¬ (drop d last ≡ drop d next))

-- what the questions are told of the stream t in register i of a machine, after coupled pass j
pub record PassTold (t : Stream) (m : Machine) (i c j : ℕ) : Type 0 where
  pub below : (d : ℕ) → 1 ≤ d → d < c → ask_flag m i d ≡ Ok true
  pub upward : (d : ℕ) → 1 ≤ d → c ≤ d → d ≤ length t.dimensions
      → (ask_flag m i d ≡ Ok true)
      ↔ ((k : ℕ) → j < k → k < length (outers_of (pattern_of t).shape c)
      → ¬ (drop (d - c) (slice_index_or (outers_of (pattern_of t).shape c) j []) ≡ drop (d - c) (slice_index_or (outers_of (pattern_of t).shape c) k [])))
  -- "in demand 2 the end of such a stream shows after its last coupled pass"
  pub end : (ask_end m i ≡ Ok true) ↔ (suc j ≡ length (outers_of (pattern_of t).shape c))

-- ---- order

-- of two in order, the outer indices are the same or in order
before_above : (e : ℕ) (u v : List ℕ) → Before u v → (drop e u ≡ drop e v) ⊎ Before (drop e u) (drop e v)
unfolding Before
before_above zero u v b = inr b
before_above (suc e) [] v b = absurd b
before_above (suc e) (i ∷ u) [] b = absurd b
before_above (suc e) (i ∷ u) (j ∷ v) (inl b) = before_above e u v b
before_above (suc e) (i ∷ u) (j ∷ v) (inr b) = inl (ap (drop e) b.0)

-- not both come first
before-once : (u v : List ℕ) → Before u v → Before v u → ⊥
unfolding Before
before-once [] v b d = b
before-once (i ∷ u) [] b d = b
before-once (i ∷ u) (j ∷ v) (inl b) (inl d) = before-once u v b d
before-once (i ∷ u) (j ∷ v) (inl b) (inr d) = before-not-self v (subst (λ w. Before w v) (sym d.0) b)
before-once (i ∷ u) (j ∷ v) (inr b) (inl d) = before-not-self v (subst (λ w. Before v w) b.0 d)
before-once (i ∷ u) (j ∷ v) (inr b) (inr d) = omega (arith, b.1, d.1)

-- what stands between two that have the same outer indices has them too
before-between : (e : ℕ) (u v w : List ℕ) → Before u v → Before v w → drop e u ≡ drop e w → drop e u ≡ drop e v
before-between e u v w b d q = go (before_above e u v b) (before_above e v w d)
  where
    go : (drop e u ≡ drop e v) ⊎ Before (drop e u) (drop e v) → (drop e v ≡ drop e w) ⊎ Before (drop e v) (drop e w) → drop e u ≡ drop e v
    go (inl x) y = x
    go (inr x) (inl y) = q ∙ sym y
    go (inr x) (inr y) = absurd (before-once (drop e u) (drop e v) x (subst (Before (drop e v)) (sym q) y))

-- ---- groups by their places

module _ {A K : Type 0} (a : A) (b : K) (f : K → List A) where
  -- the members of the first k groups
  abbrev past : List K → ℕ → ℕ
  past os k = length (join (take k (map f os)))

  -- of one group more
  past_next : (os : List K) (k : ℕ) → k < length os → past os (suc k) ≡ past os k + length (f (slice_index_or os k b))
  unfolding join
  past_next [] k h = absurd (omega arith)
  past_next (o ∷ os) zero h = omega (arith, length-append (f o) [])
  past_next (o ∷ os) (suc k) h =
      omega (
        arith,
        past_next os k (omega arith),
        length-append (f o) (join (take (suc k) (map f os))),
        length-append (f o) (join (take k (map f os))),
      )

  -- of all
  past_all : (os : List K) (k : ℕ) → length os ≤ k → past os k ≡ length (join (map f os))
  past_all os k h = ap (λ l. length (join l)) (take_all k (map f os) (omega (arith, length-map os f)))

  -- not more
  past-most : (os : List K) (k : ℕ) → past os k ≤ length (join (map f os))
  past-most os k =
      omega (
        arith,
        ap length (ap join (sym (take-append-drop k (map f os))) ∙ join-append (take k (map f os)) (drop k (map f os))),
        length-append (join (take k (map f os))) (join (drop k (map f os))),
      )

  -- member m of group k
  past-at : (os : List K) (k m : ℕ) → k < length os → m < length (f (slice_index_or os k b)) → slice_index_or (join (map f os)) (past os k + m) a ≡ slice_index_or (f (slice_index_or os k b)) m a
  unfolding join
  past-at [] k m h p = absurd (omega arith)
  past-at (o ∷ os) zero m h p = ap (λ n. get_or (f o ++ join (map f os)) n a) (zero-add m) ∙ get_or-append (f o) (join (map f os)) a m p
  past-at (o ∷ os) (suc k) m h p =
      let e : length (f o ++ join (take k (map f os))) + m ≡ length (f o) + (past os k + m) = omega (arith, length-append (f o) (join (take k (map f os)))) in
      ap (λ n. get_or (f o ++ join (map f os)) n a) e ∙ get_or-append-add (f o) (join (map f os)) (past os k + m) a ∙ past-at os k m (omega arith) p

-- a place in groups is the end of one, or stands inside one
end-or-in : {A : Type 0} (gs : List (List A)) → Each [] (λ g. 1 ≤ length g) gs → (n : ℕ) → 0 < n → n ≤ length (join gs)
    → ((j : ℕ) × (j < length gs) × (n ≡ length (join (take (suc j) gs)))) ⊎ (1 < left_in_group gs (n - 1))
unfolding join
end-or-in [] s n p h = absurd (omega arith)
end-or-in (g ∷ gs) s n p h = go (dec_le n (length g)) (dec_lt n (length g)) (end-or-in gs (λ j q. s (suc j) (omega arith)) (n - length g))
  where
    go : Dec (n ≤ length g) → Dec (n < length g)
        → (0 < n - length g → n - length g ≤ length (join gs)
        → ((j : ℕ) × (j < length gs) × (n - length g ≡ length (join (take (suc j) gs)))) ⊎ (1 < left_in_group gs (n - length g - 1)))
        → ((j : ℕ) × (j < suc (length gs)) × (n ≡ length (join (take (suc j) (g ∷ gs))))) ⊎ (1 < left_in_group (g ∷ gs) (n - 1))
    go q (yes l) r = inr (omega (arith, left-head (n - 1) g gs (omega arith)))
    go (yes q) (no l) r = inl (0, omega arith, omega (arith, length-append g []))
    go (no q) (no l) r =
        ⊎_elim
        (λ (j, m, e). inl (suc j, omega arith, omega (arith, length-append g (join (take (suc j) gs)))))
        (λ x. let e : n - 1 - length g ≡ n - length g - 1 = omega arith in inr (omega (arith, left-tail (n - 1) g gs (omega arith), ap (left_in_group gs) e)))
        (r (omega arith) (omega (arith, length-append g (join gs))))

-- ---- where a coupled pass ends

-- finished exactly if no stop is left
finished-all : (s : Shape) (n : ℕ) → (state_after s n ≡ Finished) ↔ (length (stops s) ≤ n)
finished-all s n = (λ e. go (nat_le (length (stops s)) n) refl e, λ h. ap (λ b. cond b Finished Open) (le-leb (length (stops s)) n h))
  where
    go : (b : Bool) → nat_le (length (stops s)) n ≡ b → cond b Finished Open ≡ Finished → length (stops s) ≤ n
    go true e f = leb-true (length (stops s)) n e
    go false e f = absurd (let z : ◌≡◌ {A = ℕ} 0 1 = cc in omega arith)

module _ (s : Shape) (c : ℕ) (coupled : s.coupling ≡ Some c) (covers : c ≤ s.dims) where
  -- the outer indices of the passes
  abbrev os : List (List ℕ)
  os = outers_of s c

  -- the stops of a pass
  abbrev f : List ℕ → List (List ℕ)
  f = pass_stops (size_at s) c

  -- the stops are those of the passes
  all : stops s ≡ join (map f os)
  unfolding stops_in
  all = ap (stops_in (size_at s) s.dims) coupled

  -- the coupled dimension is there
  cover : Covers s.dims s.coupling
  cover = subst (Covers s.dims) (sym coupled) covers

  -- the outer indices of a stop of pass k
  outer-at : (k m : ℕ) → k < length os → m < length (f (slice_index_or os k [])) → drop c (slice_index_or (stops s) (past_passes s c k + m) []) ≡ slice_index_or os k []
  outer-at k m h p =
      ap (λ l. drop c (slice_index_or l (past_passes s c k + m) [])) all
      ∙ ap (drop c) (past-at [] [] f os k m h p)
      ∙ pass-drop (size_at s) c (slice_index_or os k []) m p

  -- earlier passes come first
  ordered : (j k : ℕ) → j < k → k < length os → Before (slice_index_or os j []) (slice_index_or os k [])
  ordered j k p h = loops-order (size_at s) c (s.dims - c) [] j k p h

  module _ (j : ℕ) (h : j < length os) where
    -- the stops of the passes up to this one
    abbrev n : ℕ
    n = past_passes s c (suc j)

    -- there is one at least
    first : 0 < n
    first = omega (arith, past_next [] [] f os j h, pass-some (size_at s) c (slice_index_or os j []))

    -- not more than all
    most : n ≤ length (stops s)
    most = omega (arith, past-most [] [] f os (suc j), ap length all)

    -- the last stop of this pass
    here : drop c (slice_index_or (stops s) (n - 1) []) ≡ slice_index_or os j []
    here =
        let m : ℕ = length (f (slice_index_or os j [])) - 1 in
        let e : n - 1 ≡ past_passes s c j + m = omega (arith, past_next [] [] f os j h, pass-some (size_at s) c (slice_index_or os j [])) in
        ap (λ k. drop c (slice_index_or (stops s) k [])) e ∙ outer-at j m h (omega (arith, pass-some (size_at s) c (slice_index_or os j [])))

    -- the first of the next
    there : suc j < length os → drop c (slice_index_or (stops s) n []) ≡ slice_index_or os (suc j) []
    there l =
        let e : n ≡ n + 0 = omega arith in
        ap (λ k. drop c (slice_index_or (stops s) k [])) e ∙ outer-at (suc j) 0 l (pass-some (size_at s) c (slice_index_or os (suc j) []))

    -- if there is a next, a stop is left
    left : suc j < length os → n < length (stops s)
    left l =
        omega (
          arith,
          past_next [] [] f os (suc j) l,
          pass-some (size_at s) c (slice_index_or os (suc j) []),
          past-most [] [] f os (suc (suc j)),
          ap length all,
        )

    -- if there is none, none is
    none-left : suc j ≡ length os → length (stops s) ≤ n
    none-left e = omega (arith, past_all [] [] f os (suc j) (omega arith), ap length all)

    -- indices above a dimension, from those above the coupled one
    above : (d : ℕ) → c ≤ d → (v o : List ℕ) → drop c v ≡ o → drop d v ≡ drop (d - c) o
    above d p v o e = let x : c + (d - c) ≡ d = omega arith in sym (ap (λ k. drop k v) x) ∙ sym (drop-drop (d - c) c v) ∙ ap (drop (d - c)) e

    -- this pass and the next differ
    apart : suc j < length os → ¬ (slice_index_or os j [] ≡ slice_index_or os (suc j) [])
    apart l e = before-not-self (slice_index_or os (suc j) []) (subst (λ u. Before u (slice_index_or os (suc j) [])) e (ordered j (suc j) (omega arith) l))

    -- one that agrees with a later pass above a dimension agrees with the next
    agrees : (d k : ℕ) → j < k → k < length os → drop d (slice_index_or os j []) ≡ drop d (slice_index_or os k []) → drop d (slice_index_or os j []) ≡ drop d (slice_index_or os (suc j) [])
    agrees d k p l e = go (eq-or-lt_of_le p)
      where
        go : (suc j ≡ k) ⊎ (suc j < k) → drop d (slice_index_or os j []) ≡ drop d (slice_index_or os (suc j) [])
        go (inl x) = e ∙ ap (λ i. drop d (slice_index_or os i [])) (sym x)
        go (inr x) =
            before-between d (slice_index_or os j []) (slice_index_or os (suc j) []) (slice_index_or os k []) (ordered j (suc j) (omega arith) (omega arith)) (ordered (suc j) k x l) e

    -- the flags there
    pub pass-flags : PassFlags s c j
    pass-flags = record {
      below = λ d p. below d p (eq-or-lt_of_le h);
      upward = λ d p q. upward d p q (eq-or-lt_of_le h);
      state = (λ e. last ((finished-all s n).0 e) (eq-or-lt_of_le h), λ e. (finished-all s n).1 (none-left e));
    }
      where
        below : (d : ℕ) → d < c → (suc j ≡ length os) ⊎ (suc j < length os) → flag (height s n) d ≡ true
        below d p (inl e) = flag-all s n d (none-left e) (omega arith)
        below d p (inr l) =
            (flag-set s n cover d first most (omega arith)).1
            (inr
            (λ e.
            let x : d + (c - d) ≡ c = omega arith in
            let y : drop c (slice_index_or (stops s) (n - 1) []) ≡ drop c (slice_index_or (stops s) n []) =
            sym (drop-drop (c - d) d (slice_index_or (stops s) (n - 1) []) ∙ ap (λ k. drop k (slice_index_or (stops s) (n - 1) [])) x)
            ∙ ap (drop (c - d)) e
            ∙ (drop-drop (c - d) d (slice_index_or (stops s) n []) ∙ ap (λ k. drop k (slice_index_or (stops s) n [])) x) in
            apart l (sym here ∙ y ∙ there l)))

        upward : (d : ℕ) → c ≤ d → d ≤ s.dims → (suc j ≡ length os) ⊎ (suc j < length os)
            → (flag (height s n) d ≡ true) ↔ ((k : ℕ) → j < k → k < length os → ¬ (drop (d - c) (slice_index_or os j []) ≡ drop (d - c) (slice_index_or os k [])))
        upward d p q (inl e) = (λ x k y z. absurd (omega arith), λ x. flag-all s n d (none-left e) q)
        upward d p q (inr l) =
            let b = flag-set s n cover d first most q in
            let x = above d p (slice_index_or (stops s) (n - 1) []) (slice_index_or os j []) here in
            let y = above d p (slice_index_or (stops s) n []) (slice_index_or os (suc j) []) (there l) in (
              λ t k u z e. ⊎_elim (λ g. omega (arith, left l)) (λ g. g (x ∙ agrees (d - c) k u z e ∙ sym y)) (b.0 t),
              λ t. b.1 (inr (λ e. t (suc j) (omega arith) l (sym x ∙ e ∙ y))),
            )

        last : length (stops s) ≤ n → (suc j ≡ length os) ⊎ (suc j < length os) → suc j ≡ length os
        last z (inl e) = e
        last z (inr l) = absurd (omega (arith, left l))

  -- a stream "is finished at end only if there is none", and then it is
  pub finished-coupled : (state_after s 0 ≡ Finished) ↔ (outers_of s c ≡ [])
  unfolding join
  finished-coupled =
      (λ e. go os (subst (λ l. length l ≤ 0) all ((finished-all s 0).0 e)), λ e. (finished-all s 0).1 (omega (arith, ap length (all ∙ ap (λ l. join (map f l)) e))))
    where
      go : (l : List (List ℕ)) → length (join (map f l)) ≤ 0 → l ≡ []
      go [] h = refl
      go (o ∷ l) h = absurd (omega (arith, length-append (f o) (join (map f l)), pass-some (size_at s) c o))

  -- the dimension that a coupling names
  abbrev dimension_of : Option ℕ → ℕ
  dimension_of None = 0
  dimension_of (Some d) = d

  -- every pass has a stop
  each-some : (l : List (List ℕ)) → Each [] (λ g. 1 ≤ length g) (map f l)
  each-some [] k p = absurd (omega arith)
  each-some (o ∷ l) zero p = pass-some (size_at s) c o
  each-some (o ∷ l) (suc k) p = each-some l k (omega arith)

  -- more of the pass is left: it does not end
  goes_on : (n : ℕ) → 0 < n → n ≤ length (stops s) → 1 < left_in_group (map f os) (n - 1) → (n < length (stops s)) × (¬ PassEnds s n)
  unfolding groups stops_in
  goes_on n p h q =
      let x : n < length (stops s) = omega (arith, left-most (map f os) (n - 1), ap length all) in
      let m : suc (n - 1) ≡ n = omega arith in
      let l : suc (n - 1) < length (stops_in (size_at s) s.dims (Some c)) = omega (arith, ap length all) in
      let e : differ_next (stops_in (size_at s) s.dims (Some c)) (n - 1) ≤ c =
      (same-group (size_at s) s.dims c covers (n - 1) l).1 (omega (arith, left-with_elements (map f os) (n - 1))) in
      let y : differ_next (stops s) (n - 1) ≤ c = subst (λ l. differ_next l (n - 1) ≤ c) (sym all) e in
      let z : drop c (slice_index_or (stops s) (n - 1) []) ≡ drop c (slice_index_or (stops s) (suc (n - 1)) []) =
      (differ-drop c _ _ (stop-even s cover (n - 1) (suc (n - 1)) (omega arith) (omega arith))).0 y in
      let w : drop c (slice_index_or (stops s) (n - 1) []) ≡ drop c (slice_index_or (stops s) n []) = z ∙ ap (λ k. drop c (slice_index_or (stops s) k [])) m in
      (x, λ g. g.other (subst (λ d. drop d (slice_index_or (stops s) (n - 1) []) ≡ drop d (slice_index_or (stops s) n [])) (ap dimension_of (sym coupled ∙ g.coupled)) w))

  -- a stream that has gone past some stops stands where a coupled pass ends, or inside one
  pub ends-or-inside : (n : ℕ) → 0 < n → n ≤ length (stops s)
      → ((j : ℕ) × (j < length (outers_of s c)) × (n ≡ past_passes s c (suc j))) ⊎ ((n < length (stops s)) × (¬ PassEnds s n))
  ends-or-inside n p h =
      ⊎_elim (λ (j, m, e). inl (j, omega (arith, length-map os f), e)) (λ x. inr (goes_on n p h x))
      (end-or-in (map f os) (each-some os) n p (omega (arith, ap length all)))

-- 01: "or finishes it at once if it has no elements", of an uncoupled stream
pub finished-uncoupled : (s : Shape) → s.coupling ≡ None → (state_after s 0 ≡ Finished) ↔ (elements s ≡ [])
finished-uncoupled s e =
    (λ x. go (elements s) (subst (λ l. length l ≤ 0) (stops-uncoupled s e) ((finished-all s 0).0 x)), λ x. (finished-all s 0).1 (omega (arith, ap length (stops-uncoupled s e ∙ x))))
  where
    go : (l : List (List ℕ)) → length l ≤ 0 → l ≡ []
    go [] h = refl
    go (v ∷ l) h = absurd (omega arith)

-- ---- inside a pass

module _ (s : Shape) (cover : Covers s.dims s.coupling) (n : ℕ) (p : 0 < n) (h : n < length (stops s)) (inside : ¬ PassEnds s n) where
  -- the next stop is of the same pass
  same-pass : 1 < left_in_group (stream_groups s) (n - 1)
  unfolding stops_in
  same-pass = go s.coupling refl
    where
      all : (k : Option ℕ) → s.coupling ≡ k → length (stops s) ≡ length (stops_in (size_at s) s.dims k)
      all k e = ap (λ y. length (stops_in (size_at s) s.dims y)) e

      other : (c : ℕ) → s.coupling ≡ Some c → ¬ (differ_next (stops_in (size_at s) s.dims (Some c)) (n - 1) ≤ c) → PassEnds s n
      other c e x = record {
        dimension = c;
        coupled = e;
        other = λ q.
            let m : suc (n - 1) ≡ n = omega arith in
            let y : differ_next (stops s) (n - 1) ≤ c =
            (differ-drop c _ _ (stop-even s cover (n - 1) (suc (n - 1)) (omega arith) (omega arith))).1 (q ∙ ap (λ k. drop c (slice_index_or (stops s) k [])) (sym m)) in
            x (subst (λ k. differ_next (stops_in (size_at s) s.dims k) (n - 1) ≤ c) e y);
      }

      by : (c : ℕ) → s.coupling ≡ Some c → Dec (differ_next (stops_in (size_at s) s.dims (Some c)) (n - 1) ≤ c)
          → 1 < left_in_group (groups (size_at s) s.dims (Some c)) (n - 1)
      by c e (yes x) = (same-group (size_at s) s.dims c (subst (Covers s.dims) e cover) (n - 1) (omega (arith, all (Some c) e))).0 x
      by c e (no x) = absurd (inside (other c e x))

      go : (k : Option ℕ) → s.coupling ≡ k → 1 < left_in_group (groups (size_at s) s.dims k) (n - 1)
      go None e = omega (arith, group-uncoupled (size_at s) s.dims (n - 1), all None e)
      go (Some c) e = by c e (dec_le (differ_next (stops_in (size_at s) s.dims (Some c)) (n - 1)) c)

  -- both are of a chunk of two
  two : length (chunk s 2 (n - 1)) ≡ 2
  two = omega (arith, chunk-length (stream_groups s) 2 (n - 1), same-pass)

  -- so both are elements
  both-elements : (k : ℕ) → k < 2 → is_element (size_at s) 0 (slice_index_or (stops s) (n - 1 + k) []) ≡ true
  both-elements k q = go (nothing_at s (n - 1)) refl
    where
      go : (b : Bool) → nothing_at s (n - 1) ≡ b → is_element (size_at s) 0 (slice_index_or (stops s) (n - 1 + k) []) ≡ true
      go true e = absurd (omega (arith, two, ap length ((chunk-kind s 2 (n - 1) (omega arith) (omega arith)).1 e)))
      go false e =
          subst (λ v. is_element (size_at s) 0 v ≡ true) (chunk-at s (n - 1) (chunk s 2 (n - 1)) (chunk-stops s 2 (n - 1)) k (omega (arith, two)))
          ((chunk-kind s 2 (n - 1) (omega arith) (omega arith)).0 e k (omega (arith, two)))

  -- one that is an element
  held_one : (v : List ℕ) → is_element (size_at s) 0 v ≡ true → held_in s (v ∷ []) ≡ v ∷ []
  held_one v e = among-all (size_at s) (v ∷ []) (each-one [] (λ u. is_element (size_at s) 0 u ≡ true) v e)

  -- the flags there
  pub inside-flags : InsideFlags s n
  inside-flags =
      let a : n - 1 + 0 ≡ n - 1 = omega arith in
      let b : n - 1 + 1 ≡ n = omega arith in
      let m : suc (n - 1) ≡ n = omega arith in
      let u : List ℕ = get_or (stops s) (n - 1) [] in
      let v : List ℕ = get_or (stops s) n [] in
      let x : is_element (size_at s) 0 u ≡ true = subst (λ k. is_element (size_at s) 0 (slice_index_or (stops s) k []) ≡ true) a (both-elements 0 (omega arith)) in
      let y : is_element (size_at s) 0 v ≡ true = subst (λ k. is_element (size_at s) 0 (slice_index_or (stops s) k []) ≡ true) b (both-elements 1 (omega arith)) in
      record {
        before = held_in s (take (n - 1) (stops s));
        last = u;
        moved =
            ap (λ k. held_in s (take k (stops s))) (sym m)
            ∙ ap (held_in s) (take-suc (stops s) (n - 1) [] (omega arith))
            ∙ among-append (size_at s) (take (n - 1) (stops s)) (u ∷ [])
            ∙ ap (λ l. held_in s (take (n - 1) (stops s)) ++ l) (held_one u x);
        next = v;
        behind = held_in s (drop (suc n) (stops s));
        to_come =
            ap (held_in s) (drop-cons (stops s) n [] h)
            ∙ among-append (size_at s) (v ∷ []) (drop (suc n) (stops s))
            ∙ ap (λ l. l ++ held_in s (drop (suc n) (stops s))) (held_one v y);
        flags = λ d q.
            let f = flag-set s n cover d p (omega arith) q in
            (λ t. ⊎_elim (λ e. absurd (omega arith)) (λ e. e) (f.0 t), λ t. f.1 (inr t));
      }

-- ---- what the questions are told

module _ (t : Stream) (past : List (List ℕ)) (m : Machine) (i : ℕ) (a : AtMoment t past m i) where
  -- a flag is told as it is
  told : Covers (length t.dimensions) t.header.coupling → (d : ℕ) → 1 ≤ d → d ≤ length t.dimensions
      → (ask_flag m i d ≡ Ok true) ↔ (flag (height (pattern_of t).shape (length past)) d ≡ true)
  told cover d p q =
      let most : length past ≤ length (stops_of t) = omega (arith, ap length a.each-stop, length-append past a.to_come) in
      let f = flagged (pattern_of t).shape cover (length past) d most q in
      (λ y. f.1 ((a.flag-yes d p q).0 y), λ y. (a.flag-yes d p q).1 (f.0 y))

  -- after a coupled pass
  pub pass-told : (c : ℕ) → t.header.coupling ≡ Some c → c ≤ length t.dimensions → (j : ℕ) → j < length (outers_of (pattern_of t).shape c)
      → length past ≡ past_passes (pattern_of t).shape c (suc j) → PassTold t m i c j
  pass-told c e h j l n = record {
    below = λ d p q. (told cover d p (omega arith)).1 (subst (λ k. flag (height s k) d ≡ true) (sym n) (f.below d q));
    upward = λ d p q r.
        let x = told cover d p r in
        let y = f.upward d q r in
        (λ z. y.0 (subst (λ k. flag (height s k) d ≡ true) n (x.0 z)), λ z. x.1 (subst (λ k. flag (height s k) d ≡ true) (sym n) (y.1 z)));
    end = (
      λ z. f.state.0 ((finished-all s (past_passes s c (suc j))).1 (omega (arith, ap length (a.end-yes.0 z)))),
      λ z. a.end-yes.1 (front-all past a.to_come (stops_of t) a.each-stop (omega (arith, (finished-all s (past_passes s c (suc j))).0 (f.state.1 z)))),
    );
  }
    where
      s : Shape
      s = (pattern_of t).shape

      cover : Covers (length t.dimensions) t.header.coupling
      cover = subst (Covers (length t.dimensions)) (sym e) h

      f : PassFlags s c j
      f = pass-flags s c e h j l

  -- inside a pass, and of an uncoupled stream that is not finished: "exactly if the last element moved is the last of its pass"
  pub inside-told : (cover : Covers (length t.dimensions) t.header.coupling) (p : 0 < length past) (h : length past < length (stops_of t))
      (inside : ¬ PassEnds (pattern_of t).shape (length past)) → (d : ℕ) → 1 ≤ d → d ≤ length t.dimensions
      → let f = inside-flags (pattern_of t).shape cover (length past) p h inside in (ask_flag m i d ≡ Ok true) ↔ (¬ (drop d f.last ≡ drop d f.next))
  inside-told cover p h inside d q r =
      let x = told cover d q r in
      let y = (inside-flags (pattern_of t).shape cover (length past) p h inside).flags d r in
      (λ z. y.0 (x.0 z), λ z. x.1 (y.1 z))
