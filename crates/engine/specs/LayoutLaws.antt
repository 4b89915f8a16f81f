-- The registers of a run, laid out: which they are, and one of them changed.
--
--   at-or-other                        what holds of one number and of all others
--   views-length, views-at, views-are  there are 32; the i-th; the list of them
--   patterns-set                       a pattern stays the machine's
--   view-same, view-other              the register that is changed, and the others
--   views-set, laid-set                one register changed
use Rattle.std.specs.Prelude.{◌≡◌, ℕ, zero, suc, ◌+◌, ◌<◌, Bool, true, false, ◌≢◌, List, [], length, get_or, ◌==◌, slice_index_or, slice_set}
use Rattle.std.proofs.Math.Path.{refl, ap}
use Rattle.std.proofs.Common.{sym, ◌∙◌, subst, length-set, get_or-set_same, get_or-set_other, ext_get_or, eqb-true}
use native.Mathlib.Omega.{arith}
use Rattle.std.proofs.lemmas.Bool.{eqb-false}
use Rattle.engine.specs.Registers.{no_register}
use Rattle.engine.specs.Runnings.{view_of, Remembers}
use Rattle.engine.specs.Layouts.{no_running, pattern_at, view_at, views_from, registers_in, LaidOut}
use Rattle.engine.specs.declared.register.Register.{Register}
use Rattle.engine.specs.declared.running.Running.{Running}

-- what holds of one number, and of another if it is another
pub at-or-other : (P : ℕ → Type 0) (i k : ℕ) → P i → (k ≢ i → P k) → P k
at-or-other P i k s o = go (k == i) refl
  where
    go : (b : Bool) → (k == i) ≡ b → P k
    go true e = subst P (sym (eqb-true k i e)) s
    go false e = o (eqb-false k i e)

module _ (kept : List Register) (lanes indices : List (List ℕ)) (all : List Running) where
  -- the next n of them are n
  views-long : (i n : ℕ) → length (views_from kept lanes indices all i n) ≡ n
  unfolding views_from
  views-long i zero = refl
  views-long i (suc n) = ap suc (views-long (suc i) n)

  -- the k-th of the next n
  views-from : (i n k : ℕ) → k < n → slice_index_or (views_from kept lanes indices all i n) k no_register ≡ view_at kept lanes indices all (i + k)
  unfolding views_from
  views-from i zero k h = absurd (omega arith)
  views-from i (suc n) zero h = let e : i ≡ i + 0 = omega arith in ap (view_at kept lanes indices all) e
  views-from i (suc n) (suc k) h =
      let e : suc i + k ≡ i + suc k = omega arith in
      views-from (suc i) n k (omega arith) ∙ ap (view_at kept lanes indices all) e

  -- there are 32
  pub views-length : length (registers_in kept lanes indices all) ≡ 32
  views-length = views-long 0 32

  -- the i-th
  pub views-at : (i : ℕ) → i < 32 → slice_index_or (registers_in kept lanes indices all) i no_register ≡ view_at kept lanes indices all i
  views-at i h = let e : 0 + i ≡ i = omega arith in views-from 0 32 i h ∙ ap (view_at kept lanes indices all) e

  -- a list of 32 registers, each of which is so
  pub views-are : (rs : List Register) → length rs ≡ 32 → ((i : ℕ) → i < 32 → slice_index_or rs i no_register ≡ view_at kept lanes indices all i)
      → rs ≡ registers_in kept lanes indices all
  views-are rs n h = ext_get_or no_register rs _ (n ∙ sym views-length) (λ i f. h i (omega arith) ∙ sym (views-at i (omega arith)))

  -- the pattern of register k is that of the machine's, whatever the lanes, the indices and what changes with every chunk are
  pub patterns-set : (k : ℕ) → k < 32 → (get_or (registers_in kept lanes indices all) k no_register).pattern ≡ pattern_at kept k
  patterns-set k h = ap (λ (r : Register). r.pattern) (views-at k h)

module _ (kept : List Register) (lanes indices : List (List ℕ)) (all : List Running) (o : LaidOut kept lanes indices all)
    (i : ℕ) (h : i < 32) (l v : List ℕ) (q : Running) where
  -- the register that is changed
  pub view-same : view_at kept (slice_set lanes i l) (slice_set indices i v) (slice_set all i q) i ≡ view_of (pattern_at kept i) l v q
  view-same =
      let a = get_or-set_same lanes i l [] (omega (arith, o.lanes32)) in
      let b = get_or-set_same indices i v [] (omega (arith, o.indices32)) in
      let c = get_or-set_same all i q no_running (omega (arith, o.all32)) in
      λ t. view_of (pattern_at kept i) (a t) (b t) (c t)

  -- the others
  pub view-other : (k : ℕ) → k ≢ i → view_at kept (slice_set lanes i l) (slice_set indices i v) (slice_set all i q) k ≡ view_at kept lanes indices all k
  view-other k d =
      let a = get_or-set_other lanes i k l [] d in
      let b = get_or-set_other indices i k v [] d in
      let c = get_or-set_other all i k q no_running d in
      λ t. view_of (pattern_at kept k) (a t) (b t) (c t)

  -- one register changed
  pub views-set : registers_in kept (slice_set lanes i l) (slice_set indices i v) (slice_set all i q) ≡ slice_set (registers_in kept lanes indices all) i (view_of (pattern_at kept i) l v q)
  views-set =
      let rs = registers_in kept lanes indices all in
      let x = view_of (pattern_at kept i) l v q in
      let n = views-length kept lanes indices all in
      sym
      (views-are kept (slice_set lanes i l) (slice_set indices i v) (slice_set all i q) (slice_set rs i x) (length-set rs i x ∙ n)
      (λ k f.
      at-or-other (λ j. slice_index_or (slice_set rs i x) j no_register ≡ view_at kept (slice_set lanes i l) (slice_set indices i v) (slice_set all i q) j) i k
      (get_or-set_same rs i x no_register (omega arith) ∙ sym view-same)
      (λ d. get_or-set_other rs i k x no_register d ∙ views-at kept lanes indices all k f ∙ sym (view-other k d))))

  -- still laid out, where the changed one remembers its next element
  pub laid-set : Remembers (pattern_at kept i) v q → LaidOut kept (slice_set lanes i l) (slice_set indices i v) (slice_set all i q)
  laid-set m = record {
    registers32 = o.registers32;
    lanes32 = length-set lanes i l ∙ o.lanes32;
    indices32 = length-set indices i v ∙ o.indices32;
    all32 = length-set all i q ∙ o.all32;
    remembers = λ k f.
        at-or-other (λ j. Remembers (pattern_at kept j) (slice_index_or (slice_set indices i v) j []) (slice_index_or (slice_set all i q) j no_running)) i k
        (
        let b = get_or-set_same indices i v [] (omega (arith, o.indices32)) in
        let c = get_or-set_same all i q no_running (omega (arith, o.all32)) in
        subst (λ w. Remembers (pattern_at kept i) w (slice_index_or (slice_set all i q) i no_running)) (sym b) (subst (Remembers (pattern_at kept i) v) (sym c) m)
        )
        (
        λ d.
        let b = get_or-set_other indices i k v [] d in
        let c = get_or-set_other all i k q no_running d in
        subst (λ w. Remembers (pattern_at kept k) w (slice_index_or (slice_set all i q) k no_running)) (sym b) (subst (Remembers (pattern_at kept k) (slice_index_or indices k [])) (sym c) (o.remembers k f))
        );
  }
