-- Registers laid out for a run one by one, and joined again one by one.
--
--   no_spot, begins, begins-open, begins-shut   a register at the start of a run, open or not
--   LaidTo, laid_more, laid-all, laid_same     the first registers laid out: one more, all
--   JoinedTo, joined-more, joined-all          the first registers joined again: one more, all
use Rattle.std.proofs.Common.{◌≡◌, ℕ, ◌+◌, ◌<◌, ◌≤◌, false, ◌≢◌, List, [], length, get_or, set, sym, ap, ◌∙◌, subst, arith, length-set, get_or-set_other, get_or-set_same}
use lib.Seq.{set-get_or}
use Rattle.engine.specs.Addresses.{no_bytes}
use Rattle.engine.specs.Registers.{no_register, is_open}
use Rattle.engine.specs.Places.{place_at}
use Rattle.engine.specs.Runnings.{spotted, view_of, Remembers}
use Rattle.engine.specs.Layouts.{no_running, beginning, pattern_at, view_at, registers_in, LaidOut}
use Rattle.engine.specs.LayoutLaws.{at-or-other, views-are}
use Rattle.engine.specs.declared.place.Spot.{Spot}
use Rattle.engine.specs.declared.register.Register.{Register}
use Rattle.engine.specs.declared.running.Running.{Running}

-- ---- one register

-- what a register that is not open is given
abbrev pub no_spot : Spot
no_spot = record { address = no_bytes; size = 0; step = no_bytes }

module _ (r : Register) (s : Spot) where
  -- at the start of a run it stands for the register
  pub begins : view_of r.pattern r.lanes r.index (beginning r s) ≡ r
  begins =
      let z = set-get_or r.index 0 0 in
      λ t. record { state = r.state; width = r.width; valid = r.valid; lanes = r.lanes; kind = r.kind; pattern = r.pattern; moved = r.moved; index = z t; height = r.height }

  -- and remembers its next stop, if that is what is reckoned there
  pub begins-open : spotted r.index s ≡ place_at r.pattern r.width r.index → Remembers r.pattern r.index (beginning r s)
  begins-open a o =
      let z : set r.index 0 (get_or r.index 0 0) ≡ r.index = set-get_or r.index 0 0 in
      (λ t. spotted (z t) s) ∙ a ∙ (λ t. place_at r.pattern r.width (sym z t))

  -- one that is not open remembers nothing
  pub begins-shut : is_open r.state ≡ false → Remembers r.pattern r.index (beginning r s)
  begins-shut e o = absurd (let z : ◌≡◌ {A = ℕ} 0 1 = cc in omega arith)

-- ---- laid out

-- the first k registers are laid out, in arrays of 32
pub record LaidTo (rs : List Register) (k : ℕ) (lanes indices : List (List ℕ)) (all : List Running) : Type 0 where
  pub registers32 : length rs ≡ 32
  pub lanes32 : length lanes ≡ 32
  pub indices32 : length indices ≡ 32
  pub all32 : length all ≡ 32
  pub same : (i : ℕ) → i < k → view_at rs lanes indices all i ≡ get_or rs i no_register
  pub remembers : (i : ℕ) → i < k → Remembers (pattern_at rs i) (get_or indices i []) (get_or all i no_running)

module _ (rs : List Register) (k : ℕ) (lanes indices : List (List ℕ)) (all : List Running) where
  -- one more
  pub laid_more : LaidTo rs k lanes indices all → k < 32 → (l v : List ℕ) (q : Running) → view_of (pattern_at rs k) l v q ≡ get_or rs k no_register → Remembers (pattern_at rs k) v q
      → LaidTo rs (k + 1) (set lanes k l) (set indices k v) (set all k q)
  laid_more g h l v q s m =
      let la = get_or-set_same lanes k l [] (omega (arith, g.lanes32)) in
      let ix = get_or-set_same indices k v [] (omega (arith, g.indices32)) in
      let al = get_or-set_same all k q no_running (omega (arith, g.all32)) in
      record {
        registers32 = g.registers32;
        lanes32 = length-set lanes k l ∙ g.lanes32;
        indices32 = length-set indices k v ∙ g.indices32;
        all32 = length-set all k q ∙ g.all32;
        same = λ i f.
            at-or-other (λ j. j < k + 1 → view_at rs (set lanes k l) (set indices k v) (set all k q) j ≡ get_or rs j no_register) k i
            (λ f'. (λ t. view_of (pattern_at rs k) (la t) (ix t) (al t)) ∙ s)
            (
            λ d f'.
            let la' = get_or-set_other lanes k i l [] d in
            let ix' = get_or-set_other indices k i v [] d in
            let al' = get_or-set_other all k i q no_running d in
            (λ t. view_of (pattern_at rs i) (la' t) (ix' t) (al' t)) ∙ g.same i (below i d f')
            )
            f;
        remembers = λ i f.
            at-or-other (λ j. j < k + 1 → Remembers (pattern_at rs j) (get_or (set indices k v) j []) (get_or (set all k q) j no_running)) k i
            (λ f'. subst (λ x. x) (λ t. Remembers (pattern_at rs k) (sym ix t) (sym al t)) m)
            (
            λ d f'.
            let ix' = get_or-set_other indices k i v [] d in
            let al' = get_or-set_other all k i q no_running d in
            subst (λ x. x) (λ t. Remembers (pattern_at rs i) (sym ix' t) (sym al' t)) (g.remembers i (below i d f'))
            )
            f;
      }
    where
      below : (i : ℕ) → i ≢ k → i < k + 1 → i < k
      below i d f = omega arith

  -- all of them
  pub laid-all : LaidTo rs k lanes indices all → 32 ≤ k → LaidOut rs lanes indices all
  laid-all g h = record {
    registers32 = g.registers32;
    lanes32 = g.lanes32;
    indices32 = g.indices32;
    all32 = g.all32;
    remembers = λ i f. g.remembers i (omega arith);
  }

  -- .. and they are the registers
  pub laid_same : LaidTo rs k lanes indices all → 32 ≤ k → registers_in rs lanes indices all ≡ rs
  laid_same g h = sym (views-are rs lanes indices all rs g.registers32 (λ i f. sym (g.same i (omega arith))))

-- ---- joined again

-- the first k registers are joined again; the others are as they were
pub record JoinedTo (rs : List Register) (k : ℕ) (lanes indices : List (List ℕ)) (all : List Running) (now : List Register) : Type 0 where
  pub long : length now ≡ 32
  pub joined : (i : ℕ) → i < k → get_or now i no_register ≡ view_at rs lanes indices all i
  pub left : (i : ℕ) → k ≤ i → get_or now i no_register ≡ get_or rs i no_register

module _ (rs : List Register) (k : ℕ) (lanes indices : List (List ℕ)) (all : List Running) (now : List Register) where
  -- one more
  pub joined-more : JoinedTo rs k lanes indices all now → k < 32 → (r : Register) → r ≡ view_of (get_or now k no_register).pattern (get_or lanes k []) (get_or indices k []) (get_or all k no_running)
      → JoinedTo rs (k + 1) lanes indices all (set now k r)
  joined-more g h r s =
      let p : (get_or now k no_register).pattern ≡ pattern_at rs k = ap (λ (x : Register). x.pattern) (g.left k (omega arith)) in
      record {
        long = length-set now k r ∙ g.long;
        joined = λ i f.
            at-or-other (λ j. j < k + 1 → get_or (set now k r) j no_register ≡ view_at rs lanes indices all j) k i
            (λ f'. get_or-set_same now k r no_register (omega (arith, g.long)) ∙ s ∙ ap (λ x. view_of x (get_or lanes k []) (get_or indices k []) (get_or all k no_running)) p)
            (λ d f'. get_or-set_other now k i r no_register d ∙ g.joined i (below i d f'))
            f;
        left = λ i f. get_or-set_other now k i r no_register (λ z. omega arith) ∙ g.left i (omega arith);
      }
    where
      below : (i : ℕ) → i ≢ k → i < k + 1 → i < k
      below i d f = omega arith

  -- all of them
  pub joined-all : JoinedTo rs k lanes indices all now → 32 ≤ k → now ≡ registers_in rs lanes indices all
  joined-all g h = views-are rs lanes indices all now g.long (λ i f. g.joined i (omega arith))
