-- What the checks of a calculation on running registers found, from the checks on the registers that they stand for.
--
--   ready              an open stream is ready for its next chunk
--   moved-room         stops gone past are few
--   turned_down        a refused calculation
--   by-operands        why, once states and widths fit
--   unblamed, second-blamed   14 of an operand that is not refused; of the second source that is the first once more
--   stopped, cleared   refused by an operand, or not at all
use Rattle.std.proofs.Common.{◌≡◌, ℕ, ◌+◌, ◌-◌, ◌/◌, ◌^◌, ◌<◌, ◌≤◌, Bool, true, false, cond, not, ◌&&◌, ◌||◌, eqb, ltb, List, [], ◌∷◌, length, take, drop, replicate, sym, refl, ap, ◌∙◌, subst, arith, length-drop, length-take, ltb-false, eqb-true, Ok, Err, Result}
use borrow.Author.Tests.{not-false}
use Rattle.codec.specs.TestLaws.{or-false, and-false}
use Rattle.codec.specs.declared.operation.Task.{Task}
use Rattle.codec.specs.declared.refusal.Role.{Role}
use Rattle.codec.specs.declared.refusal.Role.TheVariants as role
use Rattle.codec.specs.declared.refusal.Refusal.{Refusal}
use Rattle.engine.specs.Checks.{first_of, Why}
use Rattle.engine.specs.Loops.{size_at}
use Rattle.engine.specs.Chunks.{stops, chunk}
use Rattle.engine.specs.ChunkLaws.{covered, chunk-stops}
use Rattle.engine.specs.StopLaws.{among-length}
use Rattle.engine.specs.CountLaws.{few-stops}
use Rattle.engine.specs.Lanes.{outcome_count}
use Rattle.engine.specs.Registers.{is_open}
use Rattle.engine.specs.Stretches.{all_within}
use Rattle.engine.specs.Places.{Ready}
use Rattle.engine.specs.GoodLaws.{next, more}
use Rattle.engine.specs.CalculationLaws.{nothing}
use Rattle.engine.specs.LaneLaws.{width-range}
use Rattle.engine.specs.Runnings.{view_of, bare, gone_by, listed_in}
use Rattle.engine.specs.Operands.{operand_from, Taken, outside_of, why_on}
use Rattle.engine.specs.Calculations.{Fit, Within, refusal_in, Cleared}
use Rattle.engine.proofs.Ordered.{states, after, widths, lacking, flags, fits, outcome-room, one_width, store-width, target-few, third-outside}
use Rattle.engine.proofs.Carrying.{taken-long}
use Rattle.engine.specs.declared.stream.Pattern.{Pattern}
use Rattle.engine.specs.declared.running.Running.{Running}
use Rattle.engine.specs.declared.ahead.Ahead.{Ahead}
use Rattle.engine.specs.declared.part.Part.{Part}
use Rattle.engine.specs.declared.calculate.Operands.{Operands}

-- a refusal is no answer
pub some-reason : {A X : Type 0} (w : Result A Refusal) (x : Refusal) (o : A) → w ≡ Err x → w ≡ Ok o → X
some-reason w x o e f = absurd cc

-- what holds of an answer holds of each answer that is the same
pub answers : {A : Type 0} (P : A → Type 0) (x : A) → P x → (o : A) → (let told : Result A Refusal = Ok x in told ≡ Ok o) → P o
answers P x p o e = let k : x ≡ o = cc in subst P k p

-- an open stream of a good register is ready
pub ready : (vl : ℕ) (p : Pattern) (row : List ℕ) (q : Running) → Fit vl p row q → is_open q.state ≡ true → Ready (view_of p [] row q)
ready vl p row q f e =
    let g = f.good (replicate 64 0) refl in
    let o = g.opened e in
    record {
      pattern = g.pattern;
      width = (width-range q.width g.width).1;
      accepted = o.0.accepted;
      some = o.1;
      index = o.0.index;
      height = o.0.height;
    }

-- 13: the sources' lanes differ in number, or exceed the store's chunk
abbrev pub lanes_differ : Task → Ahead → Ahead → Ahead → Bool
lanes_differ t x y z = not (eqb x.count y.count) || z.live && ltb z.count (outcome_count t x.count)

-- stops gone past are few
pub moved-room : (vl : ℕ) (p : Pattern) (before : List ℕ) (q : Running) → Fit vl p before q → (most plain : ℕ) (row : List ℕ) (xs : List Part) (o : Ahead) → Taken p before q most plain row xs o
    → o.live ≡ true → q.moved + gone_by q o.count < 2 ^ 32
moved-room vl p before q f most plain row xs o t e =
    let s = p.shape in
    let g : is_open q.state ≡ true = sym (t.operates []).told ∙ e in
    let y = ready vl p before q f g in
    let n = length (chunk s most q.moved) in
    let c : o.count ≤ n = subst (λ k. k ≤ n) (sym (rw g at (t.operates []).counted)) (among-length (size_at s) (chunk s most q.moved)) in
    let l : length (take n (drop q.moved (stops s))) ≤ length (stops s) - q.moved = simp (length-take, length-drop) (omega arith) in
    omega (arith, c, l, one-or (eqb q.size 0) o.count, ap length (chunk-stops s most q.moved), y.some, few-stops s (covered s s.coupling y.accepted.covered), y.accepted.few)
  where
    one-or : (b : Bool) (n : ℕ) → cond b 1 n ≤ n + 1
    one-or true n = omega arith
    one-or false n = omega arith

-- 14 refuses no operand: every element lies inside
pub unblamed : (role : Role) (len width : ℕ) (o : Ahead) (l : List Part) → first_of (outside_of role len width o l ∷ []) ≡ Ok tt
    → o.live ≡ true → all_within len width (listed_in o l) ≡ true
unblamed role len width o l e t = not-false _ (and-false _ _ (next _ _ _ e).0 t)

-- .. and it refuses none in another role
pub no-role : (role role' : Role) (len width : ℕ) (o : Ahead) (l : List Part) → first_of (outside_of role len width o l ∷ []) ≡ Ok tt → first_of (outside_of role' len width o l ∷ []) ≡ Ok tt
no-role role role' len width o l e = more _ _ [] (next _ _ _ e).0 nothing

-- the second source, with the first's parts if it is the first once more: it is refused exactly if it is another and lies outside
pub second-blamed : (len width : ℕ) (same : Bool) (o : Ahead) (xs ys : List Part) (q : Why) → q ≡ cond same (Ok tt) (first_of (outside_of role.Second len width o ys ∷ []))
    → (same ≡ true → first_of (outside_of role.First len width o xs ∷ []) ≡ Ok tt) → first_of (outside_of role.Second len width o (cond same xs ys) ∷ []) ≡ q
second-blamed len width true o xs ys q e f = no-role role.First role.Second len width o xs (f refl) ∙ sym e
second-blamed len width false o xs ys q e f = sym e

module _ (task : Task) (vl len : ℕ) (same : Bool) (pa pb pd : Pattern) (a b d : Running) (va vb vd va' vb' vd' : List ℕ) (xs ys zs : List Part) where
  -- a refused calculation
  pub turned_down : (r : Result Operands Refusal) (x : Refusal) → r ≡ Err x
      → ((la lb ld memory : List ℕ) → length la ≡ 64 → length lb ≡ 64 → length ld ≡ 64 → length memory ≡ len → why_on task vl memory (view_of pa la va a) (view_of pb lb vb b) (view_of pd ld vd d) ≡ Err x)
      → Cleared task vl len same pa pb pd a b d va vb vd va' vb' vd' xs ys zs r
  turned_down r x e f = record {
    refused = λ la lb ld memory p q s t. ap refusal_in e ∙ sym (f la lb ld memory p q s t);
    first = λ o. some-reason r x o e;
    second = λ o. some-reason r x o e;
    destination = λ o. some-reason r x o e;
    widths = λ o. some-reason r x o e;
    within = λ o. some-reason r x o e;
    again = λ o. some-reason r x o e;
  }

  module _ (least : 8 ≤ vl) (vl64 : vl ≤ 64) (fa : Fit vl pa va a) (fb : Fit vl pb vb b) (fd : Fit vl pd vd d) (x y z : Ahead)
      (tx : Taken pa va a (vl / a.width) a.valid va' xs x) (ty : Taken pb vb b (vl / b.width) b.valid vb' ys y) (tz : Taken pd vd d (outcome_count task x.count) (outcome_count task x.count) vd' zs z)
      (e : first_of (states (bare a) (bare b) (bare d)) ≡ Ok tt) (w : widths (bare a) (bare b) (bare d) ≡ false) where
    pub by-operands : (la lb ld memory : List ℕ) → length la ≡ 64 → length lb ≡ 64 → length ld ≡ 64 → length memory ≡ len
        → why_on task vl memory (view_of pa la va a) (view_of pb lb vb b) (view_of pd ld vd d)
        ≡ first_of (after false (lanes_differ task x y z) (lacking task x.count) (outside_of role.First len a.width x xs) (outside_of role.Second len b.width y ys) (outside_of role.Destination len d.width z zs))
    by-operands la lb ld memory p q s t =
        flags task vl least memory (view_of pa la va a) (view_of pb lb vb b) (view_of pd ld vd d) (fa.good la p) (fb.good lb q)
        (operand_from pa la va' xs a x) (operand_from pb lb vb' ys b y) (operand_from pd ld vd' zs d z) (tx.operates la) (ty.operates lb) (tz.operates ld) e w
        ∙ ap (λ n. first_of (after false (lanes_differ task x y z) (lacking task x.count) (outside_of role.First n a.width x xs) (outside_of role.Second n b.width y ys) (outside_of role.Destination n d.width z zs))) t

    -- an operand refuses
    pub stopped : (r : Result Operands Refusal) (v : Refusal) → r ≡ Err v
        → ((u : Why) → u ≡ first_of (after false (lanes_differ task x y z) (lacking task x.count) (outside_of role.First len a.width x xs) (outside_of role.Second len b.width y ys) (outside_of role.Destination len d.width z zs)) → u ≡ Err v)
        → Cleared task vl len same pa pb pd a b d va vb vd va' vb' vd' xs ys zs r
    stopped r v f g = turned_down r v f (λ la lb ld memory p q s t. g _ (by-operands la lb ld memory p q s t))

    module _ (l : lanes_differ task x y z ≡ false) (some : lacking task x.count ≡ false) (ox : first_of (outside_of role.First len a.width x xs ∷ []) ≡ Ok tt) (oy : first_of (outside_of role.Second len b.width y ys ∷ []) ≡ Ok tt)
        (oz : first_of (outside_of role.Destination len d.width z zs ∷ []) ≡ Ok tt) where
      abbrev zeros : List ℕ
      zeros = replicate 64 0

      none : first_of (after false (lanes_differ task x y z) (lacking task x.count) (outside_of role.First len a.width x xs) (outside_of role.Second len b.width y ys) (outside_of role.Destination len d.width z zs)) ≡ Ok tt
      none = third-outside _ _ _ _ _ _ refl l some ox oy ∙ oz

      one : b.width ≡ a.width
      one = one_width task vl least [] (view_of pa zeros va a) (view_of pb zeros vb b) (view_of pd zeros vd d) (fa.good zeros refl) (fb.good zeros refl) (operand_from pa zeros va' xs a x) (operand_from pb zeros vb' ys b y) (operand_from pd zeros vd' zs d z) (tx.operates zeros) (ty.operates zeros) (tz.operates zeros) e w

      stores : is_open d.state ≡ true → d.width ≡ a.width
      stores = store-width task vl least [] (view_of pa zeros va a) (view_of pb zeros vb b) (view_of pd zeros vd d) (fa.good zeros refl) (fb.good zeros refl) (operand_from pa zeros va' xs a x) (operand_from pb zeros vb' ys b y) (operand_from pd zeros vd' zs d z) (tx.operates zeros) (ty.operates zeros) (tz.operates zeros) e w

      -- the three operands
      abbrev three : Operands
      three = record { first = x; second = y; destination = z }

      -- no check refuses
      pub cleared : (same ≡ true → (y ≡ x) × (listed_in y ys ≡ listed_in x xs)) → (r : Result Operands Refusal) → r ≡ Ok three
          → Cleared task vl len same pa pb pd a b d va vb vd va' vb' vd' xs ys zs r
      cleared g r f =
          subst (Cleared task vl len same pa pb pd a b d va vb vd va' vb' vd' xs ys zs) (sym f)
          (record {
            refused = λ la lb ld memory p q s t. sym (by-operands la lb ld memory p q s t ∙ none);
            first = answers (λ o. Taken pa va a (vl / a.width) a.valid va' xs o.first) three tx;
            second = answers (λ o. Taken pb vb b (vl / b.width) b.valid vb' ys o.second) three ty;
            destination = answers (λ o. Taken pd vd d (outcome_count task o.first.count) (outcome_count task o.first.count) vd' zs o.destination) three tz;
            widths = λ o t. (one, stores);
            within = answers (λ o. Within task len a.width o.first o.second o.destination xs ys zs) three (record {
              wide = (fa.good zeros refl).width;
              room = omega (arith, fits task vl least [] (view_of pa zeros va a) (view_of pb zeros vb b) (view_of pd zeros vd d) (fa.good zeros refl) (fb.good zeros refl) (operand_from pa zeros va' xs a x) (operand_from pb zeros vb' ys b y) (operand_from pd zeros vd' zs d z) (tx.operates zeros) (ty.operates zeros) (tz.operates zeros) e w);
              fits = omega (arith, outcome-room task vl least [] (view_of pa zeros va a) (view_of pb zeros vb b) (view_of pd zeros vd d) (fa.good zeros refl) (fb.good zeros refl) (operand_from pa zeros va' xs a x) (operand_from pb zeros vb' ys b y) (operand_from pd zeros vd' zs d z) (tx.operates zeros) (ty.operates zeros) (tz.operates zeros) e w);
              counts = sym (eqb-true _ _ (not-false _ (or-false _ _ l).0));
              fills = λ u.
                  let p : outcome_count task x.count ≤ z.count = ltb-false z.count (outcome_count task x.count) (and-false _ _ (or-false (not (eqb x.count y.count)) _ l).1 u) in
                  omega (arith, target-few (outcome_count task x.count) (view_of pd zeros vd d) (operand_from pd zeros vd' zs d z) (tz.operates zeros));
              first = unblamed role.First len a.width x xs ox;
              second = λ u. rw (one) at (unblamed role.Second len b.width y ys oy u);
              third = λ u. rw (stores (sym (tz.operates zeros).told ∙ u)) at (unblamed role.Destination len d.width z zs oz u);
              first_long = taken-long pa va va' a (vl / a.width) a.valid xs x tx;
              second_long = taken-long pb vb vb' b (vl / b.width) b.valid ys y ty;
              third_long = taken-long pd vd vd' d (outcome_count task x.count) (outcome_count task x.count) zs z tz;
              parts = (tx.parts, (ty.parts, tz.parts));
            });
            again = answers (λ o. same ≡ true → (o.second ≡ o.first) × (listed_in o.second ys ≡ listed_in o.first xs)) three g;
          })

-- the operands as the checks look at them, once states and widths fit: at most so many lanes of each source, so many of the destination
pub record Looked (task : Task) (vl : ℕ) (same : Bool) (pa pb pd : Pattern) (a b d : Running) (va vb vd va' vb' vd' : List ℕ) (xs ys zs : List Part) (most k : ℕ) (x y z : Ahead) : Type 0 where
  pub least : 8 ≤ vl
  pub largest : vl ≤ 64
  pub fit : Fit vl pa va a × (Fit vl pb vb b × Fit vl pd vd d)
  pub fine : first_of (states (bare a) (bare b) (bare d)) ≡ Ok tt
  pub wide : widths (bare a) (bare b) (bare d) ≡ false
  pub lanes : most ≡ vl / a.width
  pub first : Taken pa va a most a.valid va' xs x
  pub second : Taken pb vb b most b.valid vb' (cond same xs ys) y
  pub again : same ≡ true → (b ≡ a) × (y ≡ x)
  pub results : k ≡ outcome_count task x.count
  pub destination : Taken pd vd d k k vd' zs z

module _ {task : Task} {vl : ℕ} {same : Bool} {pa pb pd : Pattern} {a b d : Running} {va vb vd va' vb' vd' : List ℕ} {xs ys zs : List Part} {most k : ℕ} {x y z : Ahead}
    (l : Looked task vl same pa pb pd a b d va vb vd va' vb' vd' xs ys zs most k x y z) (len : ℕ) where
  one_wide : b.width ≡ a.width
  one_wide = sym (eqb-true _ _ (not-false _ (or-false _ _ l.wide).0))

  first-taken : Taken pa va a (vl / a.width) a.valid va' xs x
  first-taken = subst (λ m. Taken pa va a m a.valid va' xs x) l.lanes l.first

  second-taken : Taken pb vb b (vl / b.width) b.valid vb' (cond same xs ys) y
  second-taken = subst (λ m. Taken pb vb b m b.valid vb' (cond same xs ys) y) (l.lanes ∙ ap (λ n. vl / n) (sym one_wide)) l.second

  destination-taken : Taken pd vd d (outcome_count task x.count) (outcome_count task x.count) vd' zs z
  destination-taken = subst (λ n. Taken pd vd d n n vd' zs z) l.results l.destination

  -- an operand refuses
  pub halts : (r : Result Operands Refusal) (v : Refusal) → r ≡ Err v
      → ((u : Why) → u ≡ first_of (after false (lanes_differ task x y z) (lacking task x.count) (outside_of role.First len a.width x xs) (outside_of role.Second len b.width y (cond same xs ys)) (outside_of role.Destination len d.width z zs)) → u ≡ Err v)
      → Cleared task vl len same pa pb pd a b d va vb vd va' vb' vd' xs (cond same xs ys) zs r
  halts r v f g =
      stopped task vl len same pa pb pd a b d va vb vd va' vb' vd' xs (cond same xs ys) zs l.least l.largest l.fit.0 l.fit.1.0 l.fit.1.1 x y z first-taken second-taken destination-taken l.fine l.wide r v f g

  -- no operand refuses
  pub passes : lanes_differ task x y z ≡ false → lacking task x.count ≡ false → first_of (outside_of role.First len a.width x xs ∷ []) ≡ Ok tt → first_of (outside_of role.Second len b.width y (cond same xs ys) ∷ []) ≡ Ok tt
      → first_of (outside_of role.Destination len d.width z zs ∷ []) ≡ Ok tt → Cleared task vl len same pa pb pd a b d va vb vd va' vb' vd' xs (cond same xs ys) zs (Ok (record { first = x; second = y; destination = z }))
  passes e some ox oy oz =
      cleared task vl len same pa pb pd a b d va vb vd va' vb' vd' xs (cond same xs ys) zs l.least l.largest l.fit.0 l.fit.1.0 l.fit.1.1 x y z first-taken second-taken destination-taken l.fine l.wide e some ox oy oz
      (λ t. ((l.again t).1, λ i. listed_in ((l.again t).1 i) (cond (t i) xs ys))) _ refl

  -- 13 of the operands
  pub counted : (told : Bool) → told ≡ (not (eqb x.count y.count) || z.live && ltb z.count k) → lanes_differ task x y z ≡ told
  counted told e = ap (λ n. not (eqb x.count y.count) || z.live && ltb z.count n) (sym l.results) ∙ sym e

  -- 14 of the second source, where it does not refuse the first
  pub blamed : first_of (outside_of role.First len a.width x xs ∷ []) ≡ Ok tt → (q : Why) → q ≡ cond same (Ok tt) (first_of (outside_of role.Second len b.width y ys ∷ []))
      → first_of (outside_of role.Second len b.width y (cond same xs ys) ∷ []) ≡ q
  blamed first q e =
      second-blamed len b.width same y xs ys q e (λ t. (λ i. first_of (outside_of role.First len ((l.again t).0 i).width ((l.again t).1 i) xs ∷ [])) ∙ first)
