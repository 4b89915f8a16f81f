-- A calculation on the registers as they are laid out for a run.
--
--   fit_at                        each of them is fit for a calculation
--   after-width, remembers-written   a register after its chunk
--   round, refused-so             a calculation that was carried out, or refused, as the definitions have it
--   Laid, three-on                the arrays of a run; after a calculation
use Rattle.std.proofs.Common.{◌≡◌, ℕ, ◌*◌, ◌/◌, ◌<◌, ◌≤◌, Bool, true, false, cond, List, [], length, get_or, set, ℤ, sym, refl, ap, ◌∙◌, subst, ap₂, Ok, Err, Result}
use lib.ListN.{length-map}
use Rattle.codec.specs.TestLaws.{never}
use Rattle.codec.specs.declared.operation.Task.{Task}
use Rattle.codec.specs.declared.refusal.Refusal.{Refusal}
use Rattle.engine.specs.Checks.{Why}
use Rattle.engine.specs.Good.{Good, AllGood}
use Rattle.engine.specs.Lanes.{outcome, outcome_count}
use Rattle.engine.specs.Loops.{natural}
use Rattle.engine.specs.Memory.{value_at, holding, packed}
use Rattle.engine.specs.Registers.{is_open, reg}
use Rattle.engine.specs.Configure.{unless_because}
use Rattle.engine.specs.EffectLaws.{length-lanes, outcome-length}
use Rattle.engine.specs.Stretches.{stored_at}
use Rattle.engine.specs.Runnings.{view_of, Remembers, filled_with, afterwards, listed_in}
use Rattle.engine.specs.Operands.{operand_from, Taken, lanes_of, lanes_out, results_on, Calculated}
use Rattle.engine.specs.Calculate.{memory_after}
use Rattle.engine.specs.Calculations.{lanes_in, outcome_of, Fit, refusal_in, Cleared, Carries}
use Rattle.engine.specs.Layouts.{no_running, pattern_at, view_at, registers_in, LaidOut}
use Rattle.engine.specs.LayoutLaws.{views-at, views-set, laid-set}
use Rattle.engine.proofs.Carrying.{source-lanes, source-shown, target-shown, remembers-filled}
use Rattle.engine.proofs.Ordered.{carried}
use Rattle.engine.proofs.Clearing.{some-reason}
use Rattle.engine.specs.declared.stream.Pattern.{Pattern}
use Rattle.engine.specs.declared.register.Register.{Register}
use Rattle.engine.specs.declared.register.Machine.{Machine}
use Rattle.engine.specs.declared.running.Running.{Running}
use Rattle.engine.specs.declared.ahead.Ahead.{Ahead}
use Rattle.engine.specs.declared.part.Part.{Part}
use Rattle.engine.specs.declared.calculate.Operands.{Operands}
use Rattle.engine.specs.declared.calculate.Outcome.{Outcome}

-- a good register is good with any other lanes
relaned : (vl : ℕ) (p : Pattern) (lanes row : List ℕ) (q : Running) → Good vl (view_of p lanes row q) → (l : List ℕ) → length l ≡ 64 → Good vl (view_of p l row q)
relaned vl p lanes row q g l e = record {
  width = g.width;
  lanes = e;
  valid = g.valid;
  pattern = g.pattern;
  indices = g.indices;
  unmoved = g.unmoved;
  opened = λ t. (record { accepted = (g.opened t).0.accepted; index = (g.opened t).0.index; height = (g.opened t).0.height }, (g.opened t).1);
  finished = λ t. (record { accepted = (g.finished t).0.accepted; index = (g.finished t).0.index; height = (g.finished t).0.height }, (g.finished t).1);
}

module _ (kept : List Register) (lanes indices : List (List ℕ)) (all : List Running) (o : LaidOut kept lanes indices all) where
  -- each of the registers is fit for a calculation
  pub fit_at : (vl : ℕ) → AllGood vl (record { registers = registers_in kept lanes indices all }) → (i : ℕ) → i < 32
      → Fit vl (pattern_at kept i) (get_or indices i []) (get_or all i no_running)
  fit_at vl g i h = record {
    good = relaned vl (pattern_at kept i) (get_or lanes i []) (get_or indices i []) (get_or all i no_running) (subst (Good vl) (views-at kept lanes indices all i h) (g.good i h));
    remembers = o.remembers i h;
  }

  pub lanes-long : (vl : ℕ) → AllGood vl (record { registers = registers_in kept lanes indices all }) → (i : ℕ) → i < 32 → length (get_or lanes i []) ≡ 64
  lanes-long vl g i h = (subst (Good vl) (views-at kept lanes indices all i h) (g.good i h)).lanes

  -- a calculation on three of them
  pub calculated-at : (vl : ℕ) (task : Task) (memory : List ℕ) (i j t : ℕ) → i < 32 → j < 32 → t < 32 → (why : Why) (f s w : Register) (after : List ℕ)
      → Calculated vl task memory (view_at kept lanes indices all i) (view_at kept lanes indices all j) (view_at kept lanes indices all t) why f s w after
      → let m : Machine = record { registers = registers_in kept lanes indices all } in Calculated vl task memory (reg m i) (reg m j) (reg m t) why f s w after
  calculated-at vl task memory i j t hi hj ht why f s w after h =
      let m : Machine = record { registers = registers_in kept lanes indices all } in
      subst (λ r. Calculated vl task memory (reg m i) (reg m j) r why f s w after) (sym (views-at kept lanes indices all t ht))
      (subst (λ r. Calculated vl task memory (reg m i) r (view_at kept lanes indices all t) why f s w after) (sym (views-at kept lanes indices all j hj))
      (subst (λ r. Calculated vl task memory r (view_at kept lanes indices all j) (view_at kept lanes indices all t) why f s w after) (sym (views-at kept lanes indices all i hi)) h))

-- how many lanes an operand gives
lanes_count : (w : ℕ) (memory : List ℕ) (o : Ahead) (xs : List Part) (lanes : List ℕ) → (o.live ≡ true → length (listed_in o xs) ≡ o.count) → length (lanes_in w memory o xs lanes) ≡ o.count
lanes_count w memory o xs lanes h = go o.live refl
  where
    go : (b : Bool) → o.live ≡ b → length (lanes_in w memory o xs lanes) ≡ o.count
    go true e = rw e (length-map (listed_in o xs) (λ a. value_at memory (natural a) w) ∙ h e)
    go false e = rw e (length-lanes lanes w 0 o.count)

-- a store at another width that is the same
stored-width : (live : Bool) (memory : List ℕ) (v w : ℕ) (l : List ℤ) (xs : List ℕ) → (live ≡ true → v ≡ w) → cond live (stored_at memory v l xs) memory ≡ cond live (stored_at memory w l xs) memory
stored-width true memory v w l xs h = ap (λ j. stored_at memory j l xs) (h refl)
stored-width false memory v w l xs h = refl

-- a chunk changes no width
after-width : (q : Running) (o : Ahead) → (afterwards o q).width ≡ q.width
after-width q o = go o.live refl
  where
    go : (b : Bool) → o.live ≡ b → (afterwards o q).width ≡ q.width
    go true e = rw e
    go false e = rw e

-- what a destination remembers
remembers-written : (p : Pattern) (before row : List ℕ) (q : Running) (most plain : ℕ) (xs : List Part) (o : Ahead) → Taken p before q most plain row xs o
    → (width n : ℕ) (f : Running) → f ≡ cond o.live (afterwards o q) (filled_with width n (afterwards o q)) → Remembers p row f
remembers-written p before row q most plain xs o t width n f e = go o.live refl
  where
    go : (b : Bool) → o.live ≡ b → Remembers p row f
    go true k = subst (Remembers p row) (sym (rw k at e)) (rw k at t.remembers)
    go false k =
        let c : is_open q.state ≡ false = sym (t.operates []).told ∙ k in
        subst (Remembers p row) (sym (rw k at e)) (λ u. never (sym c ∙ u))

module _ (task : Task) (vl : ℕ) (same : Bool) (pa pb pd : Pattern) (a b d : Running) (va vb vd va' vb' vd' : List ℕ) (xs ys zs : List Part) (r : Result Operands Refusal) (la lb ld memory : List ℕ)
    (c : Cleared task vl (length memory) same pa pb pd a b d va vb vd va' vb' vd' xs ys zs r) (ea : length la ≡ 64) (eb : length lb ≡ 64) (ed : length ld ≡ 64) where
  -- a refused calculation
  pub refused-so : (x : Refusal) → r ≡ Err x → (f s w : Register) → Calculated vl task memory (view_of pa la va a) (view_of pb lb vb b) (view_of pd ld vd d) (Err x) f s w memory
  refused-so x e f s w =
      let k = ap refusal_in (sym e) ∙ c.refused la lb ld memory ea eb ed refl in
      record {
        refused = k;
        read = some-reason (Err x) x tt refl;
        other = some-reason (Err x) x tt refl;
        written = some-reason (Err x) x tt refl;
        stored = ap (λ y. unless_because y (memory_after vl (results_on vl task memory (view_of pa la va a) (view_of pb lb vb b)) memory (view_of pd ld vd d)) memory) k;
      }

  module _ (least : 8 ≤ vl) (o : Operands) (e : r ≡ Ok o) (fa : Fit vl pa va a) (q : Outcome) (la' lb' ld' memory' : List ℕ)
      (k : Carries task a.width memory a b d o.first o.second o.destination xs ys zs la lb ld q la' lb' ld' memory') where
    tx : Taken pa va a (vl / a.width) a.valid va' xs o.first
    tx = c.first o e

    ty : Taken pb vb b (vl / b.width) b.valid vb' ys o.second
    ty = c.second o e

    tz : Taken pd vd d (outcome_count task o.first.count) (outcome_count task o.first.count) vd' zs o.destination
    tz = c.destination o e

    one : b.width ≡ a.width
    one = (c.widths o e).0

    first-lanes : lanes_in a.width memory o.first xs la ≡ lanes_of (view_of pa la va a) (operand_from pa la va' xs a o.first) memory
    first-lanes = source-lanes pa va va' a (vl / a.width) a.valid xs o.first tx memory la refl

    second_lanes : lanes_in a.width memory o.second ys lb ≡ lanes_of (view_of pb lb vb b) (operand_from pb lb vb' ys b o.second) memory
    second_lanes = ap (λ w. lanes_in w memory o.second ys lb) (sym one) ∙ source-lanes pb vb vb' b (vl / b.width) b.valid ys o.second ty memory lb refl

    out : outcome_of task a.width memory o.first o.second xs ys la lb ≡ lanes_out task memory (view_of pa la va a) (view_of pb lb vb b) (operand_from pa la va' xs a o.first) (operand_from pb lb vb' ys b o.second)
    out = ap₂ (outcome task (8 * a.width)) first-lanes second_lanes

    -- a calculation that was carried out
    calculated : Calculated vl task memory (view_of pa la va a) (view_of pb lb vb b) (view_of pd ld vd d) (Ok tt) (view_of pa la' va' q.first) (view_of pb lb' vb' q.second) (view_of pd ld' vd' q.destination) memory'
    calculated =
        let w = c.within o e in
        let x = operand_from pa la va' xs a o.first in
        let y = operand_from pb lb vb' ys b o.second in
        let z = operand_from pd ld vd' zs d o.destination in
        let g = fa.good la ea in
        let n : outcome_count task o.first.count ≡ length (outcome_of task a.width memory o.first o.second xs ys la lb) =
        sym (outcome-length task _ (lanes_in a.width memory o.first xs la) (lanes_in a.width memory o.second ys lb)
        (lanes_count a.width memory o.first xs la w.first_long ∙ sym w.counts ∙ sym (lanes_count a.width memory o.second ys lb w.second_long))
        ∙ ap (outcome_count task) (lanes_count a.width memory o.first xs la w.first_long)) in
        carried task vl least memory (view_of pa la va a) (view_of pb lb vb b) (view_of pd ld vd d) g x y z (tx.operates la) (ty.operates lb) (tz.operates ld)
        (c.widths o e).1 (sym w.counts) (λ t. w.fills ((tz.operates ld).told ∙ t)) (sym (c.refused la lb ld memory ea eb ed refl) ∙ ap refusal_in e) (Ok tt) _ _ _ memory'
        (record {
          done = refl;
          read = source-shown pa va va' a (vl / a.width) a.valid xs o.first tx memory la refl q.first la' k.read k.chunk;
          other = source-shown pb vb vb' b (vl / b.width) b.valid ys o.second ty memory lb refl q.second lb'
              (k.other ∙ ap (λ j. cond o.second.live (filled_with j o.second.count (afterwards o.second b)) (afterwards o.second b)) (sym one))
              (k.other_chunk ∙ ap (λ j. cond o.second.live (packed j (lanes_in j memory o.second ys lb)) lb) (sym one));
          written = target-shown pd vd vd' d (outcome_count task o.first.count) (outcome_count task o.first.count) zs o.destination tz ld a.width (outcome_count task o.first.count) _ n q.destination ld' k.written k.content
              ∙ ap (λ l. cond o.destination.live (view_of pd ld vd' (afterwards o.destination d)) (holding a.width l (view_of pd ld vd d))) out;
          stored = k.stored ∙ ap (λ l. cond o.destination.live (stored_at memory a.width (listed_in o.destination zs) l) memory) out
              ∙ stored-width o.destination.live memory a.width d.width _ _ (λ t. sym ((c.widths o e).1 (sym (tz.operates ld).told ∙ t)));
        })

    -- what the three registers remember
    remember-first : Remembers pa va' q.first
    remember-first = remembers-filled pa va' o.first.live a.width o.first.count (afterwards o.first a) q.first (after-width a o.first) tx.remembers k.read

    remember-second : Remembers pb vb' q.second
    remember-second = remembers-filled pb vb' o.second.live a.width o.second.count (afterwards o.second b) q.second (after-width b o.second ∙ one) ty.remembers k.other

    remember-third : Remembers pd vd' q.destination
    remember-third = remembers-written pd vd vd' d (outcome_count task o.first.count) (outcome_count task o.first.count) zs o.destination tz a.width (outcome_count task o.first.count) q.destination k.written

    -- the calculation, and what the three registers remember after it
    pub round : Calculated vl task memory (view_of pa la va a) (view_of pb lb vb b) (view_of pd ld vd d) (Ok tt) (view_of pa la' va' q.first) (view_of pb lb' vb' q.second) (view_of pd ld' vd' q.destination) memory'
        × (Remembers pa va' q.first × (Remembers pb vb' q.second × Remembers pd vd' q.destination))
    round = (calculated, (remember-first, (remember-second, remember-third)))

-- the arrays of a run: laid out, with room for addresses, beside a memory of so many bytes
pub record Laid (kept : List Register) (lanes indices : List (List ℕ)) (all : List Running) (xs ys zs : List Part) (len : ℕ) (memory : List ℕ) : Type 0 where
  pub out : LaidOut kept lanes indices all
  pub firsts : length xs ≡ 64
  pub seconds : length ys ≡ 64
  pub thirds : length zs ≡ 64
  pub long : length memory ≡ len

-- three registers one after the other
module _ (kept : List Register) (lanes indices : List (List ℕ)) (all : List Running) (o : LaidOut kept lanes indices all)
    (i j t : ℕ) (hi : i < 32) (hj : j < 32) (ht : t < 32) (la lb ld va vb vd : List ℕ) (f s w : Running)
    (mf : Remembers (pattern_at kept i) va f) (ms : Remembers (pattern_at kept j) vb s) (mw : Remembers (pattern_at kept t) vd w) where
  laid1 : LaidOut kept (set lanes i la) (set indices i va) (set all i f)
  laid1 = laid-set kept lanes indices all o i hi la va f mf

  laid2 : LaidOut kept (set (set lanes i la) j lb) (set (set indices i va) j vb) (set (set all i f) j s)
  laid2 = laid-set kept (set lanes i la) (set indices i va) (set all i f) laid1 j hj lb vb s ms

  laid_on : LaidOut kept (set (set (set lanes i la) j lb) t ld) (set (set (set indices i va) j vb) t vd) (set (set (set all i f) j s) t w)
  laid_on = laid-set kept (set (set lanes i la) j lb) (set (set indices i va) j vb) (set (set all i f) j s) laid2 t ht ld vd w mw

  views-on : registers_in kept (set (set (set lanes i la) j lb) t ld) (set (set (set indices i va) j vb) t vd) (set (set (set all i f) j s) t w)
      ≡ set (set (set (registers_in kept lanes indices all) i (view_of (pattern_at kept i) la va f)) j (view_of (pattern_at kept j) lb vb s)) t (view_of (pattern_at kept t) ld vd w)
  views-on =
      views-set kept (set (set lanes i la) j lb) (set (set indices i va) j vb) (set (set all i f) j s) laid2 t ht ld vd w
      ∙ ap (λ l. set l t (view_of (pattern_at kept t) ld vd w))
      (views-set kept (set lanes i la) (set indices i va) (set all i f) laid1 j hj lb vb s
      ∙ ap (λ l. set l j (view_of (pattern_at kept j) lb vb s)) (views-set kept lanes indices all o i hi la va f))

  -- the arrays after them, and the registers that they stand for
  pub three-on : LaidOut kept (set (set (set lanes i la) j lb) t ld) (set (set (set indices i va) j vb) t vd) (set (set (set all i f) j s) t w)
      × (registers_in kept (set (set (set lanes i la) j lb) t ld) (set (set (set indices i va) j vb) t vd) (set (set (set all i f) j s) t w)
      ≡ set (set (set (registers_in kept lanes indices all) i (view_of (pattern_at kept i) la va f)) j (view_of (pattern_at kept j) lb vb s)) t (view_of (pattern_at kept t) ld vd w))
  three-on = (laid_on, views-on)
