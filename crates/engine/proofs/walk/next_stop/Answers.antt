-- `walk::next_stop` meets its contract: after a stop come the others of its pass, then those of the later passes.
use Rattle.std.proofs.Common.{◌≡◌, ℕ, suc, ◌+◌, ◌<◌, Bool, true, false, cond, List, [], ◌∷◌, ◌++◌, map, length, get_or, drop, set, sym, refl, ap, ◌∙◌, subst, arith, length-set, drop-set-lt}
use Rattle.std.specs.Option.{is_some}
use Rattle.engine.specs.Loops.{size_at, join, elements}
use Rattle.engine.specs.Chunks.{pass_stops, stops}
use Rattle.engine.specs.Registers.{index_of}
use Rattle.engine.specs.BoundLaws.{Under}
use Rattle.engine.specs.Walk.{Stop, at, is_empty, comes_empty, after, bare, passes_after}
use Rattle.engine.specs.WalkLaws.{at_after}
use Rattle.engine.specs.IndexLaws.{index-length}
use Rattle.engine.specs.StopLaws.{stops-uncoupled}
use Rattle.engine.specs.StopWalk.{Passing, passing, stops-after, nothing-bare, here-under, here-small}
use Rattle.engine.specs.declared.stream.Shape.{Shape}
use Rattle.engine.proofs.Turns.{all_small, under-from}
use Rattle.engine.proofs.Found.{arrives-element, arrives-some, element-here, arrives, comes-same}
use Rattle.engine.proofs.walk.next_stop.Goals as goal

module _ (s : Shape) (from : List ℕ) (empty : Bool) (t : Stop s from empty) where
  stop_long : length from ≡ 7
  stop_long = ap length t.here ∙ index-length (get_or (stops s) t.position [])

  -- a stop is no element exactly if its pass holds none
  told_by : (d : ℕ) → Passing s d → empty ≡ bare (size_at s) d (drop d from)
  told_by d p =
      t.told
      ∙ nothing-bare s d p t.position t.below
      ∙ ap (λ v. bare (size_at s) d (drop d v)) (sym t.here)

  -- after the stop come the others of its pass, then the later passes
  later : (d : ℕ) → Passing s d → (b : Bool) (l : List (List ℕ)) → empty ≡ b → cond b [] (after (size_at s) 0 d from) ≡ l
      → (k : ℕ) → k < length (stops s) → from ≡ index_of (get_or (stops s) k [])
      → map index_of (drop (suc k) (stops s)) ≡ l ++ join (map (pass_stops (size_at s) d) (passes_after (size_at s) d s.dims (drop d from)))
  later d p b l y e k q i =
      let behind : List (List ℕ) = join (map (pass_stops (size_at s) d) (passes_after (size_at s) d s.dims (drop d from))) in
      stops-after s d p k q from i
      ∙ ap (λ x. cond x [] (after (size_at s) 0 d from) ++ behind) (sym (told_by d p) ∙ y)
      ∙ ap (λ m. m ++ behind) e

  -- of its pass, a search of what comes after it says all
  in_pass : (d : ℕ) (found b : Bool) (to : List ℕ)
      → at (size_at s) 0 d 0 (set from 0 (get_or from 0 0 + 1)) ≡ cond found (to ∷ after (size_at s) 0 d to) [] → found ≡ b
      → after (size_at s) 0 d from ≡ cond b (to ∷ after (size_at s) 0 d to) []
  in_pass d found b to h y =
      sym (at_after (size_at s) 0 d from (omega (arith, stop_long))) ∙ h ∙ ap (λ x. cond x (to ∷ after (size_at s) 0 d to) []) y

pub next-requires : goal.next-requires
next-requires c =
    (c.requires.0, element-here c.args.shape.now c.in_default.is c.args.index.now (is_empty c.args.from) c.requires.1)

pub returns-in_default : goal.returns-in_default
returns-in_default c =
    let s = c.args.shape.now in
    let y = c.in_default.is in
    let u : stops s ≡ elements s = stops-uncoupled s y in
    λ k q e.
    arrives-some s (suc k) c.next.result c.then_some.result c.next.new.index c.then_some.ensures
    (arrives-element s y (suc k) c.next.result c.next.new.index
    (c.next.ensures k (subst (λ l. k < length l) u q) (e ∙ ap (λ l. index_of (get_or l k [])) u)))

pub next_pass-requires : goal.next_pass-requires
next_pass-requires c =
    let s = c.args.shape.now in
    let from = c.args.index.now in
    let empty = is_empty c.args.from in
    let a = c.requires.0 in
    let t = c.requires.1 in
    let small = here-small s a from empty t in
    let p = passing s a c.in-Some.coupled c.in-Some.is in record {
      accepted = (a, (p.some, p.within), stop_long s from empty t);
      by_index = ((λ k. omega (arith, small k)), under-from s from (here-under s a from empty t) c.in-Some.coupled p.within);
    }

pub returns-in-EmptyPass : goal.returns-in-EmptyPass
returns-in-EmptyPass c =
    let s = c.args.shape.now in
    let from = c.args.index.now in
    let d = c.in-Some.coupled in
    let p = passing s c.requires.0 d c.in-Some.is in
    let r = c.next_pass in
    λ k q e.
    arrives s d p (suc k) (is_some r.result) (comes_empty r.result) r.new.index
    (comes-same s d (later s from (is_empty c.args.from) c.requires.1 d p true [] (ap is_empty c.in-EmptyPass.is) refl k q e) r.ensures)

pub overflow_add-index : goal.overflow_add-index
overflow_add-index c =
    omega (arith, here-small c.args.shape.now c.requires.0 c.args.index.now (is_empty c.args.from) c.requires.1 0)

pub seek-requires : goal.seek-requires
seek-requires c =
    let s = c.args.shape.now in
    let from = c.args.index.now in
    let empty = is_empty c.args.from in
    let a = c.requires.0 in
    let t = c.requires.1 in
    let long = stop_long s from empty t in
    let small = here-small s a from empty t in
    let p = passing s a c.in-Some.coupled c.in-Some.is in
    let x = get_or from 0 0 + 1 in record {
      accepted = (a, (omega arith, p.some), (p.within, simp length-set long));
      by_index = (
        all_small from 0 x 4096 (omega (arith, long)) (omega (arith, small 0)) (λ k. omega (arith, small k)),
        rw (drop-set-lt 1 from 0 x (omega arith)) (under-from s from (here-under s a from empty t) 1 a.some),
      );
    }

pub returns-then-seek : goal.returns-then-seek
returns-then-seek c =
    let s = c.args.shape.now in
    let from = c.args.index.now in
    let empty = is_empty c.args.from in
    let t = c.requires.1 in
    let d = c.in-Some.coupled in
    let p = passing s c.requires.0 d c.in-Some.is in
    let to = c.seek.new.index in
    let some = ap is_empty c.in_default-from.is in
    let outside : drop d to ≡ drop d from = c.seek.ensures.searched.outside ∙ drop-set-lt d from 0 (get_or from 0 0 + 1) p.some in
    λ k q e.
    arrives s d p (suc k) true false to
    (record {
      later = _;
      list = later s from empty t d p false (to ∷ after (size_at s) 0 d to) some (in_pass s from empty t d c.seek.result true to c.seek.ensures.index_value c.if-seek.true) k q e;
      nothing = λ _. sym some ∙ told_by s from empty t d p ∙ ap (bare (size_at s) d) (sym outside);
    })

pub next_pass-requires-2 : goal.next_pass-requires-2
next_pass-requires-2 c =
    let s = c.args.shape.now in
    let from = c.args.index.now in
    let d = c.in-Some.coupled in
    let a = c.requires.0 in
    let p = passing s a d c.in-Some.is in
    let k = c.seek.ensures.searched in
    let outside : drop d c.seek.new.index ≡ drop d from = k.outside ∙ drop-set-lt d from 0 (get_or from 0 0 + 1) p.some in record {
      accepted = (a, (p.some, p.within), k.long);
      by_index = (k.small, subst (Under s d) (sym outside) (under-from s from (here-under s a from (is_empty c.args.from) c.requires.1) d p.within));
    }

pub returns : goal.returns
returns c =
    let s = c.args.shape.now in
    let from = c.args.index.now in
    let empty = is_empty c.args.from in
    let t = c.requires.1 in
    let d = c.in-Some.coupled in
    let p = passing s c.requires.0 d c.in-Some.is in
    let to = c.seek.new.index in
    let r = c.next_pass-2 in
    let some = ap is_empty c.in_default-from.is in
    let outside : drop d to ≡ drop d from = c.seek.ensures.searched.outside ∙ drop-set-lt d from 0 (get_or from 0 0 + 1) p.some in
    λ k q e.
    arrives s d p (suc k) (is_some r.result) (comes_empty r.result) r.new.index
    (comes-same s d
    (later s from empty t d p false [] some (in_pass s from empty t d c.seek.result false to c.seek.ensures.index_value c.if-seek.false) k q e
    ∙ ap (λ o. join (map (pass_stops (size_at s) d) (passes_after (size_at s) d s.dims o))) (sym outside))
    r.ensures)
