-- `leave::leave_row` meets its contract: the search finds the next stop, or that there is none.
use Rattle.std.proofs.Common.{◌≡◌, suc, false, ltb, length, sym, refl, ap, ◌∙◌, arith, ltb-false, ltb-true}
use Rattle.codec.specs.TestLaws.{never}
use Rattle.engine.specs.Chunks.{stops}
use Rattle.engine.specs.Walk.{Stop, is_empty}
use Rattle.engine.specs.StopWalk.{here-small}
use Rattle.engine.specs.Places.{place_at}
use Rattle.engine.proofs.Rows.{height-next, height-none}
use Rattle.engine.proofs.Found.{held-told}
use Rattle.engine.proofs.leave.leave_row.Goals as goal

pub returns-in_default : goal.returns-in_default
returns-in_default c =
    let s = c.args.pattern.now.shape in
    record {
      by_index = λ k q e.
          let st = c.in_default.ensures k q e in
          let z : ltb (suc k) (length (stops s)) ≡ false = sym st.told in
          record { told = sym z; here = λ t. never t; high = sym (height-none s k (ltb-false _ _ z)) };
      index_after = λ t. refl;
    }

pub spot_at-requires : goal.spot_at-requires
spot_at-requires c =
    let s = c.args.pattern.now.shape in
    let found : Stop s c.next_stop.new.index (is_empty c.in-Some.to) = let e = c.requires.stop in
    let st = c.in-Some.ensures e.position e.below e.here in
    record { position = suc e.position; below = ltb-true _ _ (sym st.told); here = st.here refl; told = st.nothing refl } in
    let y = c.requires.ranged_pattern.1.1 in
    record { ranged_pattern = (c.requires.ranged_pattern.0, (c.requires.ranged_pattern.1.0, λ k. omega (arith, here-small s y _ _ found k))); at_value = held-told s y _ _ found }

pub returns : goal.returns
returns c =
    let p = c.args.pattern.now in
    record {
      by_index = λ k q e.
          let st = c.in-Some.ensures k q e in
          let f = st.here refl in
          record {
            told = st.told;
            here = λ u. c.spot_at.ensures ∙ ap (place_at p c.args.width) f;
            high = c.differ.ensures.0 ∙ sym (height-next p.shape c.requires.ranged_pattern.1.1 k q _ e _ (ltb-true _ _ (sym st.told)) f);
          };
      index_after = λ z. never (sym z);
    }
