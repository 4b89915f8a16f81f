-- `calculate::carry_out` meets its contract: the lanes read, calculated and written are those of the operands.
use Rattle.std.proofs.Common.{◌≡◌, ◌*◌, ◌≤◌, Bool, true, false, cond, length, sym, refl, ap, ◌∙◌, subst, ap₂}
use Rattle.engine.specs.ByteLaws.{Bytewise}
use Rattle.engine.specs.Lanes.{outcome, outcome_count}
use Rattle.engine.specs.LaneLaws.{width-range}
use Rattle.engine.specs.Memory.{lanes_from, packed}
use Rattle.engine.specs.Stretches.{all_within, fetched_at, stored_at}
use Rattle.engine.specs.Runnings.{listed_in, filled_with, afterwards}
use Rattle.engine.proofs.Carrying.{chunk-same, bytewise-read, read_back, result-back}
use Rattle.engine.proofs.calculate.carry_out.Goals as goal

pub read_source-requires : goal.read_source-requires
read_source-requires c =
    let a = c in
    let w = a.requires.within in
    record { room = (width-range _ w.wide, λ t. (subst (λ k. k * a.args.width ≤ 64) (sym (w.first_long t)) w.room, w.parts.0)); inside = w.first }

pub read_second-requires : goal.read_second-requires
read_second-requires c =
    let a = c in
    let w = a.requires.within in
    let p : a.args.same ≡ false → cond a.args.same a.args.xs.now a.args.ys.now ≡ a.args.ys.now = λ e. ap (λ b. cond b a.args.xs.now a.args.ys.now) e in record {
      room = (
        width-range _ w.wide,
        λ e t. (
          subst (λ l. length (listed_in a.args.y l) * a.args.width ≤ 64) (p e) (subst (λ k. k * a.args.width ≤ 64) (sym (w.second_long t ∙ w.counts)) w.room),
          w.parts.1.0,
        ),
      );
      inside = λ e t. subst (λ l. all_within (length a.args.memory.now) a.args.width (listed_in a.args.y l) ≡ true) (p e) (w.second t);
    }

pub calculate_lanes-requires : goal.calculate_lanes-requires
calculate_lanes-requires c =
    let w = c.requires.within in (width-range _ w.wide, w.room)

pub write_destination-requires : goal.write_destination-requires
write_destination-requires c =
    let w = c.requires.within in
    let k = c.outcome_count-k.ensures in
    record { room = (width-range _ w.wide, subst (λ n. n * c.args.width ≤ 64) (sym k) w.fits); listed = λ t. ((w.third_long t ∙ w.fills t ∙ sym k, w.parts.1.1), w.third t) }

pub after_read-requires : goal.after_read-requires
after_read-requires c =
    c.requires.count_bound.0

pub after_read-requires-2 : goal.after_read-requires-2
after_read-requires-2 c =
    c.requires.count_bound.1.0

pub after_write-requires : goal.after_write-requires
after_write-requires c =
    c.requires.count_bound.1.1

pub returns : goal.returns
returns c =
    let chosen : (b : Bool) → c.args.same ≡ b
    → c.read_second.new.lanes ≡ cond c.args.y.live (packed c.args.width (fetched_at c.args.memory.now c.args.width (listed_in c.args.y (cond c.args.same c.args.xs.now c.args.ys.now)))) c.args.lb.now = λ b. elim b as (λ v. c.args.same ≡ v → c.read_second.new.lanes ≡ cond c.args.y.live (packed c.args.width (fetched_at c.args.memory.now c.args.width (listed_in c.args.y (cond c.args.same c.args.xs.now c.args.ys.now)))) c.args.lb.now) [
      | true ↦ λ e.
          let a = c in
          let h = a.requires.alike e in
          rw e ((rw e at c.read_second.ensures) ∙ c.read_source.ensures
          ∙ (λ i. cond (sym h.0 i).live (packed a.args.width (fetched_at a.args.memory.now a.args.width (listed_in (sym h.0 i) a.args.xs.now))) (sym h.1 i)))
      | false ↦ λ e. rw e (rw e at c.read_second.ensures)
    ] in
    let second-bytes : let a = c.args in c.read_second.new.lanes ≡ cond a.y.live (packed a.width (fetched_at a.memory.now a.width (listed_in a.y (cond a.same a.xs.now a.ys.now)))) a.lb.now = chosen c.args.same refl in
    let a = c in
    let w = a.requires.within in
    let m = a.args.memory.now in
    let width = a.args.width in
    let x = a.args.x in
    let y = a.args.y in
    let n = x.count in
    let r = c.read_source in
    let s = second-bytes in
    let o = c.calculate_lanes in
    let d = c.write_destination in
    let first = r.new.lanes in
    let second = c.read_second.new.lanes in
    let ys = cond a.args.same a.args.xs.now a.args.ys.now in
    let b : Bytewise m = λ i. (c.slice_known-1.given i).fits in
    let p = read_back width n m x a.args.xs.now a.args.la.now first refl w.room w.first_long b r.ensures in
    let q = read_back width n m y ys a.args.lb.now second w.counts w.room w.second_long b s in
    let e = ap₂ (outcome a.args.task (8 * width)) p q in
    let k = c.outcome_count-k in
    record {
      read = c.after_read.ensures;
      chunk = r.ensures ∙ chunk-same x.live width _ (lanes_from a.args.la.now width 0 x.count) a.args.la.now;
      other = c.after_read-2.ensures;
      other_chunk = s ∙ chunk-same y.live width _ (lanes_from a.args.lb.now width 0 y.count) a.args.lb.now;
      written = c.after_write.ensures ∙ ap (λ j. cond a.args.z.live (afterwards a.args.z a.args.d) (filled_with width j (afterwards a.args.z a.args.d))) k.ensures;
      content = d.ensures.lanes_after ∙ ap (λ l. cond a.args.z.live a.args.ld.now l) (o.ensures ∙ ap (packed width) e);
      stored = d.ensures.memory_after ∙ ap (λ l. cond a.args.z.live (stored_at m width (listed_in a.args.z a.args.zs.now) l) m)
          (ap (lanes_from _ width 0) k.ensures ∙ ap (λ l. lanes_from l width 0 (outcome_count a.args.task n)) o.ensures ∙ result-back a.args.task width n first second w.wide w.room (bytewise-read x.live width _ a.args.la.now r.ensures c.fits-la) (bytewise-read y.live width _ a.args.lb.now s c.fits-lb) ∙ e);
    }
