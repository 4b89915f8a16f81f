-- `ahead::in_row` meets its contract.
use Rattle.std.proofs.Common.{◌+◌, true, ◌+ℤ◌, ap, ◌∙◌, arith, rules}
use Rattle.engine.specs.Stretches.{joined_in}
use Rattle.engine.proofs.Looking.{part-added}
use Rattle.engine.proofs.ahead.in_row.Goals as goal

pub returns : goal.returns
unfolding joined_in
returns c =
    let s = c in
    let r = s.args.r in
    let n = s.args.n in record {
      value = ap (λ z. record { live = true; found = true; count = n; parts = 1; height = 1; index = r.index + n; address = record { 0 = z }; size = r.size; step = r.step })
          (c.plus.ensures.exact ∙ ap (λ z. r.address.0 +ℤ z) c.times.ensures.exact);
      first_part = part-added s.args.parts.now 0 _ (omega arith);
      parts_long = search rules;
    }
