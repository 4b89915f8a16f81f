-- The six numbers are put, and the lanes behind them.
use Rattle.std.proofs.Common.{◌≡◌, length, rules}
use Rattle.uve.proofs.Steps.{lanes-put}
use Rattle.uve.proofs.put.put_register.Goals as goal

pub returns : goal.returns
returns c =
    let a = c.args in
    let six = c.state_numbers.result in
    let n : length six ≡ 6 = search rules in
    rw (c.put_lanes.ensures, c.put_all.ensures) (lanes-put a.report.now a.at six a.r.now.lanes _ n c.state_numbers.ensures)
