-- `sheet::read_body` meets its contract: what was read, and the rest of the body, are the whole body.
use Rattle.std.proofs.Common.{◌≡◌, ◌-◌}
use Rattle.arrayvec.specs.ArrayVec.{array_vec_len}
use Rattle.engine.specs.Sheets.{body_at}
use Rattle.engine.proofs.BodySteps.{behind}
use Rattle.engine.proofs.sheet.read_body.Given as goal

abbrev pub invariant-loop : goal.invariant-loop
invariant-loop l = (array_vec_len l.body ≡ l.counter) × (behind l.body.items (body_at l.s (l.n - l.counter) l.at) ≡ body_at l.s l.n l.from)
