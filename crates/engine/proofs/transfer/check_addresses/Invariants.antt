-- `transfer::check_addresses` meets its contract: after k turns the first k parts lie inside.
use Rattle.std.proofs.Common.{◌≡◌, ◌*◌, ◌≤◌, true, length, take}
use Rattle.engine.specs.Stretches.{joined_in, all_within}
use Rattle.engine.proofs.transfer.check_addresses.Given as goal

abbrev pub invariant-loop-part : goal.invariant-loop-part
invariant-loop-part l = record {
  inside : all_within l.len l.width (joined_in (take l.part-index l.parts)) ≡ true;
  counted : l.passed ≡ length (joined_in (take l.part-index l.parts));
  few : l.passed ≤ l.part-index * 64;
}
