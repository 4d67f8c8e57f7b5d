use Rattle.std.proofs.Common.{◌≡◌, ◌≤◌, ◌+◌, length, drop}
use Rattle.n41_view.specs.Step.{held_requests}
use Rattle.n41_due.proofs.xids.held_count.Given as goal

abbrev pub invariant-loop-slot : goal.invariant-loop-slot
invariant-loop-slot l = (length (held_requests l.slots) ≡ l.count + length (held_requests (drop l.slot-index l.slots))) × (l.count ≤ l.slot-index)
