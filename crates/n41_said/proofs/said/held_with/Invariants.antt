use Rattle.std.proofs.Common.{◌≡◌, drop}
use Rattle.n41_view.specs.Step.{held_with}
use Rattle.n41_said.proofs.said.held_with.Given as goal

abbrev pub invariant-loop-slot : goal.invariant-loop-slot
invariant-loop-slot l = held_with l.slots l.xid ≡ held_with (drop l.slot-index l.slots) l.xid
