use Rattle.std.proofs.Common.{◌≡◌, drop}
use Rattle.n41_view.specs.Due.{any_owned}
use Rattle.n41_due.proofs.slots.any_owned.Given as goal

abbrev pub invariant-loop-slot : goal.invariant-loop-slot
invariant-loop-slot l = any_owned l.slots ≡ any_owned (drop l.slot-index l.slots)
