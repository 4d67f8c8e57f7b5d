use Rattle.std.proofs.Common.{◌≡◌, drop}
use Rattle.n41_view.specs.Due.{any_waiting}
use Rattle.n41_due.proofs.slots.any_waiting.Given as goal

abbrev pub invariant-loop-slot : goal.invariant-loop-slot
invariant-loop-slot l = any_waiting l.slots ≡ any_waiting (drop l.slot-index l.slots)
