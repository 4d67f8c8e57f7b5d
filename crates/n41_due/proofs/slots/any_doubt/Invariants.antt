use Rattle.std.proofs.Common.{◌≡◌, drop}
use Rattle.n41_view.specs.Causes.{any_doubt}
use Rattle.n41_due.proofs.slots.any_doubt.Given as goal

abbrev pub invariant-loop-slot : goal.invariant-loop-slot
invariant-loop-slot l = any_doubt l.caller l.slots ≡ any_doubt l.caller (drop l.slot-index l.slots)
