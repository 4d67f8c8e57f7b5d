use Rattle.std.proofs.Common.{◌≡◌, drop}
use Rattle.n41_view.specs.Causes.{any_old}
use Rattle.n41_due.proofs.slots.any_old.Given as goal

abbrev pub invariant-loop-slot : goal.invariant-loop-slot
invariant-loop-slot l = any_old l.moment l.xid l.slots ≡ any_old l.moment l.xid (drop l.slot-index l.slots)
