use Rattle.std.proofs.Common.{◌≡◌, drop}
use Rattle.n41_view.specs.Due.{any_held}
use Rattle.n41_view.specs.Step.{holds}
use Rattle.n41_due.proofs.xids.any_named.Given as goal

abbrev pub invariant-loop-slot : goal.invariant-loop-slot
invariant-loop-slot l = any_held (holds l.xid) l.slots ≡ any_held (holds l.xid) (drop l.slot-index l.slots)
