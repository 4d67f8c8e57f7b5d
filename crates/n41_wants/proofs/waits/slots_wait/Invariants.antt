use Rattle.std.proofs.Common.{◌≡◌, drop}
use Rattle.n41_wants.specs.Wants.{slots_wait}
use Rattle.n41_wants.proofs.waits.slots_wait.Given as goal

abbrev pub invariant-loop-slot : goal.invariant-loop-slot
invariant-loop-slot l = slots_wait l.moment l.slots l.fn.first ≡ slots_wait l.moment (drop l.slot-index l.slots) l.best
