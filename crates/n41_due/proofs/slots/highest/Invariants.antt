use Rattle.std.proofs.Common.{◌≡◌, drop}
use Rattle.n41_view.specs.Due.{highest_in}
use Rattle.n41_due.proofs.slots.highest.Given as goal

abbrev pub invariant-loop-slot : goal.invariant-loop-slot
invariant-loop-slot l = highest_in l.slots l.fn.this ≡ highest_in (drop l.slot-index l.slots) l.highest
