use Rattle.std.proofs.Common.{◌≡◌, drop}
use Rattle.n41_view.specs.Due.{first_free}
use Rattle.n41_due.proofs.slots.first_free.Given as goal

abbrev pub invariant-loop-slot : goal.invariant-loop-slot
invariant-loop-slot l = first_free l.target l.slots ≡ first_free l.target (drop l.slot-index l.slots)
