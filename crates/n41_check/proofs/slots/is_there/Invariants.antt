use Rattle.std.proofs.Common.{◌≡◌, drop}
use Rattle.n41_check.specs.Rows.{rows, is_there}
use Rattle.n41_check.proofs.slots.is_there.Given as goal

abbrev pub invariant-loop-slot : goal.invariant-loop-slot
invariant-loop-slot l = is_there (rows l.slots) l.number ≡ is_there (rows (drop l.slot-index l.slots)) l.number
