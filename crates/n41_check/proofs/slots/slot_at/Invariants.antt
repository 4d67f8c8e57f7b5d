use Rattle.std.proofs.Common.{◌≡◌, drop}
use Rattle.n41_check.specs.Rows.{rows, row_at}
use Rattle.n41_check.proofs.slots.slot_at.Given as goal

abbrev pub invariant-loop-slot : goal.invariant-loop-slot
invariant-loop-slot l = row_at (rows l.slots) l.number ≡ row_at (rows (drop l.slot-index l.slots)) l.number
