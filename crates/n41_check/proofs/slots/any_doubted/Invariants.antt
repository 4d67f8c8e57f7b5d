use Rattle.std.proofs.Common.{◌≡◌, drop}
use Rattle.std.specs.List.{list_any}
use Rattle.n41_check.specs.Rows.{rows, is_doubted}
use Rattle.n41_check.proofs.slots.any_doubted.Given as goal

abbrev pub invariant-loop-slot : goal.invariant-loop-slot
invariant-loop-slot l = list_any (is_doubted l.caller) (rows l.slots) ≡ list_any (is_doubted l.caller) (rows (drop l.slot-index l.slots))
