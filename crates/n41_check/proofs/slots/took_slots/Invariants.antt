use Rattle.std.proofs.Common.{◌≡◌}
use Rattle.n41_check.specs.Rows.{rows, took_row}
use Rattle.n41_view.proofs.InPlace.{stepped}
use Rattle.n41_check.proofs.slots.took_slots.Given as goal

abbrev pub invariant-loop-slot : goal.invariant-loop-slot
invariant-loop-slot l = rows l.slots ≡ stepped (took_row l.made l.reply) l.slot-index (rows l.initial.slots)
