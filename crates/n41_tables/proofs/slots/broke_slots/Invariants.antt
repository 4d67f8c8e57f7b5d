use Rattle.std.proofs.Common.{◌≡◌}
use Rattle.n41_view.specs.Step.{broke_slot}
use Rattle.n41_view.proofs.InPlace.{stepped}
use Rattle.n41_tables.proofs.slots.broke_slots.Given as goal

abbrev pub invariant-loop-slot : goal.invariant-loop-slot
invariant-loop-slot l = l.slots ≡ stepped broke_slot l.slot-index l.initial.slots
