use Rattle.n41_slots.proofs.Others.{released_there, released_elsewhere}
use Rattle.n41_slots.proofs.laws.releasing_changes_one_slot.Goals as goal

pub returns-clause-slot : goal.returns-clause-slot
returns-clause-slot c = released_there

pub returns-clause-others : goal.returns-clause-others
returns-clause-others c = released_elsewhere
