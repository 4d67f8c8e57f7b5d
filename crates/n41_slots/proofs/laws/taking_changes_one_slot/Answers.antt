use Rattle.n41_slots.proofs.Others.{taken_there, taken_elsewhere}
use Rattle.n41_slots.proofs.laws.taking_changes_one_slot.Goals as goal

pub returns-clause-turn : goal.returns-clause-turn
returns-clause-turn c = taken_there

pub returns-clause-others : goal.returns-clause-others
returns-clause-others c = taken_elsewhere
