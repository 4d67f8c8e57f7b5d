use Rattle.n41_journal.proofs.Places.{places, one}
use Rattle.n41_journal.proofs.journal.keeps_places.Goals as goal

pub returns-clause-places : goal.returns-clause-places
returns-clause-places c = places

pub returns-clause-one : goal.returns-clause-one
returns-clause-one c = one
