use Rattle.n41_perform.proofs.running.taken_apart.Goals as goal

pub returns-clause-wires : goal.returns-clause-wires
returns-clause-wires g c = rw c.into_parts-journal.ensures.journal c.into_parts-journal.ensures.wires

pub returns-clause-whole : goal.returns-clause-whole
returns-clause-whole g c = record { kept = rw c.into_parts-journal.ensures.journal c.into_parts-journal.ensures.kept; settled = rw c.into_parts-journal.ensures.journal c.into_parts-journal.ensures.settled }
