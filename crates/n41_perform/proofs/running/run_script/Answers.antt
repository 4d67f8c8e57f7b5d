use Rattle.n41_perform.proofs.Runs.{whole_none}
use Rattle.n41_perform.proofs.running.run_script.Goals as goal

pub returns-in_default-clause-whole : goal.returns-in_default-clause-whole
returns-in_default-clause-whole g c = whole_none _ c.not_begun.ensures.journal
