use Rattle.n41_samples.proofs.Sampled.{unknown_run}
use Rattle.n41_samples.proofs.laws.an_unknown_change_may_run.Goals as goal

pub returns : goal.returns
returns c = unknown_run
