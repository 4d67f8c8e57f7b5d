use Rattle.n41_samples.proofs.Sampled.{late_run}
use Rattle.n41_samples.proofs.laws.a_late_original_runs_once.Goals as goal

pub returns : goal.returns
returns c = late_run
