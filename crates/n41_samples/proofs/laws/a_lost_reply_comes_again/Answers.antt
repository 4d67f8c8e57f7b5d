use Rattle.n41_samples.proofs.Sampled.{lost_run}
use Rattle.n41_samples.proofs.laws.a_lost_reply_comes_again.Goals as goal

pub returns : goal.returns
returns c = lost_run
