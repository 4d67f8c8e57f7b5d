use Rattle.n41_recover.proofs.Steps.{recovery_steps}
use Rattle.n41_recover.proofs.laws.the_recovery_steps.Goals as goal

pub returns : goal.returns
returns c = recovery_steps
