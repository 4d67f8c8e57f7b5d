use Rattle.n41_recover.proofs.Steps.{tells_phase}
use Rattle.n41_recover.proofs.laws.recovery_tells_the_phase.Goals as goal

pub returns : goal.returns
returns c = tells_phase
