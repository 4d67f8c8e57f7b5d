use Rattle.n41_wire.proofs.First.{stand_first}
use Rattle.n41_wire.proofs.laws.replies_stand_first.Goals as goal

pub returns : goal.returns
returns c = stand_first
