use Rattle.n41_compound.proofs.Seen.{spelled_is_seen}
use Rattle.n41_compound.proofs.laws.what_is_spelled_is_seen.Goals as goal

pub returns : goal.returns
returns c = spelled_is_seen
