use Rattle.n41_seen.proofs.Spelled.{one_value}
use Rattle.n41_seen.proofs.laws.calls_have_one_value.Goals as goal

pub returns : goal.returns
returns c = one_value
