use Rattle.n41_requests.proofs.Small.{is_short}
use Rattle.n41_requests.proofs.laws.small_requests.Goals as goal

pub returns : goal.returns
returns c = is_short
