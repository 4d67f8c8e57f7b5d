use Rattle.n41_compound.proofs.OneRequest.{one_request}
use Rattle.n41_compound.proofs.laws.calls_are_of_one_request.Goals as goal

pub returns : goal.returns
returns c = one_request
