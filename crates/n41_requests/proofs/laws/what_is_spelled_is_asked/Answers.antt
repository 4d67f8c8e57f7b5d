use Rattle.n41_requests.proofs.Asked.{as_asked, stat_asked, lease_asked}
use Rattle.n41_requests.proofs.laws.what_is_spelled_is_asked.Goals as goal

pub returns : goal.returns
returns c = record { operations = as_asked; look = stat_asked; lease = lease_asked }
