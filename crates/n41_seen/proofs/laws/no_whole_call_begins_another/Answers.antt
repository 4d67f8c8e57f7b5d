use Rattle.n41_seen.proofs.Spelled.{none_begins_another}
use Rattle.n41_seen.proofs.laws.no_whole_call_begins_another.Goals as goal

pub returns : goal.returns
returns c = none_begins_another
