use Rattle.n41_seen.proofs.Spelled.{told_is_read, written_is_read, whole_is_spelled}
use Rattle.n41_seen.proofs.laws.whole_calls_are_read.Goals as goal

pub returns : goal.returns
returns c = record { told = told_is_read; written = written_is_read; spelled = whole_is_spelled }
