use Rattle.n41_written.proofs.Back.{reads_what_is_written}
use Rattle.n41_written.proofs.laws.what_is_written_is_read.Goals as goal

pub returns : goal.returns
returns c = reads_what_is_written
