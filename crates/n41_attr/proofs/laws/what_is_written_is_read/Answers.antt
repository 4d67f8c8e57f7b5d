use Rattle.n41_attr.proofs.Written.{written_fits, written_read}
use Rattle.n41_attr.proofs.laws.what_is_written_is_read.Goals as goal

pub returns : goal.returns
returns c = record { fits = written_fits; read = written_read }
