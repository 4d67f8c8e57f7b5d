use Rattle.n41_ops.proofs.Kept.{res_kept}
use Rattle.n41_ops.proofs.ResultsLawful.{written_read}
use Rattle.n41_ops.proofs.laws.what_is_written_is_read.Goals as goal

pub returns : goal.returns
returns c = record { whole = res_kept; read = written_read }
