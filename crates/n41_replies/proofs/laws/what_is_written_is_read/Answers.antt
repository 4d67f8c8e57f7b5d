use Rattle.n41_replies.proofs.Spelled.{written_spells, written_again}
use Rattle.n41_replies.proofs.laws.what_is_written_is_read.Goals as goal

pub returns : goal.returns
returns c = record { spelled = written_spells; read = written_again }
