use Rattle.n41_tellable.proofs.Again.{spelled_again, read_again}
use Rattle.n41_tellable.proofs.laws.replies_that_are_read_are_tellable.Goals as goal

pub returns : goal.returns
returns c = record { spelled = spelled_again; read = read_again }
