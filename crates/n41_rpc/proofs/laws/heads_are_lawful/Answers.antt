use Rattle.n41_xdr.proofs.Lawful.{one_spelling}
use Rattle.n41_rpc.proofs.Lawful.{head_lawful, system_lawful}
use Rattle.n41_rpc.proofs.laws.heads_are_lawful.Goals as goal

pub returns : goal.returns
returns c = record { heads = head_lawful; one_spelling = one_spelling _ head_lawful; system_bodies = system_lawful }
