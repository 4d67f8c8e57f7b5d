use Rattle.n41_cbmsg.proofs.Parts.{argument_lawful, outcome_lawful}
use Rattle.n41_cbmsg.proofs.laws.operations_are_lawful.Goals as goal

pub returns : goal.returns
returns c = record { arguments = argument_lawful; results = outcome_lawful }
