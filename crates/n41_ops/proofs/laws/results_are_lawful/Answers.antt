use Rattle.n41_xdr.proofs.Lawful.{one_spelling}
use Rattle.n41_ops.proofs.ResultsLawful.{told_res_lawful}
use Rattle.n41_ops.proofs.laws.results_are_lawful.Goals as goal

pub returns : goal.returns
returns c = record { results = told_res_lawful; one_spelling = one_spelling _ told_res_lawful }
