use Rattle.n41_xdr.proofs.Lawful.{one_spelling}
use Rattle.n41_args.proofs.ArgsLawful.{told_arg_lawful}
use Rattle.n41_args.proofs.laws.arguments_are_lawful.Goals as goal

pub returns : goal.returns
returns c = record { operations = told_arg_lawful; one_spelling = one_spelling _ told_arg_lawful }
