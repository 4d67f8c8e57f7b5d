use Rattle.n41_xdr.proofs.Basic.{word_lawful, hyper_lawful, flag_lawful, fixed_lawful, opaque_lawful}
use Rattle.n41_xdr.proofs.laws.what_is_written_is_read.Goals as goal

pub returns : goal.returns
returns c = record { words = word_lawful; hypers = hyper_lawful; flags = flag_lawful; fixed_data = fixed_lawful; variable_data = opaque_lawful }
