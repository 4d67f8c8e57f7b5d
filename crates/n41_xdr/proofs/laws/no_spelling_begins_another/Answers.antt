use Rattle.n41_xdr.specs.Format.{word, hyper, flag, fixed, opaque}
use Rattle.n41_xdr.proofs.Combined.{one_spelling}
use Rattle.n41_xdr.proofs.Basic.{word_lawful, hyper_lawful, flag_lawful, fixed_lawful, opaque_lawful}
use Rattle.n41_xdr.proofs.laws.no_spelling_begins_another.Goals as goal

pub returns : goal.returns
returns c = record {
  words = one_spelling word word_lawful;
  hypers = one_spelling hyper hyper_lawful;
  flags = one_spelling flag flag_lawful;
  fixed_data = λ n. one_spelling (fixed n) (fixed_lawful n);
  variable_data = λ max. one_spelling (opaque max) (opaque_lawful max);
}
