use Rattle.n41_xdr.proofs.Lawful.{one_spelling}
use Rattle.n41_attr.proofs.Lawful.{bitmap_lawful, told_lawful}
use Rattle.n41_attr.proofs.laws.attributes_are_lawful.Goals as goal

pub returns : goal.returns
returns c = record { bitmaps = bitmap_lawful; attributes = told_lawful; one_spelling = one_spelling _ told_lawful }
