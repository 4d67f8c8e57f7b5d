use Rattle.n41_written.proofs.ReadBack.{decimal_read, decimal_only, octal_read}
use Rattle.n41_written.proofs.laws.numbers_are_read_back.Goals as goal

pub returns : goal.returns
returns c = record { decimal = decimal_read; octal = octal_read; one_way = decimal_only }
