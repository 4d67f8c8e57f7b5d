use Rattle.std.proofs.Common.{arith}
use Rattle.n41_journal_text.proofs.typed.are_bytes.Goals as goal

pub returns : goal.returns
returns c = λ i. omega (arith, c.type_inv.bytes i)
