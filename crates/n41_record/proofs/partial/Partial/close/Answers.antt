use Rattle.std.proofs.Common.{length, ap, refl, arith}
use Rattle.n41_record.proofs.Grown.{closed}
use Rattle.n41_record.proofs.partial.Partial.close.Goals as goal

pub returns-then-not-last : goal.returns-then-not-last
returns-then-not-last c = λ rest size i. record { size = size; placed = (closed _ _ rest (rw c.if-not-last.true at i) refl refl refl, omega (arith, ap length i.head)) }
