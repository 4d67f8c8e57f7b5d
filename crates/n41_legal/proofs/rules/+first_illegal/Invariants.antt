use Rattle.std.proofs.Common.{length}
use Rattle.n41_legal.proofs.rules.+first_illegal.Given as goal

abbrev pub decreases-first_illegal : goal.decreases-first_illegal
decreases-first_illegal l = length l.run.now
