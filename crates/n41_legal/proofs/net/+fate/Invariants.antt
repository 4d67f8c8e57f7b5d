use Rattle.std.proofs.Common.{length}
use Rattle.n41_legal.proofs.net.+fate.Given as goal

abbrev pub decreases-fate : goal.decreases-fate
decreases-fate l = length l.run.now
