use Rattle.std.proofs.Common.{length}
use Rattle.n41_legal.proofs.net.+standing.Given as goal

abbrev pub decreases-standing : goal.decreases-standing
decreases-standing l = length l.run.now
