use Rattle.std.proofs.Common.{length}
use Rattle.n41_legal.proofs.net.+taken.Given as goal

abbrev pub decreases-taken : goal.decreases-taken
decreases-taken l = length l.run.now
