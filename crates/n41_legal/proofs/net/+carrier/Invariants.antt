use Rattle.std.proofs.Common.{length}
use Rattle.n41_legal.proofs.net.+carrier.Given as goal

abbrev pub decreases-carrier : goal.decreases-carrier
decreases-carrier l = length l.run.now
