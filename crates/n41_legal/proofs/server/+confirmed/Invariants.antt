use Rattle.std.proofs.Common.{length}
use Rattle.n41_legal.proofs.server.+confirmed.Given as goal

abbrev pub decreases-confirmed : goal.decreases-confirmed
decreases-confirmed l = length l.run.now
