use Rattle.std.proofs.Common.{length}
use Rattle.n41_legal.proofs.server.+unconfirmed.Given as goal

abbrev pub decreases-unconfirmed : goal.decreases-unconfirmed
decreases-unconfirmed l = length l.run.now
