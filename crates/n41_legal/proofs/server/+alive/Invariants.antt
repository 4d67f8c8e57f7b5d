use Rattle.std.proofs.Common.{length}
use Rattle.n41_legal.proofs.server.+alive.Given as goal

abbrev pub decreases-alive : goal.decreases-alive
decreases-alive l = length l.run.now
