use Rattle.std.proofs.Common.{length}
use Rattle.n41_legal.proofs.net.+messages.Given as goal

abbrev pub decreases-messages : goal.decreases-messages
decreases-messages l = length l.run.now
