use Rattle.std.proofs.Common.{length}
use Rattle.n41_legal.proofs.server.+last.Given as goal

abbrev pub decreases-last : goal.decreases-last
decreases-last l = length l.run.now
