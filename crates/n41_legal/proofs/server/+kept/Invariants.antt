use Rattle.std.proofs.Common.{length}
use Rattle.n41_legal.proofs.server.+kept.Given as goal

abbrev pub decreases-kept : goal.decreases-kept
decreases-kept l = length l.run.now
