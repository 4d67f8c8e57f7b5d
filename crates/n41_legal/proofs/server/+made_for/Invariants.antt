use Rattle.std.proofs.Common.{length}
use Rattle.n41_legal.proofs.server.+made_for.Given as goal

abbrev pub decreases-made_for : goal.decreases-made_for
decreases-made_for l = length l.run.now
