use Rattle.std.proofs.Common.{length}
use Rattle.n41_legal.proofs.server.+slots_given.Given as goal

abbrev pub decreases-slots_given : goal.decreases-slots_given
decreases-slots_given l = length l.run.now
