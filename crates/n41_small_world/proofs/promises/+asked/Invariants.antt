use Rattle.std.proofs.Common.{length}
use Rattle.n41_small_world.proofs.promises.+asked.Given as goal

abbrev pub decreases-asked : goal.decreases-asked
decreases-asked l = length l.run.now
