use Rattle.std.proofs.Common.{length}
use Rattle.n41_small_world.proofs.promises.+first_broken.Given as goal

abbrev pub decreases-first_broken : goal.decreases-first_broken
decreases-first_broken l = length l.steps.now
