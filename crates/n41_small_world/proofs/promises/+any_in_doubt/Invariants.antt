use Rattle.std.proofs.Common.{length}
use Rattle.n41_small_world.proofs.promises.+any_in_doubt.Given as goal

abbrev pub decreases-any_in_doubt : goal.decreases-any_in_doubt
decreases-any_in_doubt l = length l.steps.now
