use Rattle.std.proofs.Common.{length}
use Rattle.n41_small_world.proofs.effects.+any_done.Given as goal

abbrev pub decreases-any_done : goal.decreases-any_done
decreases-any_done l = length l.results.now
