use Rattle.std.proofs.Common.{length}
use Rattle.n41_small_world.proofs.effects.+effects_of.Given as goal

abbrev pub decreases-effects_of : goal.decreases-effects_of
decreases-effects_of l = length l.run.now
