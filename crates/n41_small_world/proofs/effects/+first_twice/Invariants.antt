use Rattle.std.proofs.Common.{length}
use Rattle.n41_small_world.proofs.effects.+first_twice.Given as goal

abbrev pub decreases-first_twice : goal.decreases-first_twice
decreases-first_twice l = length l.steps.now
