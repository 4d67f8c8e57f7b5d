use Rattle.std.proofs.Common.{length}
use Rattle.n41_small_world.proofs.effects.+is_owned.Given as goal

abbrev pub decreases-is_owned : goal.decreases-is_owned
decreases-is_owned l = length l.run.now
