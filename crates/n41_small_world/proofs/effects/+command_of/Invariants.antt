use Rattle.std.proofs.Common.{length}
use Rattle.n41_small_world.proofs.effects.+command_of.Given as goal

abbrev pub decreases-command_of : goal.decreases-command_of
decreases-command_of l = length l.run.now
