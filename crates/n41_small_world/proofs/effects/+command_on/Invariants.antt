use Rattle.std.proofs.Common.{length}
use Rattle.n41_small_world.proofs.effects.+command_on.Given as goal

abbrev pub decreases-command_on : goal.decreases-command_on
decreases-command_on l = length l.run.now
