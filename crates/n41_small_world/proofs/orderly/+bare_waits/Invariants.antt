use Rattle.std.proofs.Common.{length}
use Rattle.n41_small_world.proofs.orderly.+bare_waits.Given as goal

abbrev pub decreases-bare_waits : goal.decreases-bare_waits
decreases-bare_waits l = length l.run.now
