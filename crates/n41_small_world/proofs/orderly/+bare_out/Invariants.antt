use Rattle.std.proofs.Common.{length}
use Rattle.n41_small_world.proofs.orderly.+bare_out.Given as goal

abbrev pub decreases-bare_out : goal.decreases-bare_out
decreases-bare_out l = length l.run.now
