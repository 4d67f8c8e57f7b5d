use Rattle.std.proofs.Common.{length}
use Rattle.n41_small_world.proofs.orderly.+lead.Given as goal

abbrev pub decreases-lead : goal.decreases-lead
decreases-lead l = length l.run.now
