use Rattle.std.proofs.Common.{length}
use Rattle.n41_small_world.proofs.promises.+answer_to.Given as goal

abbrev pub decreases-answer_to : goal.decreases-answer_to
decreases-answer_to l = length l.run.now
