use Rattle.std.proofs.Common.{length}
use Rattle.n41_legal.proofs.server.+was_made.Given as goal

abbrev pub decreases-was_made : goal.decreases-was_made
decreases-was_made l = length l.run.now
