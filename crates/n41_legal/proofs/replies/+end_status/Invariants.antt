use Rattle.std.proofs.Common.{length}
use Rattle.n41_legal.proofs.replies.+end_status.Given as goal

abbrev pub decreases-end_status : goal.decreases-end_status
decreases-end_status l = length l.results.now
