use Rattle.std.proofs.Common.{length}
use Rattle.n41_legal.proofs.server.+next_sequence.Given as goal

abbrev pub decreases-next_sequence : goal.decreases-next_sequence
decreases-next_sequence l = length l.run.now
