use Rattle.std.proofs.Common.{length}
use Rattle.n41_due.proofs.slots.+first_old.Given as goal

abbrev pub decreases-first_old : goal.decreases-first_old
decreases-first_old l = length l.slots.now
