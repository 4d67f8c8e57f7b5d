use Rattle.std.proofs.Common.{length}
use Rattle.n41_fits.proofs.attributes.+has.Given as goal

abbrev pub decreases-has : goal.decreases-has
decreases-has l = length l.wanted.now
