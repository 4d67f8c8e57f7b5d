use Rattle.n41_due.proofs.Ready.{Best}
use Rattle.n41_due.proofs.seats.first_ready.Given as goal

abbrev pub invariant-loop-i : goal.invariant-loop-i
invariant-loop-i l = Best l.moment l.seats l.i l.best
