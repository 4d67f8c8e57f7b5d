use Rattle.std.proofs.Common.{◌≡◌, drop}
use Rattle.n41_wants.specs.Wants.{seats_wait}
use Rattle.n41_wants.proofs.waits.seats_wait.Given as goal

abbrev pub invariant-loop-seat : goal.invariant-loop-seat
invariant-loop-seat l = seats_wait l.moment l.seats l.fn.first ≡ seats_wait l.moment (drop l.seat-index l.seats) l.best
