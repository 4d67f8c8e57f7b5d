use Rattle.std.proofs.Common.{◌≡◌, drop}
use Rattle.n41_view.specs.Due.{all_idle}
use Rattle.n41_due.proofs.seats.all_idle.Given as goal

abbrev pub invariant-loop-seat : goal.invariant-loop-seat
invariant-loop-seat l = all_idle l.seats ≡ all_idle (drop l.seat-index l.seats)
