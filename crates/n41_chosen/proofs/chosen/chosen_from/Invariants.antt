use Rattle.std.proofs.Common.{◌≡◌, drop, option_copied}
use Rattle.n41_view.specs.Step.{chosen_from}
use Rattle.n41_chosen.proofs.chosen.chosen_from.Given as goal

abbrev pub invariant-loop-seat : goal.invariant-loop-seat
invariant-loop-seat l = chosen_from l.moment l.session l.plan (option_copied l.initial.best) l.seats ≡ chosen_from l.moment l.session l.plan (option_copied l.best) (drop l.seat-index l.seats)
