use Rattle.std.proofs.Common.{◌≡◌, None}
use Rattle.n41_check.specs.Callers.{best_of}
use Rattle.n41_check.proofs.callers.chosen.Given as goal

abbrev pub invariant-loop-caller : goal.invariant-loop-caller
invariant-loop-caller l = best_of l.fn.moment l.fn.session l.request.plan l.best l.caller-iterator ≡ best_of l.fn.moment l.fn.session l.request.plan None l.seats.entries
