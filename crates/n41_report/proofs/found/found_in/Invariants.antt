use Rattle.std.proofs.Common.{reverse, take}
use Rattle.n41_report.specs.Found.{Finds}
use Rattle.n41_report.proofs.found.found_in.Given as goal

abbrev pub invariant-loop-event : goal.invariant-loop-event
invariant-loop-event l = Finds l.found (reverse (take l.event-index l.events))
