use Rattle.std.proofs.Common.{◌≡◌, ℕ, List, length}
use Rattle.std.specs.declared.option.Option.{Option}
use Rattle.n41_dump.specs.Steps.{Raises, Stands}
use Rattle.n41_dump.proofs.printer.Printer.print_waiting.Given as goal

abbrev pub invariant-loop : goal.invariant-loop
invariant-loop g l = record {
  stands : (stream : List ℕ) (start : Option (List ℕ)) → Stands l.initial.self stream start (g.K.Sink.taken l.initial.sink) → Stands l.self stream start (g.K.Sink.taken l.sink);
  side : l.self.side ≡ l.initial.self.side;
  fault : l.self.gather.fault ≡ l.initial.self.gather.fault;
  fed : l.self.gather.fed ≡ l.initial.self.gather.fed;
  raises : Raises l.initial.self.broken l.self.broken (g.K.Sink.faults l.initial.sink) (g.K.Sink.faults l.sink);
}

abbrev pub decreases-loop : goal.decreases-loop
decreases-loop g l = length l.self.gather.waiting
