use Rattle.std.proofs.Common.{◌≡◌, ◌≤◌, ◌-◌, ℕ, List, [], length}
use Rattle.n41_link.specs.Counts.{Counts}
use Rattle.n41_dump.specs.Dumps.{most_bytes}
use Rattle.n41_streams.specs.Streams.{Gave}
use Rattle.n41_dump.specs.Steps.{Stands}
use Rattle.n41_dump.proofs.dumping.print_all.Given as goal

abbrev pub invariant-pieces : goal.invariant-pieces
invariant-pieces g l = record {
  stream : (stream : List ℕ) × Gave (g.S.Source.left l.initial.source) (g.S.Source.left l.source) stream × (l.came ≡ length stream) × Stands l.printer stream (g.K.Sink.taken l.initial.sink) (g.K.Sink.taken l.sink);
  within : l.came ≤ most_bytes;
  waiting : l.printer.gather.waiting ≡ [];
  side : l.printer.side ≡ l.initial.printer.side;
  read : g.S.Source.faults l.initial.source ≤ g.S.Source.faults l.source;
  write : Counts (g.K.Sink.faults l.initial.sink) (g.K.Sink.faults l.sink) l.printer.broken;
}

abbrev pub decreases-pieces : goal.decreases-pieces
decreases-pieces g l = most_bytes - l.came
