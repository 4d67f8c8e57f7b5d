use Rattle.std.proofs.Common.{◌≡◌, ◌≤◌, length, ◌-◌}
use Rattle.n41_streams.specs.Streams.{Gave}
use Rattle.n41_streams.proofs.reading.read_all.Given as goal

abbrev pub invariant-loop-n : goal.invariant-loop-n
invariant-loop-n g l = record {
  room : length l.room.items ≡ 65536;
  within : length l.bytes.items ≤ l.most;
  gave : Gave (g.S.Source.left l.initial.source) (g.S.Source.left l.source) l.bytes.items;
  faults : g.S.Source.faults l.initial.source ≤ g.S.Source.faults l.source;
}

abbrev pub decreases-loop-n : goal.decreases-loop-n
decreases-loop-n g l = l.most - length l.bytes.items
