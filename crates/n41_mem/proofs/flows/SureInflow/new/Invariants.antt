use Rattle.std.proofs.Common.{◌≡◌, take, length, sum_by}
use Rattle.n41_mem.proofs.flows.SureInflow.new.Given as goal

abbrev pub invariant-loop-piece : goal.invariant-loop-piece
invariant-loop-piece l = record {
  more : l.more.items ≡ take l.piece-index l.pieces;
  past : length l.past.items ≡ sum_by length (take l.piece-index l.pieces);
}
