use Rattle.std.proofs.Common.{◌++◌, ◌≤◌, List, ℕ, length}
use Rattle.n41_record.specs.Partials.{Holds}
use Rattle.n41_record.specs.Sound.{Goes}
use Rattle.n41_record.proofs.pieces.gather_all.Given as goal

abbrev pub invariant-loop-left : goal.invariant-loop-left
invariant-loop-left l = record {
  goes : (rest : List ℕ) → Holds l.fn.partial rest → Goes l.partial l.fn.waiting.items l.waiting.items (rest ++ l.piece) l.left;
  short : length l.left ≤ length l.piece;
}

abbrev pub decreases-loop-left : goal.decreases-loop-left
decreases-loop-left l = length l.left
