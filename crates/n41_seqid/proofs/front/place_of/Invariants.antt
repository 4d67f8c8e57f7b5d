use Rattle.std.proofs.Common.{◌≡◌, ◌≢◌, ◌<◌, ℕ, Some, slice_get}
use Rattle.n41_seqid.proofs.front.place_of.Given as goal

abbrev pub invariant-loop-n : goal.invariant-loop-n
invariant-loop-n g l = (k t : ℕ) (x : g.row.T.Denot) → k < l.n → slice_get l.waiting k ≡ Some (t, x) → t ≢ l.seqid
