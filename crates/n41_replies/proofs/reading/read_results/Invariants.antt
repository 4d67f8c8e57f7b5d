use Rattle.std.proofs.Common.{◌≡◌, ◌-◌}
use Rattle.n41_xdr.proofs.Loop.{with_front}
use Rattle.n41_replies.specs.Replies.{results_at}
use Rattle.n41_replies.proofs.reading.read_results.Given as goal

abbrev pub invariant-loop-place : goal.invariant-loop-place
invariant-loop-place l = with_front l.list.items (results_at l.place (l.count - l.place) l.r) ≡ results_at 0 l.count l.fn.r
