use Rattle.std.proofs.Common.{◌≡◌, ◌-◌}
use Rattle.n41_xdr.proofs.Loop.{with_front}
use Rattle.n41_cbmsg.specs.Outcomes.{outcomes_at}
use Rattle.n41_cbmsg.proofs.answers.read_list.Given as goal

abbrev pub invariant-loop-place : goal.invariant-loop-place
invariant-loop-place l = with_front l.list.items (outcomes_at l.place (l.count - l.place) l.r) ≡ outcomes_at 0 l.count l.fn.r
