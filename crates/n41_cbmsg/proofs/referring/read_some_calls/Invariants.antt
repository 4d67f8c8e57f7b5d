use Rattle.std.proofs.Common.{◌≡◌, ◌-◌}
use Rattle.n41_xdr.specs.Format.{many_at}
use Rattle.n41_xdr.proofs.Loop.{with_front}
use Rattle.n41_cbmsg.specs.Arguments.{referring_call}
use Rattle.n41_cbmsg.proofs.referring.read_some_calls.Given as goal

abbrev pub invariant-loop : goal.invariant-loop
invariant-loop l = with_front l.calls.items (many_at referring_call (l.count - l.counter) l.r) ≡ many_at referring_call l.count l.fn.r
