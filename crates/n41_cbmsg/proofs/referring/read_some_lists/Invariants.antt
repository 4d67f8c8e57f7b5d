use Rattle.std.proofs.Common.{◌≡◌, ◌-◌}
use Rattle.n41_xdr.specs.Format.{many_at}
use Rattle.n41_xdr.proofs.Loop.{with_front}
use Rattle.n41_cbmsg.specs.Arguments.{referring_list}
use Rattle.n41_cbmsg.proofs.referring.read_some_lists.Given as goal

abbrev pub invariant-loop : goal.invariant-loop
invariant-loop l = with_front l.lists.items (many_at referring_list (l.count - l.counter) l.r) ≡ many_at referring_list l.count l.fn.r
