use Rattle.std.proofs.Common.{◌≡◌, ◌-◌}
use Rattle.n41_xdr.specs.Format.{many_at}
use Rattle.n41_xdr.proofs.Loop.{with_front}
use Rattle.n41_attr.specs.Parts.{status}
use Rattle.n41_ops.proofs.sessions.read_status_count.Given as goal

abbrev pub invariant-loop : goal.invariant-loop
invariant-loop l = with_front l.list.items (many_at status (l.count - l.counter) l.r) ≡ many_at status l.count l.fn.r
