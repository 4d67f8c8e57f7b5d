use Rattle.std.proofs.Common.{◌≡◌, ◌-◌}
use Rattle.n41_xdr.specs.Format.{many_at}
use Rattle.n41_xdr.proofs.Loop.{with_front}
use Rattle.n41_session_args.specs.Security.{callback_security}
use Rattle.n41_session_args.proofs.security.read_security_count.Given as goal

abbrev pub invariant-loop : goal.invariant-loop
invariant-loop l = with_front l.list.items (many_at callback_security (l.count - l.counter) l.r) ≡ many_at callback_security l.count l.fn.r
