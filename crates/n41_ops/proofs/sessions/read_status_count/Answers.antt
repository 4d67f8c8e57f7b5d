use Rattle.std.proofs.Common.{List}
use Rattle.std.proofs.lemmas.Result.{err_from_is_err_and}
use Rattle.n41_xdr.specs.Format.{many_at}
use Rattle.n41_xdr.proofs.Loop.{goes_on}
use Rattle.n41_types.specs.declared.statuses.Status.{Status}
use Rattle.n41_attr.specs.Parts.{status}
use Rattle.n41_ops.proofs.Loops.{many_fails}
use Rattle.n41_ops.proofs.sessions.read_status_count.Goals as goal

pub loop-preserved : goal.loop-preserved
loop-preserved c =
    rw c.in_ok-push.ensures.items (goes_on status c.loop.list.items c.args.count c.loop.counter c.loop.r c.in_ok-next.next c.read_status.new.r (many_at status c.args.count c.args.r.now) c.loop-test.true c.in_ok-next.ensures c.loop.invariant)

pub returns-in_err-next : goal.returns-in_err-next
returns-in_err-next c =
    let p = err_from_is_err_and c.from_residual.result c.from_residual.ensures.1 in
    rw (p.1, p.2) (many_fails {B = List Status} (λ x. x) status c.in_err-next.field-0.0 c.loop.list.items c.args.count c.loop.counter c.loop.r c.read_status.new.r (many_at status c.args.count c.args.r.now) c.loop-test.true c.in_err-next.ensures c.loop.invariant)
