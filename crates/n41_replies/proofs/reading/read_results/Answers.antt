use Rattle.std.proofs.lemmas.Result.{err_from_is_err_and}
use Rattle.n41_replies.specs.Replies.{results_at}
use Rattle.n41_replies.proofs.Loop.{goes_on, fails}
use Rattle.n41_replies.proofs.reading.read_results.Goals as goal

pub returns-in_err-next : goal.returns-in_err-next
returns-in_err-next c =
    let p = err_from_is_err_and c.from_residual.result c.from_residual.ensures.1 in
    rw (p.1, p.2) (fails c.in_err-next.field-0.0 c.loop-place.list.items c.args.count c.loop-place.place c.loop-place.r (results_at 0 c.args.count c.args.r.now) c.loop-place-test.true c.in_err-next.ensures c.loop-place.invariant)

pub loop-place-preserved : goal.loop-place-preserved
loop-place-preserved c =
    rw c.in_ok-push.ensures.items (goes_on c.loop-place.list.items c.args.count c.loop-place.place c.loop-place.r c.in_ok-next.next c.read_result.new.r (results_at 0 c.args.count c.args.r.now) c.loop-place-test.true c.in_ok-next.ensures c.loop-place.invariant)
