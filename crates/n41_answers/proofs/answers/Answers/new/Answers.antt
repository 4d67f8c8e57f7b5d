use Rattle.std.proofs.Common.{[], arith}
use Rattle.n41_answers.specs.Answers.{lists}
use Rattle.n41_answers.proofs.Rows.{one_more}
use Rattle.n41_answers.proofs.answers.Answers.new.Goals as goal

pub loop-preserved : goal.loop-preserved
loop-preserved c =
    rw c.in_ok-push.ensures.items
    (one_more c.loop.rows.items c.new.result c.args.callers c.loop.counter (lists c.args.callers []) (omega arith) c.new.ensures c.loop.invariant)
