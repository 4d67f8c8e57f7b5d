use Rattle.n41_legal.proofs.Deciding.{same, some_is, none_no}
use Rattle.n41_check.proofs.Equal.{request_is}
use Rattle.n41_legal.proofs.rules.is_put.Goals as goal

pub returns-in-None : goal.returns-in-None
returns-in-None c = none_no _ c.args.request.now c.in-None.ensures

pub returns-in-Some : goal.returns-in-Some
returns-in-Some c = some_is _ c.in-Some.put.now c.args.request.now c.eq.result c.in-Some.ensures (same c.eq.result _ c.eq.ensures (request_is c.in-Some.put.now c.args.request.now))
