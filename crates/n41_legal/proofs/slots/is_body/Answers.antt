use Rattle.n41_legal.proofs.Deciding.{same, some_is, none_no}
use Rattle.std.proofs.Common.{sym}
use Rattle.n41_legal.proofs.Equal.{body_is}
use Rattle.n41_legal.proofs.slots.is_body.Goals as goal

pub returns-in-None : goal.returns-in-None
returns-in-None c = none_no _ c.args.body.now (sym c.in-None.is)

pub returns-in-Some : goal.returns-in-Some
returns-in-Some c = some_is _ c.in-Some.kept c.args.body.now c.eq.result (sym c.in-Some.is) (same c.eq.result _ c.eq.ensures (body_is c.in-Some.kept c.args.body.now))
