use Rattle.n41_due.proofs.Next.{next_some, next_none}
use Rattle.n41_due.proofs.lookup.Lookup.next_request.Goals as goal

pub returns-in-Some-clause-some : goal.returns-in-Some-clause-some
returns-in-Some-clause-some c = next_some c.args.setup.now c.args.self.now c.in-Some.item c.request_due.result c.request_due.ensures (c.in-Some.ensures.first c.args.setup.now)

pub returns-in-Some-clause-none : goal.returns-in-Some-clause-none
returns-in-Some-clause-none c = next_none c.args.setup.now c.args.self.now c.in-Some.item c.request_due.result c.request_due.ensures (c.in-Some.ensures.some c.args.setup.now)
