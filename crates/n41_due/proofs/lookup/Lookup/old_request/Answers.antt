use Rattle.n41_due.proofs.Old.{none_old_in, some_old_in}
use Rattle.n41_due.proofs.lookup.Lookup.old_request.Goals as goal

pub returns-in-None-clause-some : goal.returns-in-None-clause-some
returns-in-None-clause-some c = some_old_in c.args.self.now c.old_held.result c.old_held.ensures.some

pub returns-in-None-clause-none : goal.returns-in-None-clause-none
returns-in-None-clause-none c = none_old_in c.args.self.now c.old_held.result c.in-None.ensures.none c.old_held.ensures.none
