use Rattle.std.proofs.Common.{arith}
use Rattle.n41_due.proofs.Old.{none_old}
use Rattle.n41_due.proofs.slots.+first_old.Goals as goal

pub returns-in-None-clause-none : goal.returns-in-None-clause-none
returns-in-None-clause-none t c = none_old c.args.moment c.args.slots.now c.slot-item.result c.first_old.result (omega arith) c.slot-item.is c.in-None.ensures.none c.first_old.ensures.none
