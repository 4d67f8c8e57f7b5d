use Rattle.n41_check.proofs.Leading.{shows_dialed}
use Rattle.n41_check.proofs.machine.Machine.dialed.Goals as goal

pub returns : goal.returns
returns c = λ n js d s. shows_dialed n js d c.args.self.now _ _ s (c.dialed-2.ensures js d s.facts) (c.dialed.ensures n js d s.requests)
