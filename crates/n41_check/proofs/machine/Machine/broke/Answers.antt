use Rattle.n41_check.proofs.Leading.{shows_broke}
use Rattle.n41_check.proofs.machine.Machine.broke.Goals as goal

pub returns : goal.returns
returns c = λ n js d w s. shows_broke n js d w c.args.self.now _ _ s (c.broke-2.ensures js d w s.facts) (c.broke.ensures n js d w s.requests)
