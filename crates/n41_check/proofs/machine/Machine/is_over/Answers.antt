use Rattle.n41_check.proofs.Causes.{over_is}
use Rattle.n41_check.proofs.machine.Machine.is_over.Goals as goal

pub returns : goal.returns
returns c = λ n js s. over_is n js c.args.self.now c.has_ended.result s c.has_ended.ensures
