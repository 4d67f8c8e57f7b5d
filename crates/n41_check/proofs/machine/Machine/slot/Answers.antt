use Rattle.std.proofs.Common.{◌∙◌}
use Rattle.n41_check.proofs.machine.Machine.slot.Goals as goal

pub returns : goal.returns
returns c = λ n js s. c.slot.ensures ∙ s.requests.by_slot c.args.number
