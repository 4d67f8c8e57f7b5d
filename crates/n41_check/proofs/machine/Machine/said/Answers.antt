use Rattle.std.proofs.Common.{◌∙◌}
use Rattle.std.specs.Prelude.{option_copied}
use Rattle.n41_check.proofs.Leading.{said_is}
use Rattle.n41_check.proofs.machine.Machine.said.Goals as goal

pub returns : goal.returns
returns c = λ n js s.
    said_is n js c.args.reply.now (option_copied c.asked-asked.result) c.bare_verdict.result c.verdict.result c.owner.result
    (c.asked-asked.ensures ∙ s.requests.by_xid c.args.reply.now.xid) c.bare_verdict.ensures (c.verdict.ensures n js s.requests) (c.owner.ensures n js s.requests)
