use Rattle.n41_probe.proofs.Heard.{hears_none}
use Rattle.n41_probe.proofs.probing.exchange.Goals as goal

pub returns-clause-wrong : goal.returns-clause-wrong
returns-clause-wrong g c = λ breach.
    let heard = c.in_ok-body.ensures.ok in
    hears_none _ _ _ heard.0 c.as_slice.ensures heard.1 (c.print_reply.ensures.wrong breach)
