use Rattle.n41_probe.proofs.probing.text_of.Goals as goal

pub returns-in_default-clause-wrong : goal.returns-in_default-clause-wrong
returns-in_default-clause-wrong c = λ breach x is. c.in_default.ensures.none x (cc (c.in_ok-reply.ensures, is))
