use Rattle.n41_core.proofs.client.Core.took_reply.Goals as goal

pub returns-in-Some-clause-cause : goal.returns-in-Some-clause-cause
returns-in-Some-clause-cause c = record { next = c.in_ok-next_in.ensures.ok; why = rw (← c.self.view_is) c.in-Some.ensures.some; broke = c.break_off.ensures }
