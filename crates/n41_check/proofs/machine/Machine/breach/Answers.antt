use Rattle.std.proofs.Common.{sym, subst}
use Rattle.n41_journal.specs.declared.events.Event.{Event}
use Rattle.n41_check.specs.Asked.{Finds}
use Rattle.n41_check.proofs.Causes.{keeps_other}
use Rattle.n41_check.proofs.machine.Machine.breach.Goals as goal

pub returns-in-Put : goal.returns-in-Put
returns-in-Put c = λ n js s. subst (λ (e : Event). Finds n js e c.breach.result) (sym c.in-Put.is) (c.breach.ensures n js c.in-Put.conn c.in-Put.place s.requests)

pub returns-in-Answered : goal.returns-in-Answered
returns-in-Answered c = λ n js s. subst (λ (e : Event). Finds n js e c.answer_breach.result) (sym c.in-Answered.is) (c.answer_breach.ensures n js s)

pub returns-in_default : goal.returns-in_default
returns-in_default c = λ n js s. keeps_other n js c.args.event.now s.requests.lone c.in_default.not-Put c.in_default.not-Answered
