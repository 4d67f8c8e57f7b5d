use Rattle.std.proofs.Common.{sym, ◌∙◌}
use Rattle.n41_check.proofs.Causes.{breaks_answers, breaks_causes, keeps_answer}
use Rattle.n41_check.proofs.machine.Machine.answer_breach.Goals as goal

pub returns-then-not-is_caused : goal.returns-then-not-is_caused
returns-then-not-is_caused c = λ n js s. breaks_causes n js c.args.caller c.args.number c.args.answer.now c.args.self.now s (sym c.is_caused.ensures ∙ c.if-not-is_caused.true)

pub returns-then-is_asked : goal.returns-then-is_asked
returns-then-is_asked c = λ n js s. keeps_answer n js c.args.caller c.args.number c.args.answer.now c.args.self.now s (sym c.is_caused.ensures ∙ c.if-not-is_caused.false) (sym c.is_asked.ensures ∙ c.if-is_asked.true)

pub returns-else-is_asked : goal.returns-else-is_asked
returns-else-is_asked c = λ n js s. breaks_answers n js c.args.caller c.args.number c.args.answer.now c.args.self.now s (sym c.is_caused.ensures ∙ c.if-not-is_caused.false) (sym c.is_asked.ensures ∙ c.if-is_asked.false)
