use Rattle.n41_answers.proofs.Law.{begun_in_order, earlier_are_answered, idle_are_answered}
use Rattle.n41_answers.proofs.laws.commands_are_answered_in_order.Goals as goal

pub returns-clause-in_order : goal.returns-clause-in_order
returns-clause-in_order c = begun_in_order

pub returns-clause-earlier : goal.returns-clause-earlier
returns-clause-earlier c = earlier_are_answered

pub returns-clause-idle : goal.returns-clause-idle
returns-clause-idle c = idle_are_answered
