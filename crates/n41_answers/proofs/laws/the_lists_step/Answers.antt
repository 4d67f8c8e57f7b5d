use Rattle.n41_answers.proofs.Law.{lists_step}
use Rattle.n41_answers.proofs.laws.the_lists_step.Goals as goal

pub returns : goal.returns
returns c = lists_step
