use Rattle.n41_answers.proofs.Law.{answer_is_placed}
use Rattle.n41_answers.proofs.laws.the_printed_answer_is_placed.Goals as goal

pub returns : goal.returns
returns c = answer_is_placed
