use Rattle.n41_answers.proofs.Sample.{indexed}
use Rattle.n41_answers.proofs.tests.place_found.Goals as goal

pub answer_of-requires : goal.answer_of-requires
answer_of-requires c = indexed c.in_ok-journal.journal.events c.in_ok-answers.answers.lists c.in_ok-journal.ensures c.in_ok-answers.ensures
