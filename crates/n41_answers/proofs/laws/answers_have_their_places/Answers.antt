use Rattle.n41_answers.proofs.Law.{places_answer, answers_are_placed, answers_once}
use Rattle.n41_answers.proofs.laws.answers_have_their_places.Goals as goal

pub returns-clause-places : goal.returns-clause-places
returns-clause-places c = places_answer

pub returns-clause-no_other : goal.returns-clause-no_other
returns-clause-no_other c = answers_are_placed

pub returns-clause-once : goal.returns-clause-once
returns-clause-once c = answers_once
