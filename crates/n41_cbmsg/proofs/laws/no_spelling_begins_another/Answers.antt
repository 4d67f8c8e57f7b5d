use Rattle.n41_cbmsg.proofs.CallsSpelled.{no_call_begins_another}
use Rattle.n41_cbmsg.proofs.AnswersSpelled.{no_answer_begins_another}
use Rattle.n41_cbmsg.proofs.laws.no_spelling_begins_another.Goals as goal

pub returns : goal.returns
returns c = record { calls = no_call_begins_another; answers = no_answer_begins_another }
