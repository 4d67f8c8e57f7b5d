use Rattle.n41_cbmsg.proofs.CallsSpelled.{one_call}
use Rattle.n41_cbmsg.proofs.AnswersSpelled.{one_answer}
use Rattle.n41_cbmsg.proofs.laws.messages_have_one_value.Goals as goal

pub returns : goal.returns
returns c = record { calls = one_call; answers = one_answer }
