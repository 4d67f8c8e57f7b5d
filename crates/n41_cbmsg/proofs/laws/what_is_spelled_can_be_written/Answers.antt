use Rattle.n41_cbmsg.proofs.CallsSpelled.{spelled_call_fits}
use Rattle.n41_cbmsg.proofs.AnswersSpelled.{spelled_answer_fits}
use Rattle.n41_cbmsg.proofs.laws.what_is_spelled_can_be_written.Goals as goal

pub returns : goal.returns
returns c = record { calls = spelled_call_fits; answers = spelled_answer_fits }
