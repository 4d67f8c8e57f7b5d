use Rattle.n41_cbmsg.proofs.CallsSpelled.{written_call_spelled, written_call_read}
use Rattle.n41_cbmsg.proofs.AnswersSpelled.{written_answer_spelled, written_answer_read}
use Rattle.n41_cbmsg.proofs.laws.what_is_written_is_read.Goals as goal

pub returns : goal.returns
returns c = record { calls_are_spelled = written_call_spelled; calls = written_call_read; answers_are_spelled = written_answer_spelled; answers = written_answer_read }
