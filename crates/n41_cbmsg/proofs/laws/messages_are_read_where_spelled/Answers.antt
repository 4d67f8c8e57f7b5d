use Rattle.n41_cbmsg.proofs.CallsSpelled.{read_call_spelled, spelled_call_read}
use Rattle.n41_cbmsg.proofs.AnswersSpelled.{read_answer_spelled, spelled_answer_read}
use Rattle.n41_cbmsg.proofs.laws.messages_are_read_where_spelled.Goals as goal

pub returns : goal.returns
returns c = record {
  calls = λ c bytes fits. (read_call_spelled c bytes fits, spelled_call_read c bytes fits);
  answers = λ r bytes fits. (read_answer_spelled r bytes fits, spelled_answer_read r bytes);
}
