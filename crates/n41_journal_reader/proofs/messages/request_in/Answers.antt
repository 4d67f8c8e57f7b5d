use Rattle.n41_journal_reader.proofs.Found.{found_in, none_in}
use Rattle.n41_journal_reader.proofs.messages.request_in.Goals as goal

pub returns-in-Some : goal.returns-in-Some
returns-in-Some c = found_in c.args.bytes.now c.in_ok-call.call c.in-Some.call c.request_in_call.result c.in_ok-call.ensures c.in-Some.is c.request_in_call.ensures

pub returns-in-None : goal.returns-in-None
returns-in-None c = none_in c.args.bytes.now c.in_ok-call.call c.in_ok-call.ensures c.in-None.is
