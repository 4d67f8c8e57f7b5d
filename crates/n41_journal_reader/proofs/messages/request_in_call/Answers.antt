use Rattle.n41_journal_reader.proofs.Found.{found_of, none_of}
use Rattle.n41_journal_reader.proofs.messages.request_in_call.Goals as goal

pub returns-in-Some : goal.returns-in-Some
returns-in-Some c = λ bytes e. found_of c.args.call.now c.in-Some.request bytes (rw c.in-Some.is at c.in_ok-found.ensures.found) c.request_is_lawful.ensures e

pub returns-in-None : goal.returns-in-None
returns-in-None c = λ bytes e. none_of c.args.call.now bytes (rw c.in-None.is at c.in_ok-found.ensures.none) e
