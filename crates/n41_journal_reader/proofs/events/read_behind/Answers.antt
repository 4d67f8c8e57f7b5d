use Rattle.n41_journal.specs.declared.events.Event.TheVariants as event
use Rattle.n41_journal_words.specs.Reading.{alone}
use Rattle.n41_journal_reader.specs.Messages.{reply_of, callback_of, callback_reply_of}
use Rattle.n41_journal_reader.specs.Events.{began_of, message_of, broke_of, answered_of}
use Rattle.n41_journal_reader.proofs.Tellings.{tells}
use Rattle.n41_journal_reader.proofs.events.read_behind.Goals as goal

pub returns-in-Began : goal.returns-in-Began
returns-in-Began c = rw c.in-Began.is (tells c.began.result (began_of c.args.words.now) c.began.ensures)

pub returns-in-Took : goal.returns-in-Took
returns-in-Took c = rw c.in-Took.is (tells c.took.result (message_of reply_of event.Took c.args.words.now) c.took.ensures)

pub returns-in-CbTook : goal.returns-in-CbTook
returns-in-CbTook c = rw c.in-CbTook.is (tells c.callback_took.result (message_of callback_of event.CbTook c.args.words.now) c.callback_took.ensures)

pub returns-in-CbPut : goal.returns-in-CbPut
returns-in-CbPut c = rw c.in-CbPut.is (tells c.callback_put.result (message_of callback_reply_of event.CbPut c.args.words.now) c.callback_put.ensures)

pub returns-in-DialFailed : goal.returns-in-DialFailed
returns-in-DialFailed c = rw c.in-DialFailed.is (tells c.end_with.result (alone event.DialFailed c.args.words.now) c.end_with.ensures)

pub returns-in-Broke : goal.returns-in-Broke
returns-in-Broke c = rw c.in-Broke.is (tells c.broke.result (broke_of c.args.words.now) c.broke.ensures)

pub returns-in-Answered : goal.returns-in-Answered
returns-in-Answered c = rw c.in-Answered.is (tells c.answered.result (answered_of c.args.words.now) c.answered.ensures)

pub returns-in-Quit : goal.returns-in-Quit
returns-in-Quit c = rw c.in-Quit.is (tells c.end_with-in-Quit.result (alone event.Quit c.args.words.now) c.end_with-in-Quit.ensures)
