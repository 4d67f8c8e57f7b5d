-- The text of a journal (own): a line for each event, the oldest first.
use Rattle.std.specs.Prelude.{ℕ, List, [], ◌++◌, codes}
use Rattle.std.specs.Fmt.{decimal}
use Rattle.std.specs.List.{flat_map}
use Rattle.hex.specs.Hex.{encode_lower}
use Rattle.n41_types.specs.declared.commands.Answer.{Answer}
use Rattle.n41_types.specs.declared.commands.Answer.TheVariants.{Unreachable}
use Rattle.n41_journal.specs.declared.events.Cause.{Cause}
use Rattle.n41_journal.specs.declared.events.Cause.TheVariants as cause
use Rattle.n41_journal.specs.declared.events.Event.{Event}
use Rattle.n41_journal.specs.declared.events.Event.TheVariants as event
use Rattle.n41_calls.specs.Text as model
use Rattle.n41_requests.specs.Requests.{spelled}
use Rattle.n41_replies.specs.Replies.{written}
use Rattle.n41_cbmsg.specs.Calls.{written_call}
use Rattle.n41_cbmsg.specs.Answers.{written_answer}
use Rattle.n41_written.specs.Written.{◌·◌, command_text}

-- why a connection broke
abbrev pub cause_text : Cause → List ℕ
cause_text cause.Link = codes "link"
cause_text cause.Ended = codes "ended"
cause_text cause.BadRecord = codes "record"
cause_text cause.Garbled = codes "garbled"
cause_text (cause.Old xid) = codes "old" · decimal xid
cause_text cause.NoMemory = codes "memory"

-- an answer as a run prints it, save that the number of one that did not come is told too
abbrev pub answer_text : Answer → List ℕ
answer_text (Unreachable n) = codes "unreachable" · decimal n
answer_text a = model.answer_text a

-- the message of an event as bytes: without record mark, with an empty tag and verifier; none where it has no message
abbrev pub message : Event → List ℕ
message (event.Put conn place q) = spelled q
message (event.Took conn place r) = written r
message (event.CbTook conn place c) = written_call c
message (event.CbPut conn place r) = written_answer r
message _ = []

-- what happened to a message: where it stands among those of its connection, and its bytes in lower hexadecimal
abbrev pub message_text : List ℕ → ℕ → ℕ → List ℕ → List ℕ
message_text what conn place bytes = what · (decimal conn · (decimal place · encode_lower bytes))

-- the words of an event, with one space between two of them
abbrev pub event_text : Event → List ℕ
event_text (event.Began caller number c moment) = codes "began" · (decimal caller · (decimal number · (decimal moment · command_text c)))
event_text (event.Put conn place q) = message_text (codes "put") conn place (spelled q)
event_text (event.Took conn place r) = message_text (codes "took") conn place (written r)
event_text (event.CbTook conn place c) = message_text (codes "cbtook") conn place (written_call c)
event_text (event.CbPut conn place r) = message_text (codes "cbput") conn place (written_answer r)
event_text (event.Dialed conn) = codes "dialed" · decimal conn
event_text event.DialFailed = codes "dialfailed"
event_text (event.Broke conn cause) = codes "broke" · (decimal conn · cause_text cause)
event_text (event.Ticked moment) = codes "ticked" · decimal moment
event_text (event.Answered caller number a) = codes "answered" · (decimal caller · (decimal number · answer_text a))
event_text event.Quit = codes "quit"

-- a line ends with byte 0x0A
abbrev pub event_line : Event → List ℕ
event_line e = event_text e ++ codes "\n"

-- the text of events, of which the oldest comes first
abbrev pub journal_lines : List Event → List ℕ
journal_lines events = flat_map event_line events
