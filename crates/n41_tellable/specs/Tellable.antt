-- Which events can be told in writing (own): those whose message has a spelling, and those without a message.
use Rattle.std.specs.Prelude.{List, All}
use Rattle.n41_journal.specs.declared.events.Event.{Event}
use Rattle.n41_journal.specs.declared.events.Event.TheVariants.{Put, Took, CbTook, CbPut}
use Rattle.n41_requests.specs.Requests as requests
use Rattle.n41_replies.specs.Replies as replies
use Rattle.n41_cbmsg.specs.Calls as callbacks
use Rattle.n41_cbmsg.specs.Answers as answers

abbrev pub IsTellable : Event → Type 0
IsTellable (Put conn place q) = requests.IsSpellable q
IsTellable (Took conn place r) = replies.IsSpellable r
IsTellable (CbTook conn place c) = callbacks.CallFits c
IsTellable (CbPut conn place r) = answers.AnswerFits r
IsTellable _ = Unit {0}

-- all events of a journal can be told
abbrev pub AllTellable : List Event → Type 0
AllTellable js = All IsTellable js
