-- The words of the line of an event, for its reader (own).
use Rattle.std.specs.Prelude.{◌≡◌, ◌≢◌, ◌<◌, ◌^◌, ℕ, Bool, true, false, List, [], ◌∷◌, ◌++◌, length, map, codes, All, IfSome, Ok}
use Rattle.std.specs.Fmt.{decimal}
use Rattle.hex.specs.Hex.{IsBytes, encode_lower}
use Rattle.n41_types.specs.declared.commands.Answer.{Answer}
use Rattle.n41_types.specs.declared.commands.Answer.TheVariants as says
use Rattle.n41_types.specs.declared.commands.Command.{Command}
use Rattle.n41_types.specs.declared.commands.Value.{Value}
use Rattle.n41_types.specs.declared.commands.Value.TheVariants as value
use Rattle.n41_journal.specs.declared.events.Cause.{Cause}
use Rattle.n41_journal.specs.declared.events.Cause.TheVariants as cause
use Rattle.n41_journal.specs.declared.events.Event.{Event}
use Rattle.n41_journal.specs.declared.events.Event.TheVariants as event
use Rattle.n41_calls.specs.Text.{hex_or_dash, decimal_or_dash, mode_text, name_text}
use Rattle.n41_requests.specs.Requests.{spelled}
use Rattle.n41_replies.specs.Replies.{written}
use Rattle.n41_cbmsg.specs.Calls.{written_call}
use Rattle.n41_cbmsg.specs.Answers.{written_answer}
use Rattle.n41_words.specs.Lines.{words}
use Rattle.n41_words.specs.Words.{has_control}
use Rattle.n41_commands.specs.Commands.{command_of}
use Rattle.n41_written.specs.Written.{command_text}

-- ---- the words

abbrev pub cause_words : Cause → List (List ℕ)
cause_words cause.Link = codes "link" ∷ []
cause_words cause.Ended = codes "ended" ∷ []
cause_words cause.BadRecord = codes "record" ∷ []
cause_words cause.Garbled = codes "garbled" ∷ []
cause_words (cause.Old xid) = codes "old" ∷ decimal xid ∷ []
cause_words cause.NoMemory = codes "memory" ∷ []

abbrev pub end_word : Bool → List ℕ
end_word true = codes "end"
end_word false = codes "more"

abbrev pub more_words : Bool → List (List ℕ)
more_words true = codes "more" ∷ []
more_words false = []

abbrev pub value_words : Value → List (List ℕ)
value_words value.Opened = codes "opened" ∷ []
value_words (value.Got bytes last) = codes "data" ∷ hex_or_dash bytes ∷ end_word last ∷ []
value_words (value.Wrote n) = codes "wrote" ∷ decimal n ∷ []
value_words value.Locked = codes "locked" ∷ []
value_words value.Unlocked = codes "unlocked" ∷ []
value_words value.Free = codes "free" ∷ []
value_words value.Truncated = codes "truncated" ∷ []
value_words value.Closed = codes "closed" ∷ []
value_words (value.Stat kind size fileid mode) =
    codes "stat" ∷ codes "type" ∷ decimal kind ∷ codes "size" ∷ decimal size ∷ codes "fileid" ∷ decimal_or_dash fileid ∷ codes "mode" ∷ mode_text mode ∷ []
value_words (value.Names names more) = codes "names" ∷ decimal (length names) ∷ (map name_text names ++ more_words more)
value_words value.Made = codes "made" ∷ []
value_words value.Removed = codes "removed" ∷ []
value_words value.Renamed = codes "renamed" ∷ []
value_words value.Paused = codes "paused" ∷ []

abbrev pub answer_words : Answer → List (List ℕ)
answer_words (says.Done x) = value_words x
answer_words (says.Refused s) = codes "refused" ∷ decimal s.0 ∷ []
answer_words says.Unknown = codes "unknown" ∷ []
answer_words (says.StateLost l) = codes "lost" ∷ decimal l.0.0 ∷ []
answer_words (says.Unreachable n) = codes "unreachable" ∷ decimal n ∷ []
answer_words says.NotOpen = codes "not" ∷ codes "open" ∷ []
answer_words (says.Breach p) = codes "breach" ∷ decimal p ∷ []

abbrev pub message_words : List ℕ → ℕ → ℕ → List ℕ → List (List ℕ)
message_words what conn place bytes = what ∷ decimal conn ∷ decimal place ∷ encode_lower bytes ∷ []

abbrev pub event_words : Event → List (List ℕ)
event_words (event.Began caller number c moment) = codes "began" ∷ decimal caller ∷ decimal number ∷ decimal moment ∷ words (command_text c)
event_words (event.Put conn place q) = message_words (codes "put") conn place (spelled q)
event_words (event.Took conn place r) = message_words (codes "took") conn place (written r)
event_words (event.CbTook conn place c) = message_words (codes "cbtook") conn place (written_call c)
event_words (event.CbPut conn place r) = message_words (codes "cbput") conn place (written_answer r)
event_words (event.Dialed conn) = codes "dialed" ∷ decimal conn ∷ []
event_words event.DialFailed = codes "dialfailed" ∷ []
event_words (event.Broke conn cause) = codes "broke" ∷ decimal conn ∷ cause_words cause
event_words (event.Ticked moment) = codes "ticked" ∷ decimal moment ∷ []
event_words (event.Answered caller number a) = codes "answered" ∷ decimal caller ∷ decimal number ∷ answer_words a
event_words event.Quit = codes "quit" ∷ []

-- no byte of it is refused in a line
abbrev pub IsClean : List ℕ → Type 0
IsClean word = has_control word ≡ false

-- ---- which events have lines with these words

-- a command that the words of its own text say
abbrev pub IsSaid : Command → Type 0
IsSaid c = command_of false (words (command_text c)) ≡ Ok c

-- a name that is told has a byte
abbrev pub IsToldName : List ℕ → Type 0
IsToldName name = IsBytes name × (name ≢ [])

abbrev pub IsLegibleValue : Value → Type 0
IsLegibleValue (value.Got bytes last) = IsBytes bytes
IsLegibleValue (value.Wrote n) = n < 2 ^ 32
IsLegibleValue (value.Stat kind size fileid mode) = (kind < 2 ^ 32) × (size < 2 ^ 64) × IfSome fileid (λ n. n < 2 ^ 64) × IfSome mode (λ m. m < 2 ^ 32)
IsLegibleValue (value.Names names more) = (length names < 2 ^ 64) × All IsToldName names
IsLegibleValue _ = Unit {0}

abbrev pub IsLegibleAnswer : Answer → Type 0
IsLegibleAnswer (says.Done x) = IsLegibleValue x
IsLegibleAnswer (says.Refused s) = s.0 < 2 ^ 32
IsLegibleAnswer (says.StateLost l) = l.0.0 < 2 ^ 32
IsLegibleAnswer (says.Unreachable n) = n < 2 ^ 64
IsLegibleAnswer (says.Breach p) = p < 2 ^ 64
IsLegibleAnswer _ = Unit {0}

abbrev pub IsLegibleCause : Cause → Type 0
IsLegibleCause (cause.Old xid) = xid < 2 ^ 32
IsLegibleCause _ = Unit {0}

abbrev pub IsPlaced : ℕ → ℕ → List ℕ → Type 0
IsPlaced conn place bytes = (conn < 2 ^ 64) × (place < 2 ^ 64) × IsBytes bytes

-- the numbers are those of their types, bytes are bytes, and a command is one that words say
abbrev pub IsLegible : Event → Type 0
IsLegible (event.Began caller number c moment) = (caller < 2 ^ 32) × (number < 2 ^ 64) × (moment < 2 ^ 64) × IsSaid c
IsLegible (event.Put conn place q) = IsPlaced conn place (spelled q)
IsLegible (event.Took conn place r) = IsPlaced conn place (written r)
IsLegible (event.CbTook conn place c) = IsPlaced conn place (written_call c)
IsLegible (event.CbPut conn place r) = IsPlaced conn place (written_answer r)
IsLegible (event.Dialed conn) = conn < 2 ^ 64
IsLegible (event.Broke conn cause) = (conn < 2 ^ 64) × IsLegibleCause cause
IsLegible (event.Ticked moment) = moment < 2 ^ 64
IsLegible (event.Answered caller number a) = (caller < 2 ^ 32) × (number < 2 ^ 64) × IsLegibleAnswer a
IsLegible _ = Unit {0}

-- ---- what no type says of an event

abbrev pub IsFull : List ℕ → Type 0
IsFull name = name ≢ []

abbrev pub HasFullNames : Value → Type 0
HasFullNames (value.Names names more) = All IsFull names
HasFullNames _ = Unit {0}

abbrev pub IsSayableAnswer : Answer → Type 0
IsSayableAnswer (says.Done x) = HasFullNames x
IsSayableAnswer _ = Unit {0}

-- its command is one that words say, and each name in its answer has a byte
abbrev pub IsSayable : Event → Type 0
IsSayable (event.Began caller number c moment) = IsSaid c
IsSayable (event.Answered caller number a) = IsSayableAnswer a
IsSayable _ = Unit {0}
