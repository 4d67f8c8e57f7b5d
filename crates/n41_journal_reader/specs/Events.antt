-- What a line of a journal says: an event, or its first fault (own).
use Rattle.std.specs.Prelude.{◌≡◌, ℕ, false, List, [], ◌∷◌, if◌then◌else◌, codes, Option, Some, None, Result, Ok, Err}
use Rattle.n41_types.specs.declared.commands.Command.{Command}
use Rattle.n41_types.specs.declared.plans.Request.{Request}
use Rattle.n41_journal.specs.declared.events.Cause.{Cause}
use Rattle.n41_journal.specs.declared.events.Cause.TheVariants as cause
use Rattle.n41_journal.specs.declared.events.Event.{Event}
use Rattle.n41_journal.specs.declared.events.Event.TheVariants as event
use Rattle.n41_xdr.specs.Reading.{◌>>=◌}
use Rattle.n41_words.specs.Words.{same}
use Rattle.n41_words.specs.Numbers.{hex_bytes}
use Rattle.n41_words.specs.declared.fault.LineFault.{LineFault}
use Rattle.n41_words.specs.declared.fault.LineFault.TheVariants.{Kind, NoMemory}
use Rattle.n41_words.specs.declared.fault.LineKind.{LineKind}
use Rattle.n41_words.specs.declared.fault.LineKind.TheVariants as kind
use Rattle.n41_commands.specs.Commands.{command_of}
use Rattle.n41_journal_words.specs.Reading.{word_at, form_at, alone, last_at}
use Rattle.n41_journal_words.specs.Answers.{number32, number64, answer_of}
use Rattle.n41_journal_reader.specs.Messages.{reply_of, callback_of, callback_reply_of, IsFoundIn}
use Rattle.n41_journal_reader.specs.declared.first.First.{First}
use Rattle.n41_journal_reader.specs.declared.first.First.TheVariants as first

-- ---- the first word

abbrev pub first_text : First → List ℕ
first_text first.Began = codes "began"
first_text first.Put = codes "put"
first_text first.Took = codes "took"
first_text first.CbTook = codes "cbtook"
first_text first.CbPut = codes "cbput"
first_text first.Dialed = codes "dialed"
first_text first.DialFailed = codes "dialfailed"
first_text first.Broke = codes "broke"
first_text first.Ticked = codes "ticked"
first_text first.Answered = codes "answered"
first_text first.Quit = codes "quit"

abbrev pub firsts : List First
firsts = first.Began ∷ first.Put ∷ first.Took ∷ first.CbTook ∷ first.CbPut ∷ first.Dialed ∷ first.DialFailed ∷ first.Broke ∷ first.Ticked ∷ first.Answered ∷ first.Quit ∷ []

-- the one that a word is, of these
abbrev pub first_among : List First → List ℕ → Result First LineKind
first_among [] word = Err kind.Command
first_among (f ∷ fs) word = if same word (first_text f) then Ok f else first_among fs word

abbrev pub first_of : List ℕ → Result First LineKind
first_of word = first_among firsts word

-- ---- what stands behind it

-- the kinds of a journal have none for a path or a label that is out of form
abbrev pub journal_kind : LineKind → LineKind
journal_kind kind.Byte = kind.Byte
journal_kind kind.Words = kind.Words
journal_kind kind.Number = kind.Number
journal_kind kind.Hex = kind.Hex
journal_kind k = kind.Command

-- the command that ends a line
abbrev pub as_journal : Result Command LineKind → Result Command LineKind
as_journal (Ok c) = Ok c
as_journal (Err k) = Err (journal_kind k)

abbrev pub began_of : List (List ℕ) → Result Event LineKind
began_of words = do
  caller ← form_at number32 words
  number ← form_at number64 caller.1
  moment ← form_at number64 number.1
  command ← as_journal (command_of false moment.1)
  Ok (event.Began caller.0 number.0 command moment.0)

-- a connection and a place
abbrev pub place_at : List (List ℕ) → Result ((ℕ × ℕ) × List (List ℕ)) LineKind
place_at words = form_at number64 words >>= λ conn. form_at number64 conn.1 >>= λ place. Ok ((conn.0, place.0), place.1)

-- a message at a place
abbrev pub message_of : {X : Type 0} → (List ℕ → Result X LineKind) → (ℕ → ℕ → X → Event) → List (List ℕ) → Result Event LineKind
message_of form event words = place_at words >>= λ at. last_at form at.1 >>= λ x. Ok (event at.0.0 at.0.1 x)

-- why a connection broke, by the first word and to the end of a line
abbrev pub cause_behind : List ℕ → List (List ℕ) → Result Cause LineKind
cause_behind word words =
    if same word (codes "old") then (last_at number32 words >>= λ xid. Ok (cause.Old xid)) else
    if same word (codes "link") then alone cause.Link words else
    if same word (codes "ended") then alone cause.Ended words else
    if same word (codes "record") then alone cause.BadRecord words else
    if same word (codes "garbled") then alone cause.Garbled words else
    if same word (codes "memory") then alone cause.NoMemory words else Err kind.Command

abbrev pub cause_of : List (List ℕ) → Result Cause LineKind
cause_of words = word_at words >>= λ w. cause_behind w.0 w.1

abbrev pub broke_of : List (List ℕ) → Result Event LineKind
broke_of words = form_at number64 words >>= λ conn. cause_of conn.1 >>= λ c. Ok (event.Broke conn.0 c)

abbrev pub answered_of : List (List ℕ) → Result Event LineKind
answered_of words = do
  caller ← form_at number32 words
  number ← form_at number64 caller.1
  answer ← answer_of number.1
  Ok (event.Answered caller.0 number.0 answer)

-- ---- requests

-- the place and the bytes of a request
abbrev pub bytes_at : List (List ℕ) → Result (((ℕ × ℕ) × List ℕ) × List (List ℕ)) LineKind
bytes_at words = place_at words >>= λ at. form_at hex_bytes at.1 >>= λ bytes. Ok ((at.0, bytes.0), bytes.1)

-- where this request is found in the bytes
abbrev pub put_of : Option Request → ℕ × ℕ → List (List ℕ) → Result Event LineKind
put_of None at words = Err kind.Hex
put_of (Some q) at words = alone (event.Put at.0 at.1 q) words

abbrev pub SaysPut : Result (((ℕ × ℕ) × List ℕ) × List (List ℕ)) LineKind → Result Event LineKind → Type 0
SaysPut (Ok x) r = (found : Option Request) × IsFoundIn x.0.1 found × (put_of found x.0.0 x.1 ≡ r)
SaysPut (Err k) r = Err k ≡ r

-- ---- lines

abbrev pub SaysBehind : First → List (List ℕ) → Result Event LineKind → Type 0
SaysBehind first.Began words r = began_of words ≡ r
SaysBehind first.Put words r = SaysPut (bytes_at words) r
SaysBehind first.Took words r = message_of reply_of event.Took words ≡ r
SaysBehind first.CbTook words r = message_of callback_of event.CbTook words ≡ r
SaysBehind first.CbPut words r = message_of callback_reply_of event.CbPut words ≡ r
SaysBehind first.Dialed words r = (last_at number64 words >>= λ conn. Ok (event.Dialed conn)) ≡ r
SaysBehind first.DialFailed words r = alone event.DialFailed words ≡ r
SaysBehind first.Broke words r = broke_of words ≡ r
SaysBehind first.Ticked words r = (last_at number64 words >>= λ moment. Ok (event.Ticked moment)) ≡ r
SaysBehind first.Answered words r = answered_of words ≡ r
SaysBehind first.Quit words r = alone event.Quit words ≡ r

abbrev pub SaysFirst : Result (First × List (List ℕ)) LineKind → Result Event LineKind → Type 0
SaysFirst (Ok f) r = SaysBehind f.0 f.1 r
SaysFirst (Err k) r = Err k ≡ r

-- words say this event, or this is their first fault
abbrev pub Says : List (List ℕ) → Result Event LineKind → Type 0
Says words r = SaysFirst (form_at first_of words) r

-- what a reader of such words answers, told from want of memory
abbrev pub Tells : Result Event LineFault → (Result Event LineKind → Type 0) → Type 0
Tells (Ok e) says = says (Ok e)
Tells (Err (Kind k)) says = says (Err k)
Tells (Err NoMemory) says = Unit {0}
