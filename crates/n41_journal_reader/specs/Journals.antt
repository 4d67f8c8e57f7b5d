-- What a text says as a journal, and where it is none (own).
use Rattle.std.specs.Prelude.{◌≡◌, ◌≤◌, ◌⊎◌, ℕ, suc, not, List, [], ◌∷◌, length, take, reverse, slice_get, Result, Ok, Err, Some, true, false}
use Rattle.std.specs.List.{filter}
use Rattle.n41_journal.specs.Journal.{Log}
use Rattle.n41_journal.specs.declared.events.Event.{Event}
use Rattle.n41_words.specs.Lines.{lines, words, is_skipped}
use Rattle.n41_words.specs.declared.fault.LineFault.{LineFault}
use Rattle.n41_words.specs.declared.fault.LineFault.TheVariants.{Kind, NoMemory}
use Rattle.n41_words.specs.declared.fault.LineKind.{LineKind}
use Rattle.n41_words.specs.declared.fault.ScriptFault.{ScriptFault}
use Rattle.n41_words.specs.declared.fault.ScriptFault.TheVariants as fault
use Rattle.n41_script.specs.Scripts.{script_limit, IsTooLong}
use Rattle.n41_journal_reader.specs.Events.{Says}

-- the line says this event
abbrev pub SaysEvent : List ℕ → Event → Type 0
SaysEvent line e = Says (words line) (Ok e)

-- the line says none, and this is its first fault
abbrev pub IsRefused : List ℕ → LineKind → Type 0
IsRefused line k = Says (words line) (Err k)

-- the lines that are no comments and not empty
abbrev pub told_lines : List (List ℕ) → List (List ℕ)
told_lines ls = filter (λ line. not (is_skipped line)) ls

-- each line says one of these events, in this order
abbrev pub SayEach : List (List ℕ) → List Event → Type 0
SayEach [] [] = Unit {0}
SayEach [] (e ∷ es) = ⊥
SayEach (line ∷ ls) [] = ⊥
SayEach (line ∷ ls) (e ∷ es) = SaysEvent line e × SayEach ls es

-- What a reader of lines does with one more, told from want of memory: it adds the event that the line says in front of those before, or tells the line's fault.
abbrev pub Adds : Result (Unit {0}) LineFault → List ℕ → List Event → List Event → Type 0
Adds (Ok u) line old new = ((is_skipped line ≡ true) × (new ≡ old)) ⊎ ((is_skipped line ≡ false) × ((e : Event) × SaysEvent line e × (new ≡ e ∷ old)))
Adds (Err (Kind k)) line old new = (is_skipped line ≡ false) × IsRefused line k
Adds (Err NoMemory) line old new = Unit {0}

-- the text is a journal of these events, of which the oldest comes first
pub record IsJournal (text : List ℕ) (events : List Event) : Type 0 where
  pub within : length text ≤ script_limit
  pub said : SayEach (told_lines (lines text)) events

-- the line with this number, from 1, is the first that is refused, and this is its first fault
pub record IsFirstRefused (text : List ℕ) (number : ℕ) (k : LineKind) : Type 0 where
  pub place : ℕ
  pub number_is : number ≡ suc place
  pub line : List ℕ
  pub there : slice_get (lines text) place ≡ Some line
  pub told : is_skipped line ≡ false
  pub before : List Event
  pub said : SayEach (told_lines (take place (lines text))) before
  pub refused : IsRefused line k

-- the fault of the lines of a text
abbrev pub IsLineFault : List ℕ → ScriptFault → Type 0
IsLineFault text (fault.Line number k) = IsFirstRefused text number k
IsLineFault text fault.NoMemory = Unit {0}

-- the fault of a text
abbrev pub IsFault : List ℕ → ScriptFault → Type 0
IsFault text (fault.Line number k) = IsTooLong text number k ⊎ ((length text ≤ script_limit) × IsFirstRefused text number k)
IsFault text fault.NoMemory = Unit {0}

-- a journal of these events was read, unless memory ran out
abbrev pub IsAnswerTo : Result Log ScriptFault → List Event → Type 0
IsAnswerTo (Ok j) es = reverse j.events ≡ es
IsAnswerTo (Err (fault.Line number k)) es = ⊥
IsAnswerTo (Err fault.NoMemory) es = Unit {0}
