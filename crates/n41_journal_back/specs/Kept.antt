-- Which journals come back as they were written (own).
use Rattle.std.specs.Prelude.{ℕ, List}
use Rattle.n41_journal.specs.declared.events.Event.{Event}
use Rattle.n41_journal.specs.declared.events.Event.TheVariants.{Put}
use Rattle.n41_requests.specs.Requests.{Fits}
use Rattle.n41_compound.specs.Calls.{IsLawful}
use Rattle.n41_words.specs.declared.fault.ScriptFault.{ScriptFault}
use Rattle.n41_words.specs.declared.fault.ScriptFault.TheVariants as fault
use Rattle.n41_script.specs.Scripts.{IsTooLong}
use Rattle.n41_tellable.specs.Tellable.{IsTellable}
use Rattle.n41_journal_text.specs.Words.{IsLegible}

-- what the types of an event's request say: all of it fits in its spelling, and its names and spans are such
abbrev pub IsTyped : Event → Type 0
IsTyped (Put conn place q) = IsLawful q × Fits q
IsTyped _ = Unit {0}

-- the event has a line that tells all of it
abbrev pub IsKept : Event → Type 0
IsKept e = IsTellable e × IsLegible e × IsTyped e

-- the one fault of a text that was written: it is too long
abbrev pub IsTextFault : List ℕ → ScriptFault → Type 0
IsTextFault text (fault.Line number k) = IsTooLong text number k
IsTextFault text fault.NoMemory = Unit {0}
