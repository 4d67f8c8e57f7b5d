-- What a reader answers, told from want of memory.
use Rattle.std.specs.Prelude.{◌≡◌, ℕ, Result, Ok, Err, Option, Some, None}
use Rattle.n41_words.specs.declared.fault.LineKind.{LineKind}
use Rattle.n41_words.specs.declared.fault.LineFault.{LineFault}
use Rattle.n41_words.specs.declared.fault.LineFault.TheVariants.{Kind, NoMemory}
use Rattle.n41_words.specs.declared.fault.ScriptFault.{ScriptFault}
use Rattle.n41_words.specs.declared.fault.ScriptFault.TheVariants as fault

-- a value or a fault is this one
abbrev pub Gives : {X : Type 0} → Result X LineFault → Result X LineKind → Type 0
Gives (Ok x) r = r ≡ Ok x
Gives (Err (Kind k)) r = r ≡ Err k
Gives (Err NoMemory) r = Unit {0}

-- a value, unless there is a fault
abbrev pub unless : {X : Type 0} → Option LineKind → X → Result X LineKind
unless None x = Ok x
unless (Some k) x = Err k

-- the fault of a text whose line of this number has this one
abbrev pub at_line : ℕ → LineFault → ScriptFault
at_line line (Kind k) = fault.Line line k
at_line line NoMemory = fault.NoMemory
