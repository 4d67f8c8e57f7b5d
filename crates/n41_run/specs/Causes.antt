-- The statuses of the program and the lines of its faults (own).
use Rattle.std.specs.Prelude.{◌≡◌, ℕ, List, ◌++◌, codes, Some, None}
use Rattle.std.specs.declared.option.Option.{Option}
use Rattle.std.specs.Fmt.{decimal}
use Rattle.n41_words.specs.declared.fault.LineKind.{LineKind}
use Rattle.n41_words.specs.declared.fault.LineKind.TheVariants as kind
use Rattle.n41_run.specs.declared.fault.RunFault.{RunFault}
use Rattle.n41_run.specs.declared.fault.RunFault.TheVariants.{Words, Script, ReadFault, WriteFault, Unreachable, Breach, NoMemory}

abbrev pub number : RunFault → ℕ
number (Words place) = 2
number (Script line kind) = 3
number ReadFault = 4
number WriteFault = 5
number (Unreachable rounds) = 6
number (Breach event) = 7
number NoMemory = 8

-- the status of a run with this fault
abbrev pub status : Option RunFault → ℕ
status None = 0
status (Some fault) = number fault

-- the word for what is wrong with a line of a script
abbrev pub kind_text : LineKind → List ℕ
kind_text kind.Byte = codes "byte"
kind_text kind.Limit = codes "limit"
kind_text kind.Plan = codes "plan"
kind_text kind.Caller = codes "caller"
kind_text kind.Command = codes "command"
kind_text kind.Words = codes "words"
kind_text kind.Name = codes "name"
kind_text kind.Twice = codes "twice"
kind_text kind.Path = codes "path"
kind_text kind.Number = codes "number"
kind_text kind.Hex = codes "hex"

-- the line of a fault, without its end
abbrev pub fault_text : RunFault → List ℕ
fault_text (Words place) = codes "bad word at " ++ decimal place
fault_text (Script line kind) = codes "line " ++ decimal line ++ codes ": " ++ kind_text kind
fault_text ReadFault = codes "read fault"
fault_text WriteFault = codes "write fault"
fault_text (Unreachable rounds) = codes "unreachable after " ++ decimal rounds ++ codes " rounds"
fault_text (Breach event) = codes "breach at event " ++ decimal event
fault_text NoMemory = codes "no memory"

-- the faults that a probe may have
abbrev pub IsOfProbe : Option RunFault → Type 0
IsOfProbe None = Unit {0}
IsOfProbe (Some (Words place)) = ⊥
IsOfProbe (Some (Script line kind)) = ⊥
IsOfProbe (Some ReadFault) = ⊥
IsOfProbe (Some WriteFault) = Unit {0}
IsOfProbe (Some (Unreachable rounds)) = rounds ≡ 1
IsOfProbe (Some (Breach event)) = event ≡ 0
IsOfProbe (Some NoMemory) = Unit {0}
