-- What a reader of lines leaves, told from want of memory.
use Rattle.std.specs.Prelude.{◌≡◌, ℕ, List, true, false, Result, Ok, Err}
use Rattle.n41_words.specs.declared.fault.LineKind.{LineKind}
use Rattle.n41_words.specs.declared.fault.LineKind.TheVariants as kind
use Rattle.n41_words.specs.declared.fault.LineFault.{LineFault}
use Rattle.n41_words.specs.declared.fault.LineFault.TheVariants.{Kind, NoMemory}
use Rattle.n41_script.specs.Callers.{caller, with_caller, is_too_many}
use Rattle.n41_script.specs.Scripts.{Said}

-- this is left after a call, or this is the fault
abbrev pub Leaves : Result (Unit {0}) LineFault → Said → Result Said LineKind → Type 0
Leaves (Ok u) s r = r ≡ Ok s
Leaves (Err (Kind k)) s r = r ≡ Err k
Leaves (Err NoMemory) s r = Unit {0}

-- a caller has this number, and is among the callers of what is left; or it is one too many
abbrev pub Numbers : Result ℕ LineFault → Said → Said → List ℕ → Type 0
Numbers (Ok number) s t word = (is_too_many s.callers word ≡ false) × (number ≡ caller s.callers word) × (t ≡ record s { callers = with_caller s.callers word })
Numbers (Err (Kind k)) s t word = (is_too_many s.callers word ≡ true) × (k ≡ kind.Limit)
Numbers (Err NoMemory) s t word = Unit {0}
