-- What a mouth answers, beside the bytes that it has written. (own)
use Rattle.std.specs.Prelude.{◌≡◌, ◌<◌, ℕ, Bool, true, false, List, ◌++◌, length, take, Result, Ok, Err}
use Rattle.n41_record.specs.Fragments.{fragment}
use Rattle.n41_link.specs.declared.mouth.SayFault.{SayFault}
use Rattle.n41_link.specs.declared.mouth.SayFault.TheVariants.{Failed, NoMemory}

-- A record in one fragment was written whole, or where the outflow failed a part of it that is not the whole, or nothing for want of memory.
abbrev pub Says : Result (Unit {0}) SayFault → List ℕ → List ℕ → List ℕ → Type 0
Says (Ok x) old new bytes = new ≡ old ++ fragment true bytes
Says (Err Failed) old new bytes = (n : ℕ) × (n < length (fragment true bytes)) × (new ≡ old ++ take n (fragment true bytes))
Says (Err NoMemory) old new bytes = new ≡ old

-- the outflow's failure was the cause
abbrev pub failed_to_say : Result (Unit {0}) SayFault → Bool
failed_to_say (Ok x) = false
failed_to_say (Err Failed) = true
failed_to_say (Err NoMemory) = false
