-- Own: what one step of reading says of all operations.
use Rattle.std.specs.Prelude.{◌≡◌, ℕ, List, [], Some, None, Result, Ok, Err}
use Rattle.n41_xdr.specs.declared.fault.XdrFault.{XdrFault}
use Rattle.std.specs.Int.{w32}
use Rattle.n41_xdr.specs.Reading.{number_at}
use Rattle.n41_seen.specs.declared.compounds.Step.{Step}
use Rattle.n41_seen.specs.declared.compounds.Step.TheVariants.{Known, Last, Broken}
use Rattle.n41_seen.specs.Calls.{Seen, with, numbered}

-- whatever is made of the bytes behind it
abbrev pub IsStep : Step → List ℕ → List ℕ → Type 0
IsStep (Known x) old new = (others : List ℕ → Seen) → numbered (number_at w32 old) old others ≡ with x (others new)
IsStep (Last tail) old new = (others : List ℕ → Seen) → numbered (number_at w32 old) old others ≡ Some (record { list = []; tail = tail })
IsStep Broken old new = (others : List ℕ → Seen) → numbered (number_at w32 old) old others ≡ None

-- A part that needs no memory: the answer, seen by view, and the bytes that are left are what reading gives.
abbrev pub GivesPart : {X Y : Type 0} → (X → Y) → Result X XdrFault → List ℕ → Result (Y × List ℕ) XdrFault → Type 0
GivesPart view (Ok x) new read = read ≡ Ok (view x, new)
GivesPart view (Err f) new read = read ≡ Err f
