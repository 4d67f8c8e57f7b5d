-- Own: what one step of reading says of all operations.
use Rattle.std.specs.Prelude.{◌≡◌, ℕ, List, [], Some, None}
use Rattle.std.specs.Int.{w32}
use Rattle.n41_xdr.specs.Reading.{number_at}
use Rattle.n41_results.specs.declared.callbacks.Tail.TheVariants.{Unknown}
use Rattle.n41_cbmsg.specs.declared.compounds.Step.{Step}
use Rattle.n41_cbmsg.specs.declared.compounds.Step.TheVariants.{Served, Other, Broken}
use Rattle.n41_cbmsg.specs.Calls.{Seen, with, numbered}

-- whatever is made of the bytes behind it
abbrev pub IsStep : Step → List ℕ → List ℕ → Type 0
IsStep (Served x) old new = (others : List ℕ → Seen) → numbered (number_at w32 old) others ≡ with x (others new)
IsStep (Other n) old new = (others : List ℕ → Seen) → numbered (number_at w32 old) others ≡ Some (record { list = []; tail = Unknown n })
IsStep Broken old new = (others : List ℕ → Seen) → numbered (number_at w32 old) others ≡ None
