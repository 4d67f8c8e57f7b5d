-- What a Gather is to its callers.
use Rattle.std.specs.Prelude.{◌≡◌, ℕ, List, ◌++◌, Option, None, Some, Result, Err, IsOk}
use Rattle.n41_record.specs.declared.fault.GatherFault.{GatherFault}
use Rattle.n41_record.specs.declared.fault.GatherFault.TheVariants.{NoMemory}
use Rattle.n41_record.specs.Streams.{Records, Refused, BeginsWith}

-- all bytes fed, all records given, the whole records that wait, and the fault that came
pub record Gathered : Type 0 where
  pub fed : List ℕ
  pub given : List (List ℕ)
  pub waiting : List (List ℕ)
  pub fault : Option GatherFault

-- the records of a stream up to its fault, and the bytes that belong to none of them
abbrev pub IsReadAs : List ℕ → List (List ℕ) → List ℕ → Option GatherFault → Type 0
IsReadAs stream list rest None = Records stream list rest
IsReadAs stream list rest (Some NoMemory) = BeginsWith stream list rest
IsReadAs stream list rest (Some fault) = Refused stream list rest fault

-- what was given and what waits are the records of all bytes fed
abbrev pub Leaves : Gathered → List ℕ → Type 0
Leaves g rest = IsReadAs g.fed (g.given ++ g.waiting) rest g.fault

abbrev pub IsStanding : Gathered → Type 0
IsStanding g = (rest : List ℕ) × Leaves g rest

-- what a feed answers, by the fault that stands after it
abbrev pub Answers : {T : Type 0} → Result T GatherFault → Option GatherFault → Type 0
Answers result None = IsOk result
Answers result (Some fault) = result ≡ Err fault
