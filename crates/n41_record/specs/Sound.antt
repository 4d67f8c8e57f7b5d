-- What a Gather keeps true of its fields.
use Rattle.std.specs.Prelude.{◌≡◌, ℕ, ◌<◌, List, ◌++◌, length, Option, None, Some, Result, Ok, Err}
use Rattle.n41_record.specs.declared.partial.Partial.{Partial}
use Rattle.n41_record.specs.declared.fault.GatherFault.{GatherFault}
use Rattle.n41_record.specs.Streams.{AreRecords, BeginsWith}
use Rattle.n41_record.specs.Gathered.{IsReadAs}
use Rattle.n41_record.specs.Partials.{Holds, Stops}

abbrev pub IsStored : List ℕ → List (List ℕ) → Partial → List ℕ → Option GatherFault → Type 0
IsStored fed list p rest None = BeginsWith fed list rest × Holds p rest
IsStored fed list p rest (Some fault) = IsReadAs fed list rest (Some fault) × (p.came ≡ length rest)

abbrev pub IsSound : List ℕ → List (List ℕ) → Partial → Option GatherFault → Type 0
IsSound fed list p fault = (rest : List ℕ) × IsStored fed list p rest fault

-- up to what is left of it, the text was gathered into records, and into the record under way
pub record Goes (p : Partial) (old new : List (List ℕ)) (text after : List ℕ) : Type 0 where
  pub front : List ℕ
  pub added : List (List ℕ)
  pub rest : List ℕ
  pub cut : text ≡ front ++ (rest ++ after)
  pub records : AreRecords front added
  pub waiting : new ≡ old ++ added
  pub holds : Holds p rest

abbrev pub Steps : {T : Type 0} → (T → List ℕ) → Partial → List (List ℕ) → List (List ℕ) → List ℕ → List ℕ → Result T GatherFault → Type 0
Steps view p old new rest piece (Ok after) = Goes p old new (rest ++ piece) (view after) × (length (view after) < length piece)
Steps view p old new rest piece (Err fault) = (new ≡ old) × Stops (rest ++ piece) fault

abbrev pub Ends : {T : Type 0} → Partial → List ℕ → Result T GatherFault → Type 0
Ends p rest (Ok x) = Holds p rest
Ends p rest (Err fault) = (p.came ≡ length rest) × Stops rest fault

-- all of the text was gathered, up to a fault
pub record Gathers {T : Type 0} (p : Partial) (old new : List (List ℕ)) (text : List ℕ) (r : Result T GatherFault) : Type 0 where
  pub front : List ℕ
  pub added : List (List ℕ)
  pub rest : List ℕ
  pub cut : text ≡ front ++ rest
  pub records : AreRecords front added
  pub waiting : new ≡ old ++ added
  pub ends : Ends p rest r
