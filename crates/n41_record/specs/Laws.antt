-- Laws of the records of a stream.
use Rattle.std.specs.Prelude.{◌≡◌, ℕ, List, ◌++◌}
use Rattle.n41_record.specs.declared.fault.GatherFault.{GatherFault}
use Rattle.n41_record.specs.Streams.{Records, Refused}

-- a stream has one list of records and one rest
abbrev pub RecordsAreOne : Type 0
RecordsAreOne = (stream : List ℕ) (xs ys : List (List ℕ)) (r q : List ℕ) → Records stream xs r → Records stream ys q → (xs ≡ ys) × (r ≡ q)

-- a stream passes a limit at one place, and one limit
abbrev pub FaultsAreOne : Type 0
FaultsAreOne = (stream : List ℕ) (xs ys : List (List ℕ)) (r q : List ℕ) (f g : GatherFault) → Refused stream xs r f → Refused stream ys q g → (xs ≡ ys) × (r ≡ q) × (f ≡ g)

-- no stream both keeps the limits and passes one
abbrev pub NeverBoth : Type 0
NeverBoth = (stream : List ℕ) (xs ys : List (List ℕ)) (r q : List ℕ) (f : GatherFault) → Records stream xs r → Refused stream ys q f → ⊥

-- a stream that goes on is read on from its rest
abbrev pub ReadsOn : Type 0
ReadsOn = (a b : List ℕ) (xs ys : List (List ℕ)) (r q : List ℕ) → Records a xs r → Records (r ++ b) ys q → Records (a ++ b) (xs ++ ys) q

-- up to a limit
abbrev pub ReadsOnToFault : Type 0
ReadsOnToFault = (a b : List ℕ) (xs ys : List (List ℕ)) (r q : List ℕ) (f : GatherFault) → Records a xs r → Refused (r ++ b) ys q f → Refused (a ++ b) (xs ++ ys) q f

-- what comes after a fault changes neither the records nor the fault
abbrev pub FaultStays : Type 0
FaultStays = (a b : List ℕ) (xs : List (List ℕ)) (r : List ℕ) (f : GatherFault) → Refused a xs r f → Refused (a ++ b) xs (r ++ b) f
